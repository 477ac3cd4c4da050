use lib.ListN.{take}
use Rattle.lists.specs.Lists.{total}
use Rattle.backend.proofs.Degree.{Grouped}
use Rattle.backend_nodes.proofs.lookups.Lookups.groups_degree.Given as goal

abbrev pub invariant-loop-j : goal.invariant-loop-j
invariant-loop-j l = Grouped l.self.nodes.now l.self.widths.now l.self.pairs.now l.sizes l.degree l.first (total (take l.first l.self.widths.now)) l.j
