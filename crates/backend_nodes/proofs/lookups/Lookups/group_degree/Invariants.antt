use Rattle.backend.proofs.Degree.{Added}
use Rattle.backend_nodes.proofs.lookups.Lookups.group_degree.Given as goal

abbrev pub invariant-loop-i : goal.invariant-loop-i
invariant-loop-i l = Added l.self.nodes.now l.self.widths.now l.self.pairs.now l.first l.n l.sum l.next l.i
