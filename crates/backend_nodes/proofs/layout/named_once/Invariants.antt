use mathlib.Core.List.{◌++◌}
use Rattle.lists.proofs.Walks.{Walked}
use Rattle.backend.specs.Layout.{once}
use Rattle.backend_nodes.proofs.layout.named_once.Given as goal

abbrev pub invariant-loop-n : goal.invariant-loop-n
invariant-loop-n l = Walked (once l.nodes (l.constraints ++ l.pairs)) (λ i. i) l.count l.n
