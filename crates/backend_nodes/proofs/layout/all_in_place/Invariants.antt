use Rattle.lists.proofs.Walks.{Walked}
use Rattle.backend.specs.Layout.{in_place}
use Rattle.backend_nodes.proofs.layout.all_in_place.Given as goal

abbrev pub invariant-loop-n : goal.invariant-loop-n
invariant-loop-n l = Walked (in_place l.nodes) (λ i. i) l.count l.n
