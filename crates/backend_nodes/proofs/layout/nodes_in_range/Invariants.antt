use Rattle.lists.proofs.Walks.{Walked}
use Rattle.backend.specs.Layout.{by_words, in_range}
use Rattle.backend_nodes.proofs.layout.nodes_in_range.Given as goal

abbrev pub invariant-loop-n : goal.invariant-loop-n
invariant-loop-n l = Walked (by_words (in_range l.polys l.user l.k) l.nodes) (λ i. i) l.count l.n
