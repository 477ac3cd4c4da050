use Rattle.backend_nodes.proofs.layout.Counts.{Rooted}
use Rattle.backend_nodes.proofs.layout.count_roots.Given as goal

abbrev pub invariant-loop-root : goal.invariant-loop-root
invariant-loop-root l = Rooted l.roots l.initial.counts l.counts l.root-index
