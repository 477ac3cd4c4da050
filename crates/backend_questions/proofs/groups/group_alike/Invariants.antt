use Prim.Native.Nat.{◌+◌}
use Rattle.lists.proofs.Walks.{Walked}
use Rattle.backend.proofs.Alike.{same_tables}
use Rattle.backend_questions.proofs.groups.group_alike.Given as goal

abbrev pub invariant-loop-i : goal.invariant-loop-i
invariant-loop-i l = Walked (λ j. same_tables l.lookups.nodes.now l.lookups.widths.now l.lookups.pairs.now (l.first + j) l.first) (λ j. j) l.n l.i
