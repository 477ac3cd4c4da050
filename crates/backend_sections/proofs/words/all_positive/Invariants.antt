use Prim.Native.Nat.{ℕ, ◌+◌, ◌*◌}
use lib.ListN.{get_or}
use lib.Dec.{ltb}
use Rattle.lists.proofs.Walks.{Walked}
use Rattle.backend_sections.proofs.words.all_positive.Given as goal

abbrev pub invariant-loop-i : goal.invariant-loop-i
invariant-loop-i l = Walked (ltb 0) (λ (i : ℕ). get_or l.words (i * l.size + l.j) 0) l.n l.i
