use Prim.Native.Nat.{ℕ, ◌+◌, ◌*◌}
use lib.ListN.{get_or}
use Rattle.lists.proofs.Walks.{Summed}
use Rattle.backend_sections.proofs.words.total_to.Given as goal

abbrev pub invariant-loop-i : goal.invariant-loop-i
invariant-loop-i l = Summed (λ (i : ℕ). get_or l.words (i * l.size + l.j) 0) l.n l.limit l.sum l.i
