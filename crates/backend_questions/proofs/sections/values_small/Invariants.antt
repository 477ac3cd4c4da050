use Prim.Native.Nat.{ℕ, ◌/◌}
use lib.ListN.{length}
use Rattle.lists.proofs.Walks.{Walked}
use Rattle.backend.specs.Questions.{small_value}
use Rattle.backend_questions.proofs.sections.values_small.Given as goal

abbrev pub invariant-loop-i : goal.invariant-loop-i
invariant-loop-i l = Walked (small_value l.nodes) (λ (i : ℕ). i) (length l.nodes / 4) l.i
