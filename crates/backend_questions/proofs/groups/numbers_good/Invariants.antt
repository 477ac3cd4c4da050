use Rattle.backend.proofs.Alike.{Followed}
use Rattle.backend_questions.proofs.groups.numbers_good.Given as goal

abbrev pub invariant-loop-i : goal.invariant-loop-i
invariant-loop-i l = Followed l.numbers l.i
