use Rattle.backend.proofs.Sections.{Following}
use Rattle.backend_questions.proofs.contents.question_4.Given as goal

abbrev pub invariant-loop-s : goal.invariant-loop-s
invariant-loop-s l = Following l.circuit l.at l.s
