-- Widths above 0, and a constraint, lookup or cycle, are question 9.
use Rattle.backend.proofs.Numbers.{nine}
use Rattle.backend_questions.proofs.sections.question_9.Goals as goal

pub returns : goal.returns
returns c = nine _ c.args.circuit.contents c.args.circuit.bodies _ (rw c.laid.ensures at c.widths-widths.ensures) _ c.all_positive-wide.ensures
