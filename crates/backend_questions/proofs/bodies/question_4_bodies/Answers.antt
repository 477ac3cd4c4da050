use Rattle.backend.proofs.Numbers.{four_bodies}
use Rattle.backend_questions.proofs.bodies.question_4_bodies.Goals as goal

pub returns : goal.returns
returns c = four_bodies _ _ _ (rw c.widths.ensures at c.sum_to-widths.ensures) (rw c.lengths.ensures at c.sum_to-lengths.ensures)
