use Rattle.backend.proofs.Numbers.{three_bodies}
use Rattle.backend_questions.proofs.bodies.question_3_bodies.Goals as goal

pub returns : goal.returns
returns c =
    three_bodies _ _ _ _ _ c.witness_to-witness.ensures c.user_to-user.ensures c.widths_narrow-narrow.ensures
    (rw c.lengths.ensures at c.sum_to-lengths.ensures)
