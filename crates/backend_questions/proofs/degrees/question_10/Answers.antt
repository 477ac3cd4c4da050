-- Degrees that fit are question 10.
use Rattle.backend.proofs.Answers.{ten}
use Rattle.backend_questions.proofs.degrees.question_10.Goals as goal

pub returns : goal.returns
returns c =
    let d = c.degrees_of-d.ensures in
    ten _ _ d.0 _ (c.degrees_fit.ensures _ _ d.1.0 d.1.1)
