use Rattle.backend.specs.Questions.{q2}
use Rattle.backend_questions.proofs.contents.question_2.Goals as goal

pub returns : goal.returns
unfolding q2
returns c = rw c.word_at-k.ensures
