use mathlib.Core.Path.{refl}
use Rattle.backend.specs.Questions.{q1}
use Rattle.backend_questions.proofs.contents.question_1.Goals as goal

pub returns : goal.returns
unfolding q1
returns c = refl
