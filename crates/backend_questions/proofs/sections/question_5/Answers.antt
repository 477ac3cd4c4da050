-- Rounds that are good, and instances shorter than the rows, are question 5.
use Rattle.backend.proofs.Numbers.{five}
use Rattle.backend_questions.proofs.sections.question_5.Goals as goal

pub returns : goal.returns
returns c = five _ _ c.instances.ensures _ _ _ c.rounds_good-good.ensures c.rows-rows.ensures c.all_below-short.ensures
