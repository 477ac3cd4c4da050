-- The preprocess words and the nodes' values below p are question 6.
use Rattle.backend.proofs.Numbers.{six}
use Rattle.backend_questions.proofs.sections.question_6.Goals as goal

pub returns : goal.returns
returns c = six _ c.args.laid.contents _ _ c.preprocess.ensures c.nodes.ensures _ _ c.all_elements-given.ensures.below c.values_small-values.ensures
