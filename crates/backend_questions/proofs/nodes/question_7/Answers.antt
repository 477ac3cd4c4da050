-- The nodes laid out under the constraints and the pairs are question 7.
use Rattle.backend.proofs.Answers.{seven}
use Rattle.backend_questions.proofs.nodes.Few.{few_nodes}
use Rattle.backend_questions.proofs.nodes.question_7.Goals as goal

pub laid_out-requires : goal.laid_out-requires
laid_out-requires c = few_nodes _ _ c.args.laid.contents c.nodes-nodes.ensures

pub returns : goal.returns
returns c = seven _ _ _ _ c.nodes-nodes.ensures c.constraints-constraints.ensures c.pairs-pairs.ensures _ c.laid_out.ensures
