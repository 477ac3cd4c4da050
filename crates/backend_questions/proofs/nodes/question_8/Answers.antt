-- The nodes in range of the circuit's numbers are question 8.
use Rattle.backend.proofs.Answers.{eight}
use Rattle.backend_questions.proofs.nodes.question_8.Goals as goal

pub returns : goal.returns
returns c = eight _ _ (rw c.laid.ensures at c.nodes-nodes.ensures) _ _ _ _ c.num_poly-polys.ensures c.num_user-user.ensures c.k_of-k.ensures c.nodes_in_range.ensures
