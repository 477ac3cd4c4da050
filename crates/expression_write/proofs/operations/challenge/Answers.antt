use Rattle.expression.proofs.Written as written
use Rattle.expression_write.proofs.operations.challenge.Goals as goal

pub returns : goal.returns
returns c = written.written_challenge c.push_node.ensures
