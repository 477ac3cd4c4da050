use Rattle.expression.proofs.Written as written
use Rattle.expression_write.proofs.operations.query.Goals as goal

pub returns : goal.returns
returns c = written.written_poly c.push_node.ensures
