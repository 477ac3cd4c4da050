use Rattle.expression.proofs.Written as written
use Rattle.preprocessor_constraints.proofs.factors.Copied.label.Goals as goal

pub returns-in-Identity : goal.returns-in-Identity
returns-in-Identity c = rw c.in-Identity.is (written.written_sum (written.written_constant c.push_node-x.ensures) (written.written_identity c.push_node-id.ensures) c.sum.ensures)
