use Rattle.expression.proofs.Written as written
use Rattle.expression.specs.Flat.{body}
use native.Mathlib.Omega.{arith}
use Rattle.expression_write.proofs.operations.list_end.Goals as goal

pub push_node-next-requires : goal.push_node-next-requires
unfolding body
push_node-next-requires c = omega (arith, c.requires)

pub returns : goal.returns
returns c = written.written_base c.requires.0 c.challenge-y.ensures c.push_node-next.ensures
