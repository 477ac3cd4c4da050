use Rattle.expression.proofs.Signed.{back_fits, back_is}
use Rattle.expression_nodes.proofs.backward.Goals as goal

pub overflow_sub-result : goal.overflow_sub-result
overflow_sub-result c = back_fits c.args.d c.requires

pub returns : goal.returns
returns c = back_is c.args.d c.requires
