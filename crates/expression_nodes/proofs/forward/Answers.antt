use Rattle.expression.proofs.Signed.{on_is}
use Rattle.expression_nodes.proofs.forward.Goals as goal

pub returns : goal.returns
returns c = on_is c.args.d c.requires
