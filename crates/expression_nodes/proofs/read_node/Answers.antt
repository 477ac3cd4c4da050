use Prim.Native.Nat.{◌*◌}
use native.Mathlib.Nat.{add-zero}
use Rattle.expression_nodes.proofs.read_node.Goals as goal

pub returns : goal.returns
returns c = cc (add-zero (c.args.n * 4))
