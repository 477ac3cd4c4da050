use Prim.Native.Nat.{◌-◌}
use native.Mathlib.Omega.{arith}
use Rattle.hyperplonk_nodes.proofs.Compared.{compared}
use Rattle.hyperplonk_nodes.proofs.same_window.Goals as goal

pub returns : goal.returns
returns c = compared c.eq.result _ (c.args.end - c.args.at) (omega arith) (omega arith) c.compose_nodes.ensures c.eq.ensures
