-- `node` meets its contract: node n is below their number.
use mathlib.Core.Path.{ap, ◌∙◌}
use Prim.Native.Nat.{◌/◌}
use native.Mathlib.Omega.{arith}
use lib.ListN.{length}
use Rattle.expression.specs.Expr.{evaluate}
use Rattle.expression.specs.Nodes.{expr_of, no_expr}
use Rattle.expression.proofs.Step.{under_yes}
use Rattle.expression_walk.proofs.node.Goals as goal

pub returns : goal.returns
returns g c =
    let a = c.args in
    let ws = a.nodes.now in
    c.lower.ensures
    ∙ ap (evaluate (g.O.Operations.ops a.ops.now)) (under_yes (length ws / 4) no_expr (expr_of ws) a.n (omega (arith, c.requires)))
