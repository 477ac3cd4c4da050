-- `value_of_root` meets its contract: past the last node the words read as 0.
use mathlib.Core.Path.{ap, sym, ◌∙◌}
use Prim.Native.Nat.{◌/◌}
use native.Mathlib.Decide.{dec_lt}
use native.Mathlib.Omega.{arith}
use lib.ListN.{length}
use Rattle.field.specs.Field.{𝔾}
use Rattle.expression.specs.Expr.{evaluate}
use Rattle.expression.specs.Nodes.{expr_of, no_expr}
use Rattle.expression.specs.Value.{value_ops, value_at}
use Rattle.expression.proofs.Step.{under_yes, under_no}
use Rattle.expression_evaluate.specs.Environment.{environment}
use Rattle.prover.proofs.PowerSums.{no_node}
use Rattle.prover_compressed.proofs.Expressions.value_of_root.Goals as goal

pub returns : goal.returns
unfolding value_at
returns c =
    let a = c.args in
    let ws = a.self.now.nodes.now in
    let n = length ws / 4 in
    let f = expr_of ws in
    c.lower.ensures
    ∙ ap (evaluate (value_ops 𝔾 (environment a.over.now) a.over.now.point.row))
    (elim (dec_lt a.root n) [
      | yes l ↦ under_yes n no_expr f a.root l
      | no g ↦ under_no n no_expr f a.root (omega (arith, g)) ∙ sym (no_node ws a.root a.self.now.whole (omega (arith, g)))
    ])
