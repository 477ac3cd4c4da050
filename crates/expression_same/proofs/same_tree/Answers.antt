use mathlib.Core.Path.{◌∙◌, ap₂}
use Rattle.expression.specs.Nodes.{expr_of, no_expr}
use Rattle.expression.specs.Same.{same_expr}
use Rattle.expression_same.proofs.Ways.{at_next}
use Rattle.expression_same.proofs.same_tree.Goals as goal

pub returns : goal.returns
returns c =
    let a = c.args in
    c.same_at.ensures
    ∙ ap₂ same_expr (at_next no_expr (expr_of a.ws.now) a.a) (at_next no_expr (expr_of a.ws.now) a.b)
