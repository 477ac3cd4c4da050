use mathlib.Core.Path.{ap, ◌∙◌}
use lib.ListN.{length, get_or}
use Prim.Native.Nat.{min}
use Rattle.expression.specs.Expr.{degree as degree_at}
use Rattle.expression.specs.Nodes.{expr_of}
use Rattle.backend.proofs.Degree.{most_none, most_more, most_all, root_in, roots_degree}
use Rattle.backend_nodes.proofs.degrees.user_degree.Goals as goal

pub loop-root-init : goal.loop-root-init
loop-root-init c =
    let a = c.args in
    most_none (λ j. degree_at (expr_of a.nodes.now (get_or a.constraints.now j 0))) (length a.constraints.now)

pub degree_of-requires : goal.degree_of-requires
degree_of-requires c =
    let a = c.args in
    root_in a.nodes.now a.constraints.now c.requires c.loop-root.root-index c.loop-root-test.true

pub loop-root-preserved : goal.loop-root-preserved
loop-root-preserved c =
    let a = c.args in
    most_more (λ j. degree_at (expr_of a.nodes.now (get_or a.constraints.now j 0))) (length a.constraints.now) c.loop-root.degree c.loop-root.root-index c.degree_of.result c.max-degree.result c.loop-root.invariant c.loop-root-test.true c.degree_of.ensures c.max-degree.ensures

pub returns : goal.returns
returns c =
    let a = c.args in
    most_all (λ j. degree_at (expr_of a.nodes.now (get_or a.constraints.now j 0))) (length a.constraints.now) c.loop-root.degree c.loop-root.root-index c.loop-root.invariant c.loop-root-test.false
    ∙ ap (min 1025) (roots_degree a.nodes.now a.constraints.now)
