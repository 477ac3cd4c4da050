use mathlib.Core.Path.{◌≡◌, sym, ap, ◌∙◌}
use Prim.Native.Nat.{ℕ, ◌+◌, ◌*◌}
use native.Mathlib.Nat.{mod-lt}
use native.Mathlib.Omega.{arith}
use Rattle.lists.specs.Lists.{tabulate, count_of}
use Rattle.expression.specs.Expr.{used_query}
use Rattle.expression.specs.Nodes.{expr_of}
use Rattle.expression.specs.Queries.{candidates, used_queries}
use Rattle.expression.proofs.Folds.{used}
use Rattle.expression.proofs.Queries.{candidate, end_small, count_start, count_yes, count_no}
use Rattle.expression_query.proofs.count_queries.Goals as goal
use Rattle.expression_query.proofs.count_queries.Goals.{then-node, else-node}

pub overflow_mul-end : goal.overflow_mul-end
overflow_mul-end c = omega (arith, end_small c.args.polys c.args.k c.requires.1.0 c.requires.1.1)

pub loop-i-init : goal.loop-i-init
loop-i-init c =
    let a = c.args in
    (omega arith, omega arith, count_start (used_query (expr_of a.ws.now a.n)) (candidate a.k))

pub overflow_add-query : goal.overflow_add-query
overflow_add-query c =
    let k = c.args.k in
    omega (arith, mod-lt c.loop-i.i {m = k + k + 1} (omega arith))

pub overflow_add-count : goal.overflow_add-count
overflow_add-count c = omega (arith, end_small c.args.polys c.args.k c.requires.1.0 c.requires.1.1)

pub loop-i-preserved : goal.loop-i-preserved
loop-i-preserved c =
    let a = c.args in
    let l = c.loop-i in
    let e = expr_of a.ws.now a.n in
    let p = used_query e in
    let f = candidate a.k in
    let t = sym (used (f l.i) e) ∙ sym c.node.ensures in
    elim c.if-node.branch [
      | then-node w ↦ (omega arith, omega arith, w.count-is ∙ count_yes p f l.count l.i (t ∙ w.if-node.true) l.invariant.2)
      | else-node w ↦ (omega arith, omega arith, w.count-is ∙ count_no p f l.count l.i (t ∙ w.if-node.false) l.invariant.2)
    ]

pub returns : goal.returns
unfolding used_queries candidates
returns c =
    let a = c.args in
    let l = c.loop-i in
    l.invariant.2
    ∙ ap (λ (m : ℕ). count_of (used_query (expr_of a.ws.now a.n)) (tabulate (candidate a.k) m))
    (let e : l.i ≡ a.polys * (a.k + a.k + 1) = omega arith in e)
