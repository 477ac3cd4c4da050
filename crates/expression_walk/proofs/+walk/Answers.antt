-- The walk: each way through the code is the fold by the operations.
use mathlib.Core.Path.{◌∙◌, ap, sym, refl}
use Rattle.expression.specs.declared.node.Node.{Node}
use Rattle.expression.proofs.Ways as ways
use Rattle.expression_walk.proofs.+walk.Goals as goal

pub chain-returns-then-d-eq0 : goal.chain-returns-then-d-eq0
chain-returns-then-d-eq0 g t c =
    let a = c.args in
    let m = g.O.Operations.meaning in
    let o = g.O.Operations.ops a.ops.now in
    let ws = a.nodes.now in
    let d = c.read_node-d in
    ways.met_last o ws a.n d.result d.ensures (m a.base) (m c.lower-x.result) c.lower-x.ensures c.if-d-eq0.true

pub chain-returns-then-item-n : goal.chain-returns-then-item-n
chain-returns-then-item-n g t c =
    let a = c.args in
    let m = g.O.Operations.meaning in
    let o = g.O.Operations.ops a.ops.now in
    let ws = a.nodes.now in
    let d = c.read_node-d in
    ways.met_more o ws a.n d.result d.ensures (m a.base) (m c.lower-x.result) c.lower-x.ensures c.if-d-eq0.false d.result.second refl (m c.items.result) c.if-item-n.true c.items.ensures

pub chain-returns : goal.chain-returns
chain-returns g t c =
    let a = c.args in
    let m = g.O.Operations.meaning in
    let o = g.O.Operations.ops a.ops.now in
    let ws = a.nodes.now in
    let d = c.read_node-d in
    c.sum.ensures ∙ ap (o.sum_op (m c.lower-x.result)) (c.product-last.ensures ∙ ap (o.product_op (m a.base)) c.constant-zero.ensures)
    ∙ ways.met_no_more o ws a.n d.result d.ensures (m a.base) (m c.lower-x.result) c.lower-x.ensures c.if-d-eq0.false d.result.second refl c.if-item-n.false

pub items-returns-then-d-eq0 : goal.items-returns-then-d-eq0
items-returns-then-d-eq0 g t c =
    let a = c.args in
    let m = g.O.Operations.meaning in
    let o = g.O.Operations.ops a.ops.now in
    let ws = a.nodes.now in
    let d = c.read_node-d in
    ways.met_rest_last o ws a.n d.result d.ensures (m a.base) (m a.power) (m a.acc) (m c.lower-x.result) (m c.sum-sum.result) c.lower-x.ensures
    (c.sum-sum.ensures ∙ ap (o.sum_op (m a.acc)) c.product-term.ensures)
    c.if-d-eq0.true

pub items-returns-then-item-n : goal.items-returns-then-item-n
items-returns-then-item-n g t c =
    let a = c.args in
    let m = g.O.Operations.meaning in
    let o = g.O.Operations.ops a.ops.now in
    let ws = a.nodes.now in
    let d = c.read_node-d in
    ways.met_rest_more o ws a.n d.result d.ensures (m a.base) (m a.power) (m a.acc) (m c.lower-x.result) (m c.sum-sum.result) c.lower-x.ensures
    (c.sum-sum.ensures ∙ ap (o.sum_op (m a.acc)) c.product-term.ensures)
    c.if-d-eq0.false d.result.second refl (m c.product-p.result) c.product-p.ensures (m c.items.result) c.if-item-n.true c.items.ensures

pub items-returns : goal.items-returns
items-returns g t c =
    let a = c.args in
    let m = g.O.Operations.meaning in
    let o = g.O.Operations.ops a.ops.now in
    let ws = a.nodes.now in
    let d = c.read_node-d in
    c.sum.ensures ∙ ap (o.sum_op (m c.sum-sum.result)) (c.product-last.ensures ∙ ap (o.product_op (m c.product-p.result)) c.constant-zero.ensures)
    ∙ ways.met_rest_none o ws a.n d.result d.ensures (m a.base) (m a.power) (m a.acc) (m c.lower-x.result) (m c.sum-sum.result) c.lower-x.ensures
    (c.sum-sum.ensures ∙ ap (o.sum_op (m a.acc)) c.product-term.ensures)
    c.if-d-eq0.false d.result.second refl (m c.product-p.result) c.product-p.ensures c.if-item-n.false

pub lower-returns-then-kind-eq-POLYNOMIAL : goal.lower-returns-then-kind-eq-POLYNOMIAL
lower-returns-then-kind-eq-POLYNOMIAL g t c =
    let a = c.args in
    let m = g.O.Operations.meaning in
    let o = g.O.Operations.ops a.ops.now in
    let ws = a.nodes.now in
    let d = c.read_node-d in
    ways.met_lower o ws a.n a.a a.a (m c.poly.result) refl c.if-b-n.true
    (c.poly.ensures ∙ ways.met_poly o ws a.a d.result d.ensures c.if-kind-eq-POLYNOMIAL.true)

pub lower-returns-then-kind-eq-CHALLENGE : goal.lower-returns-then-kind-eq-CHALLENGE
lower-returns-then-kind-eq-CHALLENGE g t c =
    let a = c.args in
    let m = g.O.Operations.meaning in
    let o = g.O.Operations.ops a.ops.now in
    let ws = a.nodes.now in
    let d = c.read_node-d in
    ways.met_lower o ws a.n a.a a.a (m c.challenge.result) refl c.if-b-n.true
    (c.challenge.ensures ∙ ways.met_challenge o ws a.a d.result d.ensures c.if-kind-eq-CHALLENGE.true)

pub lower-returns-then-b-n : goal.lower-returns-then-b-n
lower-returns-then-b-n g t c =
    let a = c.args in
    let m = g.O.Operations.meaning in
    let o = g.O.Operations.ops a.ops.now in
    let ws = a.nodes.now in
    ways.met_lower o ws a.n a.a a.a (m c.inner.result) refl c.if-b-n.true c.inner.ensures

pub lower-returns : goal.lower-returns
lower-returns g t c =
    let a = c.args in
    let m = g.O.Operations.meaning in
    let o = g.O.Operations.ops a.ops.now in
    let ws = a.nodes.now in
    c.constant.ensures ∙ ways.met_not_lower o ws a.n a.a a.a refl c.if-b-n.false

pub inner-returns-then-item-n : goal.inner-returns-then-item-n
inner-returns-then-item-n g t c =
    let a = c.args in
    let m = g.O.Operations.meaning in
    let o = g.O.Operations.ops a.ops.now in
    let ws = a.nodes.now in
    let d = c.read_node-d in
    ways.met_powers o ws a.n d.result d.ensures d.result.second refl (m c.lower-base.result) c.lower-base.ensures (m c.chain.result) c.in-11.is c.if-item-n.true c.chain.ensures

pub inner-returns-in-1 : goal.inner-returns-in-1
inner-returns-in-1 g t c =
    let a = c.args in
    let m = g.O.Operations.meaning in
    let o = g.O.Operations.ops a.ops.now in
    let ws = a.nodes.now in
    let d = c.read_node-d in
    c.constant.ensures ∙ ways.met_constant o ws a.n d.result d.ensures c.in-1.is

pub inner-returns-in-2 : goal.inner-returns-in-2
inner-returns-in-2 g t c =
    let a = c.args in
    let m = g.O.Operations.meaning in
    let o = g.O.Operations.ops a.ops.now in
    let ws = a.nodes.now in
    let d = c.read_node-d in
    c.identity.ensures ∙ ways.met_identity o ws a.n d.result d.ensures c.in-2.is

pub inner-returns-in-3 : goal.inner-returns-in-3
inner-returns-in-3 g t c =
    let a = c.args in
    let m = g.O.Operations.meaning in
    let o = g.O.Operations.ops a.ops.now in
    let ws = a.nodes.now in
    let d = c.read_node-d in
    c.lagrange.ensures ∙ ways.met_lagrange o ws a.n d.result d.ensures c.in-3.is

pub inner-returns-in-4 : goal.inner-returns-in-4
inner-returns-in-4 g t c =
    let a = c.args in
    let m = g.O.Operations.meaning in
    let o = g.O.Operations.ops a.ops.now in
    let ws = a.nodes.now in
    let d = c.read_node-d in
    c.eq_xy.ensures ∙ ways.met_eq_xy o ws a.n d.result d.ensures c.in-4.is

pub inner-returns-in-7 : goal.inner-returns-in-7
inner-returns-in-7 g t c =
    let a = c.args in
    let m = g.O.Operations.meaning in
    let o = g.O.Operations.ops a.ops.now in
    let ws = a.nodes.now in
    let d = c.read_node-d in
    c.negated.ensures ∙ ways.met_negated o ws a.n d.result d.ensures (m c.lower-x.result) c.lower-x.ensures c.in-7.is

pub inner-returns-in-8 : goal.inner-returns-in-8
inner-returns-in-8 g t c =
    let a = c.args in
    let m = g.O.Operations.meaning in
    let o = g.O.Operations.ops a.ops.now in
    let ws = a.nodes.now in
    let d = c.read_node-d in
    c.sum.ensures ∙ ways.met_sum o ws a.n d.result d.ensures (m c.lower-x-in-8.result) c.lower-x-in-8.ensures (m c.lower-y.result) c.lower-y.ensures c.in-8.is

pub inner-returns-in-9 : goal.inner-returns-in-9
inner-returns-in-9 g t c =
    let a = c.args in
    let m = g.O.Operations.meaning in
    let o = g.O.Operations.ops a.ops.now in
    let ws = a.nodes.now in
    let d = c.read_node-d in
    c.product.ensures ∙ ways.met_product o ws a.n d.result d.ensures (m c.lower-x-in-9.result) c.lower-x-in-9.ensures (m c.lower-y-in-9.result) c.lower-y-in-9.ensures c.in-9.is

pub inner-returns-in-10 : goal.inner-returns-in-10
inner-returns-in-10 g t c =
    let a = c.args in
    let m = g.O.Operations.meaning in
    let o = g.O.Operations.ops a.ops.now in
    let ws = a.nodes.now in
    let d = c.read_node-d in
    c.scaled.ensures ∙ ways.met_scaled o ws a.n d.result d.ensures (m c.lower-x-in-10.result) c.lower-x-in-10.ensures c.in-10.is

pub inner-returns-else-item-n : goal.inner-returns-else-item-n
inner-returns-else-item-n g t c =
    let a = c.args in
    let m = g.O.Operations.meaning in
    let o = g.O.Operations.ops a.ops.now in
    let ws = a.nodes.now in
    let d = c.read_node-d in
    c.constant-in-11.ensures ∙ ways.met_no_powers o ws a.n d.result d.ensures d.result.second refl c.in-11.is c.if-item-n.false

pub inner-returns-in_default : goal.inner-returns-in_default
inner-returns-in_default g t c =
    let a = c.args in
    let m = g.O.Operations.meaning in
    let o = g.O.Operations.ops a.ops.now in
    let ws = a.nodes.now in
    let d = c.read_node-d in
    let r = c.in_default.in_default-own.rest in
    ways.met_other o ws a.n d.result d.ensures (m c.constant-in_default.result)
    r.0.0.0.0.0.0.0.0.1
    r.0.0.0.0.0.0.0.1
    r.0.0.0.0.0.0.1
    r.0.0.0.0.0.1
    (λ z. c.requires.1 (sym (ap (λ (x : Node). x.kind) d.ensures) ∙ z))
    (λ z. c.requires.2 (sym (ap (λ (x : Node). x.kind) d.ensures) ∙ z))
    r.0.0.0.0.1
    r.0.0.0.1
    r.0.0.1
    r.0.1
    r.1
    c.constant-in_default.ensures
