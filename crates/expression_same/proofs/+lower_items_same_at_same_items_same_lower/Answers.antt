-- The walk by two places at once: each way through the code is `same_expr` and `same_exprs`.
use mathlib.Core.Path.{◌≡◌, refl}
use borrow.Author.Rules.{rules}
use native.Mathlib.Omega.{arith}
use Rattle.expression.specs.declared.kind.Kind.{Kind}
use Rattle.expression.proofs.NumberedKinds.{kind_word, no_kind, not_word, none_word}
use Rattle.expression.specs.Nodes.{expr_of, items_of, no_expr, no_exprs}
use Rattle.expression.specs.Same.{same_expr, same_exprs}
use Rattle.expression_same.proofs.Ways.{kind_placed, value_placed, same_apart, same_leaf, same_negated, same_scaled, same_sum, same_product, same_powers, chain_last, chain_shorter, chain_longer, chain_more, lower_same}
use Rattle.expression_same.proofs.+lower_items_same_at_same_items_same_lower.Goals as goal

pub lower_items-returns : goal.lower_items-returns
lower_items-returns t c =
    let a = c.args in
    lower_same no_exprs (items_of a.ws.now) same_exprs a.p a.q a.a a.b c.place-x.result c.place-y.result c.same_items.result c.place-x.ensures.0 c.place-y.ensures.0 c.same_items.ensures

pub same_at-returns-then-not-same_top : goal.same_at-returns-then-not-same_top
same_at-returns-then-not-same_top t c =
    let a = c.args in
    let d = c.words_at-d in
    let e = c.words_at-e in
    same_apart a.ws.now a.p a.q d.result e.result d.ensures e.ensures c.same_top.result c.same_top.ensures (c.if-not-same_top.true)

pub same_at-same_lower-requires : goal.same_at-same_lower-requires
same_at-same_lower-requires t c =
    let a = c.args in
    let d = c.words_at-d in
    let k : d.result.kind ≡ 7 = kind_word Kind.Negated c.in-Ok-Negated.ensures c.in-Ok-Negated.field-0-is in
    let l = kind_placed a.ws.now d.result a.p d.ensures (omega arith) in
    search rules

pub same_at-same_lower-x-requires : goal.same_at-same_lower-x-requires
same_at-same_lower-x-requires t c =
    let a = c.args in
    let d = c.words_at-d in
    let k : d.result.kind ≡ 8 = kind_word Kind.Sum c.in-Ok-Sum.ensures c.in-Ok-Sum.field-0-is in
    let l = kind_placed a.ws.now d.result a.p d.ensures (omega arith) in
    search rules

pub same_at-same_lower-y-requires : goal.same_at-same_lower-y-requires
same_at-same_lower-y-requires t c =
    let a = c.args in
    let d = c.words_at-d in
    let k : d.result.kind ≡ 8 = kind_word Kind.Sum c.in-Ok-Sum.ensures c.in-Ok-Sum.field-0-is in
    let l = kind_placed a.ws.now d.result a.p d.ensures (omega arith) in
    search rules

pub same_at-same_lower-x-requires-in-Ok-Product : goal.same_at-same_lower-x-requires-in-Ok-Product
same_at-same_lower-x-requires-in-Ok-Product t c =
    let a = c.args in
    let d = c.words_at-d in
    let k : d.result.kind ≡ 9 = kind_word Kind.Product c.in-Ok-Product.ensures c.in-Ok-Product.field-0-is in
    let l = kind_placed a.ws.now d.result a.p d.ensures (omega arith) in
    search rules

pub same_at-same_lower-y-requires-in-Ok-Product : goal.same_at-same_lower-y-requires-in-Ok-Product
same_at-same_lower-y-requires-in-Ok-Product t c =
    let a = c.args in
    let d = c.words_at-d in
    let k : d.result.kind ≡ 9 = kind_word Kind.Product c.in-Ok-Product.ensures c.in-Ok-Product.field-0-is in
    let l = kind_placed a.ws.now d.result a.p d.ensures (omega arith) in
    search rules

pub same_at-same_lower-requires-in-Ok-Scaled : goal.same_at-same_lower-requires-in-Ok-Scaled
same_at-same_lower-requires-in-Ok-Scaled t c =
    let a = c.args in
    let d = c.words_at-d in
    let k : d.result.kind ≡ 10 = kind_word Kind.Scaled c.in-Ok-Scaled.ensures c.in-Ok-Scaled.field-0-is in
    let l = kind_placed a.ws.now d.result a.p d.ensures (omega arith) in
    search rules

pub same_at-same_lower-x-requires-in-Ok-DistributePowers : goal.same_at-same_lower-x-requires-in-Ok-DistributePowers
same_at-same_lower-x-requires-in-Ok-DistributePowers t c =
    let a = c.args in
    let d = c.words_at-d in
    let k : d.result.kind ≡ 11 = kind_word Kind.DistributePowers c.in-Ok-DistributePowers.ensures c.in-Ok-DistributePowers.field-0-is in
    let l = kind_placed a.ws.now d.result a.p d.ensures (omega arith) in
    search rules

pub same_at-lower_items-y-requires : goal.same_at-lower_items-y-requires
same_at-lower_items-y-requires t c =
    let a = c.args in
    let d = c.words_at-d in
    let k : d.result.kind ≡ 11 = kind_word Kind.DistributePowers c.in-Ok-DistributePowers.ensures c.in-Ok-DistributePowers.field-0-is in
    let l = kind_placed a.ws.now d.result a.p d.ensures (omega arith) in
    search rules

pub same_at-returns-in-Ok-Negated : goal.same_at-returns-in-Ok-Negated
same_at-returns-in-Ok-Negated t c =
    let a = c.args in
    let d = c.words_at-d in
    let e = c.words_at-e in
    same_negated a.ws.now a.p a.q d.result e.result d.ensures e.ensures c.same_top.result c.same_top.ensures (c.if-not-same_top.false) c.same_lower.result c.same_lower.ensures (kind_word Kind.Negated c.in-Ok-Negated.ensures c.in-Ok-Negated.field-0-is)

pub same_at-returns-in-Ok-Sum : goal.same_at-returns-in-Ok-Sum
same_at-returns-in-Ok-Sum t c =
    let a = c.args in
    let d = c.words_at-d in
    let e = c.words_at-e in
    same_sum a.ws.now a.p a.q d.result e.result d.ensures e.ensures c.same_top.result c.same_top.ensures (c.if-not-same_top.false) c.same_lower-x.result c.same_lower-x.ensures c.same_lower-y.result _ refl c.same_lower-y.ensures (kind_word Kind.Sum c.in-Ok-Sum.ensures c.in-Ok-Sum.field-0-is)

pub same_at-returns-in-Ok-Product : goal.same_at-returns-in-Ok-Product
same_at-returns-in-Ok-Product t c =
    let a = c.args in
    let d = c.words_at-d in
    let e = c.words_at-e in
    same_product a.ws.now a.p a.q d.result e.result d.ensures e.ensures c.same_top.result c.same_top.ensures (c.if-not-same_top.false) c.same_lower-x-in-Ok-Product.result c.same_lower-x-in-Ok-Product.ensures c.same_lower-y-in-Ok-Product.result _ refl c.same_lower-y-in-Ok-Product.ensures (kind_word Kind.Product c.in-Ok-Product.ensures c.in-Ok-Product.field-0-is)

pub same_at-returns-in-Ok-Scaled : goal.same_at-returns-in-Ok-Scaled
same_at-returns-in-Ok-Scaled t c =
    let a = c.args in
    let d = c.words_at-d in
    let e = c.words_at-e in
    same_scaled a.ws.now a.p a.q d.result e.result d.ensures e.ensures c.same_top.result c.same_top.ensures (c.if-not-same_top.false) c.same_lower-in-Ok-Scaled.result c.same_lower-in-Ok-Scaled.ensures (kind_word Kind.Scaled c.in-Ok-Scaled.ensures c.in-Ok-Scaled.field-0-is)

pub same_at-returns-in-Ok-DistributePowers : goal.same_at-returns-in-Ok-DistributePowers
same_at-returns-in-Ok-DistributePowers t c =
    let a = c.args in
    let d = c.words_at-d in
    let e = c.words_at-e in
    same_powers a.ws.now a.p a.q d.result e.result d.ensures e.ensures c.same_top.result c.same_top.ensures (c.if-not-same_top.false) c.same_lower-x-in-Ok-DistributePowers.result c.same_lower-x-in-Ok-DistributePowers.ensures c.lower_items-y.result _ refl c.lower_items-y.ensures (kind_word Kind.DistributePowers c.in-Ok-DistributePowers.ensures c.in-Ok-DistributePowers.field-0-is)

pub same_at-returns-in_default : goal.same_at-returns-in_default
same_at-returns-in_default t c =
    let a = c.args in
    let d = c.words_at-d in
    let e = c.words_at-e in
    let k = c.in_default.ensures in
    let h = c.in_default.in_default-own.refused-1 in
    same_leaf a.ws.now a.p a.q d.result e.result d.ensures e.ensures c.same_top.result c.same_top.ensures (c.if-not-same_top.false)
    (not_word Kind.Negated k (λ z. h.1 (rw z)))
    (not_word Kind.Sum k (λ z. h.2 (rw z)))
    (not_word Kind.Product k (λ z. h.3 (rw z)))
    (not_word Kind.Scaled k (λ z. h.4 (rw z)))
    (not_word Kind.DistributePowers k (λ z. h.5 (rw z)))

pub same_at-returns-in_default-2 : goal.same_at-returns-in_default-2
same_at-returns-in_default-2 t c =
    let a = c.args in
    let d = c.words_at-d in
    let e = c.words_at-e in
    let k = no_kind d.result.kind c.try_from.result c.try_from.ensures c.in_default.is in
    same_leaf a.ws.now a.p a.q d.result e.result d.ensures e.ensures c.same_top.result c.same_top.ensures (c.if-not-same_top.false)
    (none_word k Kind.Negated)
    (none_word k Kind.Sum)
    (none_word k Kind.Product)
    (none_word k Kind.Scaled)
    (none_word k Kind.DistributePowers)

pub same_items-returns-then-e-eq0 : goal.same_items-returns-then-e-eq0
same_items-returns-then-e-eq0 t c =
    let a = c.args in
    let d = c.words_at-d in
    let e = c.words_at-e in
    chain_last a.ws.now a.p a.q d.result e.result d.ensures e.ensures c.same_lower-first.result c.same_lower-first.ensures c.if-d-eq0.true c.if-e-eq0.true

pub same_items-returns-then-d-eq0 : goal.same_items-returns-then-d-eq0
same_items-returns-then-d-eq0 t c =
    let a = c.args in
    let d = c.words_at-d in
    let e = c.words_at-e in
    chain_shorter a.ws.now a.p a.q d.result e.result d.ensures e.ensures c.if-d-eq0.true c.if-e-eq0.false

pub same_items-returns-then-e-eq0-2 : goal.same_items-returns-then-e-eq0-2
same_items-returns-then-e-eq0-2 t c =
    let a = c.args in
    let d = c.words_at-d in
    let e = c.words_at-e in
    chain_longer a.ws.now a.p a.q d.result e.result d.ensures e.ensures c.if-d-eq0.false c.if-e-eq0-2.true

pub same_items-lower_items-rest-requires : goal.same_items-lower_items-rest-requires
same_items-lower_items-rest-requires t c =
    let a = c.args in
    let d = c.words_at-d in
    let l = value_placed a.ws.now d.result a.p d.ensures c.if-d-eq0.false in
    search rules

pub same_items-returns : goal.same_items-returns
same_items-returns t c =
    let a = c.args in
    let d = c.words_at-d in
    let e = c.words_at-e in
    chain_more a.ws.now a.p a.q d.result e.result d.ensures e.ensures c.same_lower-first.result c.lower_items-rest.result _ refl c.same_lower-first.ensures c.lower_items-rest.ensures c.if-d-eq0.false c.if-e-eq0-2.false

pub same_lower-returns : goal.same_lower-returns
same_lower-returns t c =
    let a = c.args in
    lower_same no_expr (expr_of a.ws.now) same_expr a.p a.q a.a a.b c.place-x.result c.place-y.result c.same_at.result c.place-x.ensures.0 c.place-y.ensures.0 c.same_at.ensures
