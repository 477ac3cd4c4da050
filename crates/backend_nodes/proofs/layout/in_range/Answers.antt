use mathlib.Core.Path.{refl, ap, ◌∙◌}
use mathlib.Core.Bool.{Bool}
use Prim.Native.Nat.{◌+◌, ◌*◌}
use lib.ListN.{get_or}
use native.Mathlib.Omega.{arith}
use mathlib.Core.Bool.{◌&&◌}
use lib.Dec.{ltb}
use Rattle.expression.specs.declared.kind.Kind.{Kind}
use Rattle.expression.proofs.NumberedKinds.{kind_word, no_kind, not_word, none_word}
use Rattle.expression.specs.Nodes.{kind_of}
use Rattle.backend.specs.Layout.{in_range}
use Rattle.backend_nodes.proofs.layout.Nodes.{by_kind, no_number_is}
use Rattle.backend_nodes.proofs.layout.in_range.Goals as goal

pub returns-in-Ok-EqXy : goal.returns-in-Ok-EqXy
unfolding kind_of
returns-in-Ok-EqXy c =
    let a = c.args in
    by_kind a.nodes.now a.n (in_range a.polys a.user a.k) 4 (kind_word Kind.EqXy c.in-Ok-EqXy.ensures c.in-Ok-EqXy.field-0-is)

pub returns-in-Ok-Polynomial : goal.returns-in-Ok-Polynomial
unfolding kind_of
returns-in-Ok-Polynomial c =
    let a = c.args in
    ap (λ (t : Bool). ltb (get_or a.nodes.now (a.n * 4 + 1) 0) a.polys && t) c.rotation_in_range.ensures
    ∙ by_kind a.nodes.now a.n (in_range a.polys a.user a.k) 5 (kind_word Kind.Polynomial c.in-Ok-Polynomial.ensures c.in-Ok-Polynomial.field-0-is)

pub returns-in-Ok-Challenge : goal.returns-in-Ok-Challenge
unfolding kind_of
returns-in-Ok-Challenge c =
    let a = c.args in
    by_kind a.nodes.now a.n (in_range a.polys a.user a.k) 6 (kind_word Kind.Challenge c.in-Ok-Challenge.ensures c.in-Ok-Challenge.field-0-is)

pub returns-in_default : goal.returns-in_default
returns-in_default c =
    let a = c.args in
    let w = get_or a.nodes.now (a.n * 4) 0 in
    let k = c.in_default.ensures in
    let h = c.in_default.in_default-own.refused-1 in
    no_number_is a.polys a.user a.k w (get_or a.nodes.now (a.n * 4 + 1) 0) (get_or a.nodes.now (a.n * 4 + 2) 0) (get_or a.nodes.now (a.n * 4 + 3) 0) (((tt {0}, not_word Kind.EqXy k (λ z. h.1 (rw z))), not_word Kind.Polynomial k (λ z. h.2 (rw z))), not_word Kind.Challenge k (λ z. h.3 (rw z)))
    ∙ by_kind a.nodes.now a.n (in_range a.polys a.user a.k) w refl

pub returns-in_default-2 : goal.returns-in_default-2
returns-in_default-2 c =
    let a = c.args in
    let w = get_or a.nodes.now (a.n * 4) 0 in
    let k = no_kind w c.try_from.result c.try_from.ensures c.in_default.is in
    no_number_is a.polys a.user a.k w (get_or a.nodes.now (a.n * 4 + 1) 0) (get_or a.nodes.now (a.n * 4 + 2) 0) (get_or a.nodes.now (a.n * 4 + 3) 0) (((tt {0}, none_word k Kind.EqXy), none_word k Kind.Polynomial), none_word k Kind.Challenge)
    ∙ by_kind a.nodes.now a.n (in_range a.polys a.user a.k) w refl

pub returns-then-nodes-at : goal.returns-then-nodes-at
returns-then-nodes-at c =
    let a = c.args in
    let w = get_or a.nodes.now (a.n * 4) 0 in
    let above = c.if-nodes-at.true in
    no_number_is a.polys a.user a.k w (get_or a.nodes.now (a.n * 4 + 1) 0) (get_or a.nodes.now (a.n * 4 + 2) 0) (get_or a.nodes.now (a.n * 4 + 3) 0)
    (((tt {0}, λ e. omega (arith, above, e)), λ e. omega (arith, above, e)), λ e. omega (arith, above, e))
    ∙ by_kind a.nodes.now a.n (in_range a.polys a.user a.k) w refl
