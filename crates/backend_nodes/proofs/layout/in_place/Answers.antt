use mathlib.Core.Path.{refl}
use Prim.Native.Nat.{◌+◌, ◌*◌}
use lib.ListN.{get_or}
use native.Mathlib.Omega.{arith}
use Rattle.expression.specs.declared.kind.Kind.{Kind}
use Rattle.expression.proofs.NumberedKinds.{kind_word, none_word}
use Rattle.expression.specs.Nodes.{kind_of}
use Rattle.lists.specs.Lists.{all_of}
use Rattle.backend_nodes.proofs.layout.Nodes.{not_shaped, in_place_at, rest_one, rest_two, rest_leaf, rest_powers, rest_item}
use Rattle.backend_nodes.proofs.layout.in_place.Goals as goal

pub returns-then-not-shaped : goal.returns-then-not-shaped
returns-then-not-shaped c = let a = c.args in not_shaped a.nodes.now a.n c.shaped.result c.shaped.ensures (c.if-not-shaped.true)

pub returns-in-Ok-Negated : goal.returns-in-Ok-Negated
unfolding kind_of
returns-in-Ok-Negated c =
    let a = c.args in
    let s = c.shaped in
    in_place_at a.nodes.now a.n 7 s.result _ s.ensures (c.if-not-shaped.false) (kind_word Kind.Negated c.in-Ok-Negated.ensures c.in-Ok-Negated.field-0-is)
    (rest_one a.nodes.now a.n 7 (get_or a.nodes.now (a.n * 4 + 1) 0) (get_or a.nodes.now (a.n * 4 + 2) 0) (get_or a.nodes.now (a.n * 4 + 3) 0) c.plain.result refl refl c.plain.ensures)

pub returns-in-Ok-Sum : goal.returns-in-Ok-Sum
unfolding kind_of
returns-in-Ok-Sum c =
    let a = c.args in
    let s = c.shaped in
    in_place_at a.nodes.now a.n 8 s.result _ s.ensures (c.if-not-shaped.false) (kind_word Kind.Sum c.in-Ok-Sum.ensures c.in-Ok-Sum.field-0-is)
    (rest_two a.nodes.now a.n 8 (get_or a.nodes.now (a.n * 4 + 1) 0) (get_or a.nodes.now (a.n * 4 + 2) 0) (get_or a.nodes.now (a.n * 4 + 3) 0) c.plain-in-Ok-Sum.result c.plain-in-Ok-Sum-2.result refl refl c.plain-in-Ok-Sum.ensures c.plain-in-Ok-Sum-2.ensures)

pub returns-in-Ok-Product : goal.returns-in-Ok-Product
unfolding kind_of
returns-in-Ok-Product c =
    let a = c.args in
    let s = c.shaped in
    in_place_at a.nodes.now a.n 9 s.result _ s.ensures (c.if-not-shaped.false) (kind_word Kind.Product c.in-Ok-Product.ensures c.in-Ok-Product.field-0-is)
    (rest_two a.nodes.now a.n 9 (get_or a.nodes.now (a.n * 4 + 1) 0) (get_or a.nodes.now (a.n * 4 + 2) 0) (get_or a.nodes.now (a.n * 4 + 3) 0) c.plain-in-Ok-Product.result c.plain-in-Ok-Product-2.result refl refl c.plain-in-Ok-Product.ensures c.plain-in-Ok-Product-2.ensures)

pub returns-in-Ok-Scaled : goal.returns-in-Ok-Scaled
unfolding kind_of
returns-in-Ok-Scaled c =
    let a = c.args in
    let s = c.shaped in
    in_place_at a.nodes.now a.n 10 s.result _ s.ensures (c.if-not-shaped.false) (kind_word Kind.Scaled c.in-Ok-Scaled.ensures c.in-Ok-Scaled.field-0-is)
    (rest_one a.nodes.now a.n 10 (get_or a.nodes.now (a.n * 4 + 1) 0) (get_or a.nodes.now (a.n * 4 + 2) 0) (get_or a.nodes.now (a.n * 4 + 3) 0) c.plain-in-Ok-Scaled.result refl refl c.plain-in-Ok-Scaled.ensures)

pub returns-in-Ok-DistributePowers : goal.returns-in-Ok-DistributePowers
returns-in-Ok-DistributePowers c =
    let a = c.args in
    let s = c.shaped in
    in_place_at a.nodes.now a.n 11 s.result _ s.ensures (c.if-not-shaped.false) (kind_word Kind.DistributePowers c.in-Ok-DistributePowers.ensures c.in-Ok-DistributePowers.field-0-is)
    (rest_powers a.nodes.now a.n (get_or a.nodes.now (a.n * 4 + 1) 0) (get_or a.nodes.now (a.n * 4 + 2) 0) (get_or a.nodes.now (a.n * 4 + 3) 0) c.plain-in-Ok-DistributePowers.result c.first_item.result c.plain-in-Ok-DistributePowers.ensures c.first_item.ensures)

pub returns-in-Ok-Item : goal.returns-in-Ok-Item
returns-in-Ok-Item c =
    let a = c.args in
    let s = c.shaped in
    in_place_at a.nodes.now a.n 12 s.result _ s.ensures (c.if-not-shaped.false) (kind_word Kind.Item c.in-Ok-Item.ensures c.in-Ok-Item.field-0-is)
    (rest_item a.nodes.now a.n (get_or a.nodes.now (a.n * 4 + 1) 0) (get_or a.nodes.now (a.n * 4 + 2) 0) (get_or a.nodes.now (a.n * 4 + 3) 0) c.plain-in-Ok-Item.result c.item.result c.plain-in-Ok-Item.ensures c.item.ensures)

pub returns-in-Ok-Constant : goal.returns-in-Ok-Constant
unfolding kind_of all_of
returns-in-Ok-Constant c =
    let a = c.args in
    let s = c.shaped in
    in_place_at a.nodes.now a.n 1 s.result _ s.ensures (c.if-not-shaped.false) (kind_word Kind.Constant c.in-Ok-Constant.ensures c.in-Ok-Constant.field-0-is) refl

pub returns-in-Ok-Identity : goal.returns-in-Ok-Identity
unfolding kind_of all_of
returns-in-Ok-Identity c =
    let a = c.args in
    let s = c.shaped in
    in_place_at a.nodes.now a.n 2 s.result _ s.ensures (c.if-not-shaped.false) (kind_word Kind.Identity c.in-Ok-Identity.ensures c.in-Ok-Identity.field-0-is) refl

pub returns-in-Ok-Lagrange : goal.returns-in-Ok-Lagrange
unfolding kind_of all_of
returns-in-Ok-Lagrange c =
    let a = c.args in
    let s = c.shaped in
    in_place_at a.nodes.now a.n 3 s.result _ s.ensures (c.if-not-shaped.false) (kind_word Kind.Lagrange c.in-Ok-Lagrange.ensures c.in-Ok-Lagrange.field-0-is) refl

pub returns-in-Ok-EqXy : goal.returns-in-Ok-EqXy
unfolding kind_of all_of
returns-in-Ok-EqXy c =
    let a = c.args in
    let s = c.shaped in
    in_place_at a.nodes.now a.n 4 s.result _ s.ensures (c.if-not-shaped.false) (kind_word Kind.EqXy c.in-Ok-EqXy.ensures c.in-Ok-EqXy.field-0-is) refl

pub returns-in-Ok-Polynomial : goal.returns-in-Ok-Polynomial
unfolding kind_of all_of
returns-in-Ok-Polynomial c =
    let a = c.args in
    let s = c.shaped in
    in_place_at a.nodes.now a.n 5 s.result _ s.ensures (c.if-not-shaped.false) (kind_word Kind.Polynomial c.in-Ok-Polynomial.ensures c.in-Ok-Polynomial.field-0-is) refl

pub returns-in-Ok-Challenge : goal.returns-in-Ok-Challenge
unfolding kind_of all_of
returns-in-Ok-Challenge c =
    let a = c.args in
    let s = c.shaped in
    in_place_at a.nodes.now a.n 6 s.result _ s.ensures (c.if-not-shaped.false) (kind_word Kind.Challenge c.in-Ok-Challenge.ensures c.in-Ok-Challenge.field-0-is) refl

pub returns-in-Err : goal.returns-in-Err
returns-in-Err c =
    let a = c.args in
    let s = c.shaped in
    let k = c.in-Err.ensures in
    in_place_at a.nodes.now a.n (get_or a.nodes.now (a.n * 4) 0) s.result _ s.ensures (c.if-not-shaped.false) refl
    (rest_leaf a.nodes.now a.n (get_or a.nodes.now (a.n * 4) 0) (get_or a.nodes.now (a.n * 4 + 1) 0) (get_or a.nodes.now (a.n * 4 + 2) 0) (get_or a.nodes.now (a.n * 4 + 3) 0)
    ((((((tt {0}, none_word k Kind.Negated), none_word k Kind.Sum), none_word k Kind.Product), none_word k Kind.Scaled), none_word k Kind.DistributePowers), none_word k Kind.Item))

pub returns-then-kind : goal.returns-then-kind
returns-then-kind c =
    let a = c.args in
    let s = c.shaped in
    let below = c.if-kind.true in
    in_place_at a.nodes.now a.n (get_or a.nodes.now (a.n * 4) 0) s.result _ s.ensures (c.if-not-shaped.false) refl
    (rest_leaf a.nodes.now a.n (get_or a.nodes.now (a.n * 4) 0) (get_or a.nodes.now (a.n * 4 + 1) 0) (get_or a.nodes.now (a.n * 4 + 2) 0) (get_or a.nodes.now (a.n * 4 + 3) 0)
    ((((((tt {0}, λ e. omega (arith, below, e)), λ e. omega (arith, below, e)), λ e. omega (arith, below, e)), λ e. omega (arith, below, e)), λ e. omega (arith, below, e)), λ e. omega (arith, below, e)))
