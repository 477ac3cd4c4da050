-- The names of one node, kind by kind.
use mathlib.Core.Path.{refl, sym, ap}
use mathlib.Core.Bool.{Bool, cond}
use mathlib.Core.List.{[], ◌∷◌}
use native.Mathlib.Omega.{arith}
use borrow.Author.Tests.{eq-eqb, ne_eqb}
use Rattle.expression.specs.declared.kind.Kind.{Kind}
use Rattle.expression.proofs.NumberedKinds.{kind_word, none_word}
use Rattle.expression.specs.Nodes.{kind_of}
use Rattle.backend.specs.Layout.{plain, as_item}
use Rattle.backend_nodes.proofs.layout.Nodes.{leaf}
use Rattle.backend_nodes.proofs.layout.Counts.{tally_kind, tally_none, tally_item, tally_both, tally_is, room_after}
use Rattle.backend_nodes.proofs.layout.count_named.Goals as goal

pub count_name-requires-in-Ok-Sum-2 : goal.count_name-requires-in-Ok-Sum-2
count_name-requires-in-Ok-Sum-2 c =
    room_after c.args.counts.now _ (plain c.args.first ∷ []) 2 1 c.requires c.count_name-in-Ok-Sum.ensures (omega arith)

pub count_name-requires-in-Ok-Product-2 : goal.count_name-requires-in-Ok-Product-2
count_name-requires-in-Ok-Product-2 c =
    room_after c.args.counts.now _ (plain c.args.first ∷ []) 2 1 c.requires c.count_name-in-Ok-Product.ensures (omega arith)

pub count_name-requires-in-Ok-DistributePowers-2 : goal.count_name-requires-in-Ok-DistributePowers-2
count_name-requires-in-Ok-DistributePowers-2 c =
    room_after c.args.counts.now _ (plain c.args.first ∷ []) 2 1 c.requires c.count_name-in-Ok-DistributePowers.ensures (omega arith)

pub count_name-requires-then-value-ne0 : goal.count_name-requires-then-value-ne0
count_name-requires-then-value-ne0 c =
    room_after c.args.counts.now _ (plain c.args.first ∷ []) 2 1 c.requires c.count_name-in-Ok-Item.ensures (omega arith)

pub returns-in-Ok-Negated : goal.returns-in-Ok-Negated
unfolding kind_of
returns-in-Ok-Negated c =
    let a = c.args in
    tally_kind a.kind a.first a.second a.value a.counts.now _ 7 (plain a.first ∷ []) (kind_word Kind.Negated c.in-Ok-Negated.ensures c.in-Ok-Negated.field-0-is) refl c.count_name.ensures

pub returns-in-Ok-Sum : goal.returns-in-Ok-Sum
unfolding kind_of
returns-in-Ok-Sum c =
    let a = c.args in
    tally_kind a.kind a.first a.second a.value a.counts.now _ 8 (plain a.first ∷ plain a.second ∷ []) (kind_word Kind.Sum c.in-Ok-Sum.ensures c.in-Ok-Sum.field-0-is) refl
    (tally_both a.counts.now _ _ (plain a.first ∷ []) (plain a.second ∷ []) c.count_name-in-Ok-Sum.ensures c.count_name-in-Ok-Sum-2.ensures)

pub returns-in-Ok-Product : goal.returns-in-Ok-Product
unfolding kind_of
returns-in-Ok-Product c =
    let a = c.args in
    tally_kind a.kind a.first a.second a.value a.counts.now _ 9 (plain a.first ∷ plain a.second ∷ []) (kind_word Kind.Product c.in-Ok-Product.ensures c.in-Ok-Product.field-0-is) refl
    (tally_both a.counts.now _ _ (plain a.first ∷ []) (plain a.second ∷ []) c.count_name-in-Ok-Product.ensures c.count_name-in-Ok-Product-2.ensures)

pub returns-in-Ok-Scaled : goal.returns-in-Ok-Scaled
unfolding kind_of
returns-in-Ok-Scaled c =
    let a = c.args in
    tally_kind a.kind a.first a.second a.value a.counts.now _ 10 (plain a.first ∷ []) (kind_word Kind.Scaled c.in-Ok-Scaled.ensures c.in-Ok-Scaled.field-0-is) refl c.count_name-in-Ok-Scaled.ensures

pub returns-in-Ok-DistributePowers : goal.returns-in-Ok-DistributePowers
unfolding kind_of
returns-in-Ok-DistributePowers c =
    let a = c.args in
    tally_kind a.kind a.first a.second a.value a.counts.now _ 11 (plain a.first ∷ as_item a.second ∷ []) (kind_word Kind.DistributePowers c.in-Ok-DistributePowers.ensures c.in-Ok-DistributePowers.field-0-is) refl
    (tally_both a.counts.now _ _ (plain a.first ∷ []) (as_item a.second ∷ []) c.count_name-in-Ok-DistributePowers.ensures (tally_item _ _ a.second c.count_name-in-Ok-DistributePowers-2.ensures))

pub returns-then-value-ne0 : goal.returns-then-value-ne0
unfolding kind_of
returns-then-value-ne0 c =
    let a = c.args in
    tally_kind a.kind a.first a.second a.value a.counts.now _ 12 (plain a.first ∷ as_item a.second ∷ []) (kind_word Kind.Item c.in-Ok-Item.ensures c.in-Ok-Item.field-0-is)
    (ap (λ (t : Bool). plain a.first ∷ cond t [] (as_item a.second ∷ [])) (ne_eqb a.value 0 c.if-value-ne0.true))
    (tally_both a.counts.now _ _ (plain a.first ∷ []) (as_item a.second ∷ []) c.count_name-in-Ok-Item.ensures (tally_item _ _ a.second c.count_name-then-value-ne0.ensures))

pub returns-else-value-ne0 : goal.returns-else-value-ne0
unfolding kind_of
returns-else-value-ne0 c =
    let a = c.args in
    tally_kind a.kind a.first a.second a.value a.counts.now _ 12 (plain a.first ∷ []) (kind_word Kind.Item c.in-Ok-Item.ensures c.in-Ok-Item.field-0-is)
    (ap (λ (t : Bool). plain a.first ∷ cond t [] (as_item a.second ∷ [])) (eq-eqb a.value 0 c.if-value-ne0.false))
    c.count_name-in-Ok-Item.ensures

pub returns-in-Ok-Constant : goal.returns-in-Ok-Constant
unfolding kind_of
returns-in-Ok-Constant c =
    let a = c.args in
    tally_kind a.kind a.first a.second a.value a.counts.now _ 1 [] (kind_word Kind.Constant c.in-Ok-Constant.ensures c.in-Ok-Constant.field-0-is) refl (tally_none a.counts.now)

pub returns-in-Ok-Identity : goal.returns-in-Ok-Identity
unfolding kind_of
returns-in-Ok-Identity c =
    let a = c.args in
    tally_kind a.kind a.first a.second a.value a.counts.now _ 2 [] (kind_word Kind.Identity c.in-Ok-Identity.ensures c.in-Ok-Identity.field-0-is) refl (tally_none a.counts.now)

pub returns-in-Ok-Lagrange : goal.returns-in-Ok-Lagrange
unfolding kind_of
returns-in-Ok-Lagrange c =
    let a = c.args in
    tally_kind a.kind a.first a.second a.value a.counts.now _ 3 [] (kind_word Kind.Lagrange c.in-Ok-Lagrange.ensures c.in-Ok-Lagrange.field-0-is) refl (tally_none a.counts.now)

pub returns-in-Ok-EqXy : goal.returns-in-Ok-EqXy
unfolding kind_of
returns-in-Ok-EqXy c =
    let a = c.args in
    tally_kind a.kind a.first a.second a.value a.counts.now _ 4 [] (kind_word Kind.EqXy c.in-Ok-EqXy.ensures c.in-Ok-EqXy.field-0-is) refl (tally_none a.counts.now)

pub returns-in-Ok-Polynomial : goal.returns-in-Ok-Polynomial
unfolding kind_of
returns-in-Ok-Polynomial c =
    let a = c.args in
    tally_kind a.kind a.first a.second a.value a.counts.now _ 5 [] (kind_word Kind.Polynomial c.in-Ok-Polynomial.ensures c.in-Ok-Polynomial.field-0-is) refl (tally_none a.counts.now)

pub returns-in-Ok-Challenge : goal.returns-in-Ok-Challenge
unfolding kind_of
returns-in-Ok-Challenge c =
    let a = c.args in
    tally_kind a.kind a.first a.second a.value a.counts.now _ 6 [] (kind_word Kind.Challenge c.in-Ok-Challenge.ensures c.in-Ok-Challenge.field-0-is) refl (tally_none a.counts.now)

pub returns-in-Err : goal.returns-in-Err
returns-in-Err c =
    let a = c.args in
    let k = c.in-Err.ensures in
    tally_is a.counts.now a.counts.now [] _ (tally_none a.counts.now) (sym (leaf a.kind a.first a.second a.value ((((((tt {0}, none_word k Kind.Negated), none_word k Kind.Sum), none_word k Kind.Product), none_word k Kind.Scaled), none_word k Kind.DistributePowers), none_word k Kind.Item)))

pub returns-then-kind : goal.returns-then-kind
returns-then-kind c =
    let a = c.args in
    let below = c.if-kind.true in
    tally_is a.counts.now a.counts.now [] _ (tally_none a.counts.now) (sym (leaf a.kind a.first a.second a.value
    ((((((tt {0}, λ e. omega (arith, below, e)), λ e. omega (arith, below, e)), λ e. omega (arith, below, e)), λ e. omega (arith, below, e)), λ e. omega (arith, below, e)), λ e. omega (arith, below, e))))
