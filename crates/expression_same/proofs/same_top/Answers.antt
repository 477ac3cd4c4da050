-- Each kind's words compared: the nodes, as expressions', are the same by what they keep.
use mathlib.Core.Path.{refl}
use Rattle.expression.specs.declared.kind.Kind.{Kind}
use Rattle.expression.proofs.NumberedKinds.{kind_word}
use Rattle.expression_same.proofs.Ways.{top_apart, top_identity, top_poly, top_challenge, top_negated, top_sum, top_product, top_powers, top_constant, top_lagrange, top_eq_xy, top_scaled, top_no_item, top_some}
use Rattle.expression_same.proofs.same_top.Goals as goal

pub returns-then-x-y : goal.returns-then-x-y
returns-then-x-y c =
    let a = c.args in
    let x = c.as_expression-x in
    let y = c.as_expression-y in
    top_apart a.d a.e x.result y.result x.ensures y.ensures c.if-x-y.true

pub returns-in-Ok-Identity : goal.returns-in-Ok-Identity
returns-in-Ok-Identity c =
    let a = c.args in
    let x = c.as_expression-x in
    let y = c.as_expression-y in
    top_identity a.d a.e x.result y.result x.ensures y.ensures c.if-x-y.false (kind_word Kind.Identity c.in-Ok-Identity.ensures c.in-Ok-Identity.field-0-is)

pub returns-in-Ok-Polynomial : goal.returns-in-Ok-Polynomial
returns-in-Ok-Polynomial c =
    let a = c.args in
    let x = c.as_expression-x in
    let y = c.as_expression-y in
    top_poly a.d a.e x.result y.result x.ensures y.ensures c.if-x-y.false _ refl (kind_word Kind.Polynomial c.in-Ok-Polynomial.ensures c.in-Ok-Polynomial.field-0-is)

pub returns-in-Ok-Challenge : goal.returns-in-Ok-Challenge
returns-in-Ok-Challenge c =
    let a = c.args in
    let x = c.as_expression-x in
    let y = c.as_expression-y in
    top_challenge a.d a.e x.result y.result x.ensures y.ensures c.if-x-y.false (kind_word Kind.Challenge c.in-Ok-Challenge.ensures c.in-Ok-Challenge.field-0-is)

pub returns-in-Ok-Negated : goal.returns-in-Ok-Negated
returns-in-Ok-Negated c =
    let a = c.args in
    let x = c.as_expression-x in
    let y = c.as_expression-y in
    top_negated a.d a.e x.result y.result x.ensures y.ensures c.if-x-y.false (kind_word Kind.Negated c.in-Ok-Negated.ensures c.in-Ok-Negated.field-0-is)

pub returns-in-Ok-Sum : goal.returns-in-Ok-Sum
returns-in-Ok-Sum c =
    let a = c.args in
    let x = c.as_expression-x in
    let y = c.as_expression-y in
    top_sum a.d a.e x.result y.result x.ensures y.ensures c.if-x-y.false (kind_word Kind.Sum c.in-Ok-Sum.ensures c.in-Ok-Sum.field-0-is)

pub returns-in-Ok-Product : goal.returns-in-Ok-Product
returns-in-Ok-Product c =
    let a = c.args in
    let x = c.as_expression-x in
    let y = c.as_expression-y in
    top_product a.d a.e x.result y.result x.ensures y.ensures c.if-x-y.false (kind_word Kind.Product c.in-Ok-Product.ensures c.in-Ok-Product.field-0-is)

pub returns-in-Ok-DistributePowers : goal.returns-in-Ok-DistributePowers
returns-in-Ok-DistributePowers c =
    let a = c.args in
    let x = c.as_expression-x in
    let y = c.as_expression-y in
    top_powers a.d a.e x.result y.result x.ensures y.ensures c.if-x-y.false (kind_word Kind.DistributePowers c.in-Ok-DistributePowers.ensures c.in-Ok-DistributePowers.field-0-is)

pub returns-in-Ok-Constant : goal.returns-in-Ok-Constant
returns-in-Ok-Constant c =
    let a = c.args in
    let x = c.as_expression-x in
    let y = c.as_expression-y in
    top_constant a.d a.e x.result y.result x.ensures y.ensures c.if-x-y.false (kind_word Kind.Constant c.in-Ok-Constant.ensures c.in-Ok-Constant.field-0-is)

pub returns-in-Ok-Lagrange : goal.returns-in-Ok-Lagrange
returns-in-Ok-Lagrange c =
    let a = c.args in
    let x = c.as_expression-x in
    let y = c.as_expression-y in
    top_lagrange a.d a.e x.result y.result x.ensures y.ensures c.if-x-y.false (kind_word Kind.Lagrange c.in-Ok-Lagrange.ensures c.in-Ok-Lagrange.field-0-is)

pub returns-in-Ok-EqXy : goal.returns-in-Ok-EqXy
returns-in-Ok-EqXy c =
    let a = c.args in
    let x = c.as_expression-x in
    let y = c.as_expression-y in
    top_eq_xy a.d a.e x.result y.result x.ensures y.ensures c.if-x-y.false (kind_word Kind.EqXy c.in-Ok-EqXy.ensures c.in-Ok-EqXy.field-0-is)

pub returns-in-Ok-Scaled : goal.returns-in-Ok-Scaled
returns-in-Ok-Scaled c =
    let a = c.args in
    let x = c.as_expression-x in
    let y = c.as_expression-y in
    top_scaled a.d a.e x.result y.result x.ensures y.ensures c.if-x-y.false (kind_word Kind.Scaled c.in-Ok-Scaled.ensures c.in-Ok-Scaled.field-0-is)

pub returns-in-Ok-Item : goal.returns-in-Ok-Item
returns-in-Ok-Item c =
    let a = c.args in
    let x = c.as_expression-x in
    let y = c.as_expression-y in
    absurd (top_no_item a.d a.e x.result y.result x.ensures y.ensures c.if-x-y.false (kind_word Kind.Item c.in-Ok-Item.ensures c.in-Ok-Item.field-0-is))

pub returns-in-Err : goal.returns-in-Err
returns-in-Err c =
    let a = c.args in
    let x = c.as_expression-x in
    let y = c.as_expression-y in
    absurd (top_some a.d a.e x.result y.result x.ensures y.ensures c.if-x-y.false c.in-Err.ensures)
