use mathlib.Core.Path.{refl}
use native.Mathlib.Omega.{arith}
use Rattle.expression.specs.declared.kind.Kind.{Kind}
use Rattle.expression.proofs.NumberedKinds.{kind_word}
use Rattle.expression.proofs.Written as written
use Rattle.expression.proofs.Copied as law
use Rattle.expression_write.proofs.+copy_base_copy_expr_copy_items_copy_low_copy_one_copy_pair_copy_powers.Goals as goal

pub copy_base-copy_low-y-requires : goal.copy_base-copy_low-y-requires
copy_base-copy_low-y-requires t c =
    (omega arith, (omega arith, omega arith))

pub copy_base-returns : goal.copy_base-returns
copy_base-returns t c =
    written.written_base c.requires.1.0 c.copy_low-y.ensures c.push_node-next.ensures

pub copy_expr-copy_one-requires : goal.copy_expr-copy_one-requires
copy_expr-copy_one-requires t c =
    let e = law.negated_size c.args.ws.now c.args.n c.read_node-d.result c.read_node-d.ensures (kind_word Kind.Negated c.in-Ok-Negated.ensures c.in-Ok-Negated.field-0-is) in
    (omega arith, (omega arith, omega arith))

pub copy_expr-copy_pair-requires : goal.copy_expr-copy_pair-requires
copy_expr-copy_pair-requires t c =
    let e = law.sum_size c.args.ws.now c.args.n c.read_node-d.result c.read_node-d.ensures (kind_word Kind.Sum c.in-Ok-Sum.ensures c.in-Ok-Sum.field-0-is) in
    (omega arith, (omega arith, omega arith))

pub copy_expr-copy_pair-requires-in-Ok-Product : goal.copy_expr-copy_pair-requires-in-Ok-Product
copy_expr-copy_pair-requires-in-Ok-Product t c =
    let e = law.product_size c.args.ws.now c.args.n c.read_node-d.result c.read_node-d.ensures (kind_word Kind.Product c.in-Ok-Product.ensures c.in-Ok-Product.field-0-is) in
    (omega arith, (omega arith, omega arith))

pub copy_expr-copy_one-requires-in-Ok-Scaled : goal.copy_expr-copy_one-requires-in-Ok-Scaled
copy_expr-copy_one-requires-in-Ok-Scaled t c =
    let e = law.scaled_size c.args.ws.now c.args.n c.read_node-d.result c.read_node-d.ensures (kind_word Kind.Scaled c.in-Ok-Scaled.ensures c.in-Ok-Scaled.field-0-is) in
    (omega arith, (omega arith, omega arith))

pub copy_expr-copy_powers-requires : goal.copy_expr-copy_powers-requires
copy_expr-copy_powers-requires t c =
    let e = law.powers_size c.args.ws.now c.args.n c.read_node-d.result c.read_node-d.ensures (kind_word Kind.DistributePowers c.in-Ok-DistributePowers.ensures c.in-Ok-DistributePowers.field-0-is) in
    (omega arith, (omega arith, omega arith))

pub copy_expr-returns-in-Ok-Constant : goal.copy_expr-returns-in-Ok-Constant
copy_expr-returns-in-Ok-Constant t c =
    law.constant_copied c.args.ws.now c.args.n c.read_node-d.result c.read_node-d.ensures (kind_word Kind.Constant c.in-Ok-Constant.ensures c.in-Ok-Constant.field-0-is) c.push_node.ensures

pub copy_expr-returns-in-Ok-Identity : goal.copy_expr-returns-in-Ok-Identity
copy_expr-returns-in-Ok-Identity t c =
    law.identity_copied c.args.ws.now c.args.n c.read_node-d.result c.read_node-d.ensures (kind_word Kind.Identity c.in-Ok-Identity.ensures c.in-Ok-Identity.field-0-is) c.push_node-in-Ok-Identity.ensures

pub copy_expr-returns-in-Ok-Lagrange : goal.copy_expr-returns-in-Ok-Lagrange
copy_expr-returns-in-Ok-Lagrange t c =
    law.lagrange_copied c.args.ws.now c.args.n c.read_node-d.result c.read_node-d.ensures (kind_word Kind.Lagrange c.in-Ok-Lagrange.ensures c.in-Ok-Lagrange.field-0-is) c.push_node-in-Ok-Lagrange.ensures

pub copy_expr-returns-in-Ok-EqXy : goal.copy_expr-returns-in-Ok-EqXy
copy_expr-returns-in-Ok-EqXy t c =
    law.eq_xy_copied c.args.ws.now c.args.n c.read_node-d.result c.read_node-d.ensures (kind_word Kind.EqXy c.in-Ok-EqXy.ensures c.in-Ok-EqXy.field-0-is) c.push_node-in-Ok-EqXy.ensures

pub copy_expr-returns-in-Ok-Polynomial : goal.copy_expr-returns-in-Ok-Polynomial
copy_expr-returns-in-Ok-Polynomial t c =
    law.poly_copied c.args.ws.now c.args.n c.read_node-d.result c.read_node-d.ensures (kind_word Kind.Polynomial c.in-Ok-Polynomial.ensures c.in-Ok-Polynomial.field-0-is) c.push_node-in-Ok-Polynomial.ensures

pub copy_expr-returns-in-Ok-Challenge : goal.copy_expr-returns-in-Ok-Challenge
copy_expr-returns-in-Ok-Challenge t c =
    law.challenge_copied c.args.ws.now c.args.n c.read_node-d.result c.read_node-d.ensures (kind_word Kind.Challenge c.in-Ok-Challenge.ensures c.in-Ok-Challenge.field-0-is) c.push_node-in-Ok-Challenge.ensures

pub copy_expr-returns-in-Ok-Negated : goal.copy_expr-returns-in-Ok-Negated
copy_expr-returns-in-Ok-Negated t c =
    law.negated_copied c.args.ws.now c.args.n c.read_node-d.result c.read_node-d.ensures (kind_word Kind.Negated c.in-Ok-Negated.ensures c.in-Ok-Negated.field-0-is) c.copy_one.ensures

pub copy_expr-returns-in-Ok-Sum : goal.copy_expr-returns-in-Ok-Sum
copy_expr-returns-in-Ok-Sum t c =
    law.sum_copied c.args.ws.now c.args.n c.read_node-d.result c.read_node-d.ensures (kind_word Kind.Sum c.in-Ok-Sum.ensures c.in-Ok-Sum.field-0-is) c.copy_pair.ensures

pub copy_expr-returns-in-Ok-Product : goal.copy_expr-returns-in-Ok-Product
copy_expr-returns-in-Ok-Product t c =
    law.product_copied c.args.ws.now c.args.n c.read_node-d.result c.read_node-d.ensures (kind_word Kind.Product c.in-Ok-Product.ensures c.in-Ok-Product.field-0-is) c.copy_pair-in-Ok-Product.ensures

pub copy_expr-returns-in-Ok-Scaled : goal.copy_expr-returns-in-Ok-Scaled
copy_expr-returns-in-Ok-Scaled t c =
    law.scaled_copied c.args.ws.now c.args.n c.read_node-d.result c.read_node-d.ensures (kind_word Kind.Scaled c.in-Ok-Scaled.ensures c.in-Ok-Scaled.field-0-is) c.copy_one-in-Ok-Scaled.ensures

pub copy_expr-returns-in-Ok-DistributePowers : goal.copy_expr-returns-in-Ok-DistributePowers
copy_expr-returns-in-Ok-DistributePowers t c =
    law.powers_copied c.args.ws.now c.args.n c.read_node-d.result c.read_node-d.ensures (kind_word Kind.DistributePowers c.in-Ok-DistributePowers.ensures c.in-Ok-DistributePowers.field-0-is) c.copy_powers.ensures

pub copy_expr-returns-in-Ok-Item : goal.copy_expr-returns-in-Ok-Item
copy_expr-returns-in-Ok-Item t c =
    law.item_copied c.args.ws.now c.args.n c.read_node-d.result c.read_node-d.ensures (kind_word Kind.Item c.in-Ok-Item.ensures c.in-Ok-Item.field-0-is) c.push_node-in-Ok-Item.ensures

pub copy_expr-returns-in-Err : goal.copy_expr-returns-in-Err
copy_expr-returns-in-Err t c =
    law.no_kind_copied c.args.ws.now c.args.n c.read_node-d.result c.read_node-d.ensures c.in-Err.ensures c.push_node-in-Err.ensures

pub copy_items-copy_low-x-requires : goal.copy_items-copy_low-x-requires
copy_items-copy_low-x-requires t c =
    let e = law.first_size c.args.ws.now c.args.bound c.args.item c.args.item refl c.read_node-d.result c.read_node-d.ensures c.if-i-bound.true in
    (omega arith, (omega arith, omega arith))

pub copy_items-copy_base-requires : goal.copy_items-copy_base-requires
copy_items-copy_base-requires t c =
    let e = law.last_size c.args.ws.now c.args.bound c.args.item c.args.item refl c.read_node-d.result c.read_node-d.ensures c.if-i-bound.true c.if-d-eq0.true in
    (omega arith, (omega arith, (omega arith, omega arith)))

pub copy_items-returns-then-d-eq0 : goal.copy_items-returns-then-d-eq0
copy_items-returns-then-d-eq0 t c =
    law.list_last_copied c.args.ws.now c.args.bound c.args.item c.args.item refl c.read_node-d.result c.read_node-d.ensures c.if-i-bound.true c.if-d-eq0.true c.copy_low-x.ensures c.copy_base.ensures

pub copy_items-copy_items-l-requires : goal.copy_items-copy_items-l-requires
copy_items-copy_items-l-requires t c =
    let e = law.more_size c.args.ws.now c.args.bound c.args.item c.args.item refl c.read_node-d.result c.read_node-d.ensures c.if-i-bound.true c.if-d-eq0.false in
    (omega arith, (omega arith, (omega arith, omega arith)))

pub copy_items-push_node-next-requires : goal.copy_items-push_node-next-requires
copy_items-push_node-next-requires t c =
    let e = law.more_size c.args.ws.now c.args.bound c.args.item c.args.item refl c.read_node-d.result c.read_node-d.ensures c.if-i-bound.true c.if-d-eq0.false in
    omega (arith, c.requires, c.copy_low-x, c.copy_items-l)

pub copy_items-returns-then-i-bound : goal.copy_items-returns-then-i-bound
copy_items-returns-then-i-bound t c =
    law.list_more_copied c.args.ws.now c.args.bound c.args.item c.args.item refl c.read_node-d.result c.read_node-d.ensures c.if-i-bound.true c.if-d-eq0.false c.copy_low-x.ensures c.copy_items-l.ensures c.push_node-next.ensures

pub copy_items-copy_base-requires-2 : goal.copy_items-copy_base-requires-2
copy_items-copy_base-requires-2 t c =
    let e = law.none_size c.args.ws.now c.args.bound c.args.item c.args.item refl c.if-i-bound.false in
    (omega arith, (omega arith, (omega arith, omega arith)))

pub copy_items-returns : goal.copy_items-returns
copy_items-returns t c =
    law.list_none_copied c.args.ws.now c.args.bound c.args.item c.args.item refl c.if-i-bound.false c.push_node-x.ensures c.copy_base-2.ensures

pub copy_low-copy_expr-requires : goal.copy_low-copy_expr-requires
copy_low-copy_expr-requires t c =
    let e = law.low_size c.args.ws.now c.args.n c.args.a c.args.a refl c.if-c-n.true in
    (omega arith, (omega arith, omega arith))

pub copy_low-returns-then-c-n : goal.copy_low-returns-then-c-n
copy_low-returns-then-c-n t c =
    law.low_copied c.args.ws.now c.args.n c.args.a c.args.a refl c.if-c-n.true c.copy_expr.ensures

pub copy_low-returns : goal.copy_low-returns
copy_low-returns t c =
    law.none_copied c.args.ws.now c.args.n c.args.a c.args.a refl c.if-c-n.false c.push_node.ensures

pub copy_one-copy_low-x-requires : goal.copy_one-copy_low-x-requires
copy_one-copy_low-x-requires t c =
    (omega arith, (omega arith, omega arith))

pub copy_one-returns : goal.copy_one-returns
copy_one-returns t c =
    written.written_one c.copy_low-x.ensures c.push_node.ensures

pub copy_pair-copy_low-x-requires : goal.copy_pair-copy_low-x-requires
copy_pair-copy_low-x-requires t c =
    (omega arith, (omega arith, omega arith))

pub copy_pair-copy_low-y-requires : goal.copy_pair-copy_low-y-requires
copy_pair-copy_low-y-requires t c =
    (omega arith, (omega arith, omega arith))

pub copy_pair-returns : goal.copy_pair-returns
copy_pair-returns t c =
    written.written_pair c.copy_low-x.ensures c.copy_low-y.ensures c.push_node.ensures

pub copy_powers-copy_items-l-requires : goal.copy_powers-copy_items-l-requires
copy_powers-copy_items-l-requires t c =
    (omega arith, (omega arith, (omega arith, omega arith)))

pub copy_powers-returns : goal.copy_powers-returns
copy_powers-returns t c =
    written.written_powers c.copy_items-l.ensures c.push_node.ensures
