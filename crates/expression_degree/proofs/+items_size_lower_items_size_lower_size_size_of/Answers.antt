-- The walk for the size: each way through the code is the size, capped.
use mathlib.Core.Path.{refl}
use native.Mathlib.Omega.{arith}
use Rattle.expression.specs.declared.kind.Kind.{Kind}
use Rattle.expression.proofs.NumberedKinds.{kind_word, no_kind}
use Rattle.expression.proofs.Sizes.{size_lower, size_not_lower, listed_lower, listed_not_lower, listed_last, listed_more, size_negated, size_sum, size_product, size_scaled, size_powers, size_leaf, size_none, size_other}
use Rattle.expression_degree.proofs.+items_size_lower_items_size_lower_size_size_of.Goals as goal

pub items_size-returns-then-d-eq0 : goal.items_size-returns-then-d-eq0
items_size-returns-then-d-eq0 t c =
    let a = c.args in
    let d = c.read_node-d in
    listed_last a.item a.ws.now a.n d.result d.ensures c.lower_size-x.result c.lower_size-x.ensures c.add_sizes.result c.add_sizes.ensures c.if-d-eq0.true

pub items_size-returns : goal.items_size-returns
items_size-returns t c =
    let a = c.args in
    let d = c.read_node-d in
    listed_more a.item a.ws.now a.n d.result d.ensures c.lower_size-x.result c.lower_size-x.ensures c.lower_items_size-y.result c.lower_items_size-y.ensures c.add_sizes-2.result c.add_sizes-2.ensures c.add_sizes-3.result c.add_sizes-3.ensures c.if-d-eq0.false

pub lower_items_size-returns-then-b-n : goal.lower_items_size-returns-then-b-n
lower_items_size-returns-then-b-n t c =
    let a = c.args in
    listed_lower a.item a.ws.now a.n a.a a.a c.items_size.result refl c.if-b-n.true c.items_size.ensures

pub lower_items_size-returns : goal.lower_items_size-returns
lower_items_size-returns t c =
    let a = c.args in
    listed_not_lower a.item a.ws.now a.n a.a a.a c.add_sizes.result refl c.if-b-n.false c.add_sizes.ensures

pub lower_size-returns-then-b-n : goal.lower_size-returns-then-b-n
lower_size-returns-then-b-n t c =
    let a = c.args in
    size_lower a.item a.ws.now a.n a.a a.a c.size_of.result refl c.if-b-n.true c.size_of.ensures

pub lower_size-returns : goal.lower_size-returns
lower_size-returns t c =
    let a = c.args in
    size_not_lower a.item a.ws.now a.n a.a a.a refl c.if-b-n.false

pub size_of-returns-in-Ok-Negated : goal.size_of-returns-in-Ok-Negated
size_of-returns-in-Ok-Negated t c =
    let a = c.args in
    let d = c.read_node-d in
    size_negated a.item a.ws.now a.n d.result d.ensures c.lower_size.result c.lower_size.ensures c.add_sizes.result c.add_sizes.ensures (kind_word Kind.Negated c.in-Ok-Negated.ensures c.in-Ok-Negated.field-0-is)

pub size_of-returns-in-Ok-Sum : goal.size_of-returns-in-Ok-Sum
size_of-returns-in-Ok-Sum t c =
    let a = c.args in
    let d = c.read_node-d in
    size_sum a.item a.ws.now a.n d.result d.ensures c.lower_size-x.result c.lower_size-x.ensures c.lower_size-y.result c.lower_size-y.ensures c.add_sizes-in-Ok-Sum.result c.add_sizes-in-Ok-Sum.ensures c.add_sizes-in-Ok-Sum-2.result c.add_sizes-in-Ok-Sum-2.ensures (kind_word Kind.Sum c.in-Ok-Sum.ensures c.in-Ok-Sum.field-0-is)

pub size_of-returns-in-Ok-Product : goal.size_of-returns-in-Ok-Product
size_of-returns-in-Ok-Product t c =
    let a = c.args in
    let d = c.read_node-d in
    size_product a.item a.ws.now a.n d.result d.ensures c.lower_size-x-in-Ok-Product.result c.lower_size-x-in-Ok-Product.ensures c.lower_size-y-in-Ok-Product.result c.lower_size-y-in-Ok-Product.ensures c.add_sizes-in-Ok-Product.result c.add_sizes-in-Ok-Product.ensures c.add_sizes-in-Ok-Product-2.result c.add_sizes-in-Ok-Product-2.ensures (kind_word Kind.Product c.in-Ok-Product.ensures c.in-Ok-Product.field-0-is)

pub size_of-returns-in-Ok-Scaled : goal.size_of-returns-in-Ok-Scaled
size_of-returns-in-Ok-Scaled t c =
    let a = c.args in
    let d = c.read_node-d in
    size_scaled a.item a.ws.now a.n d.result d.ensures c.lower_size-in-Ok-Scaled.result c.lower_size-in-Ok-Scaled.ensures c.add_sizes-in-Ok-Scaled.result c.add_sizes-in-Ok-Scaled.ensures (kind_word Kind.Scaled c.in-Ok-Scaled.ensures c.in-Ok-Scaled.field-0-is)

pub size_of-returns-in-Ok-DistributePowers : goal.size_of-returns-in-Ok-DistributePowers
size_of-returns-in-Ok-DistributePowers t c =
    let a = c.args in
    let d = c.read_node-d in
    size_powers a.item a.ws.now a.n d.result d.ensures c.lower_size-base.result c.lower_size-base.ensures c.lower_items_size-items.result c.lower_items_size-items.ensures c.add_sizes-in-Ok-DistributePowers.result c.add_sizes-in-Ok-DistributePowers.ensures c.add_sizes-in-Ok-DistributePowers-2.result c.add_sizes-in-Ok-DistributePowers-2.ensures (kind_word Kind.DistributePowers c.in-Ok-DistributePowers.ensures c.in-Ok-DistributePowers.field-0-is)

pub size_of-returns-in_default : goal.size_of-returns-in_default
size_of-returns-in_default t c =
    let a = c.args in
    let d = c.read_node-d in
    let h = c.in_default.in_default-own.refused-1 in
    size_leaf a.item a.ws.now a.n d.result d.ensures c.in_default.ensures (λ z. h.1 (rw z)) (λ z. h.2 (rw z)) (λ z. h.3 (rw z)) (λ z. h.4 (rw z)) (λ z. h.5 (rw z))

pub size_of-returns-in_default-2 : goal.size_of-returns-in_default-2
size_of-returns-in_default-2 t c =
    let a = c.args in
    let d = c.read_node-d in
    size_none a.item a.ws.now a.n d.result d.ensures (no_kind d.result.kind c.try_from.result c.try_from.ensures c.in_default.is)

pub size_of-returns-then-d : goal.size_of-returns-then-d
size_of-returns-then-d t c =
    let a = c.args in
    let d = c.read_node-d in
    size_other a.item a.ws.now a.n d.result d.ensures (λ e. omega arith) (λ e. omega arith) (λ e. omega arith) (λ e. omega arith) (λ e. omega arith)
