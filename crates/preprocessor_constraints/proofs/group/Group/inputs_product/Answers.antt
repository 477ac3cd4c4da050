use Prim.Native.Nat.{ℕ, ◌+◌}
use Rattle.expression.specs.Expr.{Expr}
use Rattle.preprocessor.proofs.GroupWritten as groups
use Rattle.preprocessor.specs.ComposeWords.{input_side}
use lib.IntN.{pos}
use mathlib.Core.Path.{refl}
use native.Mathlib.Omega.{arith}
use Rattle.preprocessor_constraints.proofs.group.Group.inputs_product.Goals as goal

pub loop-i-init : goal.loop-i-init
loop-i-init c =
    let a = c.args.self.now.lookups in
    let f : ℕ → Expr = λ i. input_side a.user.now a.widths.now a.pairs.now a.beta (c.args.self.now.members.first + i) in
    (omega arith, ((groups.from_none f c.query-x.ensures).number, (refl, λ d w. groups.from_none f w)))

pub side-y-requires-clause-room : goal.side-y-requires-clause-room
side-y-requires-clause-room c =
    let a = c.args.self.now.lookups in
    let g = c.args.self.now in
    let r = groups.from_room (λ i. input_side a.user.now a.widths.now a.pairs.now a.beta (c.args.self.now.members.first + i)) (Expr.poly c.args.q (pos 0)) c.loop-i.i c.args.self.now.members.count (omega arith) in
    omega (arith, c.requires, c.loop-i.invariant.1.0)

pub product-x-requires : goal.product-x-requires
product-x-requires c =
    let a = c.args.self.now.lookups in
    let r = groups.from_room (λ i. input_side a.user.now a.widths.now a.pairs.now a.beta (c.args.self.now.members.first + i)) (Expr.poly c.args.q (pos 0)) c.loop-i.i c.args.self.now.members.count (omega arith) in
    omega (arith, c.requires, c.loop-i.invariant.1.0, c.side-y.ensures.number)

pub loop-i-preserved : goal.loop-i-preserved
loop-i-preserved c =
    let a = c.args.self.now.lookups in
    let f : ℕ → Expr = λ i. input_side a.user.now a.widths.now a.pairs.now a.beta (c.args.self.now.members.first + i) in
    let e : Expr = Expr.poly c.args.q (pos 0) in
    (omega arith, ((groups.from_more f e c.loop-i.i (c.loop-i.invariant.1.1.1 c.args.out.now c.query-x.ensures) c.side-y.ensures c.product-x.ensures).number, (omega arith, λ d u. groups.from_more f e c.loop-i.i (c.loop-i.invariant.1.1.1 d u) c.side-y.ensures c.product-x.ensures)))
