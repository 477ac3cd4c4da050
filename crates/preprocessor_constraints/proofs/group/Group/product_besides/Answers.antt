use Prim.Native.Nat.{ℕ, ◌+◌, ◌-◌}
use Rattle.expression.proofs.Written as written
use Rattle.expression.specs.Expr.{Expr, product_of}
use Rattle.expression.specs.Flat.{size}
use Rattle.preprocessor.proofs.GroupWritten as groups
use Rattle.preprocessor.proofs.Lists as lists
use Rattle.preprocessor.specs.ComposeWords.{input_side}
use mathlib.Core.List.{List}
use mathlib.Core.Path.{refl, sym, ap}
use native.Mathlib.Omega.{arith}
use Rattle.preprocessor_constraints.proofs.group.Group.product_besides.Goals as goal

pub side-x-requires-clause-room : goal.side-x-requires-clause-room
side-x-requires-clause-room c =
    let a = c.args.self.now.lookups in
    let g = c.args.self.now in
    let f : ℕ → Expr = λ i. input_side a.user.now a.widths.now a.pairs.now a.beta (c.args.self.now.members.first + i) in
    let e = groups.besides_is c.args.omit 0 c.besides.result c.besides.ensures.0 c.besides.ensures.1 in
    let h = groups.besides_below c.args.omit 0 c.args.self.now.members.count (omega (arith, c.requires.more)) in
    let r = groups.first_product_room (λ i. f (groups.besides c.args.omit i)) (c.args.self.now.members.count - 1) (omega (arith, c.requires.more)) in
    let s = ap (λ (xs : List Expr). size (product_of xs)) (groups.omit_nth f c.args.self.now.members.count c.args.omit c.requires.below) in
    let t = ap (λ (k : ℕ). size (f k)) e in
    omega (arith, c.requires.room)

pub loop-i-init : goal.loop-i-init
loop-i-init c =
    let a = c.args.self.now.lookups in
    let f : ℕ → Expr = λ i. input_side a.user.now a.widths.now a.pairs.now a.beta (c.args.self.now.members.first + i) in
    let e = groups.besides_is c.args.omit 0 c.besides.result c.besides.ensures.0 c.besides.ensures.1 in
    (omega arith, (omega (arith, c.requires.more), ((lists.product_one (λ i. f (groups.besides c.args.omit i)) (written.written_as (ap f (sym e)) c.side-x.ensures)).number, (refl, λ d w. w))))

pub side-y-requires-clause-room : goal.side-y-requires-clause-room
side-y-requires-clause-room c =
    let a = c.args.self.now.lookups in
    let g = c.args.self.now in
    let f : ℕ → Expr = λ i. input_side a.user.now a.widths.now a.pairs.now a.beta (c.args.self.now.members.first + i) in
    let e = groups.besides_is c.args.omit c.loop-i.i c.besides-in-loop-i.result c.besides-in-loop-i.ensures.0 c.besides-in-loop-i.ensures.1 in
    let h = groups.besides_below c.args.omit c.loop-i.i c.args.self.now.members.count (omega arith) in
    let r = groups.product_room (λ i. f (groups.besides c.args.omit i)) c.loop-i.i (c.args.self.now.members.count - 1) c.loop-i.invariant.0 (omega arith) in
    let s = ap (λ (xs : List Expr). size (product_of xs)) (groups.omit_nth f c.args.self.now.members.count c.args.omit c.requires.below) in
    let t = ap (λ (k : ℕ). size (f k)) e in
    omega (arith, c.requires.room, c.loop-i.invariant.1.1.0)

pub product-x-requires : goal.product-x-requires
product-x-requires c =
    let a = c.args.self.now.lookups in
    let f : ℕ → Expr = λ i. input_side a.user.now a.widths.now a.pairs.now a.beta (c.args.self.now.members.first + i) in
    let e = groups.besides_is c.args.omit c.loop-i.i c.besides-in-loop-i.result c.besides-in-loop-i.ensures.0 c.besides-in-loop-i.ensures.1 in
    let r = groups.product_room (λ i. f (groups.besides c.args.omit i)) c.loop-i.i (c.args.self.now.members.count - 1) c.loop-i.invariant.0 (omega arith) in
    let s = ap (λ (xs : List Expr). size (product_of xs)) (groups.omit_nth f c.args.self.now.members.count c.args.omit c.requires.below) in
    let t = ap (λ (k : ℕ). size (f k)) e in
    omega (arith, c.requires.room, c.loop-i.invariant.1.1.0, c.side-y.ensures.number)

pub loop-i-preserved : goal.loop-i-preserved
loop-i-preserved c =
    let a = c.args.self.now.lookups in
    let f : ℕ → Expr = λ i. input_side a.user.now a.widths.now a.pairs.now a.beta (c.args.self.now.members.first + i) in
    let F : ℕ → Expr = λ i. f (groups.besides c.args.omit i) in
    let e0 = groups.besides_is c.args.omit 0 c.besides.result c.besides.ensures.0 c.besides.ensures.1 in
    let e = groups.besides_is c.args.omit c.loop-i.i c.besides-in-loop-i.result c.besides-in-loop-i.ensures.0 c.besides-in-loop-i.ensures.1 in
    (omega arith, (omega arith, ((lists.product_more F c.loop-i.i c.loop-i.invariant.0 (c.loop-i.invariant.1.1.1.1 c.args.out.now (lists.product_one F (written.written_as (ap f (sym e0)) c.side-x.ensures))) (written.written_as (ap f (sym e)) c.side-y.ensures) c.product-x.ensures).number, (omega arith, λ d u. lists.product_more F c.loop-i.i c.loop-i.invariant.0 (c.loop-i.invariant.1.1.1.1 d u) (written.written_as (ap f (sym e)) c.side-y.ensures) c.product-x.ensures))))

pub returns : goal.returns
returns c =
    let a = c.args.self.now.lookups in
    let f : ℕ → Expr = λ i. input_side a.user.now a.widths.now a.pairs.now a.beta (c.args.self.now.members.first + i) in
    let F : ℕ → Expr = λ i. f (groups.besides c.args.omit i) in
    let e0 = groups.besides_is c.args.omit 0 c.besides.result c.besides.ensures.0 c.besides.ensures.1 in
    written.written_as (ap product_of (groups.omit_nth f c.args.self.now.members.count c.args.omit c.requires.below))
    (lists.product_all F c.loop-i.i (c.args.self.now.members.count - 1) (omega arith) (c.loop-i.invariant.1.1.1.1 c.args.out.now (lists.product_one F (written.written_as (ap f (sym e0)) c.side-x.ensures))))
