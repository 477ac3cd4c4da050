use Prim.Native.Nat.{ℕ, ◌+◌}
use Rattle.backend.specs.Constraints.{sum_of}
use Rattle.expression.proofs.Written as written
use Rattle.expression.specs.Expr.{Expr}
use Rattle.expression.specs.Flat.{size}
use Rattle.preprocessor.proofs.GroupWritten as groups
use Rattle.preprocessor.specs.ComposeWords.{input_side}
use mathlib.Core.List.{List}
use mathlib.Core.Path.{refl, ap}
use native.Mathlib.Omega.{arith}
use Rattle.preprocessor_constraints.proofs.group.Group.products_sum.Invariants.{but}
use Rattle.preprocessor_constraints.proofs.group.Group.products_sum.Goals as goal

pub product_besides-x-requires-clause-room : goal.product_besides-x-requires-clause-room
product_besides-x-requires-clause-room c =
    let a = c.args.self.now.lookups in
    let n = c.args.self.now.members.count in
    let r = groups.first_sum_room (but a.user.now a.widths.now a.pairs.now a.beta c.args.self.now.members.first n) n (omega (arith, c.requires.more)) in
    let s = ap (λ (xs : List Expr). size (sum_of xs)) (groups.products_are (λ i. input_side a.user.now a.widths.now a.pairs.now a.beta (c.args.self.now.members.first + i)) n) in
    omega (arith, c.requires.room)

pub loop-k-init : goal.loop-k-init
loop-k-init c =
    let a = c.args.self.now.lookups in
    (omega arith, (omega (arith, c.requires.more), ((groups.sum_first (but a.user.now a.widths.now a.pairs.now a.beta c.args.self.now.members.first c.args.self.now.members.count) c.product_besides-x.ensures).number, (refl, λ d w. w))))

pub product_besides-y-requires-clause-room : goal.product_besides-y-requires-clause-room
product_besides-y-requires-clause-room c =
    let a = c.args.self.now.lookups in
    let n = c.args.self.now.members.count in
    let r = groups.sum_room (but a.user.now a.widths.now a.pairs.now a.beta c.args.self.now.members.first n) c.loop-k.k n c.loop-k.invariant.0 (omega arith) in
    let s = ap (λ (xs : List Expr). size (sum_of xs)) (groups.products_are (λ i. input_side a.user.now a.widths.now a.pairs.now a.beta (c.args.self.now.members.first + i)) n) in
    omega (arith, c.requires.room, c.loop-k.invariant.1.1.0)

pub sum-x-requires : goal.sum-x-requires
sum-x-requires c =
    let a = c.args.self.now.lookups in
    let n = c.args.self.now.members.count in
    let r = groups.sum_room (but a.user.now a.widths.now a.pairs.now a.beta c.args.self.now.members.first n) c.loop-k.k n c.loop-k.invariant.0 (omega arith) in
    let s = ap (λ (xs : List Expr). size (sum_of xs)) (groups.products_are (λ i. input_side a.user.now a.widths.now a.pairs.now a.beta (c.args.self.now.members.first + i)) n) in
    omega (arith, c.requires.room, c.loop-k.invariant.1.1.0, c.product_besides-y.ensures.number)

pub loop-k-preserved : goal.loop-k-preserved
loop-k-preserved c =
    let a = c.args.self.now.lookups in
    let F : ℕ → Expr = but a.user.now a.widths.now a.pairs.now a.beta c.args.self.now.members.first c.args.self.now.members.count in
    (omega arith, (omega arith, ((groups.sum_more F c.loop-k.k c.loop-k.invariant.0 (c.loop-k.invariant.1.1.1.1 c.args.out.now (groups.sum_first F c.product_besides-x.ensures)) c.product_besides-y.ensures c.sum-x.ensures).number, (omega arith, λ d u. groups.sum_more F c.loop-k.k c.loop-k.invariant.0 (c.loop-k.invariant.1.1.1.1 d u) c.product_besides-y.ensures c.sum-x.ensures))))

pub returns : goal.returns
returns c =
    let a = c.args.self.now.lookups in
    let F : ℕ → Expr = but a.user.now a.widths.now a.pairs.now a.beta c.args.self.now.members.first c.args.self.now.members.count in
    written.written_as (ap sum_of (groups.products_are (λ i. input_side a.user.now a.widths.now a.pairs.now a.beta (c.args.self.now.members.first + i)) c.args.self.now.members.count))
    (groups.sum_all F c.loop-k.k c.args.self.now.members.count (omega arith) (c.loop-k.invariant.1.1.1.1 c.args.out.now (groups.sum_first F c.product_besides-x.ensures)))
