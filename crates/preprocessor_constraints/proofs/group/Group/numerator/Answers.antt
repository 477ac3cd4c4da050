use Prim.Native.Nat.{◌+◌, ◌≤◌}
use Rattle.expression.proofs.Written as written
use Rattle.preprocessor.proofs.GroupWritten as groups
use Rattle.preprocessor.specs.ComposeWords.{input_side, table_side}
use native.Mathlib.Omega.{arith}
use Rattle.preprocessor_constraints.proofs.group.Group.numerator.Goals as goal

pub side-t-requires-clause-room : goal.side-t-requires-clause-room
side-t-requires-clause-room c =
    let a = c.args.self.now.lookups in
    let g = c.args.self.now in
    let r = groups.table_room (table_side a.user.now a.widths.now a.pairs.now a.beta c.args.self.now.members.first) (λ i. input_side a.user.now a.widths.now a.pairs.now a.beta (c.args.self.now.members.first + i)) c.args.self.now.members.count in
    omega (arith, c.requires)

pub returns-then-self-lt2 : goal.returns-then-self-lt2
returns-then-self-lt2 c =
    let a = c.args.self.now.lookups in
    written.written_as (groups.numerator_few (table_side a.user.now a.widths.now a.pairs.now a.beta c.args.self.now.members.first) (λ i. input_side a.user.now a.widths.now a.pairs.now a.beta (c.args.self.now.members.first + i)) c.args.self.now.members.count c.if-self-lt2.true) c.side-t.ensures

pub products_sum-s-requires-clause-room : goal.products_sum-s-requires-clause-room
products_sum-s-requires-clause-room c =
    let a = c.args.self.now.lookups in
    let h : 2 ≤ c.args.self.now.members.count = omega (arith, c.if-self-lt2.false) in
    let r = groups.sums_room (table_side a.user.now a.widths.now a.pairs.now a.beta c.args.self.now.members.first) (λ i. input_side a.user.now a.widths.now a.pairs.now a.beta (c.args.self.now.members.first + i)) c.args.self.now.members.count h in
    omega (arith, c.requires, c.side-t.ensures.number)

pub product-requires : goal.product-requires
product-requires c =
    let a = c.args.self.now.lookups in
    let h : 2 ≤ c.args.self.now.members.count = omega (arith, c.if-self-lt2.false) in
    let r = groups.sums_room (table_side a.user.now a.widths.now a.pairs.now a.beta c.args.self.now.members.first) (λ i. input_side a.user.now a.widths.now a.pairs.now a.beta (c.args.self.now.members.first + i)) c.args.self.now.members.count h in
    omega (arith, c.requires, c.side-t.ensures.number, c.products_sum-s.ensures.number)

pub returns : goal.returns
returns c =
    let a = c.args.self.now.lookups in
    let h : 2 ≤ c.args.self.now.members.count = omega (arith, c.if-self-lt2.false) in
    written.written_as (groups.numerator_many (table_side a.user.now a.widths.now a.pairs.now a.beta c.args.self.now.members.first) (λ i. input_side a.user.now a.widths.now a.pairs.now a.beta (c.args.self.now.members.first + i)) c.args.self.now.members.count h) (written.written_product c.side-t.ensures c.products_sum-s.ensures c.product.ensures)
