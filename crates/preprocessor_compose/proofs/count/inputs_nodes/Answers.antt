use Prim.Native.Nat.{ℕ, ◌+◌}
use Rattle.expression.specs.Expr.{Expr}
use Rattle.preprocessor.proofs.Counts as counts
use Rattle.preprocessor_constraints.specs.Lookups.{side_of}
use Rattle.preprocessor_constraints.specs.declared.lookup.LookupSide.TheVariants.{Input}
use native.Mathlib.Omega.{arith}
use Rattle.preprocessor_compose.specs.Counted.{item_of}
use Rattle.preprocessor_compose.proofs.count.inputs_nodes.Goals as goal

pub loop-i-init : goal.loop-i-init
loop-i-init c =
    let a = c.args.group.now in
    (omega arith, counts.count_none (item_of c.args.counted) (λ i. side_of Input a.lookups (a.members.first + i)))

pub loop-i-preserved : goal.loop-i-preserved
loop-i-preserved c =
    let a = c.args.group.now in
    let f : ℕ → Expr = λ i. side_of Input a.lookups (a.members.first + i) in
    (omega arith, counts.count_more (item_of c.args.counted) f c.loop-i.i c.add_sizes-sum.result c.loop-i.sum c.side_nodes-x.result c.add_sizes-sum.ensures c.loop-i.invariant.1 c.side_nodes-x.ensures)
