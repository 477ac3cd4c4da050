use Prim.Native.Nat.{ℕ, ◌+◌, ◌*◌, min}
use Rattle.expression.specs.Expr.{Expr}
use Rattle.expression.specs.Flat.{largest_size}
use Rattle.expression.specs.Walks.{weight}
use Rattle.expression.specs.Nodes.{expr_of}
use Rattle.preprocessor.proofs.Counts as counts
use lib.ListN.{get_or}
use mathlib.Core.Path.{◌≡◌, ap, ◌∙◌}
use native.Mathlib.Omega.{arith}
use Rattle.preprocessor_compose.specs.Counted.{item_of}
use Rattle.preprocessor_compose.proofs.count.roots_nodes.Goals as goal

pub loop-i-init : goal.loop-i-init
loop-i-init c =
    (omega arith, counts.count_none (item_of c.args.counted) (λ j. expr_of c.args.user.now (get_or c.args.words.now (c.args.roots.first + j * c.args.step) 0)))

pub loop-i-preserved : goal.loop-i-preserved
loop-i-preserved c =
    let a = c.args in
    let f : ℕ → Expr = λ j. expr_of a.user.now (get_or a.words.now (a.roots.first + j * a.step) 0) in
    let e : c.size_of.result ≡ min largest_size (weight (item_of a.counted) (f c.loop-i.i)) = c.size_of.ensures ∙ ap (λ (k : ℕ). min largest_size (weight k (f c.loop-i.i))) c.item.ensures.number in
    (omega arith, counts.count_more (item_of a.counted) f c.loop-i.i c.add_sizes-sum.result c.loop-i.sum c.size_of.result c.add_sizes-sum.ensures c.loop-i.invariant.1 e)
