use Rattle.lists.proofs.Runs as runs
use Prim.Native.Nat.{ℕ, ◌<◌}
use Rattle.expression.specs.Expr.{Expr}
use Rattle.preprocessor.proofs.Counts as counts
use Rattle.preprocessor.proofs.ComposeWords as trees
use Rattle.preprocessor.specs.Compose.{lookup_tree_of}
use Rattle.preprocessor.specs.ComposeWords.{groups_from_words}
use lib.ListN.{length}
use mathlib.Core.Path.{refl, sym}
use native.Mathlib.Omega.{arith}
use Rattle.preprocessor_compose.specs.Counted.{item_of}
use Rattle.preprocessor_compose.proofs.count.groups_nodes.Goals as goal

pub loop-j-init : goal.loop-j-init
loop-j-init c =
    let a = c.args in
    (omega arith, (sym (runs.total_none c.args.words.now.sizes.now), counts.count_none (item_of a.counted) (lookup_tree_of c.args.words.now.params (groups_from_words c.args.words.now.user.now c.args.words.now.sizes.now c.args.words.now.widths.now c.args.words.now.pairs.now))))

pub invariant_of-members : goal.invariant_of-members
invariant_of-members c =
    let w = c.args.words.now in
    let g = trees.group_in w.params w.user.now w.roots.now w.sizes.now w.widths.now w.pairs.now w.fits c.loop-j.j c.loop-j.first _ (omega arith) c.loop-j.invariant.1.0 refl in
    record { fits = omega (arith, g.0.all_members) }

pub invariant_of-group : goal.invariant_of-group
invariant_of-group c =
    let w = c.args.words.now in
    let g = trees.group_in w.params w.user.now w.roots.now w.sizes.now w.widths.now w.pairs.now w.fits c.loop-j.j c.loop-j.first _ (omega arith) c.loop-j.invariant.1.0 refl in
    record { some = g.0.some; all_members = g.0.all_members }

pub loop-j-preserved : goal.loop-j-preserved
loop-j-preserved c =
    let a = c.args in
    let w = c.args.words.now.fits in
    let f : ℕ → Expr = lookup_tree_of c.args.words.now.params (groups_from_words c.args.words.now.user.now c.args.words.now.sizes.now c.args.words.now.widths.now c.args.words.now.pairs.now) in
    let h : c.loop-j.j < length c.args.words.now.sizes.now = omega (arith, w.all_groups) in
    let e = counts.group_is (item_of a.counted) c.args.words.now.params c.args.words.now.user.now c.args.words.now.sizes.now c.args.words.now.widths.now c.args.words.now.pairs.now c.loop-j.j c.loop-j.first _ c.group_nodes-x.result w.all_pairs w.all_members w.some_members h c.loop-j.invariant.1.0 refl c.group_nodes-x.ensures in
    (omega arith, (runs.total_step c.args.words.now.sizes.now c.loop-j.j c.loop-j.first _ h c.loop-j.invariant.1.0 refl, counts.count_more (item_of a.counted) f c.loop-j.j c.add_sizes-sum.result c.loop-j.sum c.group_nodes-x.result c.add_sizes-sum.ensures c.loop-j.invariant.1.1 e))
