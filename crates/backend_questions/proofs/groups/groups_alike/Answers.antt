use Prim.Native.Nat.{◌<◌}
use native.Mathlib.Omega.{arith}
use Rattle.lists.proofs.All.{all_get}
use Rattle.backend.proofs.Alike.{likened_none, likened_more, likened_fails, likened_all, likened_fits}
use Rattle.backend_questions.proofs.groups.groups_alike.Goals as goal

pub loop-size-init : goal.loop-size-init
loop-size-init c = likened_none _ _ _ _

pub group_alike-requires : goal.group_alike-requires
group_alike-requires c = (likened_fits c.args.lookups.nodes.now c.args.lookups.widths.now c.args.lookups.pairs.now c.args.sizes.now _ _ c.loop-size.invariant c.requires.0, all_get (λ n. 0 < n) c.args.sizes.now c.requires.1 c.loop-size.size-index 0 c.loop-size-test.true)

pub returns-then-not-group_alike : goal.returns-then-not-group_alike
returns-then-not-group_alike c = likened_fails c.args.lookups.nodes.now c.args.lookups.widths.now c.args.lookups.pairs.now c.args.sizes.now _ _ c.loop-size.invariant c.loop-size-test.true _ c.group_alike.ensures (c.if-not-group_alike.true) c.args.lookups.all_pairs c.requires.0

pub overflow_add-first : goal.overflow_add-first
overflow_add-first c = let q = likened_fits c.args.lookups.nodes.now c.args.lookups.widths.now c.args.lookups.pairs.now c.args.sizes.now _ _ c.loop-size.invariant c.requires.0 in let g = c.type_inv in omega arith

pub loop-size-preserved : goal.loop-size-preserved
loop-size-preserved c = likened_more c.args.lookups.nodes.now c.args.lookups.widths.now c.args.lookups.pairs.now c.args.sizes.now _ _ c.loop-size.invariant c.loop-size-test.true _ c.group_alike.ensures (c.if-not-group_alike.false)

pub returns : goal.returns
returns c = likened_all c.args.lookups.nodes.now c.args.lookups.widths.now c.args.lookups.pairs.now c.args.sizes.now _ _ c.loop-size.invariant c.loop-size-test.false c.args.lookups.all_pairs c.requires.0
