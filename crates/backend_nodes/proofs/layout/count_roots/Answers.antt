-- The roots passed are counted.
use Rattle.backend_nodes.proofs.layout.Counts.{rooted_none, rooted_room, rooted_more}
use Rattle.backend_nodes.proofs.layout.count_roots.Goals as goal

pub loop-root-init : goal.loop-root-init
loop-root-init c = rooted_none c.args.roots.now c.args.counts.now

pub count_name-requires : goal.count_name-requires
count_name-requires c =
    rooted_room c.args.roots.now c.args.counts.now c.loop-root.counts c.loop-root.root-index c.loop-root.invariant c.loop-root-test.true c.requires

pub loop-root-preserved : goal.loop-root-preserved
loop-root-preserved c =
    rooted_more c.args.roots.now c.args.counts.now c.loop-root.counts c.loop-root.root-index c.loop-root.invariant c.loop-root-test.true c.count_name.new.counts c.count_name.ensures
