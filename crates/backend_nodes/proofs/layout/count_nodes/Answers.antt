-- The names of the nodes passed are counted.
use Rattle.backend_nodes.proofs.layout.Counts.{noded_none, noded_room, noded_more}
use Rattle.backend_nodes.proofs.layout.count_nodes.Goals as goal

pub loop-m-init : goal.loop-m-init
loop-m-init c = noded_none c.args.nodes.now c.args.counts.now

pub count_named-requires : goal.count_named-requires
count_named-requires c =
    noded_room c.args.nodes.now c.args.counts.now c.loop-m.counts c.loop-m.m c.loop-m.invariant c.loop-m-test.true c.requires

pub loop-m-preserved : goal.loop-m-preserved
loop-m-preserved c =
    noded_more c.args.nodes.now c.args.counts.now c.loop-m.counts c.loop-m.m c.loop-m.invariant c.loop-m-test.true c.count_named.new.counts c.count_named.ensures
