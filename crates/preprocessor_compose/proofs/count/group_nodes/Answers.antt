use Prim.Native.Nat.{◌+◌, ◌*◌}
use Rattle.expression.specs.Walks.{weight}
use Rattle.preprocessor.proofs.Counts as counts
use Rattle.preprocessor_constraints.specs.Groups.{inputs_of, table_of}
use Rattle.preprocessor.specs.Count.{nodes_in}
use mathlib.Core.Path.{refl}
use Rattle.preprocessor_compose.specs.Counted.{item_of}
use Rattle.preprocessor_compose.proofs.count.group_nodes.Goals as goal

pub returns : goal.returns
returns c =
    let a = c.args.group.now in
    counts.group_counted (item_of c.args.counted) a.members.count c.inputs_nodes-inputs.result c.side_nodes-table.result c.add_sizes-x.result ((a.members.count + 1) * c.add_sizes-x.result) c.add_sizes-z.result c.add_sizes-u.result c.add_sizes.result (nodes_in (item_of c.args.counted) (inputs_of a)) (weight (item_of c.args.counted) (table_of a)) c.inputs_nodes-inputs.ensures c.side_nodes-table.ensures c.add_sizes-x.ensures refl c.add_sizes-z.ensures c.add_sizes-u.ensures c.add_sizes.ensures
