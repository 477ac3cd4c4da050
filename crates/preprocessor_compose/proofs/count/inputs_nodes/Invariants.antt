use Prim.Native.Nat.{◌+◌, ◌≤◌, min}
use Rattle.expression.specs.Flat.{largest_size}
use Rattle.lists.specs.Lists.{tabulate}
use Rattle.preprocessor.specs.Count.{nodes_in}
use Rattle.preprocessor_constraints.specs.Lookups.{side_of}
use Rattle.preprocessor_constraints.specs.declared.lookup.LookupSide.TheVariants.{Input}
use mathlib.Core.Path.{◌≡◌}
use Rattle.preprocessor_compose.specs.Counted.{item_of}
use Rattle.preprocessor_compose.proofs.count.inputs_nodes.Given as goal

abbrev pub invariant-loop-i : goal.invariant-loop-i
invariant-loop-i l = (l.i ≤ l.group.members.count) × (l.sum ≡ min largest_size (nodes_in (item_of l.counted) (tabulate (λ i. side_of Input l.group.lookups (l.group.members.first + i)) l.i)))
