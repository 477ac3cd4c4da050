use Prim.Native.Nat.{◌-◌}
use Rattle.preprocessor_constraints.proofs.lookup.Lookups.+side_items.Given as goal

abbrev pub decreases-side_items : goal.decreases-side_items
decreases-side_items l = l.roots.count - l.i
