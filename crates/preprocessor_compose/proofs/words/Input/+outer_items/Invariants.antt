use Prim.Native.Nat.{◌-◌}
use Rattle.preprocessor_compose.proofs.words.Input.+outer_items.Given as goal

abbrev pub decreases-outer_items : goal.decreases-outer_items
decreases-outer_items l = l.self.now.words.now.params.num_groups - l.i
