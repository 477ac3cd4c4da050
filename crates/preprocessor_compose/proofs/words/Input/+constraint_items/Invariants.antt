use Prim.Native.Nat.{◌-◌}
use Rattle.preprocessor.specs.ComposeWords.{num_constraints}
use lib.ListN.{length}
use Rattle.preprocessor_compose.proofs.words.Input.+constraint_items.Given as goal

abbrev pub decreases-constraint_items : goal.decreases-constraint_items
decreases-constraint_items l = num_constraints (length l.self.now.words.now.roots.now) l.self.now.words.now.params - l.i
