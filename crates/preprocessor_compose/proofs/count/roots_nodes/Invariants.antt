use Prim.Native.Nat.{◌+◌, ◌*◌, ◌≤◌, min}
use Rattle.expression.specs.Flat.{largest_size}
use Rattle.expression.specs.Nodes.{expr_of}
use Rattle.preprocessor.specs.Count.{nodes_in}
use Rattle.lists.specs.Lists.{tabulate}
use lib.ListN.{get_or}
use mathlib.Core.Path.{◌≡◌}
use Rattle.preprocessor_compose.specs.Counted.{item_of}
use Rattle.preprocessor_compose.proofs.count.roots_nodes.Given as goal

abbrev pub invariant-loop-i : goal.invariant-loop-i
invariant-loop-i l = (l.i ≤ l.roots.count) × (l.sum ≡ min largest_size (nodes_in (item_of l.counted) (tabulate (λ j. expr_of l.user (get_or l.words (l.roots.first + j * l.step) 0)) l.i)))
