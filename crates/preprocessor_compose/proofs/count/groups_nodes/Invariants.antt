use Prim.Native.Nat.{◌≤◌, min}
use Rattle.expression.specs.Flat.{largest_size}
use Rattle.preprocessor.specs.Count.{nodes_in}
use Rattle.preprocessor.specs.Compose.{lookup_tree_of}
use Rattle.preprocessor.specs.ComposeWords.{groups_from_words}
use Rattle.lists.specs.Lists.{tabulate, total}
use lib.ListN.{take}
use mathlib.Core.Path.{◌≡◌}
use Rattle.preprocessor_compose.specs.Counted.{item_of}
use Rattle.preprocessor_compose.proofs.count.groups_nodes.Given as goal

abbrev pub invariant-loop-j : goal.invariant-loop-j
invariant-loop-j l = (l.j ≤ l.words.params.num_groups) × ((l.first ≡ total (take l.j l.words.sizes.now)) × (l.sum ≡ min largest_size (nodes_in (item_of l.counted) (tabulate (lookup_tree_of l.words.params (groups_from_words l.words.user.now l.words.sizes.now l.words.widths.now l.words.pairs.now)) l.j))))
