use Prim.Native.Nat.{◌+◌, ◌-◌, ◌*◌}
use Rattle.expression_same.proofs.+lower_items_same_at_same_items_same_lower.Given as goal

abbrev pub decreases-lower_items : goal.decreases-lower_items
decreases-lower_items l = 4 * (l.p - 1 + (l.q - 1)) + 3

abbrev pub decreases-same_at : goal.decreases-same_at
decreases-same_at l = 4 * (l.p + l.q)

abbrev pub decreases-same_items : goal.decreases-same_items
decreases-same_items l = 4 * (l.p + l.q) + 2

abbrev pub decreases-same_lower : goal.decreases-same_lower
decreases-same_lower l = 4 * (l.p - 1 + (l.q - 1)) + 1
