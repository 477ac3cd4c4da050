use Prim.Native.Nat.{◌+◌}
use Rattle.expression_degree.proofs.+items_size_lower_items_size_lower_size_size_of.Given as goal

abbrev pub decreases-items_size : goal.decreases-items_size
decreases-items_size l = l.n + l.n + 1

abbrev pub decreases-lower_items_size : goal.decreases-lower_items_size
decreases-lower_items_size l = l.n + l.n

abbrev pub decreases-lower_size : goal.decreases-lower_size
decreases-lower_size l = l.n + l.n

abbrev pub decreases-size_of : goal.decreases-size_of
decreases-size_of l = l.n + l.n + 1
