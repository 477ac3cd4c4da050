use Prim.Native.Nat.{◌+◌, ◌*◌}
use Rattle.expression.specs.Nodes.{expr_of}
use Rattle.expression.specs.Flat.{size, sizes, extra}
use Rattle.expression.proofs.Step.{low, low_items}
use Rattle.expression_write.proofs.+copy_base_copy_expr_copy_items_copy_low_copy_one_copy_pair_copy_powers.Given as goal

abbrev pub decreases-copy_base : goal.decreases-copy_base
decreases-copy_base l = size (low l.ws.now l.n l.base) * 4 + 4

abbrev pub decreases-copy_expr : goal.decreases-copy_expr
decreases-copy_expr l = size (expr_of l.ws.now l.n) * 4 + 2

abbrev pub decreases-copy_items : goal.decreases-copy_items
decreases-copy_items l = (sizes (low_items l.ws.now l.bound l.item) + size (low l.ws.now l.n l.base) + extra (low_items l.ws.now l.bound l.item) + 1) * 4 + 1

abbrev pub decreases-copy_low : goal.decreases-copy_low
decreases-copy_low l = size (low l.ws.now l.n l.a) * 4 + 3

abbrev pub decreases-copy_one : goal.decreases-copy_one
decreases-copy_one l = size (low l.ws.now l.n l.a) * 4 + 5

abbrev pub decreases-copy_pair : goal.decreases-copy_pair
decreases-copy_pair l = (size (low l.ws.now l.n l.a) + size (low l.ws.now l.n l.b)) * 4 + 5

abbrev pub decreases-copy_powers : goal.decreases-copy_powers
decreases-copy_powers l = (sizes (low_items l.ws.now l.n l.item) + size (low l.ws.now l.n l.base) + extra (low_items l.ws.now l.n l.item) + 2) * 4 + 1
