use mathlib.Core.Path.{sym}
use native.Mathlib.Omega.{arith}
use Rattle.lists.proofs.Window.{write_window_one, write_window_below, write_window_beyond}
use Rattle.expression_write.proofs.put.Goals as goal

pub returns-then-j-nodes : goal.returns-then-j-nodes
returns-then-j-nodes c =
    let s = c.in-Some.ensures in rw s.1 (sym (write_window_one _ _ _ _ (omega arith) (omega arith)))

pub returns-else-j-nodes : goal.returns-else-j-nodes
returns-else-j-nodes c =
    let s = c.in-Some.ensures in sym (write_window_beyond _ _ _ _ (omega arith))

pub returns-in_default : goal.returns-in_default
returns-in_default c =
    sym (write_window_below _ _ _ _ (omega (arith, c.in_default.ensures)))
