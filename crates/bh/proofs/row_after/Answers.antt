-- `row_after` meets its contract.
use mathlib.Core.Path.{ap, ◌∙◌}
use native.Mathlib.Omega.{arith}
use Rattle.bh.specs.Rows.{next_row}
use Rattle.bh.proofs.Order.{row_lt}
use Rattle.bh.proofs.Rows.{row_first, row_on, one_row}
use Rattle.bh.proofs.row_after.Goals as goal

pub returns-then-place-eq0 : goal.returns-then-place-eq0
returns-then-place-eq0 c =
    let a = c.args in
    (row_first a.k a.place c.if-place-eq0.true, one_row a.k c.requires.0)

pub next-requires : goal.next-requires
next-requires c =
    let pre = c.requires in
    let a = c.args in
    (omega (arith, pre.1), rw pre.2 (row_lt a.k pre.0 pre.1 a.place))

pub returns : goal.returns
returns c =
    let a = c.args in
    (c.next.ensures.0 ∙ ap (next_row a.k) c.requires.2 ∙ row_on a.k a.place (omega (arith, c.if-place-eq0.false)), c.next.ensures.1)
