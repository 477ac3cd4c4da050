-- `instance_column` meets its contract: the values are put at their places, through the row order once.
use mathlib.Core.Path.{sym, ap, ◌∙◌}
use Prim.Native.Nat.{ℕ, suc}
use native.Mathlib.Omega.{arith}
use lib.ListN.{get_or, replicate}
use native.Mathlib.Numerals.{add-one}
use lib.Pow.{pow-lt}
use Rattle.field.specs.Field.{val}
use Rattle.field.proofs.Elements.{val_el_mod}
use Rattle.bh.specs.Rows.{row_at, next_row}
use Rattle.bh.proofs.Order.{row_suc, row_next}
use Rattle.bh.proofs.Iter.{iter_zero}
use Rattle.lists.specs.Lists.{write_at}
use Rattle.prover.proofs.Instance.{place_start, place_more, place_end}
use Rattle.prover_instance.proofs.instance_column.Goals as goal

pub loop-value-init : goal.loop-value-init
loop-value-init c =
    let k = c.args.k in (
      sym (row_suc k 0 ∙ iter_zero (next_row k) 1),
      pow-lt {i = 0} {j = k} c.requires.0,
      λ d h e. place_start k c.args.values.now d c.args.at _ e,
    )

pub loop-value-preserved : goal.loop-value-preserved
loop-value-preserved c =
    let a = c.args in
    let k = a.k in
    let l = c.loop-value in (
      c.next-row.ensures.0 ∙ ap (next_row k) l.invariant.0 ∙ sym (row_next k l.value-index) ∙ ap (λ (x : ℕ). row_at k (suc x)) (sym (add-one l.value-index)),
      c.next-row.ensures.1,
      λ d h e.
          place_more k c.requires.0 (omega (arith, c.requires.1)) a.values.now l.value-index d a.at l.columns l.row _ l.invariant.0
          (c.from-in-loop-value.ensures ∙ ap val c.from.ensures ∙ val_el_mod (get_or a.values.now l.value-index 0))
          (omega arith) (omega arith) (omega arith) (l.invariant.2 d h e),
    )

pub returns : goal.returns
returns c =
    let a = c.args in
    let l = c.loop-value in
    l.invariant.2 a.columns.now c.requires.3
    (c.clear.ensures ∙ ap (λ (n : ℕ). write_at a.columns.now a.at (replicate n 0)) c.rows_of.ensures)
    ∙ place_end a.k a.values.now l.value-index (omega arith) a.columns.now a.at
