-- `values` meets its contract: a row a turn.
use mathlib.Core.Path.{sym, ap, ◌∙◌}
use Prim.Native.Nat.{ℕ, ◌^◌, ◌<◌}
use native.Mathlib.Omega.{arith}
use Rattle.bh.proofs.Order.{row_zero}
use Rattle.bh.proofs.Rows.{row_in, placed_at}
use Rattle.lists.proofs.Turns.{turn_start, turn_more, turn_end}
use Rattle.prover.proofs.Rows.{row_turns}
use Rattle.oracle_entry.specs.Entry.{value_word}
use Rattle.oracle_entry.proofs.Answers.{from_zero, zero_on, value_word_is}
use Rattle.oracle_entry.proofs.EveryRow.values.Goals as goal

pub rows_of-rows-requires : goal.rows_of-rows-requires
rows_of-rows-requires c = omega (arith, c.args.self.now.order.1)

pub loop-place-init : goal.loop-place-init
loop-place-init c =
    (sym (row_zero c.args.self.now.k), turn_start _ _ _ _ (row_turns c.args.self.now.k c.args.self.now.order.0 c.args.self.now.order.1) c.args.out.now 0 (from_zero _ _ c.requires))

pub invariant_of-over : goal.invariant_of-over
invariant_of-over c =
    let self = c.args.self.now in
    record {
      small = self.small;
      in_order =
          record {
            positive = self.order.0;
            small = self.order.1;
            inside = row_in self.k c.loop-place.row c.loop-place.place self.order.0 self.order.1 c.loop-place.invariant.0;
            placed = placed_at self.k c.loop-place.row c.loop-place.place self.order.0 self.order.1 (omega (arith, c.loop-place-test.true, c.rows_of-rows.ensures)) c.loop-place.invariant.0;
          };
    }

pub offset_bounds-out-row : goal.offset_bounds-out-row
offset_bounds-out-row c =
    omega (arith, c.requires, c.loop-place.invariant.1.size, row_in c.args.self.now.k c.loop-place.row c.loop-place.place c.args.self.now.order.0 c.args.self.now.order.1 c.loop-place.invariant.0)

pub bounds-out-row : goal.bounds-out-row
bounds-out-row c =
    omega (arith, c.requires, c.loop-place.invariant.1.size, row_in c.args.self.now.k c.loop-place.row c.loop-place.place c.args.self.now.order.0 c.args.self.now.order.1 c.loop-place.invariant.0)

pub row_after-row-requires : goal.row_after-row-requires
row_after-row-requires c =
    (c.args.self.now.order.0, c.args.self.now.order.1, c.loop-place.invariant.0)

pub loop-place-preserved : goal.loop-place-preserved
loop-place-preserved c =
    let a = c.args in
    let self = a.self.now in
    let inside : c.loop-place.place < 2 ^ self.k = omega (arith, c.loop-place-test.true, c.rows_of-rows.ensures) in (
      c.row_after-row.ensures.0,
      turn_more _ _ _ _ (row_turns self.k c.args.self.now.order.0 c.args.self.now.order.1) a.out.now 0 (from_zero _ _ c.requires) _ _ c.loop-place.invariant.1 inside _ (zero_on _ _ c.loop-place.invariant.0) _
          (value_word_is self.lent.nodes.now self.lent.circuit.now self.lent.witness.now self.lent.columns.now self.lent.challenges.now self.layout self.k self.lent.eq.now self.n c.loop-place.row c.loop-place.place _ _ _
          (placed_at self.k c.loop-place.row c.loop-place.place c.args.self.now.order.0 c.args.self.now.order.1 inside c.loop-place.invariant.0)
          c.word_at-e.ensures
          c.value-x.ensures
          c.from.ensures
          ∙ ap (λ (b : ℕ). value_word self.lent.nodes.now self.lent.circuit.now self.lent.witness.now self.lent.columns.now self.lent.challenges.now self.layout self.k self.lent.eq.now self.n b) c.loop-place.invariant.0),
    )

pub returns : goal.returns
returns c =
    turn_end _ _ _ _ (row_turns c.args.self.now.k c.args.self.now.order.0 c.args.self.now.order.1) c.args.out.now 0 (from_zero _ _ c.requires) _ _ c.loop-place.invariant.1 (omega (arith, c.loop-place-test.false, c.rows_of-rows.ensures))
