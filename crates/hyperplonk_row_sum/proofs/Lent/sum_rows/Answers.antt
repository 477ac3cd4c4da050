-- `sum_rows` meets its contract: after t turns the sum is that over the first t rows of the order.
use mathlib.Core.Path.{refl, sym, ◌∙◌}
use Prim.Native.Nat.{◌^◌, ◌<◌}
use native.Mathlib.Omega.{arith}
use Rattle.bh.proofs.Order.{row_zero}
use Rattle.hyperplonk_row_sum.proofs.Answer.{summable}
use Rattle.hyperplonk_row_sum.proofs.Rows.{added_none, added_more}
use Rattle.hyperplonk_row_sum.proofs.Summed.{k_low, k_high, values_there, root_there, root_node, layout_small, placed, value_is, sum_is}
use Rattle.hyperplonk_row_sum.proofs.Lent.sum_rows.Goals as goal

pub rows_of-rows-requires : goal.rows_of-rows-requires
rows_of-rows-requires c = omega (arith, k_high _ _ _ _ _ (summable c.args.prepared.now.circuit.words.now c.args.self.now.witness.now c.args.self.now.columns.now c.args.self.now.nodes.now c.args.self.now.challenges.now c.args.self.now.y.now c.args.prepared.now.circuit.accepted c.requires _ c.sum_layout-layout.ensures _ c.k_of-k.ensures))

pub overflow_sub-root : goal.overflow_sub-root
overflow_sub-root c = root_there _ _ _ _ _ (summable c.args.prepared.now.circuit.words.now c.args.self.now.witness.now c.args.self.now.columns.now c.args.self.now.nodes.now c.args.self.now.challenges.now c.args.self.now.y.now c.args.prepared.now.circuit.accepted c.requires _ c.sum_layout-layout.ensures _ c.k_of-k.ensures)

pub loop-place-init : goal.loop-place-init
loop-place-init c = (sym (row_zero c.k_of-k.result), added_none _ _)

pub eq_at-requires : goal.eq_at-requires
eq_at-requires c = values_there _ _ _ _ _ (summable c.args.prepared.now.circuit.words.now c.args.self.now.witness.now c.args.self.now.columns.now c.args.self.now.nodes.now c.args.self.now.challenges.now c.args.self.now.y.now c.args.prepared.now.circuit.accepted c.requires _ c.sum_layout-layout.ensures _ c.k_of-k.ensures)

pub invariant_of-over : goal.invariant_of-over
invariant_of-over c =
    let pre = (summable c.args.prepared.now.circuit.words.now c.args.self.now.witness.now c.args.self.now.columns.now c.args.self.now.nodes.now c.args.self.now.challenges.now c.args.self.now.y.now c.args.prepared.now.circuit.accepted c.requires _ c.sum_layout-layout.ensures _ c.k_of-k.ensures) in
    let l = c.loop-place in
    record {
      small = layout_small _ _ _ _ _ pre;
      in_order = placed _ _ _ _ _ pre l.row l.place (omega (arith, c.loop-place-test.true, c.rows_of-rows.ensures)) l.invariant.0 _;
    }

pub value-x-requires : goal.value-x-requires
value-x-requires c = root_node _ _ _ _ _ (summable c.args.prepared.now.circuit.words.now c.args.self.now.witness.now c.args.self.now.columns.now c.args.self.now.nodes.now c.args.self.now.challenges.now c.args.self.now.y.now c.args.prepared.now.circuit.accepted c.requires _ c.sum_layout-layout.ensures _ c.k_of-k.ensures)

pub row_after-row-requires : goal.row_after-row-requires
row_after-row-requires c =
    let pre = (summable c.args.prepared.now.circuit.words.now c.args.self.now.witness.now c.args.self.now.columns.now c.args.self.now.nodes.now c.args.self.now.challenges.now c.args.self.now.y.now c.args.prepared.now.circuit.accepted c.requires _ c.sum_layout-layout.ensures _ c.k_of-k.ensures) in
    (k_low _ _ _ _ _ pre, k_high _ _ _ _ _ pre, c.loop-place.invariant.0)

pub loop-place-preserved : goal.loop-place-preserved
loop-place-preserved c =
    let pre = (summable c.args.prepared.now.circuit.words.now c.args.self.now.witness.now c.args.self.now.columns.now c.args.self.now.nodes.now c.args.self.now.challenges.now c.args.self.now.y.now c.args.prepared.now.circuit.accepted c.requires _ c.sum_layout-layout.ensures _ c.k_of-k.ensures) in
    let l = c.loop-place in
    let inside : l.place < 2 ^ c.k_of-k.result = omega (arith, c.loop-place-test.true, c.rows_of-rows.ensures) in (
      c.row_after-row.ensures.0,
      added_more _ _ _ _ l.row _ _ l.invariant.1 l.invariant.0
          (value_is _ _ _ _ _ pre _ _ _ _ _ refl (placed _ _ _ _ _ pre l.row l.place inside l.invariant.0 _) (c.word-eq.ensures ∙ c.eq_at.ensures) c.value-x.ensures)
          c.add-sum.ensures,
    )

pub returns : goal.returns
returns c =
    let l = c.loop-place in
    sum_is _ _ _ _ _ (summable c.args.prepared.now.circuit.words.now c.args.self.now.witness.now c.args.self.now.columns.now c.args.self.now.nodes.now c.args.self.now.challenges.now c.args.self.now.y.now c.args.prepared.now.circuit.accepted c.requires _ c.sum_layout-layout.ensures _ c.k_of-k.ensures) _ _ _ _ l.place l.invariant.1 (omega (arith, c.loop-place-test.false, c.rows_of-rows.ensures))
