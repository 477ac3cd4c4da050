-- `lookup_compressed_poly` meets its contract: a row a turn, and the instance columns stay as they are.
use mathlib.Core.Path.{sym, ap, ◌∙◌}
use Prim.Native.Nat.{ℕ, ◌+◌}
use native.Mathlib.Omega.{arith}
use Rattle.field.specs.Field.{𝔾, val}
use Rattle.field.specs.Element.{elem}
use Rattle.bh.proofs.Order.{row_zero}
use Rattle.bh.proofs.Rows.{row_in, placed_at}
use Rattle.lists.proofs.Turns.{turn_start, turn_more, turn_before, turn_end}
use Rattle.prover.specs.Lent.{environment_from_words, compressed_in, roots_of}
use Rattle.prover.proofs.Rows.{row_turns, read_there, read_word}
use Rattle.prover.proofs.PowerSums.{compressed_here}
use Rattle.prover_compressed.proofs.Lent.lookup_compressed_poly.Goals as goal

pub overflow_mul-given : goal.overflow_mul-given
overflow_mul-given c =
    let pre = c.requires in
    rw c.rows_of-rows.ensures (omega (arith, c.args.polys.before, pre))

pub loop-place-init : goal.loop-place-init
loop-place-init c =
    let a = c.args in
    let pre = c.requires in (
      sym (row_zero a.polys.k),
      turn_start _ _ _ _ (row_turns a.polys.k c.args.polys.small.0 c.args.polys.small.1) _ _ pre,
    )

pub slice_bounds-compressed_at-end : goal.slice_bounds-compressed_at-end
slice_bounds-compressed_at-end c =
    let pre = c.requires in
    read_there _ _ _ _ _ _ _ c.rows_of-rows.ensures c.args.polys.before pre c.loop-place.invariant.1.size

pub compressed_at-x-requires : goal.compressed_at-x-requires
compressed_at-x-requires c =
    let a = c.args in
    let l = c.loop-place in
    record {
      positive = a.polys.small.0;
      small = a.polys.small.1;
      inside = row_in a.polys.k l.row l.place a.polys.small.0 a.polys.small.1 l.invariant.0;
      placed = placed_at a.polys.k l.row l.place a.polys.small.0 a.polys.small.1 (omega (arith, c.loop-place-test.true, c.rows_of-rows.ensures)) l.invariant.0;
    }

pub overflow_add-columns : goal.overflow_add-columns
overflow_add-columns c =
    let pre = c.requires in
    let l = c.loop-place in
    omega (arith, pre, l.invariant.1.size, row_in c.args.polys.k l.row l.place c.args.polys.small.0 c.args.polys.small.1 l.invariant.0)

pub offset_bounds-columns-polys : goal.offset_bounds-columns-polys
offset_bounds-columns-polys c =
    let pre = c.requires in
    let l = c.loop-place in
    omega (arith, pre, l.invariant.1.size, row_in c.args.polys.k l.row l.place c.args.polys.small.0 c.args.polys.small.1 l.invariant.0)

pub bounds-columns-polys : goal.bounds-columns-polys
bounds-columns-polys c =
    let pre = c.requires in
    let l = c.loop-place in
    omega (arith, pre, l.invariant.1.size, row_in c.args.polys.k l.row l.place c.args.polys.small.0 c.args.polys.small.1 l.invariant.0)

pub loop-place-preserved : goal.loop-place-preserved
loop-place-preserved c =
    let a = c.args in
    let pre = c.requires in
    let l = c.loop-place in
    let rows = c.rows_of-rows in (
      c.row_after-row.ensures.0,
      turn_more _ _ _ _ (row_turns a.polys.k c.args.polys.small.0 c.args.polys.small.1) _ _ pre _ _ l.invariant.1 (omega (arith, c.loop-place-test.true, rows.ensures)) _ (ap (λ (x : ℕ). a.polys.to + x) l.invariant.0) _
          (compressed_here a.polys.k c.args.polys.small.1 a.polys.layout c.args.polys.given a.self.now.circuit.now a.self.now.witness.now a.self.now.challenges.now (elem a.polys.beta) _ a.columns.now
          (λ j h. read_word l.columns a.columns.now a.polys.layout.instances _ a.polys.k a.polys.to j rows.ensures c.args.polys.before (turn_before _ _ _ _ (row_turns a.polys.k c.args.polys.small.0 c.args.polys.small.1) _ _ pre _ _ l.invariant.1) h)
          (roots_of a.of.now.nodes.now a.of.now.pairs.now a.of.now.roots) l.row l.place _ (row_in a.polys.k l.row l.place c.args.polys.small.0 c.args.polys.small.1 l.invariant.0) (c.from.ensures ∙ ap val c.compressed_at-x.ensures)
          ∙ ap (λ (x : ℕ). val (compressed_in 𝔾 (environment_from_words a.self.now.circuit.now a.self.now.witness.now a.columns.now a.self.now.challenges.now a.polys.layout a.polys.k) (elem a.polys.beta) (roots_of a.of.now.nodes.now a.of.now.pairs.now a.of.now.roots) x)) l.invariant.0),
    )

pub returns : goal.returns
returns c =
    let pre = c.requires in
    turn_end _ _ _ _ (row_turns c.args.polys.k c.args.polys.small.0 c.args.polys.small.1) _ _ pre _ _ c.loop-place.invariant.1 (omega (arith, c.loop-place-test.false, c.rows_of-rows.ensures))
