-- `lookup_h_polys` meets its contract: after j turns h of the first j groups stands there, and no denominator of theirs is zero.
use native.Mathlib.Omega.{arith}
use lib.ListN.{get_or}
use Rattle.field.specs.Element.{elem}
use Rattle.prover_lookup.proofs.Places.{pair_turn}
use Rattle.prover_lookup.proofs.Hs.{hs_start, hs_end, hs_size, hs_more, hs_stop, size_some, group_behind, counts_there, h_there, h_behind}
use Rattle.prover_lookup.proofs.Groups.lookup_h_polys.Goals as goal

pub loop-size-init : goal.loop-size-init
loop-size-init c =
    let a = c.args in
    let g = a.self.now in
    hs_start a.columns.now g.sizes.now g.compressed g.counts g.hs (elem a.gamma) g.rows

pub lookup_h_poly-requires : goal.lookup_h_poly-requires
lookup_h_poly-requires c =
    let l = c.loop-size in
    let t0 = group_behind _ _ _ _ _ _ _ c.args.self.now.filled c.args.self.now.inputs_before c.args.self.now.counts_before c.requires _ _ _ _ _ c.loop-size.invariant c.loop-size-test.true in
    let t1 = counts_there _ _ _ _ _ _ _ c.args.self.now.filled c.args.self.now.inputs_before c.args.self.now.counts_before c.requires _ _ _ _ _ c.loop-size.invariant c.loop-size-test.true in
    let t2 = h_there _ _ _ _ _ _ _ c.args.self.now.filled c.args.self.now.inputs_before c.args.self.now.counts_before c.requires _ _ _ _ _ c.loop-size.invariant c.loop-size-test.true in
    let t3 = h_behind _ _ _ _ _ _ _ c.args.self.now.filled c.args.self.now.inputs_before c.args.self.now.counts_before c.requires _ _ _ _ _ c.loop-size.invariant c.loop-size-test.true in (
      size_some _ _ _ _ _ _ _ c.args.self.now.filled c.args.self.now.inputs_before c.args.self.now.counts_before c.requires _ _ _ _ _ l.invariant c.loop-size-test.true,
      omega (arith, t0, t3),
      omega (arith, t1, t3),
      omega (arith, t2, l.invariant.size),
    )

pub shape_of-columns-in_err-lookup_h_poly : goal.shape_of-columns-in_err-lookup_h_poly
shape_of-columns-in_err-lookup_h_poly c =
    hs_size _ _ _ _ _ _ _ c.args.self.now.filled c.args.self.now.inputs_before c.args.self.now.counts_before c.requires _ _ _ _ _ c.loop-size.invariant c.loop-size-test.true _ _ c.lookup_h_poly.ensures

pub returns-in_err-lookup_h_poly : goal.returns-in_err-lookup_h_poly
returns-in_err-lookup_h_poly c =
    hs_stop _ _ _ _ _ _ _ c.args.self.now.filled c.args.self.now.inputs_before c.args.self.now.counts_before c.requires _ _ _ _ _ c.loop-size.invariant c.loop-size-test.true _ _ c.lookup_h_poly.ensures c.in_err-lookup_h_poly.was _ c.from_residual.ensures.0

pub overflow_mul-input : goal.overflow_mul-input
overflow_mul-input c = omega (arith, group_behind _ _ _ _ _ _ _ c.args.self.now.filled c.args.self.now.inputs_before c.args.self.now.counts_before c.requires _ _ _ _ _ c.loop-size.invariant c.loop-size-test.true, pair_turn (get_or c.args.self.now.sizes.now c.loop-size.size-index 0) c.args.self.now.rows)

pub overflow_mul-input-in-loop-size : goal.overflow_mul-input-in-loop-size
overflow_mul-input-in-loop-size c = omega (arith, group_behind _ _ _ _ _ _ _ c.args.self.now.filled c.args.self.now.inputs_before c.args.self.now.counts_before c.requires _ _ _ _ _ c.loop-size.invariant c.loop-size-test.true, pair_turn (get_or c.args.self.now.sizes.now c.loop-size.size-index 0) c.args.self.now.rows)

pub overflow_add-input : goal.overflow_add-input
overflow_add-input c = omega (arith, group_behind _ _ _ _ _ _ _ c.args.self.now.filled c.args.self.now.inputs_before c.args.self.now.counts_before c.requires _ _ _ _ _ c.loop-size.invariant c.loop-size-test.true, pair_turn (get_or c.args.self.now.sizes.now c.loop-size.size-index 0) c.args.self.now.rows)

pub overflow_add-counts : goal.overflow_add-counts
overflow_add-counts c = omega (arith, counts_there _ _ _ _ _ _ _ c.args.self.now.filled c.args.self.now.inputs_before c.args.self.now.counts_before c.requires _ _ _ _ _ c.loop-size.invariant c.loop-size-test.true)

pub overflow_add-to : goal.overflow_add-to
overflow_add-to c = omega (arith, h_there _ _ _ _ _ _ _ c.args.self.now.filled c.args.self.now.inputs_before c.args.self.now.counts_before c.requires _ _ _ _ _ c.loop-size.invariant c.loop-size-test.true)

pub loop-size-preserved : goal.loop-size-preserved
loop-size-preserved c =
    hs_more _ _ _ _ _ _ _ c.args.self.now.filled c.args.self.now.inputs_before c.args.self.now.counts_before c.requires _ _ _ _ _ c.loop-size.invariant c.loop-size-test.true _ _ c.lookup_h_poly.ensures c.in_ok-lookup_h_poly.was

pub shape_of-columns : goal.shape_of-columns
shape_of-columns c = c.loop-size.invariant.size

pub returns : goal.returns
returns c =
    hs_end _ _ _ _ _ _ _ c.args.self.now.filled c.args.self.now.inputs_before c.args.self.now.counts_before c.requires _ _ _ _ _ c.loop-size.invariant c.loop-size-test.false
