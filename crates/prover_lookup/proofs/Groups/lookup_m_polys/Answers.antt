-- `lookup_m_polys` meets its contract: after j turns the counts of the first j groups stand there, all of them covered.
use native.Mathlib.Omega.{arith}
use lib.ListN.{get_or}
use Rattle.prover_lookup.proofs.Places.{pair_turn}
use Rattle.prover_lookup.proofs.Counted.{counted_start, counted_end, counted_size, counted_more, counted_stop, group_behind, counts_there, counts_behind, group_small}
use Rattle.prover_lookup.proofs.Groups.lookup_m_polys.Goals as goal

pub loop-size-init : goal.loop-size-init
loop-size-init c =
    let a = c.args in
    let g = a.self.now in
    counted_start a.columns.now g.sizes.now g.compressed g.counts g.rows

pub lookup_m_poly-requires : goal.lookup_m_poly-requires
lookup_m_poly-requires c =
    let l = c.loop-size in
    let t0 = group_behind _ _ _ _ _ c.args.self.now.filled c.requires.0 c.requires.1 _ _ _ _ c.loop-size.invariant c.loop-size-test.true in
    let t1 = counts_there _ _ _ _ _ c.args.self.now.filled c.requires.0 c.requires.1 _ _ _ _ c.loop-size.invariant c.loop-size-test.true in
    let t2 = counts_behind _ _ _ _ _ c.args.self.now.filled c.requires.0 c.requires.1 _ _ _ _ c.loop-size.invariant c.loop-size-test.true in (
      omega (arith, t0, t2),
      omega (arith, t1, l.invariant.size),
      group_small _ _ _ _ _ c.args.self.now.filled c.requires.0 c.requires.1 _ _ _ _ l.invariant c.loop-size-test.true c.requires.2,
    )

pub shape_of-columns-then-not-lookup_m_poly : goal.shape_of-columns-then-not-lookup_m_poly
shape_of-columns-then-not-lookup_m_poly c =
    counted_size _ _ _ _ _ c.args.self.now.filled c.requires.0 c.requires.1 _ _ _ _ c.loop-size.invariant c.loop-size-test.true _ _ c.lookup_m_poly.ensures.counts

pub returns-then-not-lookup_m_poly : goal.returns-then-not-lookup_m_poly
returns-then-not-lookup_m_poly c =
    counted_stop _ _ _ _ _ c.args.self.now.filled c.requires.0 c.requires.1 _ _ _ _ c.loop-size.invariant c.loop-size-test.true _ _ c.lookup_m_poly.ensures.counts
    (c.if-not-lookup_m_poly.true)

pub overflow_mul-input : goal.overflow_mul-input
overflow_mul-input c = omega (arith, group_behind _ _ _ _ _ c.args.self.now.filled c.requires.0 c.requires.1 _ _ _ _ c.loop-size.invariant c.loop-size-test.true, pair_turn (get_or c.args.self.now.sizes.now c.loop-size.size-index 0) c.args.self.now.rows)

pub overflow_mul-input-in-loop-size : goal.overflow_mul-input-in-loop-size
overflow_mul-input-in-loop-size c = omega (arith, group_behind _ _ _ _ _ c.args.self.now.filled c.requires.0 c.requires.1 _ _ _ _ c.loop-size.invariant c.loop-size-test.true, pair_turn (get_or c.args.self.now.sizes.now c.loop-size.size-index 0) c.args.self.now.rows)

pub overflow_add-input : goal.overflow_add-input
overflow_add-input c = omega (arith, group_behind _ _ _ _ _ c.args.self.now.filled c.requires.0 c.requires.1 _ _ _ _ c.loop-size.invariant c.loop-size-test.true, pair_turn (get_or c.args.self.now.sizes.now c.loop-size.size-index 0) c.args.self.now.rows)

pub overflow_add-to : goal.overflow_add-to
overflow_add-to c = omega (arith, counts_there _ _ _ _ _ c.args.self.now.filled c.requires.0 c.requires.1 _ _ _ _ c.loop-size.invariant c.loop-size-test.true)

pub loop-size-preserved : goal.loop-size-preserved
loop-size-preserved c =
    counted_more _ _ _ _ _ c.args.self.now.filled c.requires.0 c.requires.1 _ _ _ _ c.loop-size.invariant c.loop-size-test.true _ _ c.lookup_m_poly.ensures.counts
    (c.if-not-lookup_m_poly.false)

pub shape_of-columns : goal.shape_of-columns
shape_of-columns c = c.loop-size.invariant.size

pub returns : goal.returns
returns c =
    counted_end _ _ _ _ _ c.args.self.now.filled c.requires.0 c.requires.1 _ _ _ _ c.loop-size.invariant c.loop-size-test.false
