-- After i cycles the columns hold the labels of the first i cycles.
use native.Mathlib.Omega.{arith}
use Rattle.preprocessor.proofs.Walks.{first_room, turning_start, turning_end, turn_fits, turn_asks, turn_next}
use Rattle.preprocessor_permutation.proofs.records.Laws.{cells_some}
use Rattle.preprocessor_permutation.proofs.permutation_polys.Goals as goal

pub loop-count-init : goal.loop-count-init
loop-count-init c =
    turning_start _ _ _ _ _ c.requires.walkable c.requires.lengths_value _ _ c.requires.rows_in_bounds c.first_labels.ensures

pub overflow_mul-end : goal.overflow_mul-end
overflow_mul-end c = let h = (turn_fits _ _ _ _ _ c.requires.walkable c.requires.lengths_value _ _ _ _ c.loop-count.invariant (omega arith)) in record { fits = omega arith }

pub overflow_add-end : goal.overflow_add-end
overflow_add-end c = let h = (turn_fits _ _ _ _ _ c.requires.walkable c.requires.lengths_value _ _ _ _ c.loop-count.invariant (omega arith)) in record { fits = omega arith }

pub offset_bounds-cells-start : goal.offset_bounds-cells-start
offset_bounds-cells-start c = let h = (turn_fits _ _ _ _ _ c.requires.walkable c.requires.lengths_value _ _ _ _ c.loop-count.invariant (omega arith)) in record { fits = omega arith }

pub slice_bounds-walk-end : goal.slice_bounds-walk-end
slice_bounds-walk-end c = (turn_fits _ _ _ _ _ c.requires.walkable c.requires.lengths_value _ _ _ _ c.loop-count.invariant (omega arith))

pub walk-requires : goal.walk-requires
walk-requires c =
    let p = turn_asks _ _ _ _ _ c.requires.walkable c.requires.lengths_value _ _ _ _ c.loop-count.invariant (omega arith) c.column_starts-starts.result c.column_starts-starts.ensures ((first_room _ _ _ _ c.requires.rows_in_bounds c.first_labels.ensures)) in
    record { nonzero = cells_some _ p.0; all = p.1.0; cycle_in = p.1.1 }

pub loop-count-preserved : goal.loop-count-preserved
loop-count-preserved c =
    turn_next _ _ _ _ _ c.requires.walkable c.requires.lengths_value _ _ _ _ c.loop-count.invariant (omega arith) c.column_starts-starts.result c.column_starts-starts.ensures ((first_room _ _ _ _ c.requires.rows_in_bounds c.first_labels.ensures)) _ c.walk.ensures

pub returns : goal.returns
returns c =
    turning_end _ _ _ _ _ c.requires.walkable c.requires.lengths_value _ _ c.requires.rows_in_bounds c.first_labels.ensures _ _ _ c.loop-count.invariant (omega arith)
