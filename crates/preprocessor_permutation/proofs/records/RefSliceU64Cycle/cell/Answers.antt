use Rattle.backend.specs.Circuit.{cell_at}
use Rattle.lists.proofs.Columns.{get_tabulate}
use Rattle.preprocessor_permutation.proofs.records.Laws.{cells_count}
use Prim.Native.Nat.{◌/◌}
use lib.ListN.{length}
use native.Mathlib.Omega.{arith}
use Rattle.preprocessor_permutation.proofs.records.RefSliceU64Cycle.cell.Goals as goal

pub overflow_mul-result : goal.overflow_mul-result
overflow_mul-result c = omega (arith, c.requires, cells_count c.args.self.now.now)

pub offset_bounds-self-i : goal.offset_bounds-self-i
offset_bounds-self-i c = omega (arith, c.requires, cells_count c.args.self.now.now)

pub bounds-self-i : goal.bounds-self-i
bounds-self-i c = omega (arith, c.requires, cells_count c.args.self.now.now)

pub overflow_mul-result-2 : goal.overflow_mul-result-2
overflow_mul-result-2 c = omega (arith, c.requires, cells_count c.args.self.now.now)

pub overflow_add-result : goal.overflow_add-result
overflow_add-result c = omega (arith, c.requires, cells_count c.args.self.now.now)

pub offset_bounds-self-i-2 : goal.offset_bounds-self-i-2
offset_bounds-self-i-2 c = omega (arith, c.requires, cells_count c.args.self.now.now)

pub bounds-self-i-2 : goal.bounds-self-i-2
bounds-self-i-2 c = omega (arith, c.requires, cells_count c.args.self.now.now)

pub returns : goal.returns
returns c y =
    let ws = c.args.self.now.now in get_tabulate (cell_at ws) (length ws / 2) c.args.i y (omega (arith, c.requires, cells_count ws))
