-- `permutation_columns` meets its contract.
use native.Mathlib.Omega.{arith}
use Prim.Native.Nat.{◌≤◌}
use lib.ListN.{length}
use Rattle.backend.specs.Circuit.{circuit_of}
use Rattle.hyperplonk_prepare.specs.Prepared.{compressed_offset}
use Rattle.hyperplonk_columns.proofs.Accepted.{placed}
use Rattle.hyperplonk_columns.proofs.stages.Stages.{permutations_fit, permutation_asks, permutation_written}
use Rattle.hyperplonk_columns.proofs.stages.permutation_columns.Goals as goal

pub overflow_mul-at : goal.overflow_mul-at
overflow_mul-at c = omega (arith, permutations_fit c.args.log.now.prepared.circuit.words.now c.args.log.now.prepared.circuit.accepted _ c.layout-layout.ensures)

pub permutation_polys-requires : goal.permutation_polys-requires
permutation_polys-requires c =
    let room : compressed_offset (circuit_of c.args.log.now.prepared.circuit.words.now) ≤ length c.args.columns.now = let p = placed (circuit_of c.args.log.now.prepared.circuit.words.now) in omega (arith, c.requires, p.permutations, p.compressed, p.counts, p.hs, p.zs) in
    let p = permutation_asks c.args.log.now.prepared.circuit.words.now c.args.log.now.prepared.circuit.accepted _ _ _ _ c.args.columns.now c.layout-layout.ensures c.copied-copied.ensures (rw (c.laid-laid.ensures, c.circuit.ensures) at c.lengths-lengths.ensures) (rw (c.laid-laid.ensures, c.circuit.ensures) at c.cells-cells.ensures) room in
    record { walkable = p.0; lengths_value = p.1.0; rows_in_bounds = p.1.1 }

pub returns : goal.returns
returns c =
    permutation_written c.args.log.now.prepared.circuit.words.now c.args.log.now.prepared.circuit.accepted _ _ _ _ _ _ c.layout-layout.ensures c.copied-copied.ensures (rw (c.laid-laid.ensures, c.circuit.ensures) at c.lengths-lengths.ensures) (rw (c.laid-laid.ensures, c.circuit.ensures) at c.cells-cells.ensures) c.permutation_polys.ensures
