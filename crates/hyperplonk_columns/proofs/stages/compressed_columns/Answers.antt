-- `compressed_columns` meets its contract.
use mathlib.Core.Path.{ap}
use native.Mathlib.Omega.{arith}
use lib.ListN.{length}
use Prim.Native.Nat.{◌+◌, ◌*◌, ◌≤◌}
use Rattle.backend.specs.Circuit.{Circuit, circuit_of, rows_of, num_lookups}
use Rattle.hyperplonk_prepare.specs.Prepared.{compressed_offset}
use Rattle.hyperplonk_columns.proofs.Accepted.{placed, exact_challenges, user_is}
use Rattle.hyperplonk_columns.proofs.stages.Stages.{compressed_fit, compressed_given, compressed_room, compressed_all}
use Rattle.hyperplonk_columns.proofs.stages.compressed_columns.Goals as goal

pub at-beta-requires : goal.at-beta-requires
at-beta-requires c = omega (arith, exact_challenges _ c.args.log.now.inputs.instance.now c.args.log.now.inputs.witness.now c.args.log.now.inputs.challenges.now c.args.log.now.lengths, user_is c.args.log.now.prepared.circuit.words.now c.args.log.now.prepared.circuit.accepted c.args.log.now.prepared.params c.args.log.now.prepared.params_are)

pub slice_bounds-compressed_from-end : goal.slice_bounds-compressed_from-end
slice_bounds-compressed_from-end c = omega (arith, exact_challenges _ c.args.log.now.inputs.instance.now c.args.log.now.inputs.witness.now c.args.log.now.inputs.challenges.now c.args.log.now.lengths, user_is c.args.log.now.prepared.circuit.words.now c.args.log.now.prepared.circuit.accepted c.args.log.now.prepared.params c.args.log.now.prepared.params_are)

pub overflow_add-to : goal.overflow_add-to
overflow_add-to c = omega (arith, (compressed_fit c.args.log.now.prepared.circuit.words.now c.args.log.now.prepared.circuit.accepted _ c.layout-layout.ensures _ (ap length c.copied-copied.ensures)).0)

pub overflow_mul-to : goal.overflow_mul-to
overflow_mul-to c = omega (arith, (compressed_fit c.args.log.now.prepared.circuit.words.now c.args.log.now.prepared.circuit.accepted _ c.layout-layout.ensures _ (ap length c.copied-copied.ensures)).1)

pub invariant_of-polys : goal.invariant_of-polys
invariant_of-polys c =
    let l = c.layout-layout in
    let k : Circuit = circuit_of c.args.log.now.prepared.circuit.words.now in
    let room : compressed_offset k + num_lookups k * 2 * rows_of k ≤ length c.args.columns.now = let p = placed (circuit_of c.args.log.now.prepared.circuit.words.now) in omega (arith, c.requires, p.compressed, p.counts, p.hs, p.zs) in
    let r = compressed_room c.args.log.now.prepared.circuit.words.now c.args.log.now.prepared.circuit.accepted _ _ _ c.args.columns.now l.ensures c.k_of-k.ensures (ap length c.copied-copied.ensures) room in
    let q = compressed_given c.args.log.now.prepared.circuit.words.now c.args.log.now.prepared.circuit.accepted _ _ l.ensures c.k_of-k.ensures in
    record { small = q.0; given = q.1; before = r.1 }

pub compressed_from-requires : goal.compressed_from-requires
compressed_from-requires c =
    let l = c.layout-layout in
    let k : Circuit = circuit_of c.args.log.now.prepared.circuit.words.now in
    let room : compressed_offset k + num_lookups k * 2 * rows_of k ≤ length c.args.columns.now = let p = placed (circuit_of c.args.log.now.prepared.circuit.words.now) in omega (arith, c.requires, p.compressed, p.counts, p.hs, p.zs) in
    let r = compressed_room c.args.log.now.prepared.circuit.words.now c.args.log.now.prepared.circuit.accepted _ _ _ c.args.columns.now l.ensures c.k_of-k.ensures (ap length c.copied-copied.ensures) room in
    r.2

pub returns : goal.returns
returns c =
    compressed_all c.args.log.now.prepared.circuit.words.now c.args.log.now.prepared.circuit.accepted _ _ _ c.args.log.now.prepared.params.num_challenges _ c.args.log.now.inputs.witness.now c.args.log.now.inputs.challenges.now c.args.columns.now _ c.layout-layout.ensures c.k_of-k.ensures (ap length c.copied-copied.ensures) (user_is c.args.log.now.prepared.circuit.words.now c.args.log.now.prepared.circuit.accepted c.args.log.now.prepared.params c.args.log.now.prepared.params_are) c.at-beta.ensures c.compressed_from.ensures
