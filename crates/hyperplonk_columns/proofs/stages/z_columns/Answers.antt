-- `z_columns` meets its contract.
use mathlib.Core.Path.{refl, ap}
use native.Mathlib.Omega.{arith}
use lib.ListN.{length}
use Rattle.hyperplonk_prepare.proofs.Accepted.{laid_of}
use Rattle.hyperplonk_columns.proofs.Accepted.{z_room, exact_challenges, user_is, user_few, groups_are, parts_are}
use Rattle.hyperplonk_columns.proofs.stages.Stages.{zs_fit, z_asks, z_written}
use Rattle.hyperplonk_columns.proofs.stages.z_columns.Goals as goal

pub at-beta-requires : goal.at-beta-requires
at-beta-requires c = omega (arith, exact_challenges _ c.args.log.now.inputs.instance.now c.args.log.now.inputs.witness.now c.args.log.now.inputs.challenges.now c.args.log.now.lengths, user_is c.args.log.now.prepared.circuit.words.now c.args.log.now.prepared.circuit.accepted c.args.log.now.prepared.params c.args.log.now.prepared.params_are)

pub overflow_add-user : goal.overflow_add-user
overflow_add-user c = omega (arith, user_few c.args.log.now.prepared.circuit.words.now c.args.log.now.prepared.circuit.accepted c.args.log.now.prepared.params c.args.log.now.prepared.params_are)

pub at-gamma-requires : goal.at-gamma-requires
at-gamma-requires c = omega (arith, exact_challenges _ c.args.log.now.inputs.instance.now c.args.log.now.inputs.witness.now c.args.log.now.inputs.challenges.now c.args.log.now.lengths, user_is c.args.log.now.prepared.circuit.words.now c.args.log.now.prepared.circuit.accepted c.args.log.now.prepared.params c.args.log.now.prepared.params_are)

pub bounds-circuit-13 : goal.bounds-circuit-13
bounds-circuit-13 c = omega (arith, (laid_of c.args.log.now.prepared.circuit.words.now c.args.log.now.prepared.circuit.accepted).long)

pub overflow_add-to : goal.overflow_add-to
overflow_add-to c = let f = zs_fit c.args.log.now.prepared.circuit.words.now c.args.log.now.prepared.circuit.accepted _ c.layout-layout.ensures _ _ _ (ap length c.copied-copied.ensures) refl (groups_are _ c.args.log.now.prepared.circuit.accepted _ c.args.log.now.prepared.params_are) in omega (arith, f.0, f.1, f.2)

pub overflow_mul-to : goal.overflow_mul-to
overflow_mul-to c = let f = zs_fit c.args.log.now.prepared.circuit.words.now c.args.log.now.prepared.circuit.accepted _ c.layout-layout.ensures _ _ _ (ap length c.copied-copied.ensures) refl (groups_are _ c.args.log.now.prepared.circuit.accepted _ c.args.log.now.prepared.params_are) in omega (arith, f.0, f.1, f.2)

pub overflow_add-to-2 : goal.overflow_add-to-2
overflow_add-to-2 c = let f = zs_fit c.args.log.now.prepared.circuit.words.now c.args.log.now.prepared.circuit.accepted _ c.layout-layout.ensures _ _ _ (ap length c.copied-copied.ensures) refl (groups_are _ c.args.log.now.prepared.circuit.accepted _ c.args.log.now.prepared.params_are) in omega (arith, f.0, f.1, f.2)

pub overflow_mul-to-2 : goal.overflow_mul-to-2
overflow_mul-to-2 c = let f = zs_fit c.args.log.now.prepared.circuit.words.now c.args.log.now.prepared.circuit.accepted _ c.layout-layout.ensures _ _ _ (ap length c.copied-copied.ensures) refl (groups_are _ c.args.log.now.prepared.circuit.accepted _ c.args.log.now.prepared.params_are) in omega (arith, f.0, f.1, f.2)

pub overflow_add-to-3 : goal.overflow_add-to-3
overflow_add-to-3 c = let f = zs_fit c.args.log.now.prepared.circuit.words.now c.args.log.now.prepared.circuit.accepted _ c.layout-layout.ensures _ _ _ (ap length c.copied-copied.ensures) refl (groups_are _ c.args.log.now.prepared.circuit.accepted _ c.args.log.now.prepared.params_are) in omega (arith, f.0, f.1, f.2)

pub overflow_mul-to-3 : goal.overflow_mul-to-3
overflow_mul-to-3 c = let f = zs_fit c.args.log.now.prepared.circuit.words.now c.args.log.now.prepared.circuit.accepted _ c.layout-layout.ensures _ _ _ (ap length c.copied-copied.ensures) refl (groups_are _ c.args.log.now.prepared.circuit.accepted _ c.args.log.now.prepared.params_are) in omega (arith, f.3)

pub permutation_z_polys-requires : goal.permutation_z_polys-requires
permutation_z_polys-requires c =
    z_asks c.args.log.now.prepared.circuit.words.now c.args.log.now.prepared.circuit.accepted _ _ _ _ _ _ c.args.columns.now c.layout-layout.ensures c.k_of-k.ensures refl (groups_are _ c.args.log.now.prepared.circuit.accepted _ c.args.log.now.prepared.params_are) c.copied-copied.ensures (parts_are _ c.args.log.now.prepared.circuit.accepted _ c.args.log.now.prepared.params_are) (z_room c.args.log.now.prepared.circuit.words.now _ c.requires)

pub returns : goal.returns
returns c =
    let w = z_written c.args.log.now.prepared.circuit.words.now c.args.log.now.prepared.circuit.accepted _ _ _ _ _ _ _ _ _ _ c.args.log.now.inputs.challenges.now _ _ _ c.layout-layout.ensures c.k_of-k.ensures refl (groups_are _ c.args.log.now.prepared.circuit.accepted _ c.args.log.now.prepared.params_are) c.copied-copied.ensures (parts_are _ c.args.log.now.prepared.circuit.accepted _ c.args.log.now.prepared.params_are) (user_is _ c.args.log.now.prepared.circuit.accepted _ c.args.log.now.prepared.params_are) c.at-beta.ensures c.at-gamma.ensures c.permutation_z_polys.ensures in
    record { answer = w.0; written = w.1 }
