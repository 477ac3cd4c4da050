-- `instance_columns` meets its contract.
use lib.ListN.{length}
use Rattle.hyperplonk_columns.proofs.Accepted.{instance_asked}
use Rattle.hyperplonk_columns.proofs.stages.Stages.{instance_asks, instance_written}
use Rattle.hyperplonk_columns.proofs.stages.instance_columns.Goals as goal

pub instance_polys-requires : goal.instance_polys-requires
instance_polys-requires c =
    let asked = instance_asked c.args.log.now.prepared.circuit.words.now c.args.log.now.inputs.instance.now c.args.log.now.inputs.witness.now c.args.log.now.inputs.challenges.now c.args.log.now.lengths (length c.args.columns.now) c.requires in
    instance_asks c.args.log.now.prepared.circuit.words.now c.args.log.now.prepared.circuit.accepted _ _ c.args.log.now.inputs.instance.now c.args.columns.now c.k_of-k.ensures (rw (c.laid.ensures, c.circuit.ensures) at c.instances-lengths.ensures) asked.0 asked.1

pub returns : goal.returns
returns c =
    instance_written c.args.log.now.prepared.circuit.words.now c.args.log.now.prepared.circuit.accepted _ _ _ _ _ c.k_of-k.ensures (rw (c.laid.ensures, c.circuit.ensures) at c.instances-lengths.ensures) c.instance_polys.ensures
