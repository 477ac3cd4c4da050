-- `columns_before_m` meets its contract.
use Rattle.hyperplonk_columns.proofs.Accepted.{before_m_end}
use Rattle.hyperplonk_columns.proofs.columns_before_m.Goals as goal

pub returns : goal.returns
returns c =
    before_m_end c.args.log.now.prepared.circuit.words.now c.args.log.now.inputs.instance.now c.args.log.now.inputs.witness.now c.args.log.now.inputs.challenges.now c.args.log.now.prepared.circuit.accepted
    c.args.columns.now
    _
    _
    _
    c.requires
    c.instance_columns.ensures
    c.permutation_columns.ensures
    c.compressed_columns.ensures
