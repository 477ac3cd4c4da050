-- The log that lent words are.
use Rattle.field.specs.Field.{𝔾}
use Rattle.prover.specs.Log.{Log}
use Rattle.hyperplonk_spec.specs.Build.{log_of}
use Rattle.hyperplonk_prepare.specs.declared.inputs.LentLog.{LentLog}

abbrev pub lent_log : LentLog → Log 𝔾
lent_log l = log_of l.prepared.circuit.words.now l.inputs.instance.now l.inputs.witness.now l.inputs.challenges.now
