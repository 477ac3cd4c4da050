-- `instance_words` meets its contract.
use Rattle.hyperplonk_prepare.proofs.Computed.{instances_from}
use Rattle.hyperplonk_prepare.proofs.circuit.AcceptedCircuit.instance_words.Goals as goal

pub returns : goal.returns
returns c = instances_from c.args.self.now.words.now c.args.self.now.accepted _ (rw (c.laid.ensures, c.circuit.ensures) at c.instances-instances.ensures) _ c.total_to.ensures
