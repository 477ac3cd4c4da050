use Rattle.hyperplonk_prepare.proofs.Accepted.{laid_of, counted_of}
use Rattle.hyperplonk_prepare.proofs.circuit.AcceptedCircuit.circuit.Goals as goal

pub invariant_of-result : goal.invariant_of-result
invariant_of-result c = record {
  contents = laid_of c.args.self.now.words.now c.args.self.now.accepted;
  bodies = counted_of c.args.self.now.words.now c.args.self.now.accepted;
}
