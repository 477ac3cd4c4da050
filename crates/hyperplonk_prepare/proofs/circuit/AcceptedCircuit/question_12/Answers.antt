use native.Mathlib.Omega.{arith}
use Rattle.hyperplonk_prepare.proofs.Accepted.{few_user}
use Rattle.hyperplonk_prepare.proofs.Computed.{witness_fit, twelve}
use Rattle.hyperplonk_prepare.proofs.circuit.AcceptedCircuit.question_12.Goals as goal

pub overflow_mul-words : goal.overflow_mul-words
overflow_mul-words c = omega (arith, witness_fit c.args.self.now.words.now c.args.self.now.accepted _ _ (rw c.circuit-circuit.ensures at c.num_witness-columns.ensures) (rw (c.laid.ensures, c.circuit-circuit.ensures) at c.rows-rows.ensures))

pub overflow_add-result : goal.overflow_add-result
overflow_add-result c = omega (arith, few_user c.args.self.now.words.now c.args.self.now.accepted, rw c.circuit-circuit.ensures at c.num_user-user.ensures)

pub returns : goal.returns
returns c = twelve c.args.self.now.words.now c.args.self.now.accepted c.args.inputs.now.instance.now c.args.inputs.now.witness.now c.args.inputs.now.challenges.now _ _ _ _ c.instance_words-values.ensures (rw c.circuit-circuit.ensures at c.num_witness-columns.ensures) (rw (c.laid.ensures, c.circuit-circuit.ensures) at c.rows-rows.ensures) (rw c.circuit-circuit.ensures at c.num_user-user.ensures)
