use native.Mathlib.Omega.{arith}
use Rattle.hyperplonk_prepare.proofs.Accepted.{laid_of}
use Rattle.hyperplonk_prepare.proofs.Computed.{columns_low, columns_fit, columns_from}
use Rattle.hyperplonk_prepare.proofs.needed.PreparedCircuit.column_words.Goals as goal

pub bounds-self-3 : goal.bounds-self-3
bounds-self-3 c = omega (arith, (laid_of c.args.self.now.circuit.words.now c.args.self.now.circuit.accepted).long)

pub overflow_add-result : goal.overflow_add-result
overflow_add-result c = omega (arith, (columns_low c.args.self.now.circuit.words.now c.args.self.now.circuit.accepted c.args.self.now.params c.args.self.now.params_are).0)

pub overflow_mul-result : goal.overflow_mul-result
overflow_mul-result c = omega (arith, (columns_low c.args.self.now.circuit.words.now c.args.self.now.circuit.accepted c.args.self.now.params c.args.self.now.params_are).0)

pub overflow_add-result-2 : goal.overflow_add-result-2
overflow_add-result-2 c = omega (arith, (columns_low c.args.self.now.circuit.words.now c.args.self.now.circuit.accepted c.args.self.now.params c.args.self.now.params_are).0)

pub overflow_mul-result-2 : goal.overflow_mul-result-2
overflow_mul-result-2 c = omega (arith, (columns_low c.args.self.now.circuit.words.now c.args.self.now.circuit.accepted c.args.self.now.params c.args.self.now.params_are).0)

pub overflow_add-result-3 : goal.overflow_add-result-3
overflow_add-result-3 c = omega (arith, (columns_low c.args.self.now.circuit.words.now c.args.self.now.circuit.accepted c.args.self.now.params c.args.self.now.params_are).0)

pub overflow_add-result-4 : goal.overflow_add-result-4
overflow_add-result-4 c = omega (arith, (columns_low c.args.self.now.circuit.words.now c.args.self.now.circuit.accepted c.args.self.now.params c.args.self.now.params_are).0)

pub overflow_mul-result-3 : goal.overflow_mul-result-3
overflow_mul-result-3 c = omega (arith, columns_fit c.args.self.now.circuit.words.now c.args.self.now.circuit.accepted c.args.self.now.params c.args.self.now.params_are)

pub returns : goal.returns
returns c = columns_from c.args.self.now.circuit.words.now c.args.self.now.circuit.accepted c.args.self.now.params c.args.self.now.params_are
