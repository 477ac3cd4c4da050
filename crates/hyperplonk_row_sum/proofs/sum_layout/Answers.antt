-- `sum_layout` meets its contract: the numbers of the circuit, and three words of the contents.
use native.Mathlib.Omega.{arith}
use Rattle.hyperplonk_row_sum.proofs.Sixteen.{numbers_few, layout_made}
use Rattle.hyperplonk_row_sum.proofs.sum_layout.Goals as goal

pub overflow_mul-result : goal.overflow_mul-result
overflow_mul-result c = omega (arith, (numbers_few c.args.prepared.now.circuit.words.now c.args.prepared.now.circuit.accepted c.args.prepared.now.params c.args.prepared.now.params_are).1)

pub overflow_mul-result-2 : goal.overflow_mul-result-2
overflow_mul-result-2 c = omega (arith, (numbers_few c.args.prepared.now.circuit.words.now c.args.prepared.now.circuit.accepted c.args.prepared.now.params c.args.prepared.now.params_are).4)

pub overflow_add-result : goal.overflow_add-result
overflow_add-result c = let f = numbers_few c.args.prepared.now.circuit.words.now c.args.prepared.now.circuit.accepted c.args.prepared.now.params c.args.prepared.now.params_are in omega (arith, f.2, f.4)

pub returns : goal.returns
returns c = layout_made c.args.prepared.now.circuit.words.now c.args.prepared.now.circuit.accepted c.args.prepared.now.params c.args.prepared.now.params_are _ c.layout.ensures
