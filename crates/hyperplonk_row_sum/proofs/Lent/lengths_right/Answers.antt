-- `lengths_right` meets its contract.
use native.Mathlib.Omega.{arith}
use lib.ListN.{length}
use Rattle.hyperplonk_row_sum.proofs.Sixteen.{numbers_few, words_fit, lengths_are}
use Rattle.hyperplonk_row_sum.proofs.Lent.lengths_right.Goals as goal

pub overflow_mul-result : goal.overflow_mul-result
overflow_mul-result c = omega (arith, words_fit c.args.prepared.now.circuit.words.now c.args.prepared.now.circuit.accepted c.args.prepared.now.params c.args.prepared.now.params_are _ c.sum_layout-layout.ensures)

pub overflow_add-result : goal.overflow_add-result
overflow_add-result c = omega (arith, (numbers_few c.args.prepared.now.circuit.words.now c.args.prepared.now.circuit.accepted c.args.prepared.now.params c.args.prepared.now.params_are).3)

pub returns : goal.returns
returns c =
    let a = c.args in
    lengths_are a.prepared.now.circuit.words.now a.prepared.now.circuit.accepted a.prepared.now.params a.prepared.now.params_are (length a.self.now.witness.now) (length a.self.now.columns.now) (length a.self.now.nodes.now) (length a.self.now.challenges.now) (length a.self.now.y.now) _ _ _ _ c.sum_layout-layout.ensures
    c.column_words-words.ensures
    c.composed_nodes-composed.ensures.nodes
    c.k_of-k.ensures
