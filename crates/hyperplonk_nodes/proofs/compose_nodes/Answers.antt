-- `compose_nodes` meets its contract.
use Rattle.hyperplonk_nodes.proofs.ComposeInput.{decoded, all_copied, few}
use Rattle.hyperplonk_nodes.proofs.compose_nodes.Goals as goal

pub invariant_of-input : goal.invariant_of-input
invariant_of-input c = record { all_copied = all_copied c.args.prepared.now.circuit.words.now c.args.prepared.now.circuit.accepted _ c.copied-copied.ensures _ _ _ _ _ _ c.circuit_words-words.ensures }

pub compose-requires : goal.compose-requires
compose-requires c = few c.args.prepared.now.circuit.words.now c.args.prepared.now.circuit.accepted _ c.copied-copied.ensures _ _ _ _ _ _ c.circuit_words-words.ensures

pub returns : goal.returns
returns c = c.compose.ensures _ (decoded c.args.prepared.now.circuit.words.now c.args.prepared.now.circuit.accepted _ c.copied-copied.ensures _ _ _ _ _ _ c.circuit_words-words.ensures)
