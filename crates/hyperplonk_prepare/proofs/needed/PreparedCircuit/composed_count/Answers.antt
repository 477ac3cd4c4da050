-- `composed_count` meets its contract.
use Rattle.hyperplonk_prepare.proofs.needed.PreparedCircuit.composed_count.Goals as goal

pub returns : goal.returns
returns c = c.composed_nodes.ensures _ _ c.circuit_words.ensures.words
