use Rattle.hyperplonk_prepare.proofs.Computed.{fourteen}
use Rattle.hyperplonk_prepare.proofs.needed.PreparedCircuit.question_14.Goals as goal

pub returns : goal.returns
returns c = fourteen c.args.self.now.circuit.words.now c.args.self.now.circuit.accepted _ _ c.args.columns c.args.nodes c.column_words-words.ensures c.composed_nodes-composed.ensures.nodes
