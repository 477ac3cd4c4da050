-- `composed_visits` meets its contract: the count is not cut short.
use mathlib.Core.Path.{◌∙◌}
use Rattle.hyperplonk_prepare.proofs.Bound.{visits_exact}
use Rattle.hyperplonk_prepare.proofs.needed.PreparedCircuit.composed_visits.Goals as goal

pub returns : goal.returns
returns c = c.composed_count.ensures ∙ visits_exact c.args.self.now.circuit.words.now c.args.self.now.circuit.accepted
