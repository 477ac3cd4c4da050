use mathlib.Core.Path.{refl}
use Rattle.backend_questions.proofs.cycles.Chains.{link_none}
use Rattle.backend_questions.proofs.cycles.LinkedCells.new.Goals as goal

pub invariant_of-result : goal.invariant_of-result
invariant_of-result c = record { linked = link_none c.args.cells.now _ _ refl refl }
