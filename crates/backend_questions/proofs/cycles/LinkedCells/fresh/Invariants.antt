use Rattle.backend_questions.proofs.cycles.Chains.{Down}
use Rattle.backend_questions.proofs.cycles.LinkedCells.fresh.Given as goal

abbrev pub invariant-loop-j : goal.invariant-loop-j
invariant-loop-j l = Down l.self.cells.now l.self.count l.j

abbrev pub decreases-loop-j : goal.decreases-loop-j
decreases-loop-j l = l.j
