use mathlib.Core.Path.{◌≡◌}
use Rattle.backend_questions.proofs.cycles.Turns.{Before}
use Rattle.backend_questions.proofs.cycles.cycles_good.Given as goal

abbrev pub invariant-loop-n : goal.invariant-loop-n
invariant-loop-n l = record {
  cells : l.linked.cells.now ≡ l.cells;
  before : Before l.polys l.rows l.lengths l.cells l.linked.count l.n-index;
}
