-- The cells are as many as the cycles ask, and good cycles are question 11.
use Rattle.backend.proofs.Answers.{cells_enough, eleven}
use Rattle.backend_questions.proofs.nodes.Few.{few_cells}
use Rattle.backend_questions.proofs.cycles.question_11.Goals as goal

pub cycles_good-requires : goal.cycles_good-requires
cycles_good-requires c = (
  cells_enough _ _ _ c.args.circuit.contents c.args.circuit.bodies (rw c.laid-laid.ensures at c.lengths-lengths.ensures) (rw c.laid-laid.ensures at c.cells-cells.ensures),
  few_cells _ _ c.args.circuit.contents (rw c.laid-laid.ensures at c.cells-cells.ensures),
)

pub returns : goal.returns
returns c = eleven _ _ _ c.args.circuit.contents (rw c.laid-laid.ensures at c.lengths-lengths.ensures) (rw c.laid-laid.ensures at c.cells-cells.ensures) _ _ _ c.num_poly-polys.ensures (rw c.laid-laid.ensures at c.rows-rows.ensures) c.cycles_good.ensures
