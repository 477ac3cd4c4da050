-- `row_sum` meets its contracts: the answer is that of its definition, and so is what demand 3 says of it.
use Rattle.hyperplonk_row_sum.proofs.RowSumClaim.{both}
use Rattle.hyperplonk_row_sum.proofs.row_sum.Goals as goal

pub returns-in-Ok : goal.returns-in-Ok
returns-in-Ok c =
    let a = c.args in
    both a.circuit.now a.witness.now a.columns.now a.nodes.now a.challenges.now a.y.now _ c.in-Ok.ensures

pub returns-in-Err : goal.returns-in-Err
returns-in-Err c =
    let a = c.args in
    both a.circuit.now a.witness.now a.columns.now a.nodes.now a.challenges.now a.y.now _ c.in-Err.ensures
