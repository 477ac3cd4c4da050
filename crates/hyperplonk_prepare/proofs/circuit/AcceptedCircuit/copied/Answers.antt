-- `copied` meets its contract.
use mathlib.Core.Path.{◌∙◌}
use native.Mathlib.Omega.{arith}
use Rattle.hyperplonk_prepare.proofs.Accepted.{few_polys}
use Rattle.hyperplonk_prepare.proofs.Computed.{copied_from}
use Rattle.hyperplonk_prepare.proofs.circuit.AcceptedCircuit.copied.Goals as goal

pub copied_columns-requires : goal.copied_columns-requires
copied_columns-requires c = omega (arith, few_polys c.args.self.now.words.now c.args.self.now.accepted, rw c.circuit-circuit.ensures at c.num_poly-polys.ensures)

pub returns-clause-columns : goal.returns-clause-columns
returns-clause-columns c =
    c.copied_columns.ensures.columns ∙ copied_from c.args.self.now.words.now c.args.self.now.accepted _ (rw (c.laid.ensures, c.circuit-circuit.ensures) at c.cells-cells.ensures) _ (rw c.circuit-circuit.ensures at c.num_poly-polys.ensures)
