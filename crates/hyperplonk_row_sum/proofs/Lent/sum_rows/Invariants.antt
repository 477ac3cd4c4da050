use mathlib.Core.Path.{◌≡◌}
use Prim.Native.Nat.{◌-◌}
use Rattle.field.specs.Field.{𝔾}
use Rattle.field.specs.Element.{elem}
use Rattle.bh.specs.Rows.{row_at}
use Rattle.expression.specs.Nodes.{expr_of}
use Rattle.expression.specs.Value.{value_at}
use Rattle.backend.specs.Circuit.{circuit_of}
use Rattle.preprocessor.specs.Compose.{composed_nodes}
use Rattle.hyperplonk_spec.specs.RowSum.{row_sum_environment}
use Rattle.hyperplonk_row_sum.proofs.Rows.{Added}
use Rattle.hyperplonk_row_sum.proofs.Lent.sum_rows.Given as goal

abbrev pub invariant-loop-place : goal.invariant-loop-place
invariant-loop-place l = (l.row ≡ row_at l.k l.place) × Added l.k (value_at 𝔾 (row_sum_environment l.prepared.circuit.words.now l.self.witness.now l.self.columns.now l.self.challenges.now l.self.y.now) (expr_of l.self.nodes.now (composed_nodes (circuit_of l.prepared.circuit.words.now) - 1))) (elem l.sum) l.place
