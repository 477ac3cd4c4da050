use Prim.Native.Nat.{ℕ, ◌+◌, ◌*◌, ◌≤◌}
use Rattle.expression.specs.Written.{ExprWritten}
use Rattle.preprocessor_constraints.specs.Copied.{factor_nodes, factors_tree}
use lib.ListN.{length}
use mathlib.Core.List.{List}
use mathlib.Core.Path.{◌≡◌}
use Rattle.preprocessor_constraints.proofs.factors.Copied.factors_product.Given as goal

abbrev pub invariant-loop-j : goal.invariant-loop-j
invariant-loop-j l = (1 ≤ l.j) × ((l.j ≤ l.columns.count) × ((l.x + 1 ≡ l.at + l.j * factor_nodes l.side) × ((length l.out ≡ length l.initial.out) × ((d : List ℕ)
    → ExprWritten l.from (factors_tree l.side l.self l.columns.first 1) l.at d l.initial.out l.initial.x
    → ExprWritten l.from (factors_tree l.side l.self l.columns.first l.j) l.at d l.out l.x))))
