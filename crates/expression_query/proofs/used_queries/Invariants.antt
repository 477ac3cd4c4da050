use mathlib.Core.Path.{◌≡◌}
use Prim.Native.Nat.{◌+◌, ◌/◌, ◌%◌, ◌≤◌}
use lib.ListN.{length}
use Rattle.expression.specs.Expr.{used_query}
use Rattle.expression.specs.Nodes.{expr_of}
use Rattle.expression.specs.Queries.{query_of}
use Rattle.expression.proofs.Queries.{Into}
use Rattle.expression_query.proofs.used_queries.Given as goal

abbrev pub invariant-loop-i : goal.invariant-loop-i
invariant-loop-i l = (l.i ≤ l.end) × (length l.out ≡ length l.initial.out)
    × Into (used_query (expr_of l.ws l.n)) (λ j. query_of (j / l.wide) (l.low + j % l.wide)) l.initial.out l.i l.out l.at
