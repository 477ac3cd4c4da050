use mathlib.Core.Path.{◌≡◌}
use Prim.Native.Nat.{◌+◌, ◌/◌, ◌%◌, ◌≤◌}
use Rattle.lists.specs.Lists.{tabulate, count_of}
use Rattle.expression.specs.Expr.{used_query}
use Rattle.expression.specs.Nodes.{expr_of}
use Rattle.expression.specs.Queries.{query_of}
use Rattle.expression_query.proofs.count_queries.Given as goal

abbrev pub invariant-loop-i : goal.invariant-loop-i
invariant-loop-i l = (l.i ≤ l.end) × (l.count ≤ l.i) × (l.count ≡ count_of (used_query (expr_of l.ws l.n)) (tabulate (λ j. query_of (j / l.wide) (l.low + j % l.wide)) l.i))
