use lib.ListN.{length, get_or}
use Rattle.expression.specs.Expr.{degree as degree_at}
use Rattle.expression.specs.Nodes.{expr_of}
use Rattle.backend.proofs.Degree.{Most}
use Rattle.backend_nodes.proofs.degrees.user_degree.Given as goal

abbrev pub invariant-loop-root : goal.invariant-loop-root
invariant-loop-root l = Most (λ j. degree_at (expr_of l.nodes (get_or l.constraints j 0))) (length l.constraints) l.degree l.root-index
