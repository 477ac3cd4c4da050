use Prim.Native.Nat.{◌+◌, ◌*◌}
use lib.ListN.{get_or}
use Rattle.expression.specs.Expr.{degree as degree_at}
use Rattle.expression.specs.Nodes.{expr_of}
use Rattle.backend.proofs.Degree.{Most}
use Rattle.backend_nodes.proofs.lookups.Lookups.side_degree.Given as goal

abbrev pub invariant-loop-i : goal.invariant-loop-i
invariant-loop-i l = Most (λ j. degree_at (expr_of l.self.nodes.now (get_or l.self.pairs.now ((l.start + j) * 2 + l.side) 0))) l.n l.degree l.i
