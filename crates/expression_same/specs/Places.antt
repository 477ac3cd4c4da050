-- Node n as the place n + 1; place 0 is no node.
use Rattle.std.specs.Prelude.{ℕ, zero, suc}
use Rattle.expression.specs.declared.node.Node.{Node}
use Rattle.expression.specs.Expr.{Expr}
use Rattle.expression.specs.Nodes.{node_of, kind_of, no_expr, no_exprs}

-- f of the node at a place, and d of no node
unfoldable pub placed : {A : Type 0} → A → (ℕ → A) → ℕ → A
placed d f zero = d
placed d f (suc n) = f n

abbrev pub no_node : Node
no_node = record { kind = 0; first = 0; second = 0; value = 0 }

-- a node's expression, with Constant 0 for all that is below it
unfoldable pub alone : Node → Expr
alone d = node_of (kind_of d.kind) (λ a. no_expr) (λ a. no_exprs) d.first d.second d.value
