-- What is counted of expressions before they are written; an Item is counted as `item`.
use Rattle.std.specs.Prelude.{List, [], ◌∷◌, ℕ, zero, suc, ◌+◌, ◌*◌}
use Rattle.expression.specs.Expr.{Expr}
use Rattle.expression.specs.Walks.{weight}

-- the nodes that expressions take one behind the other
unfoldable pub nodes_in : ℕ → List Expr → ℕ
nodes_in item [] = 0
nodes_in item (e ∷ es) = weight item e + nodes_in item es

-- what `distribute_powers` adds to n expressions: base, Items and kind 11; a list of one is its item; no list is Constant 0
unfoldable pub list_nodes : ℕ → ℕ → ℕ
list_nodes item zero = 1
list_nodes item (suc zero) = 0
list_nodes item (suc (suc n)) = suc (suc n) * item + 2

-- the nodes of a group's constraint, of s lookups whose inputs take so many and whose table takes so many
unfoldable pub group_nodes : ℕ → ℕ → ℕ → ℕ
group_nodes s inputs table = suc s * (inputs + s) + table * 2 + 6
