-- The node order of a group of two lookups, spelled out, and the nodes of a group of three: each input and the table one query. Proved.
use mathlib.Core.Path.{◌≡◌, refl}
use mathlib.Core.List.{List, [], ◌∷◌}
use Prim.Native.Nat.{ℕ}
use Rattle.expression.specs.Expr.{Expr, at, degree, evaluate, degree_ops, distribute_powers, product_from, product_of}
use Rattle.expression.specs.Flat.{body, size, flat}
use Rattle.backend.specs.Constraints.{side_of, group_tree, numerator_tree, omit_one, sum_of, sum_from}

-- query q, and gamma, with no user challenge
side : ℕ → Expr
side q = side_of 0 (at q ∷ [])

-- m is polynomial 3, h polynomial 4; inputs 1 and 2, table 0
two : Expr
two = group_tree (at 3) (at 4) (side 1 ∷ side 2 ∷ []) (side 0)

three : Expr
three = group_tree (at 3) (at 4) (side 1 ∷ side 2 ∷ side 5 ∷ []) (side 0)

two_nodes : size two ≡ 36
unfolding two side group_tree numerator_tree omit_one sum_of sum_from distribute_powers product_from product_of body
two_nodes = refl

two_degree : degree two ≡ 4
unfolding two side group_tree numerator_tree omit_one sum_of sum_from distribute_powers product_from product_of degree evaluate degree_ops
two_degree = refl

three_nodes : size three ≡ 60
unfolding three side group_tree numerator_tree omit_one sum_of sum_from distribute_powers product_from product_of body
three_nodes = refl

-- the first word of each node
kinds : List ℕ → List ℕ
kinds [] = []
kinds (k ∷ a ∷ b ∷ v ∷ ws) = k ∷ kinds ws
kinds (k ∷ []) = []
kinds (k ∷ a ∷ []) = []
kinds (k ∷ a ∷ b ∷ []) = []

-- h * I₁ * I₂ * T; T * (I₂ + I₁); the sign and the sum; m * I₁ * I₂; the sum
two_order : kinds (flat two 0)
    ≡ (5 ∷ 5 ∷ 6 ∷ 8 ∷ 9 ∷ 5 ∷ 6 ∷ 8 ∷ 9 ∷ 5 ∷ 6 ∷ 8 ∷ 9 ∷ 5 ∷ 6 ∷ 8 ∷ 5 ∷ 6 ∷ 8 ∷ 5 ∷ 6 ∷ 8 ∷ 8 ∷ 9 ∷ 7 ∷ 8 ∷ 5 ∷ 5 ∷ 6 ∷ 8 ∷ 9 ∷ 5 ∷ 6 ∷ 8 ∷ 9 ∷ 8 ∷ [])
unfolding kinds two side group_tree numerator_tree omit_one sum_of sum_from distribute_powers product_from product_of flat body
two_order = refl
