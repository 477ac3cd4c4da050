-- Question 10 and D by the degrees of the expressions in the sections.
use Rattle.std.specs.Prelude.{Bool, ◌&&◌, List, [], ◌∷◌, ◌++◌, map, ℕ, ◌+◌, ◌*◌, leb, get_or, take}
use Rattle.std.proofs.Math.Option.{Option}
use Rattle.lists.specs.Lists.{tabulate, all_of, total, maximum}
use Rattle.expression.specs.Expr.{Expr, degree}
use Rattle.expression.specs.Nodes.{expr_of}
use Rattle.backend.specs.Circuit.{Pair, word, pair_at}
use Rattle.backend.specs.Constraints.{inputs_of, tables_of, least_d}
use Rattle.backend.specs.Questions.{at_most}

abbrev pub degree_of : List Expr → ℕ
degree_of es = maximum (map degree es)

-- the degree of a group's constraint, h × (input + γ) × … × (table + γ) − …: β and γ have degree 0
abbrev pub group_degree : List (List Pair) → ℕ
group_degree group = 1 + total (map (λ l. degree_of (inputs_of l)) group) + degree_of (tables_of (get_or group 0 []))

-- the lookup of n pairs of a body, from `start` on, and one side of it: 0 the inputs, 1 the tables
abbrev pub lookup_from : List ℕ → List ℕ → ℕ → ℕ → List Pair
lookup_from nodes body start n = tabulate (λ i. pair_at nodes body (start + i)) n

abbrev pub side_degree : List ℕ → List ℕ → ℕ → ℕ → ℕ → ℕ
side_degree nodes body start side n = maximum (tabulate (λ i. degree (expr_of nodes (word body ((start + i) * 2 + side)))) n)

-- lookup i, by the widths, and the group of n lookups from lookup `first` on
abbrev pub lookup_numbered : List ℕ → List ℕ → List ℕ → ℕ → List Pair
lookup_numbered nodes widths body i = lookup_from nodes body (total (take i widths)) (get_or widths i 0)

abbrev pub group_from : List ℕ → List ℕ → List ℕ → ℕ → ℕ → List (List Pair)
group_from nodes widths body first n = tabulate (λ i. lookup_numbered nodes widths body (first + i)) n

abbrev pub groups_degree : List (List (List Pair)) → ℕ
groups_degree groups = maximum (map group_degree groups)

-- "Is the degree (Rust `degree`) of each user and lookup constraint at most 1024, and, if a maximum degree stands, does no
-- user constraint exceed it?"
unfoldable pub degrees_fit : Option ℕ → List Expr → List (List (List Pair)) → Bool
degrees_fit stated constraints groups =
    all_of (λ e. leb (degree e) 1024) constraints && all_of (λ g. leb (group_degree g) 1024) groups
    && all_of (λ e. at_most stated (degree e)) constraints

-- "D the largest of 2, the stated maximum and all user and lookup constraint degrees"
unfoldable pub largest_degree : Option ℕ → List Expr → List (List (List Pair)) → ℕ
largest_degree stated constraints groups = maximum (least_d stated ∷ (map degree constraints ++ map group_degree groups))
