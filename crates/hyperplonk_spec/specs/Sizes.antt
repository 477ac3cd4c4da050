-- What a circuit asks for, told before there is a log. Item 1 of document 02: "From circuit words alone we want column words, nodes of the
-- composed expression, and node visits in one evaluation of it on one row, worked out without building."
use Rattle.std.specs.Prelude.{◌≡◌, ◌≢◌, ◌⊎◌, ◌↔◌, true, cond, List, map, ℕ, ◌-◌, ◌*◌, ◌≤◌, ◌<◌, length, eqb}
use Rattle.field.specs.Field.{𝔾}
use Rattle.lists.specs.Lists.{total, first_no}
use Rattle.expression.specs.Expr.{Expr, Ops, evaluate}
use Rattle.expression.specs.Nodes.{expr_of}
use Rattle.expression.specs.Flat.{size, flat}
use Rattle.expression.specs.Value.{value_ops, value_at}
use Rattle.expression.specs.Visits.{visited, visits, not_items}
use Rattle.backend.specs.Circuit.{Circuit, circuit_of, num_nodes}
use Rattle.backend.specs.Questions.{q7, circuit_questions}
use Rattle.preprocessor.specs.Compose.{compose, composed_words, composed_nodes}
use Rattle.hyperplonk_spec.specs.Build.{column_words, q12, q13, check_build, build_of, lent_build}
use Rattle.hyperplonk_spec.specs.RowSum.{row_sum_environment}
use Rattle.hyperplonk_spec.specs.declared.Sizes.{Sizes}

-- "node visits in one evaluation of it on one row"
unfoldable pub composed_visits : Circuit → ℕ
composed_visits c = visits (compose c)

-- "A refusal returns three zeros after its number."
abbrev pub no_sizes : ℕ → Sizes
no_sizes n = record { number = n; column_words = 0; nodes = 0; visits = 0 }

abbrev pub circuit_sizes : Circuit → Sizes
circuit_sizes c = record { number = 0; column_words = column_words c; nodes = composed_nodes c; visits = composed_visits c }

-- "Numbers 1 to 11 apply as they do when building."
unfoldable pub sizes_of : List ℕ → Sizes
sizes_of ws =
    let number : ℕ = first_no circuit_questions ws in
    cond (eqb number 0) (circuit_sizes (circuit_of ws)) (no_sizes number)

-- ---- what these numbers tell of the other calls

-- the most words that columns can take, the most nodes that a composed expression can, and that an evaluation of it can visit
abbrev pub most_column_words : ℕ
most_column_words = 188416

abbrev pub most_nodes : ℕ
most_nodes = 11295

abbrev pub most_visits : ℕ
most_visits = 11047

-- a buffer has fewer words than these numbers say
abbrev pub TooShort : Sizes → List ℕ → List ℕ → Type 0
TooShort s columns nodes = (length columns < s.column_words) ⊎ (length nodes < s.nodes * 4)

-- a building call that is lent the same circuit words, and any others
module _ (ws : List ℕ) (s : Sizes) (instances witness challenges columns nodes : List ℕ) where
  -- "The building call must need exactly the words foretold, so 14 follows from these numbers. Numbers 1 to 11 apply as they do when building."
  pub record ForetellsBuild : Type 0 where
    pub refused : s.number ≢ 0 → (build_of (lent_build ws instances witness challenges columns nodes)).answer.number ≡ s.number
    -- with 1 to 13 yes, 14 is given exactly when a buffer is too short, and else 1 to 14 are yes
    pub fourteen : s.number ≡ 0 → q12 (circuit_of ws) instances witness challenges ≡ true → q13 instances witness challenges ≡ true
        → ((build_of (lent_build ws instances witness challenges columns nodes)).answer.number ≡ 14) ↔ TooShort s columns nodes
    pub enough : s.number ≡ 0 → q12 (circuit_of ws) instances witness challenges ≡ true → q13 instances witness challenges ≡ true
        → (TooShort s columns nodes → ⊥)
        → check_build (lent_build ws instances witness challenges columns nodes) ≡ 0
    -- where 0 is given, these numbers are returned
    pub built : (build_of (lent_build ws instances witness challenges columns nodes)).answer.number ≡ 0
        → (s.number ≡ 0)
        × ((build_of (lent_build ws instances witness challenges columns nodes)).answer.column_words ≡ s.column_words)
        × ((build_of (lent_build ws instances witness challenges columns nodes)).answer.nodes ≡ s.nodes)

-- the composed expression as the row sum reads it, from its last node
abbrev pub read_composed : List ℕ → Expr
read_composed ws = expr_of (composed_words (circuit_of ws)) (composed_nodes (circuit_of ws) - 1)

-- "The visits equal a count in the evaluation's definition": evaluating on row b, whatever the row sum is lent, gives the row's value and
-- these visits
abbrev pub ForetellsRow : List ℕ → Sizes → Type 0
ForetellsRow ws s =
    (witness columns challenges y : List ℕ) (b : ℕ)
    → visited (value_ops 𝔾 (row_sum_environment ws witness columns challenges y) b) (read_composed ws)
    ≡ record { value = value_at 𝔾 (row_sum_environment ws witness columns challenges y) (read_composed ws) b; visits = s.visits }

pub record Foretells (ws : List ℕ) (s : Sizes) : Type 0 where
  pub build : (instances witness challenges columns nodes : List ℕ) → ForetellsBuild ws s instances witness challenges columns nodes
  pub row : s.number ≡ 0 → ForetellsRow ws s
  -- "every node once but Items not at all": as many as the nodes that building writes and that are no Item
  pub no_items : s.number ≡ 0 → not_items (composed_words (circuit_of ws)) ≡ s.visits
  pub most_words_is : s.column_words ≤ most_column_words
  pub most_nodes_is : s.nodes ≤ most_nodes
  pub most_visits_is : s.visits ≤ most_visits

-- ---- what is claimed of the trees, and of a counted evaluation over any values

-- where question 7 is yes, the trees that are read from the roots take together as many nodes as the circuit has, and so no more
abbrev pub CircuitForest : Type 0
CircuitForest = (c : Circuit) → q7 c ≡ true → total (map (λ r. size (expr_of c.nodes r)) c.roots) ≡ num_nodes c

-- a counted evaluation has the value of `evaluate`
abbrev pub VisitedValue : Type 1
VisitedValue = (T : Type 0) (o : Ops T) (e : Expr) → (visited o e).value ≡ evaluate o e

-- it visits as many nodes whatever the values are
abbrev pub VisitsSame : Type 1
VisitsSame = (T : Type 0) (o : Ops T) (e : Expr) → (visited o e).visits ≡ visits e

-- they are the nodes that are written and are no Item
abbrev pub VisitsWritten : Type 0
VisitsWritten = (e : Expr) (n : ℕ) → not_items (flat e n) ≡ visits e
