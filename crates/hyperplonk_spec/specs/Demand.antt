-- Demand 3, as a single claim. It is stated here and proved elsewhere.
use Rattle.std.specs.Prelude.{◌≡◌, ◌≢◌, ◌↔◌, List, [], ◌∷◌, ◌++◌, ℕ, ◌-◌, ◌*◌, ◌<◌, length, take, drop}
use Rattle.field.specs.Prime.{P}
use Rattle.field.specs.Field.{𝔾}
use Rattle.expression.specs.Nodes.{expr_of}
use Rattle.backend.specs.Circuit.{circuit_of, rows_of}
use Rattle.preprocessor.specs.Compose.{compose, composed_words, composed_nodes}
use Rattle.prover.specs.Columns.{written_polys}
use Rattle.hyperplonk_spec.specs.Build.{Lent, Output, log_of, words_of, column_words, lent_build, check_build, success, build_of}
use Rattle.hyperplonk_spec.specs.RowSum.{row_sum_of, lent_sum}
use Rattle.hyperplonk_spec.specs.Meaning.{Each, NoCounts, HasCounts, SomeZero, Premises, Conclusions}

-- what a building call that was lent these words and buffers returned, and what both buffers then held
module _ (ws instances witness challenges columns nodes : List ℕ) (output : Output) where
  -- "the number is 0, the columns and nodes written are those document 01 defines"; words past those stay
  pub record Written : Type 0 where
    pub answer : output.answer ≡ success (circuit_of ws)
    pub columns_written :
        take (column_words (circuit_of ws)) output.columns
        ≡ words_of (rows_of (circuit_of ws)) (written_polys 𝔾 (log_of ws instances witness challenges))
    pub columns_past : drop (column_words (circuit_of ws)) output.columns ≡ drop (column_words (circuit_of ws)) columns
    pub nodes_written : take (composed_nodes (circuit_of ws) * 4) output.nodes ≡ composed_words (circuit_of ws)
    pub nodes_past : drop (composed_nodes (circuit_of ws) * 4) output.nodes ≡ drop (composed_nodes (circuit_of ws) * 4) nodes

  pub record Succeeds : Type 0 where
    pub written : Written
    -- "at each row that value is the one `compose` above gives": the nodes written are read as that tree
    pub nodes_read :
        expr_of (take (composed_nodes (circuit_of ws) * 4) output.nodes) (composed_nodes (circuit_of ws) - 1)
        ≡ compose (circuit_of ws)
    -- "every composed constraint is zero on every row, each h sums to 0, each m sums to 2^k, and for every alpha and every y the
    -- composed expression sums to 0"
    pub concluded : Conclusions 𝔾 (log_of ws instances witness challenges)
    -- "and the row sum, given what that build wrote, answers so"
    pub row_sum : (α : ℕ) (y : List ℕ) → α < P → length y ≡ (circuit_of ws).k → Each 0 y (λ v. v < P)
        → row_sum_of (lent_sum ws witness (take (column_words (circuit_of ws)) output.columns)
        (take (composed_nodes (circuit_of ws) * 4) output.nodes)
        (challenges ++ (α ∷ []))
        y)
        ≡ record { number = 0; sum = 0 }

  pub record Demand3 : Type 0 where
    -- "Then 15 is given exactly when, for some lookup, no column of whole counts turns …"
    pub fifteen : (output.answer.number ≡ 15) ↔ NoCounts 𝔾 (log_of ws instances witness challenges)
    -- Item 2 of document 02: "Number 17, asked after 15, is given exactly if a denominator of document 01 is zero"
    pub seventeen :
        (output.answer.number ≡ 17)
        ↔ (HasCounts 𝔾 (log_of ws instances witness challenges) × SomeZero 𝔾 (log_of ws instances witness challenges))
    -- "Let further … Then, unless 15 …": "Demand 3 then says "unless 15 or 17 is given" in place of the denominator premise"
    pub otherwise : Premises 𝔾 (log_of ws instances witness challenges) → output.answer.number ≢ 15 → output.answer.number ≢ 17
        → Succeeds

-- "Let the building call be lent any words and buffers for which questions 1 to 14 are yes."
abbrev pub DemandThreeAt : Lent → Output → Type 0
DemandThreeAt l output =
    check_build l ≡ 0
    → Demand3 l.circuit l.instances l.witness l.challenges l.columns l.nodes output

abbrev pub DemandThree : Type 0
DemandThree =
    (ws instances witness challenges columns nodes : List ℕ)
    → DemandThreeAt (lent_build ws instances witness challenges columns nodes)
    (build_of (lent_build ws instances witness challenges columns nodes))
