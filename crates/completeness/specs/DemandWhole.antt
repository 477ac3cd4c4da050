-- Demand 3, of what the one call returned and left.
use Rattle.std.specs.Prelude.{◌≡◌, ◌≢◌, ◌↔◌, List, ℕ, ◌-◌, ◌*◌, ◌<◌, length, take, drop}
use Rattle.field.specs.Prime.{P}
use Rattle.field.specs.Field.{𝔾}
use Rattle.expression.specs.Expr.{Expr}
use Rattle.expression.specs.Nodes.{expr_of}
use Rattle.expression.specs.Value.{value_at}
use Rattle.backend.specs.Circuit.{Circuit, circuit_of, rows_of}
use Rattle.preprocessor.specs.Compose.{CutsAlike, num_z, compose, composed_constraints, composed_words, composed_nodes}
use Rattle.prover.specs.Lookup.{sum_rows, sum_counts}
use Rattle.prover.specs.Log.{Log}
use Rattle.prover.specs.Columns.{count_at, lookup_h_at, composed_environment, written_polys}
use Rattle.hyperplonk_spec.specs.Build.{Lent, log_of, words_of, column_words, check_build}
use Rattle.hyperplonk_spec.specs.Meaning.{
  Each,
  EachRow,
  EachGroup,
  NoCounts,
  HasCounts,
  SomeZero,
  ZeroConstraints,
  EqualCells,
}
use Rattle.hyperplonk_spec.specs.BuildAndSum.{before_alpha, alpha_word, before_sum, Left}

-- a call that was lent these words and buffers, and what it returned and left
module _ (lent : Lent) (y : List ℕ) (left : Left) where
  abbrev circuit : Circuit
  circuit = circuit_of lent.circuit

  -- the log of the build: all words but α and y
  abbrev log : Log 𝔾
  log = log_of lent.circuit lent.instances lent.witness (before_alpha lent.challenges)

  pub record Concluded : Type 0 where
    -- "the number is 0"; and "the row sum, given what that build wrote, answers so": "its number and its sum are both 0"
    pub number : left.answer.number ≡ 0
    pub sum : left.answer.sum ≡ 0
    -- "column words written, nodes written and z columns"
    pub column_words_is : left.answer.column_words ≡ column_words circuit
    pub node_count_is : left.answer.nodes ≡ composed_nodes circuit
    pub z_columns_is : left.answer.z_columns ≡ num_z circuit
    -- "the columns and nodes written are those document 01 defines"; "Words past those written stay untouched"
    pub columns_written : take (column_words circuit) left.columns ≡ words_of (rows_of circuit) (written_polys 𝔾 log)
    pub columns_past : drop (column_words circuit) left.columns ≡ drop (column_words circuit) lent.columns
    pub nodes_written : take (composed_nodes circuit * 4) left.nodes ≡ composed_words circuit
    pub nodes_past : drop (composed_nodes circuit * 4) left.nodes ≡ drop (composed_nodes circuit * 4) lent.nodes
    -- "at each row that value is the one `compose` above gives": the nodes written are read as that tree
    pub nodes_read : expr_of (take (composed_nodes circuit * 4) left.nodes) (composed_nodes circuit - 1) ≡ compose circuit
    -- "every composed constraint is zero on every row"
    pub constraints_zero : (α : 𝔾.F) (ys : ℕ → 𝔾.F)
        → Each (Expr.constant 0) (composed_constraints circuit)
        (λ e. EachRow 𝔾 log (λ b. value_at 𝔾 (composed_environment 𝔾 log α ys) e b ≡ 𝔾.zero))
    -- "each h sums to 0, each m sums to 2^k"; Item 3 of document 02: "Where demand 3 has m sum to 2^k, a group of s lookups has s × 2^k"
    pub h_sums : EachGroup 𝔾 log (λ group. sum_rows 𝔾 (rows_of circuit) (lookup_h_at 𝔾 log group) ≡ 𝔾.zero)
    pub m_sums : EachGroup 𝔾 log (λ group. sum_counts (rows_of circuit) (count_at 𝔾 log group) ≡ length group * rows_of circuit)
    -- "and for every alpha and every y the composed expression sums to 0"
    pub composed_sum : (α : 𝔾.F) (ys : ℕ → 𝔾.F)
        → sum_rows 𝔾 (rows_of circuit) (value_at 𝔾 (composed_environment 𝔾 log α ys) (compose circuit)) ≡ 𝔾.zero

  pub record Demanded : Type 0 where
    -- "Then 15 is given exactly when, for some lookup, no column of whole counts turns the compressed table into the compressed inputs.":
    -- for some group, into its inputs
    pub fifteen : (left.answer.number ≡ 15) ↔ NoCounts 𝔾 log
    -- "Number 17, asked after 15, is given exactly if a denominator of document 01 is zero"
    pub seventeen : (left.answer.number ≡ 17) ↔ (HasCounts 𝔾 log × SomeZero 𝔾 log)
    pub otherwise :
        -- "Let further every user constraint be zero on every row,"
        ZeroConstraints 𝔾 log
        -- "the cells of each cycle equal,": "a cycle's cells are equal if all hold one value"
        → EqualCells 𝔾 log
        -- "and both cuts of the copied columns alike."
        → CutsAlike circuit
        -- "unless 15 or 17 is given"
        → left.answer.number ≢ 15
        → left.answer.number ≢ 17
        -- "for every alpha and every y": "any α and any k values y of the field"
        → alpha_word lent.challenges < P
        → length y ≡ circuit.k
        → Each 0 y (λ v. v < P)
        → Concluded

  -- "Let the building call be lent any words and buffers for which questions 1 to 14 are yes."
  abbrev pub DemandThreeWhole : Type 0
  DemandThreeWhole = check_build (before_sum lent) ≡ 0 → Demanded
