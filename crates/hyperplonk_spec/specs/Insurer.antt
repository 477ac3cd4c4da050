-- The insurer's first two questions, "Can a good log be turned away? Does a table row listed twice spoil a count?", as claims. They are
-- stated here and proved elsewhere.
use Rattle.std.specs.Prelude.{◌≡◌, ◌≢◌, ◌⊎◌, ◌↔◌, true, List, [], ◌∷◌, ◌++◌, ℕ, ◌+◌, ◌*◌, ◌^◌, ◌≤◌, ◌<◌, length, get_or, take, eqb}
use Rattle.field.specs.Prime.{P}
use Rattle.field.specs.Algebra.{Field}
use Rattle.field.specs.Field.{𝔾, el}
use Rattle.lists.specs.Lists.{All, any_of, first_no}
use Rattle.expression.specs.Expr.{Expr}
use Rattle.expression.specs.Value.{value_at}
use Rattle.backend.specs.Circuit.{Pair, Circuit, circuit_of, rows_of, num_instance, num_copied, num_lookups, num_groups, groups_of}
use Rattle.backend.specs.Questions.{circuit_questions, q18, largest_k}
use Rattle.preprocessor.specs.Compose.{CutsAlike, composed_nodes}
use Rattle.prover.specs.Lookup.{Turns, sum_rows, sum_counts}
use Rattle.prover.specs.Log.{Log}
use Rattle.prover.specs.Columns.{user_environment, group_inputs, group_table, count_at, lookup_h_at, all_covered}
use Rattle.hyperplonk_spec.specs.Build.{log_of, column_words, check_build, build_of, lent_build}
use Rattle.hyperplonk_spec.specs.RowSum.{row_sum_of, lent_sum}
use Rattle.hyperplonk_spec.specs.Meaning.{Each, EachRow, EachLookup, HasCounts, ZeroConstraints, EqualCells, NoneZero, SomeZero, Premises}
use Rattle.hyperplonk_spec.specs.Papers.{fraction, input_fractions, paper_h, normalized_multiplicity, total_of, SharedHolds}

-- what a lookup's list of pairs has past its end
abbrev pub no_pair : Pair
no_pair = record { input = Expr.constant 0; table = Expr.constant 0 }

-- ---- over any field

module _ (𝓕 : Field) where
  open 𝓕 use {F, zero, add}

  -- the same log with other β and γ
  abbrev pub drawn : Log 𝓕 → F → F → Log 𝓕
  drawn g β γ =
      record {
        circuit = g.circuit;
        el = g.el;
        instances = g.instances;
        witness = g.witness;
        user = g.user;
        β = β;
        γ = γ;
      }

  module _ (g : Log 𝓕) where
    -- "each reading stands in the approved table": for each lookup and every row b there is a row r such that, in each of the lookup's
    -- pairs, the input's value at b is the table's at r. Nothing is compressed here, so neither β nor γ matters
    abbrev pub ReadingsStand : Type 0
    ReadingsStand =
        EachLookup 𝓕 g
        (λ l.
        EachRow 𝓕 g
        (λ b.
        (r : ℕ)
        × (r < rows_of g.circuit)
        × Each no_pair l (λ p. value_at 𝓕 (user_environment 𝓕 g) p.input b ≡ value_at 𝓕 (user_environment 𝓕 g) p.table r)))

    -- a good log: each reading stands in the table and, in the words of demand 3, "every user constraint be zero on every row, the cells of
    -- each cycle equal, … and both cuts of the copied columns alike". Neither β nor γ matters here
    pub record Good : Type 0 where
      pub readings_stand : ReadingsStand
      pub zero_constraints : ZeroConstraints 𝓕 g
      pub equal_cells : EqualCells 𝓕 g
      pub cuts_alike : CutsAlike g.circuit

-- if each reading stands in the table and the tables of a group are alike (18), question 15 is yes, whatever β and γ are
abbrev pub ReadingsCovered : Type 1
ReadingsCovered =
    (𝓕 : Field) (g : Log 𝓕) → q18 g.circuit ≡ true → ReadingsStand 𝓕 g → (β γ : 𝓕.F)
    → all_covered 𝓕 (drawn 𝓕 g β γ) ≡ true

-- no circuit has more denominators than 2^k × (lookups + groups + copied columns)
abbrev pub denominators : Circuit → ℕ
denominators c = rows_of c * (num_lookups c + num_groups c + num_copied c)

-- all else fixed, no more γ than that make a denominator zero: they make a list of at most so many values, and no denominator is zero
-- exactly when γ is none of these
abbrev pub OddsOf : Type 1
OddsOf =
    (𝓕 : Field) (g : Log 𝓕)
    → (unlucky : List 𝓕.F)
    × (length unlucky ≤ denominators g.circuit)
    × ((γ : 𝓕.F) → NoneZero 𝓕 (drawn 𝓕 g g.β γ) ↔ All (λ u. γ ≢ u) unlucky)

-- by the limits of questions 2 and 3 (k to 10, 8 lookups, 8 + 32 + 32 columns to copy), and as there are no more groups than lookups,
-- that is at most 90112, of the p values of γ
abbrev pub OddsLimit : Type 0
OddsLimit = (ws : List ℕ) → first_no circuit_questions ws ≡ 0 → denominators (circuit_of ws) ≤ 2 ^ largest_k * (8 + 8 + (8 + 32 + 32))

-- ---- of the building call

-- "The column buffer holds instance, permutation, compressed input and table per lookup, m, h, z, each 2^k words": the words of the m
-- and of the h column of group j, at row b
abbrev pub m_word : Circuit → List ℕ → ℕ → ℕ → ℕ
m_word c columns j b = get_or columns ((num_instance c + num_copied c + num_lookups c * 2 + j) * rows_of c + b) 0

abbrev pub h_word : Circuit → List ℕ → ℕ → ℕ → ℕ
h_word c columns j b = get_or columns ((num_instance c + num_copied c + num_lookups c * 2 + num_groups c + j) * rows_of c + b) 0

-- a call that was lent these words and buffers
module _ (ws instances witness challenges columns nodes : List ℕ) where
  -- the row sum of what it wrote answers 0 and 0: "given that build's circuit words, witness and challenges, any α and any k values y of
  -- the field, and the column and node words as written; its number and its sum are both 0"
  abbrev pub SumsToZero : Type 0
  SumsToZero =
      (α : ℕ) (y : List ℕ) → α < P → length y ≡ (circuit_of ws).k → Each 0 y (λ v. v < P)
      → row_sum_of (lent_sum ws witness (take (column_words (circuit_of ws)) (build_of (lent_build ws instances witness challenges columns nodes)).columns)
      (take (composed_nodes (circuit_of ws) * 4) (build_of (lent_build ws instances witness challenges columns nodes)).nodes)
      (challenges ++ (α ∷ []))
      y)
      ≡ record { number = 0; sum = 0 }

  -- the log is not turned away, neither by a number nor by the sum
  pub record Passes : Type 0 where
    pub number : (build_of (lent_build ws instances witness challenges columns nodes)).answer.number ≡ 0
    pub row_sum : SumsToZero

-- of a log, group j, and the columns buffer as a call left it: what does not go wrong where a table row is listed twice
module _ (g : Log 𝔾) (left : List ℕ) (j : ℕ) where
  abbrev group : List (List Pair)
  group = get_or (groups_of g.circuit) j []

  abbrev rows : ℕ
  rows = rows_of g.circuit

  -- the compressed inputs and table, and the words of m and h
  abbrev inputs : List (ℕ → 𝔾.F)
  inputs = group_inputs 𝔾 g group

  abbrev table : ℕ → 𝔾.F
  table = group_table 𝔾 g group

  abbrev m : ℕ → ℕ
  m = m_word g.circuit left j

  abbrev h : ℕ → ℕ
  h = h_word g.circuit left j

  pub record CountsUnspoilt : Type 0 where
    -- "for every value v, the counts at the rows where the table is v add up to the number of rows where the input is v": as whole numbers
    pub turns : Turns 𝔾 rows inputs table m
    -- "each m sums to 2^k", "a group of s lookups has s × 2^k", as whole numbers
    pub m_sums : sum_counts rows m ≡ length group * rows
    -- "Σh = 0 is Haböck's identity": of the words, and of h as defined
    pub h_sums : sum_rows 𝔾 rows (λ b. el (h b)) ≡ 𝔾.zero
    pub h_sums_defined : sum_rows 𝔾 rows (lookup_h_at 𝔾 g group) ≡ 𝔾.zero
    -- "Haböck's paper shares a count out among equal table rows; here the last row takes it all, … with the same total for each table value"
    pub same_totals : (v : 𝔾.F) → total_of 𝔾 el rows inputs table (λ r. el (m r)) v ≡ total_of 𝔾 el rows inputs table (normalized_multiplicity 𝔾 el rows inputs table) v
    -- Haböck's identity for the words of m: Σ 1/(γ + input) = Σ m/(γ + table)
    pub identity :
        input_fractions 𝔾 el rows inputs table g.γ
        ≡ sum_rows 𝔾 rows (λ b. fraction 𝔾 (el (m b)) (𝔾.add g.γ (table b)))
    -- the words of h are the paper's sums of fractions with the words of m: 1/(γ + input) − m/(γ + table)
    pub h_is : (b : ℕ) → b < rows → el (h b) ≡ paper_h 𝔾 g.γ inputs table (λ r. el (m r)) b
    -- and with the paper's shared multiplicities in place of m: Σ 1/(γ + input) = Σ m/(γ + table), and Σ h = 0
    pub shared : SharedHolds 𝔾 el rows inputs table g.γ
    -- the words are the counts of `lookup_m_poly` themselves: none reaches p
    pub whole : (b : ℕ) → b < rows → m b ≡ count_at 𝔾 g group b

-- "Can a good log be turned away?" Let questions 1 to 14 be yes. If each reading stands in the table, the number is 0 or 17, and 17 exactly
-- if a denominator is zero; with the other premises of demand 3, and not 17, the number is 0 and the row sum of what was written
-- answers 0 and 0
abbrev pub GoodLog : Type 0
GoodLog =
    (ws instances witness challenges columns nodes : List ℕ) → check_build (lent_build ws instances witness challenges columns nodes) ≡ 0
    → ReadingsStand 𝔾 (log_of ws instances witness challenges)
    → (((build_of (lent_build ws instances witness challenges columns nodes)).answer.number ≡ 0)
    ⊎ ((build_of (lent_build ws instances witness challenges columns nodes)).answer.number ≡ 17))
    × (((build_of (lent_build ws instances witness challenges columns nodes)).answer.number ≡ 17) ↔ SomeZero 𝔾 (log_of ws instances witness challenges))
    × (Premises 𝔾 (log_of ws instances witness challenges) → (build_of (lent_build ws instances witness challenges columns nodes)).answer.number ≢ 17
    → Passes ws instances witness challenges columns nodes)

-- how many γ can give 17: for any words but γ there is a list of at most as many words as there are denominators, and each γ with which
-- the call gives 17, whatever buffers it is lent, is one of these
abbrev pub Odds : Type 0
Odds =
    (ws instances witness user : List ℕ) (β : ℕ)
    → (unlucky : List ℕ)
    × (length unlucky ≤ denominators (circuit_of ws))
    × ((γ : ℕ) (columns nodes : List ℕ)
    → (build_of (lent_build ws instances witness (user ++ (β ∷ γ ∷ [])) columns nodes)).answer.number ≡ 17
    → any_of (eqb γ) unlucky ≡ true)

-- by no β, and by few γ: for any words but γ there is a list of at most as many words as there are denominators, and with a γ that is
-- none of these each good log passes
abbrev pub FewTurnedAway : Type 0
FewTurnedAway =
    (ws instances witness user : List ℕ) (β : ℕ)
    → (unlucky : List ℕ)
    × (length unlucky ≤ denominators (circuit_of ws))
    × ((γ : ℕ) → All (λ u. γ ≢ u) unlucky → (columns nodes : List ℕ)
    → check_build (lent_build ws instances witness (user ++ (β ∷ γ ∷ [])) columns nodes) ≡ 0
    → Good 𝔾 (log_of ws instances witness (user ++ (β ∷ γ ∷ [])))
    → Passes ws instances witness (user ++ (β ∷ γ ∷ [])) columns nodes)

-- "Does a table row listed twice spoil a count?" All that is supposed is that the number is 0
abbrev pub RowListedTwice : Type 0
RowListedTwice =
    (ws instances witness challenges columns nodes : List ℕ)
    → (build_of (lent_build ws instances witness challenges columns nodes)).answer.number ≡ 0
    → (j : ℕ) → j < num_groups (circuit_of ws)
    → CountsUnspoilt (log_of ws instances witness challenges) (build_of (lent_build ws instances witness challenges columns nodes)).columns j

-- which it is exactly when questions 1 to 14 are yes, for each group some column of whole counts turns the table into the inputs, and no
-- denominator is zero
abbrev pub ZeroWhen : Type 0
ZeroWhen =
    (ws instances witness challenges columns nodes : List ℕ)
    → ((build_of (lent_build ws instances witness challenges columns nodes)).answer.number ≡ 0)
    ↔ ((check_build (lent_build ws instances witness challenges columns nodes) ≡ 0)
    × HasCounts 𝔾 (log_of ws instances witness challenges)
    × NoneZero 𝔾 (log_of ws instances witness challenges))
