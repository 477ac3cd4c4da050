-- "The words of demand 3", over any field: what is supposed of a log, and what then holds.
use Rattle.std.specs.Prelude.{◌≡◌, ◌≢◌, ◌⊎◌, ◌↔◌, true, false, List, [], ℕ, suc, ◌*◌, ◌<◌, length, get_or}
use Rattle.field.specs.Algebra.{Field}
use Rattle.lists.specs.Lists.{first_no}
use Rattle.expression.specs.Expr.{Expr}
use Rattle.expression.specs.Value.{poly_of, value_at}
use Rattle.backend.specs.Circuit.{Pair, Cell, circuit_of, rows_of, num_copied, num_challenges, groups_of}
use Rattle.backend.specs.Questions.{circuit_questions}
use Rattle.preprocessor.specs.Compose.{CutsAlike, compose, composed_constraints}
use Rattle.prover.specs.Lookup.{Turns, sum_rows, sum_counts}
use Rattle.prover.specs.Log.{Log}
use Rattle.prover.specs.Columns.{
  given_polys,
  user_environment,
  input_at,
  group_inputs,
  group_table,
  count_at,
  all_covered,
  lookup_h_at,
  permutation_factor_at,
  composed_environment,
}
use Rattle.prover.specs.Denominators.{zero_denominator}

-- what a list of cells has past its end
abbrev pub no_cell : Cell
no_cell = record { polynomial = 0; row = 0 }

-- each entry of a list has the property; d stands past its end and is not asked
abbrev pub Each : {A : Type 0} → A → List A → (A → Type 0) → Type 0
Each d xs Q = (i : ℕ) → i < length xs → Q (get_or xs i d)

module _ (𝓕 : Field) where
  open 𝓕 use {F, zero, one, add, mul, neg, inv}

  -- words enter the field as sums of ones: 0 as zero, n + 1 as n and one
  pub record Embeds (el : ℕ → F) : Type 0 where
    pub el_zero : el 0 ≡ zero
    pub el_suc : (n : ℕ) → el (suc n) ≡ add (el n) one

  module _ (g : Log 𝓕) where
    -- what "any words … for which questions 1 to 14 are yes" comes to, for a log over any field: its circuit is read from words for
    -- which questions 1 to 11 are yes, it has as many user challenges as they name, and words enter as sums of ones
    pub record Admitted : Type 0 where
      pub words : List ℕ
      pub read : g.circuit ≡ circuit_of words
      pub passed : first_no circuit_questions words ≡ 0
      pub user_all : length g.user ≡ num_challenges g.circuit
      pub embeds : Embeds g.el

    -- on every row, for each lookup, and for each group: Item 3 of document 02 has one m and one h for a group of lookups
    abbrev pub EachRow : (ℕ → Type 0) → Type 0
    EachRow Q = (b : ℕ) → b < rows_of g.circuit → Q b

    abbrev pub EachLookup : (List Pair → Type 0) → Type 0
    EachLookup Q = Each [] g.circuit.lookups Q

    abbrev pub EachGroup : (List (List Pair) → Type 0) → Type 0
    EachGroup Q = Each [] (groups_of g.circuit) Q

    -- "A cell's value is its polynomial's at its row"
    unfoldable pub cell_value : Cell → F
    cell_value x = poly_of 𝓕 (given_polys 𝓕 g) x.polynomial x.row

    -- "for some lookup, no column of whole counts turns the compressed table into the compressed inputs": for some group, into its inputs
    unfoldable pub NoCounts : Type 0
    NoCounts =
        (j : ℕ)
        × (j < length (groups_of g.circuit))
        × ((m : ℕ → ℕ)
        → Turns 𝓕 (rows_of g.circuit) (group_inputs 𝓕 g (get_or (groups_of g.circuit) j []))
        (group_table 𝓕 g (get_or (groups_of g.circuit) j []))
        m
        → ⊥)

    -- and the contrary: for each group some column of whole counts does
    abbrev pub HasCounts : Type 0
    HasCounts =
        EachGroup (λ group. (m : ℕ → ℕ) × Turns 𝓕 (rows_of g.circuit) (group_inputs 𝓕 g group) (group_table 𝓕 g group) m)

    -- "every user constraint be zero on every row"
    abbrev pub ZeroConstraints : Type 0
    ZeroConstraints =
        Each (Expr.constant 0) g.circuit.constraints (λ e. EachRow (λ b. value_at 𝓕 (user_environment 𝓕 g) e b ≡ zero))

    -- "the cells of each cycle equal": "a cycle's cells are equal if all hold one value"
    abbrev pub EqualCells : Type 0
    EqualCells =
        Each [] g.circuit.cycles (λ cycle. Each no_cell cycle (λ x. Each no_cell cycle (λ y. cell_value x ≡ cell_value y)))

    -- no denominator is zero: they "are γ + input and γ + table on all rows, and the inverted factors on every row but 0": of a group,
    -- γ + input for each of its lookups, and γ + table
    abbrev pub NoZeroInput : Type 0
    NoZeroInput = EachGroup (λ group. Each [] group (λ l. EachRow (λ b. add g.γ (input_at 𝓕 g l b) ≢ zero)))

    abbrev pub NoZeroTable : Type 0
    NoZeroTable = EachGroup (λ group. EachRow (λ b. add g.γ (group_table 𝓕 g group b) ≢ zero))

    abbrev pub NoZeroFactor : Type 0
    NoZeroFactor = (i : ℕ) → i < num_copied g.circuit → EachRow (λ b. 0 < b → permutation_factor_at 𝓕 g i b ≢ zero)

    pub record NoneZero : Type 0 where
      pub input_denominators : NoZeroInput
      pub table_denominators : NoZeroTable
      pub factor_denominators_is : NoZeroFactor

    -- "a denominator of document 01 is zero": there is a group, a lookup of it or its table, and a row, or a copied column and a row but 0
    abbrev pub SomeRow : (ℕ → Type 0) → Type 0
    SomeRow Q = (b : ℕ) × (b < rows_of g.circuit) × Q b

    abbrev pub SomeGroup : (List (List Pair) → Type 0) → Type 0
    SomeGroup Q = (j : ℕ) × (j < length (groups_of g.circuit)) × Q (get_or (groups_of g.circuit) j [])

    abbrev pub SomeMember : List (List Pair) → (List Pair → Type 0) → Type 0
    SomeMember group Q = (i : ℕ) × (i < length group) × Q (get_or group i [])

    abbrev pub ZeroInput : Type 0
    ZeroInput = SomeGroup (λ group. SomeMember group (λ l. SomeRow (λ b. add g.γ (input_at 𝓕 g l b) ≡ zero)))

    abbrev pub ZeroTable : Type 0
    ZeroTable = SomeGroup (λ group. SomeRow (λ b. add g.γ (group_table 𝓕 g group b) ≡ zero))

    abbrev pub ZeroFactor : Type 0
    ZeroFactor = (i : ℕ) × (i < num_copied g.circuit) × SomeRow (λ b. (0 < b) × (permutation_factor_at 𝓕 g i b ≡ zero))

    abbrev pub SomeZero : Type 0
    SomeZero = ZeroInput ⊎ (ZeroTable ⊎ ZeroFactor)

    -- "Let further every user constraint be zero on every row, the cells of each cycle equal, … and both cuts of the copied columns alike."
    pub record Premises : Type 0 where
      pub zero_constraints : ZeroConstraints
      pub equal_cells : EqualCells
      pub cuts_alike : CutsAlike g.circuit

    -- "Then, unless 15 …": Item 2 of document 02: "unless 15 or 17 is given"
    pub record Conclusions : Type 0 where
      -- "every composed constraint is zero on every row"
      pub constraints_zero : (α : F) (y : ℕ → F)
          → Each (Expr.constant 0) (composed_constraints g.circuit)
          (λ e. EachRow (λ b. value_at 𝓕 (composed_environment 𝓕 g α y) e b ≡ zero))
      -- "each h sums to 0, each m sums to 2^k": "Counts add as whole numbers, all else in the field." Item 3 of document 02: "Where demand 3
      -- has m sum to 2^k, a group of s lookups has s × 2^k"
      pub h_sums : EachGroup (λ group. sum_rows 𝓕 (rows_of g.circuit) (lookup_h_at 𝓕 g group) ≡ zero)
      pub m_sums : EachGroup (λ group. sum_counts (rows_of g.circuit) (count_at 𝓕 g group) ≡ length group * rows_of g.circuit)
      -- "and for every alpha and every y the composed expression sums to 0"
      pub composed_sum : (α : F) (y : ℕ → F)
          → sum_rows 𝓕 (rows_of g.circuit) (value_at 𝓕 (composed_environment 𝓕 g α y) (compose g.circuit)) ≡ zero

    -- demand 3, over any field
    pub record Demand3Of : Type 0 where
      pub refused_when : (all_covered 𝓕 g ≡ false) ↔ NoCounts
      pub covered_when : (all_covered 𝓕 g ≡ true) ↔ HasCounts
      pub some_zero_when : (zero_denominator 𝓕 g ≡ true) ↔ SomeZero
      pub none_zero_when : (zero_denominator 𝓕 g ≡ false) ↔ NoneZero
      pub holds_when : Premises → all_covered 𝓕 g ≡ true → zero_denominator 𝓕 g ≡ false → Conclusions

-- the claim behind demand 3 for every field into which words enter, so for pairs too
abbrev pub DemandThreeOf : Type 1
DemandThreeOf = (𝓕 : Field) (g : Log 𝓕) → Admitted 𝓕 g → Demand3Of 𝓕 g
