-- What the stages answer, with the papers' number and values for each case. An `Option`, of the search for an input's table row: "an
-- input is counted at the last equal table row. The search from the last row down stops at the first equal row; none gives 15." Over any
-- field. `Outcome`, of h and z, by Item 2 of document 02: "The inverse must answer either a value or "zero", and h and z must pass that
-- upward."
use Rattle.std.specs.Prelude.{Bool, cond, List, [], ◌∷◌, map, ℕ, eqb, length, replicate, Option, Some, None, Result, Ok, Err}
use Rattle.std.proofs.Math.Option.{none, some}
use Rattle.std.proofs.Math.Option as maybe
use Rattle.field.specs.Algebra.{Field}
use Rattle.lists.specs.Lists.{tabulate, range, total}
use Rattle.prover.specs.declared.ZeroDenominator.{ZeroDenominator}
use Rattle.prover.specs.Lookup.{last_equal}

-- `Some` of the last equal row, `None` where there is none
abbrev pub found_of : maybe.Option ℕ → Option ℕ
found_of (some row) = Some row
found_of none = None

-- the number: "15. Does each compressed input equal some compressed table row?"; "0 is success"
abbrev pub found_number : Option ℕ → ℕ
found_number (Some row) = 0
found_number None = 15

-- the value: how often the input is counted at row j
abbrev pub counted_at : ℕ → Option ℕ → ℕ
counted_at j (Some row) = cond (eqb row j) 1 0
counted_at j None = 0

module _ (𝓕 : Field) where
  open 𝓕 use {F}

  -- "The search from the last row down stops at the first equal row"
  unfoldable pub found : ℕ → (ℕ → F) → F → Option ℕ
  found rows table v = found_of (last_equal 𝓕 rows table v)

  -- the answers for all inputs
  unfoldable pub searches : ℕ → (ℕ → F) → (ℕ → F) → List (Option ℕ)
  searches rows input table = map (λ b. found rows table (input b)) (range rows)

-- the number of all answers: the first that is not 0
unfoldable pub first_number : List (Option ℕ) → ℕ
first_number [] = 0
first_number (a ∷ rest) = cond (eqb (found_number a) 0) (first_number rest) (found_number a)

-- the column m of all answers: "Counts add as whole numbers"; "Refusals write nothing, except 15: the column words needed become 0"
unfoldable pub m_words : ℕ → List (Option ℕ) → List ℕ
m_words rows answers =
    cond (eqb (first_number answers) 0) (tabulate (λ j. total (map (counted_at j) answers)) rows) (replicate rows 0)

-- ---- h and z

-- `Ok` where the columns are written, `Err` where a denominator is zero
abbrev pub Outcome : Type 0
Outcome = Result (Unit {0}) ZeroDenominator

-- is a denominator zero? Then `Err ZeroDenominator`
abbrev pub outcome_of : Bool → Outcome
outcome_of zero = cond zero (Err (record {})) (Ok tt)

-- the number: "Number 17, asked after 15, is given exactly if a denominator of document 01 is zero"; "0 is success"
abbrev pub outcome_number : Outcome → ℕ
outcome_number (Ok written) = 0
outcome_number (Err zero) = 17

-- the words: those of the columns; with 17 zeros, "and zeroes the column words as 15 does"
abbrev pub outcome_words : Outcome → List ℕ → List ℕ
outcome_words (Ok written) words = words
outcome_words (Err zero) words = replicate (length words) 0
