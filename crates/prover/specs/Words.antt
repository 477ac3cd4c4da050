-- Columns as words.
use Rattle.std.specs.Prelude.{cond, List, map, ℕ, ◌+◌, ◌<◌, get_or, replicate}
use Rattle.field.specs.Prime.{P}
use Rattle.field.specs.Field.{𝔾, el, val}
use Rattle.lists.specs.Lists.{tabulate, concat}
use Rattle.prover.specs.Lookup.{multiplicity, covered}

-- columns as words, "each 2^k words"
unfoldable pub words_of : ℕ → List (ℕ → 𝔾.F) → List ℕ
words_of rows ps = concat (map (λ p. tabulate (λ b. val (p b)) rows) ps)

-- words as a column: those of a list, and those from word `at` of a buffer on
abbrev pub elements : List ℕ → ℕ → 𝔾.F
elements ws b = el (get_or ws b 0)

abbrev pub elements_from : List ℕ → ℕ → ℕ → 𝔾.F
elements_from ws at b = el (get_or ws (at + b) 0)

-- is each of the first n below p?
abbrev pub Small : ℕ → (ℕ → ℕ) → Type 0
Small n f = (b : ℕ) → b < n → f b < P

-- the words of `lookup_m_poly`: the counts; where an input has no equal table row, "the column words needed become 0"
unfoldable pub count_words : ℕ → (ℕ → 𝔾.F) → (ℕ → 𝔾.F) → List ℕ
count_words rows input table =
    cond (covered 𝔾 rows input table) (tabulate (multiplicity 𝔾 rows input table) rows) (replicate rows 0)
