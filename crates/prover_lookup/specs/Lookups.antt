-- The count and h columns of groups of lookups, from the compressed columns of a buffer: input 0, table 0, input 1, table 1, … Item 3 of
-- document 02: "A group has one m, counting all its inputs at the last equal row".
use Rattle.std.specs.Prelude.{◌≡◌, Bool, true, cond, List, map, ℕ, ◌+◌, ◌*◌, ◌<◌, length, get_or, take, drop, replicate, Option, Ok}
use Rattle.field.specs.Field.{𝔾, val}
use Rattle.lists.specs.Lists.{tabulate, range, concat, total, all_of, any_of, write_at}
use Rattle.prover.specs.Lookup.{multiplicity, covered, group_multiplicity, group_covered, group_h_at}
use Rattle.prover.specs.Denominators.{some_zero, group_denominators}
use Rattle.prover.specs.Answers.{searches, Outcome, outcome_of}
use Rattle.prover.specs.Words.{elements_from}

-- ---- one group

-- the inputs of a group of s lookups whose compressed columns stand from word `at` on. Its table is the first lookup's, from word at + rows on
abbrev pub inputs_from : List ℕ → ℕ → ℕ → ℕ → List (ℕ → 𝔾.F)
inputs_from d at rows s = tabulate (λ i. elements_from d (at + i * 2 * rows)) s

-- has each of the first n words room for n more?
abbrev pub Room : ℕ → (ℕ → ℕ) → Type 0
Room n f = (b : ℕ) → b < n → f b + n < 18446744073709551616

-- the first words with the counts of one input added; where an input has no equal table row, zeros
unfoldable pub added_words : List ℕ → ℕ → (ℕ → 𝔾.F) → (ℕ → 𝔾.F) → List ℕ
added_words d rows input table =
    cond (covered 𝔾 rows input table) (tabulate (λ j. get_or d j 0 + multiplicity 𝔾 rows input table j) rows) (replicate rows 0)

-- the words of a group's counts; where an input has no equal table row, "the column words needed become 0"
unfoldable pub group_words : ℕ → List (ℕ → 𝔾.F) → (ℕ → 𝔾.F) → List ℕ
group_words rows inputs table =
    cond (group_covered 𝔾 rows inputs table) (tabulate (group_multiplicity 𝔾 rows inputs table) rows) (replicate rows 0)

-- the answers of the search for all inputs of a group, one lookup after another
unfoldable pub group_searches : ℕ → List (ℕ → 𝔾.F) → (ℕ → 𝔾.F) → List (Option ℕ)
group_searches rows inputs table = concat (map (λ input. searches 𝔾 rows input table) inputs)

-- ---- all groups, by their sizes

module _ (d : List ℕ) (at rows : ℕ) (sizes : List ℕ) where
  -- where the compressed columns of group j start, behind those of the groups before it
  abbrev pub group_at : ℕ → ℕ
  group_at j = at + total (take j sizes) * 2 * rows

  -- the inputs and the table of group j
  abbrev pub group_inputs_from : ℕ → List (ℕ → 𝔾.F)
  group_inputs_from j = inputs_from d (group_at j) rows (get_or sizes j 0)

  abbrev pub group_table_from : ℕ → ℕ → 𝔾.F
  group_table_from j = elements_from d (group_at j + rows)

  -- question 15
  abbrev pub covered_from : Bool
  covered_from = all_of (λ j. group_covered 𝔾 rows (group_inputs_from j) (group_table_from j)) (range (length sizes))

  -- the words of the counts
  abbrev pub counts_from : List ℕ
  counts_from = concat (tabulate (λ j. tabulate (group_multiplicity 𝔾 rows (group_inputs_from j) (group_table_from j)) rows) (length sizes))

  -- is a denominator zero?
  abbrev pub zero_from : 𝔾.F → Bool
  zero_from γ = any_of (λ j. some_zero 𝔾 (group_denominators 𝔾 rows γ (group_inputs_from j) (group_table_from j))) (range (length sizes))

  -- the words of h, with the counts from word m on
  abbrev pub hs_from : 𝔾.F → ℕ → List ℕ
  hs_from γ m =
      concat
      (tabulate (λ j. tabulate (λ b. val (group_h_at 𝔾 γ (group_inputs_from j) (group_table_from j) (elements_from d (m + j * rows)) b)) rows)
      (length sizes))

-- the answer of `lookup_m_polys` on the buffer d, and the buffer e after: the counts stand from word m on if all groups are covered,
-- and no other words change in any case
pub record CountsWritten (d sizes : List ℕ) (at m rows : ℕ) (answer : Bool) (e : List ℕ) : Type 0 where
  pub is : answer ≡ covered_from d at rows sizes
  pub counts : answer ≡ true → e ≡ write_at d m (counts_from d at rows sizes)
  pub front : take m e ≡ take m d
  pub back : drop (m + length sizes * rows) e ≡ drop (m + length sizes * rows) d

-- the answer of `lookup_h_polys` on the buffer d, and the buffer e after: h stands from word h on if no denominator is zero, and no other
-- words change in any case
pub record HsWritten (d sizes : List ℕ) (at m h rows : ℕ) (γ : 𝔾.F) (answer : Outcome) (e : List ℕ) : Type 0 where
  pub is : answer ≡ outcome_of (zero_from d at rows sizes γ)
  pub hs : answer ≡ Ok tt → e ≡ write_at d h (hs_from d at rows sizes γ m)
  pub front : take h e ≡ take h d
  pub back : drop (h + length sizes * rows) e ≡ drop (h + length sizes * rows) d
