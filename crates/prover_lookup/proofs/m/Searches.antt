-- The number and the column m of all answers of the search for a group's inputs are those of the group.
use mathlib.Core.Path.{◌≡◌, refl, sym, ap, ap₂, ◌∙◌}
use mathlib.Core.Bool.{Bool, true, false, cond, ◌&&◌}
use mathlib.Core.List.{List, [], ◌∷◌, ◌++◌, map, map-append}
use Prim.Native.Nat.{ℕ, ◌+◌, ◌<◌}
use native.Mathlib.Omega.{arith}
use lib.Dec.{eqb}
use lib.ListN.{get_or, replicate}
use Rattle.field.specs.Field.{𝔾}
use Rattle.lists.specs.Lists.{tabulate, concat, total, all_of, All, write_at}
use Rattle.lists.proofs.Columns.{get_tabulate, tabulate_cong}
use Rattle.lists.proofs.Tests.{all_true}
use Rattle.lists.proofs.Totals.{total_append}
use Rattle.std.specs.Prelude.{Option, Some, None}
use Rattle.prover.specs.Lookup.{multiplicity, covered, group_multiplicity, group_covered}
use Rattle.prover.specs.Answers.{counted_at, searches, first_number, m_words}
use Rattle.prover.proofs.Answers as answers
use Rattle.prover_lookup.specs.Lookups.{group_words, group_searches}

-- the number of two runs of answers
first_on : (xs ys : List (Option ℕ)) → first_number xs ≡ 0 → first_number (xs ++ ys) ≡ first_number ys
unfolding first_number
first_on [] ys e = refl
first_on (Some row ∷ xs) ys e = first_on xs ys e
first_on (None ∷ xs) ys e = absurd (omega (arith, e))

first_stop : (xs ys : List (Option ℕ)) → first_number xs ≡ 15 → first_number (xs ++ ys) ≡ 15
unfolding first_number
first_stop [] ys e = absurd (omega (arith, e))
first_stop (Some row ∷ xs) ys e = first_stop xs ys e
first_stop (None ∷ xs) ys e = refl

module _ (rows : ℕ) (table : ℕ → 𝔾.F) where
  number_is : (inputs : List (ℕ → 𝔾.F)) → first_number (group_searches rows inputs table) ≡ cond (group_covered 𝔾 rows inputs table) 0 15
  unfolding group_searches group_covered concat all_of first_number
  number_is [] = refl
  number_is (input ∷ inputs) = go (covered 𝔾 rows input table) refl (number_is inputs)
    where
      first : (t : Bool) → covered 𝔾 rows input table ≡ t → first_number (searches 𝔾 rows input table) ≡ cond t 0 15
      first t e = answers.number_is 𝔾 rows input table ∙ ap (λ (t : Bool). cond t 0 15) e

      go : (t : Bool) → covered 𝔾 rows input table ≡ t
          → first_number (group_searches rows inputs table) ≡ cond (group_covered 𝔾 rows inputs table) 0 15
          → first_number (searches 𝔾 rows input table ++ group_searches rows inputs table) ≡ cond (t && group_covered 𝔾 rows inputs table) 0 15
      go true e h = first_on (searches 𝔾 rows input table) (group_searches rows inputs table) (first true e) ∙ h
      go false e h = first_stop (searches 𝔾 rows input table) (group_searches rows inputs table) (first false e)

  module _ (j : ℕ) (l : j < rows) where
    -- how often the inputs of a covered lookup, or group, are counted at row j
    lookup_total : (input : ℕ → 𝔾.F) → covered 𝔾 rows input table ≡ true
        → total (map (counted_at j) (searches 𝔾 rows input table)) ≡ multiplicity 𝔾 rows input table j
    unfolding m_words
    lookup_total input t =
        sym (get_tabulate (λ j. total (map (counted_at j) (searches 𝔾 rows input table))) rows j 0 l)
        ∙ ap (λ (ws : List ℕ). get_or ws j 0)
        (sym
        (ap (λ (n : ℕ). cond (eqb n 0) (tabulate (λ j. total (map (counted_at j) (searches 𝔾 rows input table))) rows) (replicate rows 0))
        (answers.number_is 𝔾 rows input table ∙ ap (λ (t : Bool). cond t 0 15) t))
        ∙ answers.words_are 𝔾 rows input table
        ∙ ap (λ (t : Bool). cond t (tabulate (multiplicity 𝔾 rows input table) rows) (replicate rows 0)) t)
        ∙ get_tabulate (multiplicity 𝔾 rows input table) rows j 0 l

    group_total : (inputs : List (ℕ → 𝔾.F)) → All (λ input. covered 𝔾 rows input table ≡ true) inputs
        → total (map (counted_at j) (group_searches rows inputs table)) ≡ group_multiplicity 𝔾 rows inputs table j
    unfolding group_searches group_multiplicity concat total
    group_total [] a = refl
    group_total (input ∷ inputs) a =
        ap total (map-append (counted_at j) (searches 𝔾 rows input table) (group_searches rows inputs table))
        ∙ total_append (map (counted_at j) (searches 𝔾 rows input table)) (map (counted_at j) (group_searches rows inputs table))
        ∙ ap₂ ◌+◌ (lookup_total input a.0) (group_total inputs a.1)

  words_are : (inputs : List (ℕ → 𝔾.F)) → group_words rows inputs table ≡ m_words rows (group_searches rows inputs table)
  unfolding m_words group_words group_covered
  words_are inputs = go (group_covered 𝔾 rows inputs table) refl
    where
      by : (t : Bool) → group_covered 𝔾 rows inputs table ≡ t
          → cond (eqb (cond t 0 15) 0) (tabulate (λ j. total (map (counted_at j) (group_searches rows inputs table))) rows) (replicate rows 0)
          ≡ m_words rows (group_searches rows inputs table)
      by t e =
          ap (λ (n : ℕ). cond (eqb n 0) (tabulate (λ j. total (map (counted_at j) (group_searches rows inputs table))) rows) (replicate rows 0))
          (sym (number_is inputs ∙ ap (λ (t : Bool). cond t 0 15) e))

      go : (t : Bool) → group_covered 𝔾 rows inputs table ≡ t
          → cond t (tabulate (group_multiplicity 𝔾 rows inputs table) rows) (replicate rows 0) ≡ m_words rows (group_searches rows inputs table)
      go true e =
          tabulate_cong (group_multiplicity 𝔾 rows inputs table) (λ j. total (map (counted_at j) (group_searches rows inputs table))) rows
          (λ j l. sym (group_total j l inputs (all_true (λ input. covered 𝔾 rows input table) inputs e)))
          ∙ by true e
      go false e = by false e

  -- so the answer and the words of a group are said by the answers of the search
  pub by_searches : (inputs : List (ℕ → 𝔾.F)) (r : Bool) (d : List ℕ) (at : ℕ) (m : List ℕ)
      → (r ≡ group_covered 𝔾 rows inputs table) × (m ≡ write_at d at (group_words rows inputs table))
      → ((r ≡ group_covered 𝔾 rows inputs table) × (m ≡ write_at d at (group_words rows inputs table)))
      × ((cond r 0 15 ≡ first_number (group_searches rows inputs table)) × (m ≡ write_at d at (m_words rows (group_searches rows inputs table))))
  by_searches inputs r d at m h = (
    h,
    (
      ap (λ (t : Bool). cond t 0 15) h.0 ∙ sym (number_is inputs),
      h.1 ∙ ap (write_at d at) (words_are inputs),
    ),
  )
