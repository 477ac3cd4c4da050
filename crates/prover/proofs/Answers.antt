-- The number and the column m of all answers of the search are those of the definitions over rows; what the answers of h and z say.
use mathlib.Core.Path.{◌≡◌, refl, sym, ap, ap₂, ◌∙◌}
use mathlib.Core.Bool.{Bool, true, false, cond, ◌&&◌}
use mathlib.Core.List.{List, [], ◌∷◌, map}
use mathlib.Core.Option.{none, some}
use mathlib.Core.Option as maybe
use Prim.Native.Nat.{ℕ, ◌+◌}
use native.Mathlib.Omega.{arith}
use lib.Dec.{eqb}
use lib.ListN.{length, replicate, length-replicate}
use Rattle.std.specs.Prelude.{Some, None, Ok, Err, IsErr}
use Rattle.field.specs.Algebra.{Field}
use Rattle.field.specs.Field.{𝔾}
use Rattle.lists.specs.Lists.{tabulate, range, filter, count_of, all_of, total, is_some, is_at, write_at}
use Rattle.lists.proofs.Columns.{tabulate_cong}
use Rattle.prover.specs.Lookup.{last_equal, multiplicity, covered}
use Rattle.prover.specs.Words.{count_words}
use Rattle.prover.specs.Answers.{found_of, counted_at, found, searches, first_number, m_words, Outcome, outcome_of, outcome_words}

-- what an answer says of the last equal row
at_some : (o : maybe.Option ℕ) (a : ℕ) → found_of o ≡ Some a → o ≡ some a
at_some none a e = cc
at_some (some b) a e = cc

nothing_none : (o : maybe.Option ℕ) → found_of o ≡ None → o ≡ none
nothing_none none e = refl
nothing_none (some b) e = cc

module _ (𝓕 : Field) (rows : ℕ) (table : ℕ → 𝓕.F) (v : 𝓕.F) where
  pub found_at : (a : ℕ) → found 𝓕 rows table v ≡ Some a → last_equal 𝓕 rows table v ≡ some a
  unfolding found
  found_at a e = at_some (last_equal 𝓕 rows table v) a e

  pub found_nothing : found 𝓕 rows table v ≡ None → last_equal 𝓕 rows table v ≡ none
  unfolding found
  found_nothing e = nothing_none (last_equal 𝓕 rows table v) e

-- the answers of rows given by g
module _ (g : ℕ → maybe.Option ℕ) where
  first_number_is : (bs : List ℕ) → first_number (map (λ b. found_of (g b)) bs) ≡ cond (all_of (λ b. is_some (g b)) bs) 0 15
  unfolding first_number all_of
  first_number_is [] = refl
  first_number_is (b ∷ bs) = go (g b) (first_number_is bs)
    where
      go : (o : maybe.Option ℕ) → first_number (map (λ b. found_of (g b)) bs) ≡ cond (all_of (λ b. is_some (g b)) bs) 0 15
          → first_number (found_of o ∷ map (λ b. found_of (g b)) bs) ≡ cond (is_some o && all_of (λ b. is_some (g b)) bs) 0 15
      go none h = refl
      go (some a) h = h

  counted_total : (j : ℕ) (bs : List ℕ)
      → total (map (counted_at j) (map (λ b. found_of (g b)) bs)) ≡ count_of (λ b. is_at j (g b)) bs
  unfolding total filter
  counted_total j [] = refl
  counted_total j (b ∷ bs) = go (g b) (counted_total j bs)
    where
      rest : List ℕ
      rest = filter (λ b. is_at j (g b)) bs

      one : (t : Bool) → cond t 1 0 + length rest ≡ length (cond t (b ∷ rest) rest)
      one true = omega arith
      one false = omega arith

      go : (o : maybe.Option ℕ) → total (map (counted_at j) (map (λ b. found_of (g b)) bs)) ≡ length rest
          → counted_at j (found_of o) + total (map (counted_at j) (map (λ b. found_of (g b)) bs)) ≡ length (cond (is_at j o) (b ∷ rest) rest)
      go none h = omega (arith, h)
      go (some a) h = ap (λ (n : ℕ). cond (eqb a j) 1 0 + n) h ∙ one (eqb a j)

module _ (𝓕 : Field) (rows : ℕ) (input table : ℕ → 𝓕.F) where
  pub number_is : first_number (searches 𝓕 rows input table) ≡ cond (covered 𝓕 rows input table) 0 15
  unfolding searches found covered
  number_is = first_number_is (λ b. last_equal 𝓕 rows table (input b)) (range rows)

  counts : tabulate (λ j. total (map (counted_at j) (searches 𝓕 rows input table))) rows ≡ tabulate (multiplicity 𝓕 rows input table) rows
  unfolding searches found multiplicity
  counts = tabulate_cong _ _ rows (λ j l. counted_total (λ b. last_equal 𝓕 rows table (input b)) j (range rows))

  pub words_are : m_words rows (searches 𝓕 rows input table)
      ≡ cond (covered 𝓕 rows input table) (tabulate (multiplicity 𝓕 rows input table) rows) (replicate rows 0)
  unfolding m_words
  words_are =
      ap₂ (λ (n : ℕ) (ms : List ℕ). cond (eqb n 0) ms (replicate rows 0)) number_is counts ∙ by (covered 𝓕 rows input table) _ _
    where
      by : (t : Bool) (ms ns : List ℕ) → cond (eqb (cond t 0 15) 0) ms ns ≡ cond t ms ns
      by true ms ns = refl
      by false ms ns = refl

-- so the answer and the words of `lookup_m_poly` are said by the answers of the search
module _ (rows : ℕ) (input table : ℕ → 𝔾.F) (r : Bool) (d : List ℕ) (at : ℕ) (m : List ℕ) where
  pub by_search : (r ≡ covered 𝔾 rows input table) × (m ≡ write_at d at (count_words rows input table))
      → ((r ≡ covered 𝔾 rows input table) × (m ≡ write_at d at (count_words rows input table)))
      × ((cond r 0 15 ≡ first_number (searches 𝔾 rows input table)) × (m ≡ write_at d at (m_words rows (searches 𝔾 rows input table))))
  unfolding count_words
  by_search h = (
    h,
    (
      ap (λ (t : Bool). cond t 0 15) h.0 ∙ sym (number_is 𝔾 rows input table),
      h.1 ∙ ap (write_at d at) (sym (words_are 𝔾 rows input table)),
    ),
  )

-- ---- h and z

-- what each answer says of the test
pub written_none : (t : Bool) → outcome_of t ≡ Ok tt → t ≡ false
written_none true e = cc
written_none false e = refl

pub zero_some : (t : Bool) → outcome_of t ≡ Err (record {}) → t ≡ true
zero_some true e = refl
zero_some false e = cc

-- there is one error, so this is what `?` passes on
pub only_error : (o : Outcome) → IsErr o → o ≡ Err (record {})
only_error (Ok written) e = cc
only_error (Err zero) e = refl

pub outcome_length : (o : Outcome) (ws : List ℕ) → length (outcome_words o ws) ≡ length ws
outcome_length (Ok written) ws = refl
outcome_length (Err zero) ws = length-replicate (length ws) 0
