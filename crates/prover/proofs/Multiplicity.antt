-- The counts of one input are those of the crate identities, and covered says that each input stands in the table.
use mathlib.Core.Path.{◌≡◌, refl, sym, ap, ap₂, ◌∙◌}
use mathlib.Core.Bool.{Bool, true, false, cond, decide, ◌&&◌}
use mathlib.Core.List.{[], ◌∷◌}
use mathlib.Core.Option.{Option, none, some, none-ne-some}
use Prim.Native.Nat.{ℕ, zero, suc, ◌+◌}
use Rattle.field.specs.Algebra.{Field}
use Rattle.lists.specs.Lists.{tabulate, range, all_of, last_where, is_some, is_at}
use Rattle.lists.proofs.Tests.{cond_ite, cond_eqb, all_append}
use Rattle.identities.proofs.Totals.{up_to_cong, count_up_to}
use Rattle.identities.specs.Counts.{last_row, hit, and_found, given, multiplicities, all_found, counted, AllStand}
use Rattle.identities.proofs.Counts.{counted_stand, stand_counted, count_all}
use Rattle.prover.specs.Lookup.{sum_counts, last_equal, multiplicity, covered}

module _ (𝓕 : Field) where
  open 𝓕 use {F}

  pub last_agree : (table : ℕ → F) (v : F) (n : ℕ) → last_equal 𝓕 n table v ≡ last_row 𝓕.decide table n v
  unfolding last_equal last_where last_row
  last_agree table v zero = refl
  last_agree table v (suc n) =
      ap (cond (decide (𝓕.decide (table n) v)) (some n)) (last_agree table v n)
      ∙ cond_ite (𝓕.decide (table n) v) (some n) (last_row 𝓕.decide table n v)

  hit_agree : (j : ℕ) (o : Option ℕ) → cond (is_at j o) 1 0 ≡ hit o j
  unfolding hit
  hit_agree j none = refl
  hit_agree j (some q) = cond_eqb q j 1 0

  module _ (rows : ℕ) (input table : ℕ → F) where
    -- m is the column of counts
    pub counts_agree : (j : ℕ) → multiplicity 𝓕 rows input table j ≡ multiplicities 𝓕.decide rows rows input table j
    unfolding multiplicity multiplicities
    counts_agree j =
        count_up_to (λ b. is_at j (last_equal 𝓕 rows table (input b))) rows
        ∙ up_to_cong ◌+◌ 0 (λ b. cond (is_at j (last_equal 𝓕 rows table (input b))) 1 0)
        (λ b. hit (last_row 𝓕.decide table rows (input b)) j) rows
        (λ b l. hit_agree j (last_equal 𝓕 rows table (input b)) ∙ ap (λ (o : Option ℕ). hit o j) (last_agree table (input b) rows))

    found_agree : (n : ℕ) → all_of (λ b. is_some (last_equal 𝓕 rows table (input b))) (range n) ≡ all_found 𝓕.decide rows input table n
    unfolding all_found and_found tabulate all_of
    found_agree zero = refl
    found_agree (suc n) =
        all_append (λ b. is_some (last_equal 𝓕 rows table (input b))) (range n) (n ∷ [])
        ∙ ap₂ ◌&&◌ (found_agree n) (ap (λ (o : Option ℕ). is_some o && true) (last_agree table (input n) rows))
        ∙ go (last_row 𝓕.decide table rows (input n)) (all_found 𝓕.decide rows input table n)
      where
        go : (o : Option ℕ) (t : Bool) → (t && (is_some o && true)) ≡ and_found o t
        go none true = refl
        go none false = refl
        go (some q) true = refl
        go (some q) false = refl

    covered_agree : covered 𝓕 rows input table ≡ all_found 𝓕.decide rows input table rows
    unfolding covered
    covered_agree = found_agree rows

    -- "Does each compressed input equal some compressed table row?"
    pub covered_stand : covered 𝓕 rows input table ≡ true → AllStand rows rows input table
    unfolding counted given
    covered_stand e =
        counted_stand 𝓕.decide rows rows input table (multiplicities 𝓕.decide rows rows input table)
        (ap (λ (t : Bool). given t (multiplicities 𝓕.decide rows rows input table)) (sym covered_agree ∙ e))

    pub stand_covered : AllStand rows rows input table → covered 𝓕 rows input table ≡ true
    unfolding counted given
    stand_covered h = go (covered 𝓕 rows input table) refl
      where
        c : ℕ → ℕ
        c = multiplicities 𝓕.decide rows rows input table

        go : (t : Bool) → covered 𝓕 rows input table ≡ t → covered 𝓕 rows input table ≡ true
        go true e = e
        go false e =
            absurd
            (none-ne-some c
            (ap (λ (t : Bool). given t c) (sym e ∙ covered_agree) ∙ stand_counted 𝓕.decide rows rows input table h))

    pub counts_sum : covered 𝓕 rows input table ≡ true → sum_counts rows (multiplicity 𝓕 rows input table) ≡ rows
    counts_sum e =
        up_to_cong ◌+◌ 0 (multiplicity 𝓕 rows input table) (multiplicities 𝓕.decide rows rows input table) rows (λ j l. counts_agree j)
        ∙ count_all 𝓕.decide rows rows input table (covered_stand e)
