-- A sum of a value for each row, through the row order.
use mathlib.Core.Path.{◌≡◌, sym, ap, ap₂, ◌∙◌}
use Prim.Native.Nat.{ℕ, ◌+◌, ◌^◌, ◌<◌}
use native.Mathlib.Numerals.{add-one}
use Rattle.field.specs.Field.{𝔾, el, el_zero}
use Rattle.bh.specs.Rows.{row_at}
use Rattle.bh.specs.Sums.{up_to}
use Rattle.bh.proofs.Order.{row_sum}
use Rattle.identities.proofs.Totals.{sums, up_to_suc, up_to_zero}
use Rattle.identities.proofs.Fields.{adds}
use Rattle.prover.specs.Lookup.{sum_rows}

module _ (k : ℕ) (f : ℕ → 𝔾.F) where
  -- the sum over the first rows of the order
  abbrev first_rows : ℕ → 𝔾.F
  first_rows t = up_to 𝔾.add 𝔾.zero (λ t. f (row_at k t)) t

  pub record Added (sum : 𝔾.F) (t : ℕ) : Type 0 where
    pub sum_is : sum ≡ first_rows t

  pub added_none : Added (el 0) 0
  added_none = record { sum_is = el_zero ∙ sym (up_to_zero 𝔾.add 𝔾.zero (λ t. f (row_at k t))) }

  pub added_more : (sum : 𝔾.F) (t row : ℕ) (x sum' : 𝔾.F) → Added sum t → row ≡ row_at k t → x ≡ f row → sum' ≡ 𝔾.add sum x
      → Added sum' (t + 1)
  added_more sum t row x sum' a r e s =
      record {
        sum_is =
            s ∙ ap₂ 𝔾.add a.sum_is (e ∙ ap f r)
            ∙ sym (up_to_suc 𝔾.add 𝔾.zero (λ t. f (row_at k t)) t)
            ∙ ap first_rows (sym (add-one t));
      }

  pub added_all : 0 < k → k < 21 → (sum : 𝔾.F) (t : ℕ) → Added sum t → t ≡ 2 ^ k → sum ≡ sum_rows 𝔾 (2 ^ k) f
  added_all h l sum t a e =
      a.sum_is ∙ ap first_rows e ∙ row_sum k h l 𝔾.add 𝔾.zero (sums 𝔾.add 𝔾.zero (adds 𝔾)) f
