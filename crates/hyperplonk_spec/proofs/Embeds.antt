-- How words enter a field: as sums of ones.
use mathlib.Core.Path.{◌≡◌, sym, ap, ◌∙◌}
use Prim.Native.Nat.{ℕ, suc, ◌+◌}
use native.Mathlib.Nat.{add-zero, add-suc}
use native.Mathlib.Numerals.{add-one}
use Rattle.field.specs.Algebra.{Field, zero_add, add_assoc as f-assoc, add_zero as f-zero}
use Rattle.field.specs.Field.{𝔾, el, el_zero, el_one, el_add}
use Rattle.field.proofs.Elements.{el_mod}
use Rattle.bh.specs.Sums.{up_to}
use Rattle.identities.specs.Lookup.{num}
use Rattle.hyperplonk_spec.specs.Meaning.{Embeds}

-- the words of 𝔾 do
pub embeds : Embeds 𝔾 el
embeds =
    record {
      el_zero = el_zero;
      el_suc = λ n. ap el (sym (add-one n)) ∙ sym (el_mod (n + 1)) ∙ el_add n 1 ∙ ap (𝔾.add (el n)) el_one;
    }

module _ (𝓕 : Field) (el : ℕ → 𝓕.F) (h : Embeds 𝓕 el) where
  open 𝓕 use {F, zero, one, add}

  pub embeds_one : el 1 ≡ one
  embeds_one = h.el_suc 0 ∙ ap (λ (x : F). add x one) h.el_zero ∙ zero_add 𝓕 one

  -- words add as elements
  pub embeds_add : (m n : ℕ) → el (m + n) ≡ add (el m) (el n)
  embeds_add m ℕ.zero = ap el (add-zero m) ∙ sym (f-zero 𝓕 (el m)) ∙ ap (add (el m)) (sym h.el_zero)
  embeds_add m (suc n) =
      ap el (add-suc m n) ∙ h.el_suc (m + n) ∙ ap (λ (x : F). add x one) (embeds_add m n)
      ∙ f-assoc 𝓕 (el m) (el n) one
      ∙ ap (add (el m)) (sym (h.el_suc n))

  pub embeds_sum : (f : ℕ → ℕ) (n : ℕ) → up_to add zero (λ r. el (f r)) n ≡ el (up_to ◌+◌ 0 f n)
  unfolding up_to
  embeds_sum f ℕ.zero = sym h.el_zero
  embeds_sum f (suc n) = ap (λ (x : F). add x (el (f n))) (embeds_sum f n) ∙ sym (embeds_add (up_to ◌+◌ 0 f n) (f n))

  -- a word is that many ones
  pub embeds_num : (n : ℕ) → el n ≡ num 𝓕 n
  unfolding num up_to
  embeds_num ℕ.zero = h.el_zero
  embeds_num (suc n) = h.el_suc n ∙ ap (λ (x : F). add x one) (embeds_num n)
