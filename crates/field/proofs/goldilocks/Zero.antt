-- The element zero, and the word 0.
use Rattle.std.proofs.Common.{◌≡◌, ℕ, true, false, eqb, ◌≢◌, sym, refl, ap, ◌∙◌, eq-eqb, ne_eqb}
use mathlib.Core.Bool.{decide}
use native.Mathlib.Decide.{ℕ_discrete}
use Rattle.field.specs.Field.{𝔾, el, val, el_val, el_zero}
use Rattle.field.proofs.Elements.{val_zero}
use Rattle.field.specs.Element.{is_zero}

-- the test, and what it says
pub zero_true : (x : 𝔾.F) → x ≡ 𝔾.zero → is_zero x ≡ true
unfolding decide
zero_true x e = go (𝔾.decide x 𝔾.zero)
  where
    go : (d : Dec (x ≡ 𝔾.zero)) → decide d ≡ true
    go (yes p) = refl
    go (no p) = absurd (p e)

pub zero_false : (x : 𝔾.F) → x ≢ 𝔾.zero → is_zero x ≡ false
unfolding decide
zero_false x n = go (𝔾.decide x 𝔾.zero)
  where
    go : (d : Dec (x ≡ 𝔾.zero)) → decide d ≡ false
    go (yes p) = absurd (n p)
    go (no p) = refl

pub zero_word : (x : 𝔾.F) (r : ℕ) → r ≡ val x → eqb r 0 ≡ is_zero x
zero_word x r e = go (ℕ_discrete r 0)
  where
    go : Dec (r ≡ 0) → eqb r 0 ≡ is_zero x
    go (yes z) = eq-eqb r 0 z ∙ sym (zero_true x (sym (el_val x) ∙ ap el (sym e ∙ z) ∙ el_zero))
    go (no n) = ne_eqb r 0 n ∙ sym (zero_false x (λ q. n (e ∙ ap val q ∙ val_zero)))
