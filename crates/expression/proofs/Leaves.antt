-- The leaves of an expression, as the code reads them.
use mathlib.Core.Path.{◌≡◌, refl, sym, ap, ◌∙◌}
use mathlib.Core.Bool.{Bool, cond}
use mathlib.Core.List.{List, [], ◌∷◌, map}
use Prim.Native.Nat.{ℕ, zero, suc, ◌-◌, ◌*◌, ◌%◌, ◌^◌, ◌<◌}
use lib.Bits.{bit_and, and_mask}
use lib.Dec.{eqb}
use lib.ListN.{get_or}
use Rattle.bh.specs.Rows.{place_of, lagrange_row}
use Rattle.field.specs.Field.{𝔾, el, el_zero, el_one}
use Rattle.expression.specs.Nodes.{decode_signed}
use Rattle.expression.proofs.Signed.{one_shifted, lagrange_here, lagrange_away}

module _ (k : ℕ) (h : 0 < k) (l : k < 21) (row place w : ℕ) (m : row < 2 ^ k) (e : place ≡ place_of k row) (i : ℕ)
    (read : i ≡ bit_and w (1 * 2 ^ k % 18446744073709551616 - 1)) where
  masked : i ≡ w % 2 ^ k
  masked = read ∙ ap (λ (x : ℕ). bit_and w (x - 1)) (one_shifted k l) ∙ and_mask w k

  pub lagrange_one : i ≡ place → el 1 ≡ cond (eqb row (lagrange_row k (decode_signed w))) 𝔾.one 𝔾.zero
  lagrange_one p =
      el_one ∙ sym (ap (λ (t : Bool). cond t 𝔾.one 𝔾.zero) (lagrange_here k h l row place w m e (sym masked ∙ p)))

  pub lagrange_zero : (i ≡ place → ⊥) → el 0 ≡ cond (eqb row (lagrange_row k (decode_signed w))) 𝔾.one 𝔾.zero
  lagrange_zero p =
      el_zero
      ∙ sym (ap (λ (t : Bool). cond t 𝔾.one 𝔾.zero) (lagrange_away k h l row place w m e (λ q. p (masked ∙ q))))

-- a challenge, 0 where there is none
pub challenge_is : (cs : List ℕ) (i j : ℕ) → j ≡ i → (r : ℕ) → r ≡ get_or cs j 0 → el r ≡ get_or (map el cs) i 𝔾.zero
challenge_is cs i j e r h = ap el (h ∙ ap (λ (n : ℕ). get_or cs n 0) e) ∙ go cs i
  where
    go : (xs : List ℕ) (n : ℕ) → el (get_or xs n 0) ≡ get_or (map el xs) n 𝔾.zero
    go [] n = el_zero
    go (x ∷ xs) zero = refl
    go (x ∷ xs) (suc n) = go xs n
