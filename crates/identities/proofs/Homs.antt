-- A field inside a field: m, h and z of embedded columns are the embedded m, h and z.
use mathlib.Core.Path.{◌≡◌, sym, ap, ap₂, ◌∙◌}
use mathlib.Core.Logic.{◌≢◌, ite, apply_ite}
use Prim.Native.Nat.{ℕ, zero, suc, ◌-◌}
use native.Mathlib.Decide.{ℕ_discrete}
use Rattle.field.specs.Algebra.{Field, add_left_cancel, neg_unique, zero_mul}
use Rattle.bh.specs.Sums.{up_to}
use Rattle.bh.specs.Rows.{row_at, place_of}
use Rattle.identities.proofs.Totals.{up_to_cong}
use Rattle.identities.proofs.Fields.{sub_zero, mul_cancel, inv_mul_self}
use Rattle.identities.specs.Homs.{Hom}
use Rattle.identities.specs.Counts.{multiplicities}
use Rattle.identities.specs.Lookup.{num, h_value}
use Rattle.identities.specs.Running.{ratio, row_ratio, z_placed, z_col}
use Rattle.identities.proofs.Counts.{counts_map}

module _ (𝓔 𝓕 : Field) (f : 𝓔.F → 𝓕.F) (H : Hom 𝓔 𝓕 f) where
  pub hom_zero : f 𝓔.zero ≡ 𝓕.zero
  hom_zero =
      add_left_cancel 𝓕 (f 𝓔.zero) (f 𝓔.zero) 𝓕.zero
      (sym (H.add 𝓔.zero 𝓔.zero) ∙ ap f (𝓔.add_zero 𝓔.zero) ∙ sym (𝓕.add_zero (f 𝓔.zero)))

  pub hom_neg : (a : 𝓔.F) → f (𝓔.neg a) ≡ 𝓕.neg (f a)
  hom_neg a = neg_unique 𝓕 (f a) (f (𝓔.neg a)) (sym (H.add a (𝓔.neg a)) ∙ ap f (𝓔.add_neg a) ∙ hom_zero)

  pub hom_nonzero : (a : 𝓔.F) → a ≢ 𝓔.zero → f a ≢ 𝓕.zero
  hom_nonzero a n e =
      𝓕.one_ne_zero
      (sym H.one ∙ sym (ap f (𝓔.mul_inv a n)) ∙ H.mul a (𝓔.inv a) ∙ ap (λ (x : 𝓕.F). 𝓕.mul x (f (𝓔.inv a))) e
      ∙ zero_mul 𝓕 (f (𝓔.inv a)))

  pub hom_inv : (a : 𝓔.F) → f (𝓔.inv a) ≡ 𝓕.inv (f a)
  hom_inv a = go (𝓔.decide a 𝓔.zero)
    where
      go : Dec (a ≡ 𝓔.zero) → f (𝓔.inv a) ≡ 𝓕.inv (f a)
      go (yes e) = ap f (ap 𝓔.inv e ∙ 𝓔.inv_zero) ∙ hom_zero ∙ sym (ap 𝓕.inv (ap f e ∙ hom_zero) ∙ 𝓕.inv_zero)
      go (no n) =
          mul_cancel 𝓕 (f (𝓔.inv a)) (𝓕.inv (f a)) (f a) (hom_nonzero a n)
          (sym (H.mul (𝓔.inv a) a) ∙ ap f (inv_mul_self 𝓔 a n) ∙ H.one ∙ sym (inv_mul_self 𝓕 (f a) (hom_nonzero a n)))

  pub hom_apart : (a b : 𝓔.F) → f a ≡ f b → a ≡ b
  hom_apart a b e = go (𝓔.decide (𝓔.add a (𝓔.neg b)) 𝓔.zero)
    where
      go : Dec (𝓔.add a (𝓔.neg b) ≡ 𝓔.zero) → a ≡ b
      go (yes z) = (sub_zero 𝓔 a b).0 z
      go (no n) =
          absurd
          (hom_nonzero (𝓔.add a (𝓔.neg b)) n
          (H.add a (𝓔.neg b) ∙ ap (𝓕.add (f a)) (hom_neg b) ∙ (sub_zero 𝓕 (f a) (f b)).1 e))

  pub hom_sum : (g : ℕ → 𝓔.F) (n : ℕ) → f (up_to 𝓔.add 𝓔.zero g n) ≡ up_to 𝓕.add 𝓕.zero (λ i. f (g i)) n
  unfolding up_to
  hom_sum g zero = hom_zero
  hom_sum g (suc n) = H.add (up_to 𝓔.add 𝓔.zero g n) (g n) ∙ ap (λ (x : 𝓕.F). 𝓕.add x (f (g n))) (hom_sum g n)

  pub hom_prod : (g : ℕ → 𝓔.F) (n : ℕ) → f (up_to 𝓔.mul 𝓔.one g n) ≡ up_to 𝓕.mul 𝓕.one (λ i. f (g i)) n
  unfolding up_to
  hom_prod g zero = H.one
  hom_prod g (suc n) = H.mul (up_to 𝓔.mul 𝓔.one g n) (g n) ∙ ap (λ (x : 𝓕.F). 𝓕.mul x (f (g n))) (hom_prod g n)

  pub hom_num : (n : ℕ) → f (num 𝓔 n) ≡ num 𝓕 n
  unfolding num
  hom_num n = hom_sum (λ i. 𝓔.one) n ∙ up_to_cong 𝓕.add 𝓕.zero (λ i. f 𝓔.one) (λ i. 𝓕.one) n (λ i l. H.one)

  -- m
  pub hom_counts : (ni nt : ℕ) (i t : ℕ → 𝓔.F) (r : ℕ)
      → multiplicities 𝓕.decide ni nt (λ b. f (i b)) (λ s. f (t s)) r ≡ multiplicities 𝓔.decide ni nt i t r
  hom_counts ni nt i t r = counts_map 𝓔.decide 𝓕.decide f ni nt i t (λ b s l m e. hom_apart (t s) (i b) e) r

  -- h
  pub hom_h : (γ : 𝓔.F) (i t m : ℕ → 𝓔.F) (b : ℕ)
      → f (h_value 𝓔 γ i t m b) ≡ h_value 𝓕 (f γ) (λ s. f (i s)) (λ s. f (t s)) (λ s. f (m s)) b
  unfolding h_value
  hom_h γ i t m b =
      H.add (𝓔.inv (𝓔.add γ (i b))) (𝓔.neg (𝓔.mul (m b) (𝓔.inv (𝓔.add γ (t b)))))
      ∙ ap₂ 𝓕.add (part (i b))
      (hom_neg (𝓔.mul (m b) (𝓔.inv (𝓔.add γ (t b))))
      ∙ ap 𝓕.neg (H.mul (m b) (𝓔.inv (𝓔.add γ (t b))) ∙ ap (𝓕.mul (f (m b))) (part (t b))))
    where
      part : (x : 𝓔.F) → f (𝓔.inv (𝓔.add γ x)) ≡ 𝓕.inv (𝓕.add (f γ) (f x))
      part x = hom_inv (𝓔.add γ x) ∙ ap 𝓕.inv (H.add γ x)

  -- z
  module _ (k N : ℕ) (A B : ℕ → ℕ → 𝓔.F) where
    hom_ratio : (j b : ℕ) → f (ratio 𝓔 k N A B j b) ≡ ratio 𝓕 k N (λ i c. f (A i c)) (λ i c. f (B i c)) j b
    unfolding ratio
    hom_ratio j b = H.mul (A j b) (𝓔.inv (B j b)) ∙ ap (𝓕.mul (f (A j b))) (hom_inv (B j b))

    hom_row : (b : ℕ) → f (row_ratio 𝓔 k N A B b) ≡ row_ratio 𝓕 k N (λ i c. f (A i c)) (λ i c. f (B i c)) b
    unfolding row_ratio
    hom_row b =
        hom_prod (λ i. ratio 𝓔 k N A B i b) N
        ∙ up_to_cong 𝓕.mul 𝓕.one (λ i. f (ratio 𝓔 k N A B i b)) (λ i. ratio 𝓕 k N (λ i c. f (A i c)) (λ i c. f (B i c)) i b) N
        (λ i l. hom_ratio i b)

    hom_z_at : (j t : ℕ) → f (z_placed 𝓔 k N A B j t) ≡ z_placed 𝓕 k N (λ i c. f (A i c)) (λ i c. f (B i c)) j t
    unfolding z_placed
    hom_z_at j t =
        H.mul (up_to 𝓔.mul 𝓔.one (λ s. row_ratio 𝓔 k N A B (row_at k (suc s))) t) (up_to 𝓔.mul 𝓔.one (λ i. ratio 𝓔 k N A B i (row_at k (suc t))) j)
        ∙ ap₂ 𝓕.mul
        (hom_prod (λ s. row_ratio 𝓔 k N A B (row_at k (suc s))) t
        ∙ up_to_cong 𝓕.mul 𝓕.one (λ s. f (row_ratio 𝓔 k N A B (row_at k (suc s)))) (λ s. row_ratio 𝓕 k N (λ i c. f (A i c)) (λ i c. f (B i c)) (row_at k (suc s))) t
        (λ s l. hom_row (row_at k (suc s))))
        (hom_prod (λ i. ratio 𝓔 k N A B i (row_at k (suc t))) j
        ∙ up_to_cong 𝓕.mul 𝓕.one (λ i. f (ratio 𝓔 k N A B i (row_at k (suc t)))) (λ i. ratio 𝓕 k N (λ i c. f (A i c)) (λ i c. f (B i c)) i (row_at k (suc t))) j
        (λ i l. hom_ratio i (row_at k (suc t))))

    pub hom_z : (j b : ℕ) → f (z_col 𝓔 k N A B j b) ≡ z_col 𝓕 k N (λ i c. f (A i c)) (λ i c. f (B i c)) j b
    unfolding z_col
    hom_z j b =
        apply_ite f (ℕ_discrete b 0) 𝓔.zero (z_placed 𝓔 k N A B j (place_of k b - 1))
        ∙ ap₂ (ite (ℕ_discrete b 0)) hom_zero (hom_z_at j (place_of k b - 1))
