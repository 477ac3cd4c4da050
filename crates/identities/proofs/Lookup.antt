-- h: Haböck's identity, and the lookup constraint, in any field.
use mathlib.Core.Path.{◌≡◌, refl, sym, ap, ap₂, ◌∙◌}
use mathlib.Core.Logic.{◌≢◌}
use mathlib.Core.List.{[], ◌∷◌}
use Prim.Native.Nat.{ℕ}
use Rattle.field.specs.Algebra.{Field, one_mul, neg_unique}
use Rattle.field.proofs.Solve.{var, ◌:+◌, ◌:*◌, minus, solve}
use Rattle.bh.specs.Sums.{up_to}
use Rattle.identities.specs.Lookup as R
use Rattle.identities.specs.Totals.{times}
use Rattle.identities.proofs.Totals.{up_to_cong, up_to_op, up_to_unit}
use Rattle.identities.proofs.Fields.{adds, mul_cancel, sum_mul, inv_mul_self}
use Rattle.identities.specs.Counts.{multiplicities, counted, AllStand}
use Rattle.identities.proofs.Counts.{counted_stand, counted_is, count_total}

module _ (𝓕 : Field) where
  open 𝓕 use {F, zero as nil, one, add, mul, neg, inv, decide}

  abbrev num : ℕ → F
  num = R.num 𝓕

  pub num_times : (n : ℕ) (x : F) → times add nil n x ≡ mul (num n) x
  unfolding R.num
  num_times n x =
      up_to_cong add nil (λ i. x) (λ i. mul one x) n (λ i l. sym (one_mul 𝓕 x)) ∙ sym (sum_mul 𝓕 (λ i. one) x n)

  pub sum_neg : (f : ℕ → F) (n : ℕ) → up_to add nil (λ i. neg (f i)) n ≡ neg (up_to add nil f n)
  sum_neg f n =
      neg_unique 𝓕 (up_to add nil f n) (up_to add nil (λ i. neg (f i)) n)
      (sym (up_to_op add nil (adds 𝓕) f (λ i. neg (f i)) n)
      ∙ up_to_cong add nil (λ i. add (f i) (neg (f i))) (λ i. nil) n (λ i l. 𝓕.add_neg (f i))
      ∙ up_to_unit add nil (adds 𝓕) n)

  -- (d) in the field: the counts as elements
  pub count_field : (ni nt : ℕ) (input table : ℕ → F) (g : F → F) → AllStand ni nt input table
      → up_to add nil (λ b. g (input b)) ni ≡ up_to add nil (λ r. mul (num (multiplicities decide ni nt input table r)) (g (table r))) nt
  count_field ni nt input table g h =
      count_total decide ni nt input table add nil (adds 𝓕) g h
      ∙ up_to_cong add nil (λ r. times add nil (multiplicities decide ni nt input table r) (g (table r)))
      (λ r. mul (num (multiplicities decide ni nt input table r)) (g (table r))) nt
      (λ r m. num_times (multiplicities decide ni nt input table r) (g (table r)))

  module _ (γ : F) (input table m : ℕ → F) where
    abbrev h_at : ℕ → F
    h_at = R.h_value 𝓕 γ input table m

    abbrev Fits : F → ℕ → Type 0
    Fits = R.Fits 𝓕 γ input table m

    -- (u' - m w') u w is w - m u, where u' u = w' w = 1
    clear : (u w u' w' c : F) → mul u' u ≡ one → mul w' w ≡ one → mul (mul (add u' (neg (mul c w'))) u) w ≡ add w (neg (mul c u))
    clear u w u' w' c p q =
        let U = var 0 in
        let X = var 1 in
        let U' = var 2 in
        let X' = var 3 in
        let C = var 4 in
        solve 𝓕 (u ∷ w ∷ u' ∷ w' ∷ c ∷ []) (((U' :+ minus (C :* X')) :* U) :* X) ((U' :* U) :* X :+ minus ((C :* U) :* (X' :* X))) refl
        ∙ ap₂ (λ (x y : F). add (mul x w) (neg (mul (mul c u) y))) p q
        ∙ ap₂ (λ (x y : F). add x (neg y)) (one_mul 𝓕 w) (𝓕.mul_one (mul c u))

    pub h_fits : (b : ℕ) → add γ (input b) ≢ nil → add γ (table b) ≢ nil → Fits (h_at b) b
    unfolding R.h_value
    h_fits b p q =
        clear (add γ (input b)) (add γ (table b)) (inv (add γ (input b))) (inv (add γ (table b))) (m b)
        (inv_mul_self 𝓕 (add γ (input b)) p) (inv_mul_self 𝓕 (add γ (table b)) q)

    -- no other value does
    pub h_unique : (b : ℕ) → add γ (input b) ≢ nil → add γ (table b) ≢ nil → (x y : F) → Fits x b → Fits y b → x ≡ y
    h_unique b p q x y f g =
        mul_cancel 𝓕 x y (add γ (input b)) p
        (mul_cancel 𝓕 (mul x (add γ (input b))) (mul y (add γ (input b))) (add γ (table b)) q (f ∙ sym g))

    pub h_only : (b : ℕ) → add γ (input b) ≢ nil → add γ (table b) ≢ nil → (x : F) → Fits x b → x ≡ h_at b
    h_only b p q x f = h_unique b p q x (h_at b) f (h_fits b p q)

  -- Haböck: the inputs' inverses are the table's, as often as counted. Zeros included: the inverse of 0 is 0
  pub haboeck : (γ : F) (ni nt : ℕ) (input table : ℕ → F) → AllStand ni nt input table
      → up_to add nil (λ b. inv (add γ (input b))) ni
      ≡ up_to add nil (λ r. mul (num (multiplicities decide ni nt input table r)) (inv (add γ (table r)))) nt
  haboeck γ ni nt input table h = count_field ni nt input table (λ x. inv (add γ x)) h

  -- so h sums to zero
  pub h_sum : (γ : F) (n : ℕ) (input table : ℕ → F) → AllStand n n input table
      → up_to add nil (h_at γ input table (λ r. num (multiplicities decide n n input table r))) n ≡ nil
  unfolding R.h_value
  h_sum γ n input table h =
      up_to_op add nil (adds 𝓕) f (λ b. neg (g b)) n ∙ ap (add (up_to add nil f n)) (sum_neg g n)
      ∙ ap (λ (x : F). add x (neg (up_to add nil g n))) (haboeck γ n n input table h) ∙ 𝓕.add_neg (up_to add nil g n)
    where
      f : ℕ → F
      f b = inv (add γ (input b))

      g : ℕ → F
      g b = mul (num (multiplicities decide n n input table b)) (inv (add γ (table b)))

  -- the same of whatever the count answers
  pub h_sum_counted : (γ : F) (n : ℕ) (input table : ℕ → F) (c : ℕ → ℕ)
      → counted decide n n input table ≡ mathlib.Core.Option.some c → up_to add nil (h_at γ input table (λ r. num (c r))) n ≡ nil
  h_sum_counted γ n input table c e =
      ap (λ (d : ℕ → ℕ). up_to add nil (h_at γ input table (λ r. num (d r))) n) (counted_is decide n n input table c e)
      ∙ h_sum γ n input table (counted_stand decide n n input table c e)
