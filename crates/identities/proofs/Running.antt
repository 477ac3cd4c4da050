-- z meets every permutation constraint on every row, and nothing else does; its running product closes at one.
use mathlib.Core.Path.{◌≡◌, refl, sym, ap, ap₂, ◌∙◌, subst, subst⁻¹}
use mathlib.Core.Logic.{◌≢◌, if_pos, if_neg}
use Prim.Native.Nat.{ℕ, zero, suc, ◌+◌, ◌-◌, ◌*◌, ◌/◌, ◌%◌, ◌^◌, ◌≤◌, ◌<◌}
use native.Mathlib.Nat.{suc-ne-zero}
use native.Mathlib.Decide.{ℕ_discrete}
use native.Mathlib.Omega.{arith}
use lib.Pow.{pow_pos, pow-lt}
use Rattle.field.specs.Algebra.{Field, zero_mul, one_mul}
use Rattle.bh.specs.Sums.{up_to}
use Rattle.bh.specs.Rows.{next_row, row_at, place_of}
use Rattle.bh.proofs.Iter.{iter_zero}
use Rattle.bh.proofs.Order.{row_suc, row_zero, row_next, row_last, row_lt, row_once, row_sum_but_0, next_zero}
use Rattle.bh.proofs.Place.{row_place, place_row, place_lt}
use Rattle.lists.proofs.Parts.{div_row, mod_row}
use Rattle.identities.specs.Running as R
use Rattle.identities.proofs.Totals.{sums, up_to_cong, up_to_suc, up_to_zero, up_to_op, up_to_add, up_to_flat}
use Rattle.identities.proofs.Fields.{muls, ratio_back, ratio_only, prod_inv, prod_nonzero}

module _ (𝓕 : Field) (k N : ℕ) (A B : ℕ → ℕ → 𝓕.F) where
  open 𝓕 use {F, zero as nil, one, mul, inv}

  abbrev ratio : ℕ → ℕ → F
  ratio = R.ratio 𝓕 k N A B

  abbrev row_ratio : ℕ → F
  row_ratio = R.row_ratio 𝓕 k N A B

  abbrev z_at : ℕ → ℕ → F
  z_at = R.z_placed 𝓕 k N A B

  abbrev z_col : ℕ → ℕ → F
  z_col = R.z_col 𝓕 k N A B

  abbrev next_z : (ℕ → ℕ → F) → ℕ → ℕ → F
  next_z = R.z_after 𝓕 k N A B

  abbrev Met : (ℕ → ℕ → F) → Type 0
  Met = R.Met 𝓕 k N A B

  abbrev NoZero : Type 0
  NoZero = R.NoZero 𝓕 k N A B

  abbrev Balanced : Type 0
  Balanced = R.PartsBalance 𝓕 k N A B

  abbrev scan : ℕ → F
  scan = R.scan 𝓕 k N A B

  row_ratio_is : (b : ℕ) → row_ratio b ≡ mul (up_to mul one (λ j. A j b) N) (inv (up_to mul one (λ j. B j b) N))
  unfolding R.row_ratio R.ratio
  row_ratio_is b =
      up_to_op mul one (muls 𝓕) (λ j. A j b) (λ j. inv (B j b)) N
      ∙ ap (mul (up_to mul one (λ j. A j b) N)) (prod_inv 𝓕 (λ j. B j b) N)

  pub step_in : (j t : ℕ) → z_at (suc j) t ≡ mul (z_at j t) (ratio j (row_at k (suc t)))
  unfolding R.z_placed
  step_in j t =
      ap (mul P) (up_to_suc mul one (λ i. ratio i (row_at k (suc t))) j)
      ∙ sym (𝓕.mul_assoc P (up_to mul one (λ i. ratio i (row_at k (suc t))) j) (ratio j (row_at k (suc t))))
    where
      P : F
      P = up_to mul one (λ s. row_ratio (row_at k (suc s))) t

  pub at_first : (t : ℕ) → z_at 0 t ≡ up_to mul one (λ s. row_ratio (row_at k (suc s))) t
  unfolding R.z_placed
  at_first t =
      ap (mul (up_to mul one (λ s. row_ratio (row_at k (suc s))) t)) (up_to_zero mul one (λ i. ratio i (row_at k (suc t))))
      ∙ 𝓕.mul_one (up_to mul one (λ s. row_ratio (row_at k (suc s))) t)

  pub step_out : (t : ℕ) → z_at N t ≡ z_at 0 (suc t)
  unfolding R.z_placed R.row_ratio
  step_out t = sym (at_first (suc t) ∙ up_to_suc mul one (λ s. row_ratio (row_at k (suc s))) t)

  pub zero_at : z_at 0 0 ≡ one
  zero_at = at_first 0 ∙ up_to_zero mul one (λ s. row_ratio (row_at k (suc s)))

  pub z_zero : (j : ℕ) → z_col j 0 ≡ nil
  unfolding R.z_col
  z_zero j = if_pos (ℕ_discrete 0 0) refl nil (z_at j (place_of k 0 - 1))

  pub row_one : row_at k 1 ≡ 1
  row_one = row_suc k 0 ∙ iter_zero (next_row k) 1

  pub z_scan : (j t : ℕ) → 0 < N → j ≤ N → z_at j t ≡ scan (t * N + j)
  unfolding R.z_placed R.scan R.row_ratio
  z_scan j t p m =
      sym
      (up_to_add mul one (muls 𝓕) f (t * N) j
      ∙ ap₂ mul
      (sym (up_to_flat mul one (muls 𝓕) f t N)
      ∙ up_to_cong mul one (λ s. up_to mul one (λ i. f (s * N + i)) N) (λ s. up_to mul one (λ i. ratio i (row_at k (suc s))) N) t
      (λ s l. up_to_cong mul one (λ i. f (s * N + i)) (λ i. ratio i (row_at k (suc s))) N (λ i w. at s i w)))
      (up_to_cong mul one (λ i. f (t * N + i)) (λ i. ratio i (row_at k (suc t))) j (λ i w. at t i (omega arith))))
    where
      f : ℕ → F
      f r = ratio (r % N) (row_at k (suc (r / N)))

      at : (s i : ℕ) → i < N → f (s * N + i) ≡ ratio i (row_at k (suc s))
      at s i w =
          ap₂ (λ (x y : ℕ). ratio x (row_at k (suc y))) (mod_row s N i w) (div_row s N i w)

  module _ (h : 0 < k) (l : k < 21) where
    one_lt : 1 < 2 ^ k
    one_lt = pow-lt {i = 0} {j = k} h

    row_pos : (t : ℕ) → t < 2 ^ k - 1 → row_at k (suc t) ≢ 0
    row_pos t m e = suc-ne-zero t (row_once k h l (suc t) 0 (omega arith) (pow_pos k) (e ∙ sym (row_zero k)))

    -- z at a place
    pub z_place : (j t : ℕ) → t < 2 ^ k - 1 → z_col j (row_at k (suc t)) ≡ z_at j t
    unfolding R.z_col
    z_place j t m =
        if_neg (ℕ_discrete (row_at k (suc t)) 0) (row_pos t m) nil (z_at j (place_of k (row_at k (suc t)) - 1))
        ∙ ap (z_at j) (let q = place_row k h l (suc t) (omega arith) in omega arith)

    pub z_start : z_col 0 1 ≡ one
    z_start = ap (z_col 0) (sym row_one) ∙ z_place 0 0 (omega (arith, one_lt)) ∙ zero_at

    -- the row of a place, for every row but 0
    place_of_is : (b : ℕ) → b ≢ 0 → b < 2 ^ k → (t : ℕ) × (t < 2 ^ k - 1) × (row_at k (suc t) ≡ b)
    place_of_is b n m = go (place_of k b) (row_place k h l b m) (place_lt k h l b m)
      where
        go : (p : ℕ) → row_at k p ≡ b → p < 2 ^ k → (t : ℕ) × (t < 2 ^ k - 1) × (row_at k (suc t) ≡ b)
        go zero e q = absurd (n (sym e ∙ row_zero k))
        go (suc t) e q = (t, omega arith, e)

    -- the row after a place
    next_place : (t : ℕ) → suc t < 2 ^ k - 1 → next_row k (row_at k (suc t)) ≡ row_at k (suc (suc t))
    next_place t m = sym (row_next k t)

    next_last : (t : ℕ) → suc t ≡ 2 ^ k - 1 → next_row k (row_at k (suc t)) ≡ row_at k 1
    next_last t m = ap (λ (x : ℕ). next_row k (row_at k x)) m ∙ row_last k h l ∙ sym row_one

    -- the whole product
    pub closed_form : z_at 0 (2 ^ k - 1)
        ≡ mul (up_to mul one (λ b. up_to mul one (λ j. A j (suc b)) N) (2 ^ k - 1))
        (inv (up_to mul one (λ b. up_to mul one (λ j. B j (suc b)) N) (2 ^ k - 1)))
    closed_form =
        at_first (2 ^ k - 1) ∙ row_sum_but_0 k h l mul one (sums mul one (muls 𝓕)) row_ratio
        ∙ up_to_cong mul one (λ b. row_ratio (suc b)) (λ b. mul (a b) (inv (c b))) (2 ^ k - 1) (λ b m. row_ratio_is (suc b))
        ∙ up_to_op mul one (muls 𝓕) a (λ b. inv (c b)) (2 ^ k - 1)
        ∙ ap (mul (up_to mul one a (2 ^ k - 1))) (prod_inv 𝓕 c (2 ^ k - 1))
      where
        a : ℕ → F
        a b = up_to mul one (λ j. A j (suc b)) N

        c : ℕ → F
        c b = up_to mul one (λ j. B j (suc b)) N

    module _ (nz : NoZero) where
      nz_at : (j t : ℕ) → j < N → t < 2 ^ k - 1 → B j (row_at k (suc t)) ≢ nil
      nz_at j t m q = nz j (row_at k (suc t)) m (let p = row_pos t q in omega arith) (row_lt k h l (suc t))

      whole_nonzero : up_to mul one (λ b. up_to mul one (λ j. B j (suc b)) N) (2 ^ k - 1) ≢ nil
      whole_nonzero =
          prod_nonzero 𝓕 (λ b. up_to mul one (λ j. B j (suc b)) N) (2 ^ k - 1)
          (λ b m. prod_nonzero 𝓕 (λ j. B j (suc b)) N (λ j q. nz j (suc b) q (omega arith) (omega arith)))

      -- the running product closes at one
      pub closes : Balanced → z_at 0 (2 ^ k - 1) ≡ one
      closes bal =
          closed_form
          ∙ ap
          (λ (x : F). mul x (inv (up_to mul one (λ b. up_to mul one (λ j. B j (suc b)) N) (2 ^ k - 1))))
          bal
          ∙ 𝓕.mul_inv (up_to mul one (λ b. up_to mul one (λ j. B j (suc b)) N) (2 ^ k - 1)) whole_nonzero

      -- what follows part j at place t + 1
      follows : Balanced → (j t : ℕ) → j < N → t < 2 ^ k - 1 → next_z z_col j (row_at k (suc t)) ≡ z_at (suc j) t
      follows bal j t m q = go (ℕ_discrete (suc j) N) (ℕ_discrete (suc t) (2 ^ k - 1))
        where
          go : Dec (suc j ≡ N) → Dec (suc t ≡ 2 ^ k - 1) → next_z z_col j (row_at k (suc t)) ≡ z_at (suc j) t
          go (no n) d =
              if_neg (ℕ_discrete (suc j) N) n (z_col 0 (next_row k (row_at k (suc t)))) (z_col (suc j) (row_at k (suc t)))
              ∙ z_place (suc j) t q
          go (yes e) (no n) =
              if_pos (ℕ_discrete (suc j) N) e (z_col 0 (next_row k (row_at k (suc t)))) (z_col (suc j) (row_at k (suc t)))
              ∙ ap (z_col 0) (next_place t (omega arith)) ∙ z_place 0 (suc t) (omega arith) ∙ sym (step_out t)
              ∙ ap (λ (x : ℕ). z_at x t) (sym e)
          go (yes e) (yes u) =
              if_pos (ℕ_discrete (suc j) N) e (z_col 0 (next_row k (row_at k (suc t)))) (z_col (suc j) (row_at k (suc t)))
              ∙ ap (z_col 0) (next_last t u) ∙ z_place 0 0 (omega arith) ∙ zero_at
              ∙ sym (ap (λ (x : ℕ). z_at x t) e ∙ step_out t ∙ ap (z_at 0) u ∙ closes bal)

      part_at : Balanced → (j t : ℕ) → j < N → t < 2 ^ k - 1
          → mul (z_col j (row_at k (suc t))) (A j (row_at k (suc t))) ≡ mul (next_z z_col j (row_at k (suc t))) (B j (row_at k (suc t)))
      unfolding R.ratio
      part_at bal j t m q =
          ap (λ (x : F). mul x (A j b)) (z_place j t q)
          ∙ sym (ratio_back 𝓕 (z_at j t) (A j b) (B j b) (nz_at j t m q))
          ∙ ap (λ (x : F). mul x (B j b)) (sym (step_in j t) ∙ sym (follows bal j t m q))
        where
          b : ℕ
          b = row_at k (suc t)

      part_nought : (j : ℕ) → mul (z_col j 0) (A j 0) ≡ mul (next_z z_col j 0) (B j 0)
      part_nought j = ap (λ (x : F). mul x (A j 0)) (z_zero j) ∙ zero_mul 𝓕 (A j 0) ∙ sym (ap (λ (x : F). mul x (B j 0)) (go (ℕ_discrete (suc j) N)) ∙ zero_mul 𝓕 (B j 0))
        where
          go : Dec (suc j ≡ N) → next_z z_col j 0 ≡ nil
          go (yes e) = if_pos (ℕ_discrete (suc j) N) e (z_col 0 (next_row k 0)) (z_col (suc j) 0) ∙ ap (z_col 0) (next_zero k (omega arith)) ∙ z_zero 0
          go (no n) = if_neg (ℕ_discrete (suc j) N) n (z_col 0 (next_row k 0)) (z_col (suc j) 0) ∙ z_zero (suc j)

      -- every permutation constraint is zero on every row
      pub z_meets : Balanced → Met z_col
      z_meets bal = record { start = z_start; parts = λ j b m q. go j b m q (ℕ_discrete b 0) }
        where
          go : (j b : ℕ) → j < N → b < 2 ^ k → Dec (b ≡ 0) → mul (z_col j b) (A j b) ≡ mul (next_z z_col j b) (B j b)
          go j b m q (yes e) = subst⁻¹ (λ (x : ℕ). mul (z_col j x) (A j x) ≡ mul (next_z z_col j x) (B j x)) e (part_nought j)
          go j b m q (no n) =
              let p = place_of_is b n q in
              subst (λ (x : ℕ). mul (z_col j x) (A j x) ≡ mul (next_z z_col j x) (B j x)) p.2 (part_at bal j p.0 m p.1)

      -- ---- and no other z meets them
      only_in : (z : ℕ → ℕ → F) → Met z → (t : ℕ) → t < 2 ^ k - 1 → z 0 (row_at k (suc t)) ≡ z_at 0 t → (j : ℕ) → j < N → z j (row_at k (suc t)) ≡ z_at j t
      unfolding R.ratio
      only_in z M t q e zero m = e
      only_in z M t q e (suc j) m =
          step (only_in z M t q e j (omega arith))
        where
          b : ℕ
          b = row_at k (suc t)

          step : z j b ≡ z_at j t → z (suc j) b ≡ z_at (suc j) t
          step ih =
              ratio_only 𝓕 (z j b) (A j b) (B j b) (z (suc j) b) (nz_at j t (omega arith) q)
              (M.parts j b (omega arith) (row_lt k h l (suc t))
              ∙ ap (λ (x : F). mul x (B j b)) (if_neg (ℕ_discrete (suc j) N) (omega arith) (z 0 (next_row k b)) (z (suc j) b)))
              ∙ ap (λ (x : F). mul x (mul (A j b) (inv (B j b)))) ih ∙ sym (step_in j t)

      only_at : (z : ℕ → ℕ → F) → 0 < N → Met z → (t : ℕ) → t < 2 ^ k - 1 → z 0 (row_at k (suc t)) ≡ z_at 0 t
      unfolding R.ratio
      only_at z w M zero q = ap (z 0) row_one ∙ M.start ∙ sym zero_at
      only_at z w M (suc t) q = step (only_in z M t (omega arith) (only_at z w M t (omega arith)) (N - 1) (omega arith))
        where
          b : ℕ
          b = row_at k (suc t)

          step : z (N - 1) b ≡ z_at (N - 1) t → z 0 (row_at k (suc (suc t))) ≡ z_at 0 (suc t)
          step ih =
              let e : suc (N - 1) ≡ N = omega arith in
              ap (z 0) (sym (next_place t q))
              ∙ ratio_only 𝓕 (z (N - 1) b) (A (N - 1) b) (B (N - 1) b) (z 0 (next_row k b)) (nz_at (N - 1) t (omega arith) (omega arith))
              (M.parts (N - 1) b (omega arith) (row_lt k h l (suc t))
              ∙ ap (λ (x : F). mul x (B (N - 1) b)) (if_pos (ℕ_discrete (suc (N - 1)) N) e (z 0 (next_row k b)) (z (suc (N - 1)) b)))
              ∙ ap (λ (x : F). mul x (mul (A (N - 1) b) (inv (B (N - 1) b)))) ih
              ∙ sym (step_in (N - 1) t) ∙ ap (λ (x : ℕ). z_at x t) e ∙ step_out t

      -- what meets the constraints is z, outside row 0
      pub z_only : (z : ℕ → ℕ → F) → Met z → (j b : ℕ) → j < N → b ≢ 0 → b < 2 ^ k → z j b ≡ z_col j b
      z_only z M j b m n q =
          let p = place_of_is b n q in
          subst (λ (x : ℕ). z j x ≡ z_col j x) p.2
          (only_in z M p.0 p.1 (only_at z (omega arith) M p.0 p.1) j m ∙ sym (z_place j p.0 p.1))

      -- no two that differ outside row 0
      pub z_unique : (z w : ℕ → ℕ → F) → Met z → Met w → (j b : ℕ) → j < N → b ≢ 0 → b < 2 ^ k → z j b ≡ w j b
      z_unique z w M M' j b m n q = z_only z M j b m n q ∙ sym (z_only w M' j b m n q)

      -- why the running product must close at one: whatever meets the constraints makes it so, and the two products equal
      pub must_close : (z : ℕ → ℕ → F) → 0 < N → Met z → z_at 0 (2 ^ k - 1) ≡ one
      unfolding R.ratio
      must_close z w M =
          sym
          (sym M.start ∙ ap (z 0) (sym (next_last t u ∙ row_one))
          ∙ ratio_only 𝓕 (z (N - 1) b) (A (N - 1) b) (B (N - 1) b) (z 0 (next_row k b)) (nz_at (N - 1) t (omega arith) (omega (arith, one_lt)))
          (M.parts (N - 1) b (omega arith) (row_lt k h l (suc t))
          ∙ ap (λ (x : F). mul x (B (N - 1) b)) (if_pos (ℕ_discrete (suc (N - 1)) N) e (z 0 (next_row k b)) (z (suc (N - 1)) b)))
          ∙ ap (λ (x : F). mul x (mul (A (N - 1) b) (inv (B (N - 1) b)))) (only_in z M t (omega (arith, one_lt)) (only_at z w M t (omega (arith, one_lt))) (N - 1) (omega arith))
          ∙ sym (step_in (N - 1) t) ∙ ap (λ (x : ℕ). z_at x t) e ∙ step_out t ∙ ap (z_at 0) u)
        where
          t : ℕ
          t = 2 ^ k - 2

          b : ℕ
          b = row_at k (suc t)

          u : suc (2 ^ k - 2) ≡ 2 ^ k - 1
          u = omega (arith, one_lt)

          e : suc (N - 1) ≡ N
          e = omega arith

      pub must_balance : (z : ℕ → ℕ → F) → 0 < N → Met z → Balanced
      must_balance z w M =
          sym (𝓕.mul_one P)
          ∙ ap (mul P) (sym (𝓕.mul_inv Q whole_nonzero) ∙ 𝓕.mul_comm Q (inv Q))
          ∙ sym (𝓕.mul_assoc P (inv Q) Q) ∙ ap (λ (x : F). mul x Q) (sym closed_form ∙ must_close z w M) ∙ one_mul 𝓕 Q
        where
          P : F
          P = up_to mul one (λ b. up_to mul one (λ j. A j (suc b)) N) (2 ^ k - 1)

          Q : F
          Q = up_to mul one (λ b. up_to mul one (λ j. B j (suc b)) N) (2 ^ k - 1)
