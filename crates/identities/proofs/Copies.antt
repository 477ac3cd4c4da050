-- With true copies and no zero denominator, the copied columns' z meets every permutation constraint.
use mathlib.Core.Path.{◌≡◌, sym, ap, ap₂, ◌∙◌}
use mathlib.Core.Logic.{◌≢◌}
use mathlib.Core.List.{List}
use Prim.Native.Nat.{ℕ, suc, ◌+◌, ◌-◌, ◌*◌, ◌^◌, ◌≤◌, ◌<◌, min}
use native.Mathlib.Omega.{arith}
use lib.Pow.{pow_pos}
use Rattle.field.specs.Algebra.{Field}
use Rattle.bh.specs.Sums.{up_to}
use Rattle.lists.proofs.Parts.{div_row, mod_row}
use Rattle.identities.specs.Copies as R
use Rattle.identities.specs.Copies.{at_cell}
use Rattle.identities.proofs.Totals.{up_to_cong, up_to_swap, up_to_cut}
use Rattle.identities.specs.Cycles.{labels, Cycles, Copied, product_over_cells}
use Rattle.identities.proofs.Cycles.{permuted}
use Rattle.identities.proofs.Fields.{muls, prod_nonzero}
use Rattle.identities.specs.Running.{z_col, Met, NoZero, PartsBalance}
use Rattle.identities.proofs.Running.{z_meets, z_unique}

pub at_cell_is : {W : Type 0} (M : ℕ) (val : ℕ → ℕ → W) (i b : ℕ) → b < M → at_cell M val (i * M + b) ≡ val i b
at_cell_is M val i b h = ap₂ val (div_row i M b h) (mod_row i M b h)

module _ (𝓕 : Field) {W : Type 0} (k n s : ℕ) (val : ℕ → ℕ → W) (φ : W → ℕ → 𝓕.F) where
  open 𝓕 use {F, zero as nil, one, mul}

  abbrev part_with : (ℕ → ℕ) → ℕ → ℕ → F
  part_with = R.part_with 𝓕 k n s val φ

  -- over all parts
  parts_all : (N : ℕ) → n ≤ N * s → (l : ℕ → ℕ) (b : ℕ) → up_to mul one (λ j. part_with l j b) N ≡ up_to mul one (λ i. φ (val i b) (l (i * 2 ^ k + b))) n
  unfolding R.part_with
  parts_all N h l b = up_to_cut mul one (muls 𝓕) (λ i. φ (val i b) (l (i * 2 ^ k + b))) n s N h

  cells_all : (N : ℕ) → n ≤ N * s → (l : ℕ → ℕ)
      → up_to mul one (λ b. up_to mul one (λ j. part_with l j (suc b)) N) (2 ^ k - 1)
      ≡ product_over_cells mul one n (2 ^ k) (λ c. φ (at_cell (2 ^ k) val c) (l c))
  cells_all N h l =
      up_to_cong mul one (λ b. up_to mul one (λ j. part_with l j (suc b)) N) (λ b. up_to mul one (λ i. φ (val i (suc b)) (l (i * 2 ^ k + suc b))) n) (2 ^ k - 1)
      (λ b m. parts_all N h l (suc b))
      ∙ up_to_swap mul one (muls 𝓕) (λ b i. φ (val i (suc b)) (l (i * 2 ^ k + suc b))) (2 ^ k - 1) n
      ∙ up_to_cong mul one (λ i. up_to mul one (λ b. φ (val i (suc b)) (l (i * 2 ^ k + suc b))) (2 ^ k - 1))
      (λ i. up_to mul one (λ b. φ (at_cell (2 ^ k) val (i * 2 ^ k + suc b)) (l (i * 2 ^ k + suc b))) (2 ^ k - 1)) n
      (λ i m. up_to_cong mul one (λ b. φ (val i (suc b)) (l (i * 2 ^ k + suc b))) (λ b. φ (at_cell (2 ^ k) val (i * 2 ^ k + suc b)) (l (i * 2 ^ k + suc b))) (2 ^ k - 1)
      (λ b q. ap (λ (x : W). φ x (l (i * 2 ^ k + suc b))) (sym (at_cell_is (2 ^ k) val i (suc b) (omega arith)))))

  module _ (Cs : List (List ℕ)) where
    abbrev ids : ℕ → ℕ → F
    ids = R.ids 𝓕 k n s val φ Cs

    abbrev perms : ℕ → ℕ → F
    perms = R.perms 𝓕 k n s val φ Cs

    abbrev Safe : Type 0
    Safe = R.Safe 𝓕 k n s val φ Cs

    -- true copies balance
    pub balanced : (N : ℕ) → n ≤ N * s → Cycles n (2 ^ k) Cs → Copied (at_cell (2 ^ k) val) Cs → PartsBalance 𝓕 k N ids perms
    balanced N h cs cp =
        cells_all N h (λ c. c) ∙ permuted mul one (muls 𝓕) n (2 ^ k) (pow_pos k) (at_cell (2 ^ k) val) Cs cs cp φ
        ∙ sym (cells_all N h (labels Cs))

    pub safe_parts : (N : ℕ) → Safe → NoZero 𝓕 k N ids perms
    unfolding R.part_with
    safe_parts N safe j b m p q =
        prod_nonzero 𝓕 (λ r. φ (val (j * s + r) b) (labels Cs ((j * s + r) * 2 ^ k + b))) (min s (n - j * s))
        (λ r w. safe (j * s + r) b (omega arith) p q)

    -- with true copies and no zero denominator, z meets every permutation constraint on every row
    pub copies_meet : (N : ℕ) → 0 < k → k < 21 → n ≤ N * s → Cycles n (2 ^ k) Cs → Copied (at_cell (2 ^ k) val) Cs → Safe
        → Met 𝓕 k N ids perms (z_col 𝓕 k N ids perms)
    copies_meet N h l c cs cp safe = z_meets 𝓕 k N ids perms h l (safe_parts N safe) (balanced N c cs cp)

    -- whatever the values, no two z that differ outside row 0
    pub copies_unique : (N : ℕ) → 0 < k → k < 21 → Safe → (z w : ℕ → ℕ → F) → Met 𝓕 k N ids perms z → Met 𝓕 k N ids perms w
        → (j b : ℕ) → j < N → b ≢ 0 → b < 2 ^ k → z j b ≡ w j b
    copies_unique N h l safe z w = z_unique 𝓕 k N ids perms h l (safe_parts N safe) z w
