-- PLONK: the labels' source keeps cells apart, and z is the grand product in closed form: IsPlonkZ of Papers.
use mathlib.Core.Path.{◌≡◌, refl, sym, ap, ap₂, ◌∙◌, subst}
use mathlib.Core.Bool.{Bool, true, cond}
use mathlib.Core.List.{List, [], ◌∷◌, map}
use Prim.Native.Nat.{ℕ, ◌<◌, suc, ◌+◌, ◌*◌, ◌≤◌}
use native.Mathlib.Decide.{dec_lt, ℕ_discrete}
use native.Mathlib.Omega.{arith}
use lib.ListN.{length, get_or, take}
use lib.Seq.{take_all}
use Rattle.field.specs.Algebra.{Field}
use Rattle.field.specs.Algebra as Algebra
use Rattle.bh.specs.Sums.{up_to}
use Rattle.bh.specs.Rows.{row_at}
use Rattle.lists.specs.Lists.{index_of, All, range, concat}
use Rattle.lists.proofs.Tests.{by_test}
use Rattle.lists.proofs.Parts.{div_row, mod_row}
use Rattle.lists.proofs.Totals.{concat_cut}
use Rattle.identities.proofs.Cycles.{labels_good}
use Rattle.identities.proofs.Totals.{up_to_cong, up_to_add, up_to_flat}
use Rattle.identities.proofs.Fields.{muls}
use Rattle.identities.proofs.Products.{parts_product}
use Rattle.backend.specs.Circuit.{Circuit, Cell, same_cell, rows_of, copied, num_copied}
use Rattle.backend.specs.Questions.{q11}
use Rattle.backend.proofs.Cells.{same_cell_is}
use Rattle.preprocessor.proofs.Cycles.{source_all}
use Rattle.preprocessor.proofs.Copied.{cells_placed}
use Rattle.preprocessor.specs.Permutation.{last_cell, before_from, before, source, first_label}
use Rattle.preprocessor.specs.Compose.{num_z, z_cut}
use Rattle.prover.specs.Log.{Log}
use Rattle.prover.specs.Columns.{ratio_at, part_at, step_at, running_at, z_at_place}
use Rattle.hyperplonk_spec.specs.Papers.{plonk_z, IsPlonkZ}
use Rattle.completeness.proofs.CellNumbers.{Placed, same_true, source_agree}
use Rattle.completeness.proofs.CycleNumbers.{cycles_good_is}
use Rattle.completeness.proofs.Cuts.{part_size, size_pos, parts_of_z, none_z}
use Rattle.completeness.proofs.PermutationZero.{Cs}

module _ (c : Circuit) where
  pub placed? : (x : Cell) → Dec (Placed c x)
  placed? x = go (dec_lt (index_of x.polynomial (copied c)) (length (copied c))) (dec_lt x.row (rows_of c))
    where
      go : Dec (index_of x.polynomial (copied c) < length (copied c)) → Dec (x.row < rows_of c) → Dec (Placed c x)
      go (yes p) (yes q) = yes (record { column_in = p; row_in = q })
      go (no p) d = no (λ h. p h.column_in)
      go (yes p) (no q) = no (λ h. q h.row_in)

  -- a cell that is in no cycle stays
  from_out : (p : Cell) (ys : List Cell) (x : Cell) → All (Placed c) ys → ¬ Placed c x → before_from p ys x ≡ x
  unfolding before_from
  from_out p [] x a n = refl
  from_out p (y ∷ ys) x a n = by_test (same_cell x y) (λ e. absurd (n (subst (Placed c) (sym (same_cell_is x y e)) a.0))) (λ e. ap (λ (t : Bool). cond t p (before_from y ys x)) e ∙ from_out y ys x a.1 n)

  before_out : (ys : List Cell) (x : Cell) → All (Placed c) ys → ¬ Placed c x → before ys x ≡ x
  unfolding before
  before_out [] x a n = refl
  before_out (y ∷ ys) x a n = from_out (last_cell y ys) (y ∷ ys) x a n

  pub source_out : (Cs : List (List Cell)) (x : Cell) → All (All (Placed c)) Cs → ¬ Placed c x → source Cs x ≡ x
  unfolding source
  source_out [] x a n = refl
  source_out (C ∷ Cs) x a n = ap (before C) (source_out Cs x a.1 n) ∙ before_out C x a.0 n

  pub source_apart : q11 c ≡ true → (x y : Cell) → source c.cycles x ≡ source c.cycles y → x ≡ y
  source_apart e x y h = go (placed? x) (placed? y)
    where
      a : All (All (Placed c)) c.cycles
      a = cells_placed c e

      Cs : List (List ℕ)
      Cs = map (map (first_label c)) c.cycles

      go : Dec (Placed c x) → Dec (Placed c y) → x ≡ y
      go (yes p) (yes q) =
          let n : first_label c x ≡ first_label c y =
          (labels_good (num_copied c) (rows_of c) Cs (cycles_good_is c e)).apart (first_label c x) (first_label c y)
          (sym (source_agree c c.cycles x a p) ∙ ap (first_label c) h ∙ source_agree c c.cycles y a q) in
          same_cell_is x y (same_true c x y p q n)
      go (yes p) (no q) = absurd (q (subst (Placed c) (h ∙ source_out c.cycles y a q) (source_all (Placed c) c.cycles x a p)))
      go (no p) (yes q) = absurd (p (subst (Placed c) (sym h ∙ source_out c.cycles x a p) (source_all (Placed c) c.cycles y a q)))
      go (no p) (no q) = sym (source_out c.cycles x a p) ∙ h ∙ source_out c.cycles y a q

-- ---- the grand product
module _ (𝓕 : Field) where
  open 𝓕 use {F, one, mul}

  module _ (g : Log 𝓕) where
    pub whole : 0 < num_copied g.circuit → concat (take (num_z g.circuit) (z_cut g.circuit)) ≡ range (num_copied g.circuit)
    unfolding z_cut
    whole p =
        let n : ℕ = num_copied g.circuit in
        let s : ℕ = part_size g.circuit p in
        let q = parts_of_z g.circuit in
        ap concat (take_all (num_z g.circuit) (z_cut g.circuit) (omega arith)) ∙ concat_cut s (range n) (size_pos g.circuit p)

    pub step_at_is : (s j : ℕ) → j < num_z g.circuit → step_at 𝓕 g (s * num_z g.circuit + j) ≡ part_at 𝓕 g (get_or (z_cut g.circuit) j []) (row_at g.circuit.k (suc s))
    unfolding step_at
    step_at_is s j l =
        ap₂ (λ (x y : ℕ). part_at 𝓕 g (get_or (z_cut g.circuit) x []) (row_at g.circuit.k (suc y))) (mod_row s (num_z g.circuit) j l)
        (div_row s (num_z g.circuit) j l)

    steps_at : (s i : ℕ) → i ≤ num_z g.circuit
        → up_to mul one (λ j. step_at 𝓕 g (s * num_z g.circuit + j)) i
        ≡ Algebra.product 𝓕 (map (ratio_at 𝓕 g (row_at g.circuit.k (suc s))) (concat (take i (z_cut g.circuit))))
    unfolding part_at
    steps_at s i m =
        up_to_cong mul one (λ j. step_at 𝓕 g (s * num_z g.circuit + j)) (λ j. part_at 𝓕 g (get_or (z_cut g.circuit) j []) (row_at g.circuit.k (suc s))) i
        (λ j l. step_at_is s j (omega arith))
        ∙ parts_product 𝓕 (ratio_at 𝓕 g (row_at g.circuit.k (suc s))) i (z_cut g.circuit)

    pub is_plonk_z : IsPlonkZ 𝓕 g
    unfolding plonk_z z_at_place running_at
    is_plonk_z i t l m =
        up_to_add mul one (muls 𝓕) (step_at 𝓕 g) (t * num_z g.circuit) i
        ∙ ap₂ mul
        (sym (up_to_flat mul one (muls 𝓕) (step_at 𝓕 g) t (num_z g.circuit))
        ∙ up_to_cong mul one (λ s. up_to mul one (λ j. step_at 𝓕 g (s * num_z g.circuit + j)) (num_z g.circuit))
        (λ s. Algebra.product 𝓕 (map (ratio_at 𝓕 g (row_at g.circuit.k (suc s))) (range (num_copied g.circuit)))) t
        (λ s w.
        steps_at s (num_z g.circuit) (omega arith)
        ∙ ap (λ (xs : List ℕ). Algebra.product 𝓕 (map (ratio_at 𝓕 g (row_at g.circuit.k (suc s))) xs)) (whole pos)))
        (steps_at t i (omega arith))
      where
        pos : 0 < num_copied g.circuit
        pos = go (native.Mathlib.Decide.ℕ_discrete (num_copied g.circuit) 0)
          where
            go : Dec (num_copied g.circuit ≡ 0) → 0 < num_copied g.circuit
            go (yes e) = let z = none_z g.circuit e in absurd (bad z)
              where
                bad : num_z g.circuit ≡ 0 → ⊥
                bad z = omega arith
            go (no n) = omega arith
