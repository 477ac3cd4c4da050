-- z is PLONK's product over the cells before: IsPaperZ of Copies.
use mathlib.Core.Path.{◌≡◌, refl, sym, ap, ap₂, ◌∙◌}
use mathlib.Core.List.{List, map, map-map, map-append}
use Prim.Native.Nat.{ℕ, zero, suc, ◌*◌, ◌<◌}
use lib.ListN.{length, take, drop}
use Rattle.field.specs.Algebra.{Field, product_append}
use Rattle.field.specs.Algebra as Algebra
use Rattle.bh.specs.Sums.{up_to}
use Rattle.bh.specs.Rows.{row_at, place_of}
use Rattle.bh.proofs.Place.{place_row}
use Rattle.lists.specs.Lists.{range, tabulate, concat, ceil_div, cut, All}
use Rattle.lists.proofs.Lists.{concat_end}
use Rattle.lists.proofs.All.{all_take, all_drop, all_tabulate, all_concat, map_same}
use Rattle.identities.proofs.Totals.{up_to_cong}
use Rattle.backend.specs.Circuit.{Cell, rows_of, num_copied}
use Rattle.preprocessor.specs.Compose.{num_z, z_cut}
use Rattle.prover.specs.Log.{Log}
use Rattle.prover.specs.Columns.{ratio_at, z_at_place, z_at}
use Rattle.hyperplonk_spec.specs.Papers.{plonk_z}
use Rattle.hyperplonk_spec.specs.Copies.{copied_cell, σ, factor, cells_at, cells_before, paper_z, IsPaperZ}
use Rattle.completeness.proofs.DemandThreeOf.{k_positive, k_below_21}
use Rattle.completeness.proofs.Plonk.{is_plonk_z}
use Rattle.completeness.proofs.Copies.{are_factors}

-- the numbers of a cut are those below n
pub below_in : (n : ℕ) → All (λ j. j < n) (range n)
below_in n = all_tabulate (λ j. j < n) (λ i. i) n (λ i l. l)

pub cut_in : (s n : ℕ) → All (All (λ j. j < n)) (cut s (range n))
unfolding cut
cut_in s n =
    all_tabulate (All (λ j. j < n)) (λ i. take s (drop (i * s) (range n))) (ceil_div (length (range n)) s)
    (λ i l. all_take (λ j. j < n) s (drop (i * s) (range n)) (all_drop (λ j. j < n) (i * s) (range n) (below_in n)))

module _ (𝓕 : Field) where
  open 𝓕 use {F, zero as nil, one, mul, inv}

  -- over lists one after another
  product_lists : (h : Cell → F) (f : ℕ → List Cell) (t : ℕ)
      → Algebra.product 𝓕 (map h (concat (tabulate f t))) ≡ up_to mul one (λ s. Algebra.product 𝓕 (map h (f s))) t
  unfolding tabulate concat up_to Algebra.product
  product_lists h f zero = refl
  product_lists h f (suc t) =
      ap (λ (xs : List Cell). Algebra.product 𝓕 (map h xs)) (concat_end (tabulate f t) (f t))
      ∙ ap (Algebra.product 𝓕) (map-append h (concat (tabulate f t)) (f t))
      ∙ product_append 𝓕 (map h (concat (tabulate f t))) (map h (f t))
      ∙ ap (λ (x : F). mul x (Algebra.product 𝓕 (map h (f t)))) (product_lists h f t)

  module _ (g : Log 𝓕) where
    -- the paper's quotient at a cell
    abbrev quotient : Cell → F
    quotient x = mul (factor 𝓕 g x x) (inv (factor 𝓕 g x (σ g.circuit x)))

    quotient_at : (b j : ℕ) → j < num_copied g.circuit → quotient (copied_cell g.circuit j b) ≡ ratio_at 𝓕 g b j
    unfolding ratio_at
    quotient_at b j l = let f = are_factors 𝓕 g in ap₂ (λ (x y : F). mul x (inv y)) (sym (f.identity j b l)) (sym (f.permutation j b))

    at_columns : (t : ℕ) (js : List ℕ) → All (λ j. j < num_copied g.circuit) js
        → Algebra.product 𝓕 (map quotient (cells_at 𝓕 g t js)) ≡ Algebra.product 𝓕 (map (ratio_at 𝓕 g (row_at g.circuit.k t)) js)
    at_columns t js a =
        ap (Algebra.product 𝓕)
        (map-map quotient (λ j. copied_cell g.circuit j (row_at g.circuit.k t)) js
        ∙ map_same (λ j. j < num_copied g.circuit) (λ j. quotient (copied_cell g.circuit j (row_at g.circuit.k t))) (ratio_at 𝓕 g (row_at g.circuit.k t))
        (λ j l. quotient_at (row_at g.circuit.k t) j l)
        js
        a)

    parts_in : (i : ℕ) → All (λ j. j < num_copied g.circuit) (concat (take i (z_cut g.circuit)))
    unfolding z_cut
    parts_in i =
        all_concat (λ j. j < num_copied g.circuit) (take i (z_cut g.circuit))
        (all_take (All (λ j. j < num_copied g.circuit)) i (z_cut g.circuit) (cut_in _ (num_copied g.circuit)))

    paper_is : (i t : ℕ) → paper_z 𝓕 g i t ≡ plonk_z 𝓕 g i t
    unfolding paper_z cells_before plonk_z
    paper_is i t =
        ap (Algebra.product 𝓕) (map-append quotient whole rest)
        ∙ product_append 𝓕 (map quotient whole) (map quotient rest)
        ∙ ap₂ mul
        (product_lists quotient (λ s. cells_at 𝓕 g (suc s) (range (num_copied g.circuit))) t
        ∙ up_to_cong mul one (λ s. Algebra.product 𝓕 (map quotient (cells_at 𝓕 g (suc s) (range (num_copied g.circuit)))))
        (λ s. Algebra.product 𝓕 (map (ratio_at 𝓕 g (row_at g.circuit.k (suc s))) (range (num_copied g.circuit))))
        t
        (λ s l. at_columns (suc s) (range (num_copied g.circuit)) (below_in (num_copied g.circuit))))
        (at_columns (suc t) (concat (take i (z_cut g.circuit))) (parts_in i))
      where
        whole : List Cell
        whole = concat (tabulate (λ s. cells_at 𝓕 g (suc s) (range (num_copied g.circuit))) t)

        rest : List Cell
        rest = cells_at 𝓕 g (suc t) (concat (take i (z_cut g.circuit)))

    pub is_paper_z : IsPaperZ 𝓕 g
    unfolding z_at z_at_place place_of
    is_paper_z =
        record {
          at_place = at_place;
          at_row = λ ad i t l m.
              ap (z_at_place 𝓕 g i) (place_row g.circuit.k (k_positive 𝓕 g ad) (k_below_21 𝓕 g ad) (suc t) m) ∙ at_place i t l m;
          at_row_0 = λ i. refl;
        }
      where
        at_place : (i t : ℕ) → i < num_z g.circuit → suc t < rows_of g.circuit → z_at_place 𝓕 g i (suc t) ≡ paper_z 𝓕 g i t
        at_place i t l m = is_plonk_z 𝓕 g i t l m ∙ sym (paper_is i t)
