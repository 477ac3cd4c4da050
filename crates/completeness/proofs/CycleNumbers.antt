-- What question 11 and equal cells say of the cells' numbers: the premises of the crate identities on cycles.
use mathlib.Core.Path.{◌≡◌, sym, ap, ap₂, ◌∙◌}
use mathlib.Core.Logic.{◌≢◌}
use mathlib.Core.Bool.{true}
use mathlib.Core.List.{List, [], ◌∷◌, map}
use Prim.Native.Nat.{ℕ, ◌<◌}
use native.Mathlib.Omega.{arith}
use lib.ListN.{length, get_or}
use Rattle.field.specs.Algebra.{Field}
use Rattle.bh.proofs.Perm.{Nodup}
use Rattle.lists.specs.Lists.{count_of, All}
use Rattle.lists.proofs.Tests.{false_true}
use Rattle.lists.proofs.All.{all_from, all_weaken, all_mapped, all_both}
use Rattle.lists.proofs.Places.{get_index}
use Rattle.identities.specs.Cycles as Cycles
use Rattle.identities.specs.Copies.{at_cell}
use Rattle.expression.specs.Value.{poly_of}
use Rattle.backend.specs.Circuit.{Circuit, Cell, same_cell, rows_of, num_poly, copied, num_copied}
use Rattle.backend.specs.Questions.{q11}
use Rattle.preprocessor.specs.Permutation.{first_label}
use Rattle.preprocessor.proofs.Cycles.{Other, Distinct, apart_distinct}
use Rattle.preprocessor.proofs.Copied.{Good, cells_good, cells_placed}
use Rattle.prover.specs.Log.{Log}
use Rattle.prover.specs.Columns.{given_polys, copied_at}
use Rattle.hyperplonk_spec.specs.Meaning.{no_cell, cell_value, EqualCells}
use Rattle.completeness.proofs.CellNumbers.{out_all, Placed, number_div, number_mod, number_in, same_true}

module _ (c : Circuit) where
  abbrev number : Cell → ℕ
  number x = first_label c x

  abbrev Fine : List Cell → Cell → Type 0
  Fine = Good (num_poly c) (rows_of c) c.cycles

  module _ (y : q11 c ≡ true) where
    pub cells_below : All (All (λ (x : Cell). x.polynomial < num_poly c)) c.cycles
    cells_below =
        all_weaken (λ C. (0 < length C) × All (Fine C) C) (All (λ (x : Cell). x.polynomial < num_poly c))
        (λ C h. all_weaken (Fine C) (λ x. x.polynomial < num_poly c) (λ x g. g.polynomial_in) C h.1)
        c.cycles
        (cells_good c y)

    -- ---- the cycles of numbers
    once_of : (xs : List Cell) → All (Placed c) xs → Distinct xs → Nodup (map number xs)
    once_of [] a d = tt
    once_of (x ∷ xs) a d = (
      out_all (number x) (map number xs) (all_mapped (λ z. Other x z × Placed c z) (λ n. number x ≢ n) number apart xs (all_both (Other x) (Placed c) xs d.0 a.1)),
      once_of xs a.1 d.1,
    )
      where
        apart : (z : Cell) → Other x z × Placed c z → number x ≢ number z
        apart z h e = false_true (sym h.0 ∙ same_true c x z a.0 h.1 e)

    cells_of_is : (cycle : List Cell) (xs : List Cell) → All (Placed c) xs → All (Fine cycle) xs → All (Cycles.CopiedCell (num_copied c) (rows_of c)) (map number xs)
    cells_of_is cycle [] a f = tt
    cells_of_is cycle (x ∷ xs) a f =
        (record { inside = number_in c x a.0; row = λ e. (let q = f.0.row_pos in let w = number_mod c x a.0 in omega arith) }, cells_of_is cycle xs a.1 f.1)

    cycles_of : (Cs : List (List Cell)) → All (All (Placed c)) Cs → All (λ C. (0 < length C) × All (Fine C) C) Cs
        → Cycles.Cycles (num_copied c) (rows_of c) (map (map number) Cs)
    cycles_of [] a f = tt
    cycles_of (C ∷ Cs) a f = (
      record {
        cells = cells_of_is C C a.0 f.0.1;
        once = once_of C a.0 (apart_distinct C (all_weaken (Fine C) (λ x. count_of (same_cell x) C ≡ 1) (λ x h. h.once) C f.0.1));
      },
      cycles_of Cs a.1 f.1,
    )

    pub cycles_good_is : Cycles.Cycles (num_copied c) (rows_of c) (map (map number) c.cycles)
    cycles_good_is = cycles_of c.cycles (cells_placed c y) (cells_good c y)

-- ---- equal cells
module _ (𝓕 : Field) (g : Log 𝓕) where
  open 𝓕 use {F}

  abbrev val : ℕ → F
  val n = at_cell (rows_of g.circuit) (copied_at 𝓕 g) n

  pub value_at : (x : Cell) → Placed g.circuit x → val (first_label g.circuit x) ≡ cell_value 𝓕 g x
  unfolding copied_at cell_value
  value_at x h =
      ap₂ (copied_at 𝓕 g) (number_div g.circuit x h) (number_mod g.circuit x h)
      ∙ ap (λ (q : ℕ). poly_of 𝓕 (given_polys 𝓕 g) q x.row) (get_index x.polynomial (copied g.circuit) 0 h.column_in)

  equal_rest : (x : Cell) (ys : List Cell) → Placed g.circuit x → All (Placed g.circuit) ys → All (λ y. cell_value 𝓕 g x ≡ cell_value 𝓕 g y) ys
      → All (λ n. val (first_label g.circuit x) ≡ val n) (map (first_label g.circuit) ys)
  equal_rest x [] h a e = tt
  equal_rest x (y ∷ ys) h a e = (value_at x h ∙ e.0 ∙ sym (value_at y a.0), equal_rest x ys h a.1 e.1)

  equal_cycle : (C : List Cell) → All (Placed g.circuit) C → All (λ x. All (λ y. cell_value 𝓕 g x ≡ cell_value 𝓕 g y) C) C
      → Cycles.Equal val (map (first_label g.circuit) C)
  equal_cycle [] a e = tt
  equal_cycle (x ∷ xs) a e = equal_rest x xs a.0 a.1 e.0.1

  equal_cycles : (Cs : List (List Cell)) → All (All (Placed g.circuit)) Cs
      → All (λ C. All (λ x. All (λ y. cell_value 𝓕 g x ≡ cell_value 𝓕 g y) C) C) Cs
      → Cycles.Copied val (map (map (first_label g.circuit)) Cs)
  equal_cycles [] a e = tt
  equal_cycles (C ∷ Cs) a e = (equal_cycle C a.0 e.0, equal_cycles Cs a.1 e.1)

  pub copied_good : q11 g.circuit ≡ true → EqualCells 𝓕 g → Cycles.Copied val (map (map (first_label g.circuit)) g.circuit.cycles)
  copied_good y p =
      equal_cycles g.circuit.cycles (cells_placed g.circuit y)
      (all_from (λ C. All (λ x. All (λ y. cell_value 𝓕 g x ≡ cell_value 𝓕 g y) C) C) g.circuit.cycles []
      (λ j l.
      let C : List Cell = get_or g.circuit.cycles j [] in
      all_from (λ x. All (λ y. cell_value 𝓕 g x ≡ cell_value 𝓕 g y) C) C no_cell
      (λ i m. all_from (λ y. cell_value 𝓕 g (get_or C i no_cell) ≡ cell_value 𝓕 g y) C no_cell (λ n w. p j l i m n w))))
