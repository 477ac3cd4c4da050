-- A circuit's cycles can be walked: what question 11 tells of its copied columns and cells. Its labels, and how large they are.
use mathlib.Core.Path.{◌≡◌, refl, ap, ◌∙◌}
use mathlib.Core.Bool.{Bool, true, ◌&&◌}
use mathlib.Core.List.{List, []}
use Prim.Native.Nat.{ℕ, ◌*◌, ◌-◌, ◌/◌, ◌≤◌, ◌<◌}
use native.Mathlib.Nat.{mul-div_cancel}
use native.Mathlib.Omega.{arith}
use lib.ListN.{length, get_or}
use lib.Dec.{eqb, ltb, leb}
use borrow.Author.Tests.{eq-eqb, eqb-true, ltb-true, leb-true}
use Rattle.lists.specs.Lists.{tabulate, range, all_of, any_of, filter, count_of, concat, within, All}
use Rattle.lists.proofs.Tests.{and_left, and_right, all_true, any_at, any_concat}
use Rattle.lists.proofs.All.{all_get, all_from, all_filter, all_tabulate, all_weaken}
use Rattle.lists.proofs.Places.{Among, among_below, among_filter}
use Rattle.lists.proofs.Rising.{rising_below, rising_filter, rising_index}
use Rattle.backend.specs.Circuit.{Circuit, Cell, cell_at, cells_of, same_cell, rows_of, num_poly, copied, copied_in, num_copied}
use Rattle.backend.specs.Questions.{q11, cycles_good}
use Rattle.preprocessor.specs.Permutation.{first_label, label, label_columns, permutation_columns, CellPlaced, Once, Apart, Walkable}
use Rattle.preprocessor.proofs.Labels as Labels

module _ (polys rows : ℕ) (cycles : List (List Cell)) where
  -- "The copied columns are the polynomials that cells name"
  abbrev named : ℕ → Bool
  named q = any_of (λ (x : Cell). eqb x.polynomial q) (concat cycles)

  abbrev ps : List ℕ
  ps = filter named (range polys)

  pub each_once : Once ps
  each_once i l = rising_index ps i (rising_filter named (range polys) (rising_below polys)) l

  -- question 11
  abbrev good : List Cell → Cell → Bool
  good cycle x = ltb x.polynomial polys && within 1 (rows - 1) x.row && eqb (count_of (same_cell x) cycle) 1

  pub record Good (cycle : List Cell) (x : Cell) : Type 0 where
    pub polynomial_in : x.polynomial < polys
    pub row_pos : 1 ≤ x.row
    pub row_in : x.row < rows
    pub once : count_of (same_cell x) cycle ≡ 1

  good_cell_is : (cycle : List Cell) (x : Cell) → good cycle x ≡ true → Good cycle x
  good_cell_is cycle x e =
      let t1 : Bool = ltb x.polynomial polys in
      let t2 : Bool = leb 1 x.row in
      let t3 : Bool = leb x.row (rows - 1) in
      let t4 : Bool = eqb (count_of (same_cell x) cycle) 1 in
      let a = and_left (t1 && (t2 && t3)) t4 e in
      let b = and_right t1 (t2 && t3) a in
      let p = leb-true 1 x.row (and_left t2 t3 b) in
      let q = leb-true x.row (rows - 1) (and_right t2 t3 b) in
      record {
        polynomial_in = ltb-true x.polynomial polys (and_left t1 (t2 && t3) a);
        row_pos = p;
        row_in = omega arith;
        once = eqb-true (count_of (same_cell x) cycle) 1 (and_right (t1 && (t2 && t3)) t4 e);
      }

  good_cycle_is : (cycle : List Cell) → (ltb 0 (length cycle) && all_of (good cycle) cycle) ≡ true → (0 < length cycle) × All (Good cycle) cycle
  good_cycle_is cycle e =
      let t : Bool = ltb 0 (length cycle) in
      let u : Bool = all_of (good cycle) cycle in
      (ltb-true 0 (length cycle) (and_left t u e), all_weaken (λ x. good cycle x ≡ true) (Good cycle) (good_cell_is cycle) cycle (all_true (good cycle) cycle (and_right t u e)))

  module _ (e : all_of (λ cycle. ltb 0 (length cycle) && all_of (good cycle) cycle) cycles ≡ true) where
    pub all_good : All (λ cycle. (0 < length cycle) × All (Good cycle) cycle) cycles
    all_good =
        all_weaken (λ cycle. (ltb 0 (length cycle) && all_of (good cycle) cycle) ≡ true) (λ cycle. (0 < length cycle) × All (Good cycle) cycle) good_cycle_is cycles
        (all_true (λ cycle. ltb 0 (length cycle) && all_of (good cycle) cycle) cycles e)

    nowhere : Cell
    nowhere = record { polynomial = 0; row = 0 }

    good_at_is : (j : ℕ) → j < length cycles → (i : ℕ) → i < length (get_or cycles j []) → Good (get_or cycles j []) (get_or (get_or cycles j []) i nowhere)
    good_at_is j l i m =
        let cycle : List Cell = get_or cycles j [] in
        all_get (Good cycle) cycle (all_get (λ cycle. (0 < length cycle) × All (Good cycle) cycle) cycles all_good j [] l).1 i nowhere m

    among : (j : ℕ) → j < length cycles → (i : ℕ) → i < length (get_or cycles j []) → Among (get_or (get_or cycles j []) i nowhere).polynomial ps
    among j l i m =
        let q : ℕ = (get_or (get_or cycles j []) i nowhere).polynomial in
        among_filter named q (range polys)
        (any_concat (λ (z : Cell). eqb z.polynomial q) cycles j l
        (any_at (λ (z : Cell). eqb z.polynomial q) nowhere (get_or cycles j []) i m (eq-eqb q q refl)))
        (among_below polys q (good_at_is j l i m).polynomial_in)

    pub all_placed : All (All (CellPlaced ps rows)) cycles
    all_placed =
        all_from (All (CellPlaced ps rows)) cycles []
        (λ j l.
        all_from (CellPlaced ps rows) (get_or cycles j []) nowhere (λ i m. record { column_in = among j l i m; row_in = (good_at_is j l i m).row_in }))

    pub good_walkable : polys ≤ 72 → Walkable ps rows cycles
    good_walkable h =
        record {
          once = each_once;
          few = all_filter (λ q. q < 72) named (range polys) (all_tabulate (λ q. q < 72) (λ i. i) polys (λ i l. omega arith));
          placed = all_placed;
          some = all_weaken (λ cycle. (0 < length cycle) × All (Good cycle) cycle) (λ cycle. 0 < length cycle) (λ cycle g. g.0) cycles all_good;
          apart =
              all_weaken (λ cycle. (0 < length cycle) × All (Good cycle) cycle) Apart
              (λ cycle g. all_weaken (Good cycle) (λ x. count_of (same_cell x) cycle ≡ 1) (λ x h. h.once) cycle g.1)
              cycles
              all_good;
        }

pub copied_once : (c : Circuit) → Once (copied c)
unfolding copied_in copied
copied_once c = each_once (num_poly c) (rows_of c) c.cycles

-- what question 11 tells of each cell
module _ (c : Circuit) (yes-11 : q11 c ≡ true) where
  pub cells_good : All (λ cycle. (0 < length cycle) × All (Good (num_poly c) (rows_of c) c.cycles cycle) cycle) c.cycles
  unfolding q11 cycles_good
  cells_good = all_good (num_poly c) (rows_of c) c.cycles yes-11

  pub cells_placed : All (All (CellPlaced (copied c) (rows_of c))) c.cycles
  unfolding q11 cycles_good copied_in copied
  cells_placed = all_placed (num_poly c) (rows_of c) c.cycles yes-11

module _ (c : Circuit) (yes-11 : q11 c ≡ true) (few : num_poly c ≤ 72) where
  pub walkable : Walkable (copied c) (rows_of c) c.cycles
  unfolding q11 cycles_good copied_in copied
  walkable = good_walkable (num_poly c) (rows_of c) c.cycles yes-11 few

  -- so that a label, taken as an element, is itself
  pub label_lt : (i b : ℕ) → i < num_copied c → b < rows_of c → label c i b < num_copied c * rows_of c
  unfolding label first_label
  label_lt i b l m = Labels.label_lt (copied c) (rows_of c) walkable.once c.cycles walkable.placed i b l m

-- the words are the labels of the columns
pub label_columns_is : (c : Circuit)
    → permutation_columns (copied c) (rows_of c) c.cycles ≡ concat (tabulate (λ i. tabulate (label c i) (rows_of c)) (num_copied c))
unfolding label_columns label first_label
label_columns_is c = refl

-- the cells of a body, by their number
pub cells_of_is : (body : List ℕ) (n : ℕ) → length body ≡ n * 2 → tabulate (cell_at body) n ≡ cells_of body
cells_of_is body n e = ap (tabulate (cell_at body)) (go (ap (λ (m : ℕ). m / 2) e ∙ mul-div_cancel n {n = 2} (omega arith)))
  where
    go : length body / 2 ≡ n → n ≡ length body / 2
    go h = omega arith
