-- Question 11, cell by cell and cycle by cycle.
use mathlib.Core.Path.{◌≡◌, refl, sym, ap, ap₂, ◌∙◌, subst}
use mathlib.Core.Bool.{Bool, true, false, not, ◌&&◌, and-false}
use mathlib.Core.List.{List}
use Prim.Native.Nat.{ℕ, ◌+◌, ◌-◌, ◌/◌, ◌≤◌, ◌<◌}
use native.Mathlib.Omega.{arith}
use lib.Dec.{leb, ltb}
use lib.ListN.{length, get_or, drop, drop_of_length-le}
use borrow.Author.Tests.{leb-true, le-leb, ltb-true, lt-ltb, not-true, not-false}
use Rattle.lists.specs.Lists.{range, all_of, split, total, within}
use Rattle.lists.proofs.Tests.{and_left, and_right, and_both}
use Rattle.lists.proofs.Walks.{Walked, walk_none, walk_more, walk_done, walk_fails}
use Rattle.lists.proofs.Columns.{tabulate_length}
use Rattle.lists.proofs.Searches.{tabulate_part, total_drop, split_drop}
use Rattle.lists.proofs.Once.{same_tests, once_by_turns}
use Rattle.backend.specs.Circuit.{Cell, cell_at, cells_of, same_cell}
use Rattle.backend.specs.Questions.{good_cell, good_cycle, cycles_good}
use Rattle.backend.proofs.Cells.{same_self, same_sym}
use Rattle.backend.specs.Cycles.{cells_from, fresh, good_at}

-- ---- a cell
rows_in : (r rows : ℕ) → (leb 1 r && ltb r rows) ≡ within 1 (rows - 1) r
rows_in r rows =
    same_tests (leb 1 r && ltb r rows) (within 1 (rows - 1) r)
    (λ e.
    let l = leb-true 1 r (and_left (leb 1 r) (ltb r rows) e) in
    let m = ltb-true r rows (and_right (leb 1 r) (ltb r rows) e) in
    and_both (leb 1 r) (leb r (rows - 1)) (le-leb 1 r l) (le-leb r (rows - 1) (omega arith)))
    (λ e.
    let l = leb-true 1 r (and_left (leb 1 r) (leb r (rows - 1)) e) in
    let m = leb-true r (rows - 1) (and_right (leb 1 r) (leb r (rows - 1)) e) in
    and_both (leb 1 r) (ltb r rows) (le-leb 1 r l) (lt-ltb r rows (omega arith)))

module _ (polys rows : ℕ) (x : Cell) where
  in_bounds : (ltb x.polynomial polys && leb 1 x.row && ltb x.row rows) ≡ (ltb x.polynomial polys && within 1 (rows - 1) x.row)
  in_bounds = regroup (ltb x.polynomial polys) (leb 1 x.row) (ltb x.row rows) ∙ ap (λ (t : Bool). ltb x.polynomial polys && t) (rows_in x.row rows)
    where
      regroup : (a b d : Bool) → (a && b && d) ≡ (a && (b && d))
      regroup true b d = refl
      regroup false b d = refl

  pub good_in : (before : List Cell) (t : Bool) → (ltb x.polynomial polys && leb 1 x.row && ltb x.row rows) ≡ true → t ≡ fresh x before
      → t ≡ good_at polys rows x before
  good_in before t e p = p ∙ ap (λ (s : Bool). s && fresh x before) (sym e ∙ in_bounds)

  pub good_out : (before : List Cell) → (ltb x.polynomial polys && leb 1 x.row && ltb x.row rows) ≡ false → false ≡ good_at polys rows x before
  good_out before e = ap (λ (s : Bool). s && fresh x before) (sym e ∙ in_bounds)

-- ---- a cycle
module _ (polys rows : ℕ) (cells : List ℕ) (start : ℕ) where
  abbrev pub turn : ℕ → Bool
  turn j = good_at polys rows (cell_at cells (start + j)) (cells_from cells start j)

  by_turns : (n : ℕ) → all_of turn (range n) ≡ all_of (good_cell polys rows (cells_from cells start n)) (cells_from cells start n)
  by_turns n =
      once_by_turns same_cell same_self same_sym (λ (x : Cell). ltb x.polynomial polys && within 1 (rows - 1) x.row) (λ i. cell_at cells (start + i)) n

  pub no_cell_is : (n : ℕ) → n ≡ 0 → false ≡ good_cycle polys rows (cells_from cells start n)
  no_cell_is n e =
      ap (λ (m : ℕ). ltb 0 m && all_of (good_cell polys rows (cells_from cells start n)) (cells_from cells start n))
      (sym (tabulate_length (λ i. cell_at cells (start + i)) n ∙ e))

  pub bad_cell : (n : ℕ) → false ≡ all_of turn (range n) → false ≡ good_cycle polys rows (cells_from cells start n)
  bad_cell n e =
      sym (and-false (ltb 0 (length (cells_from cells start n)))) ∙ ap (λ (t : Bool). ltb 0 (length (cells_from cells start n)) && t) (e ∙ by_turns n)

  pub good_cells : (n : ℕ) → (n ≡ 0 → ⊥) → true ≡ all_of turn (range n) → true ≡ good_cycle polys rows (cells_from cells start n)
  good_cells n ne e =
      ap₂ ◌&&◌ (sym (lt-ltb 0 (length (cells_from cells start n)) (let q = tabulate_length (λ i. cell_at cells (start + i)) n in omega arith)))
      (e ∙ by_turns n)

  -- the cells of a cycle of n before cell `count` are good
  pub record Cycled (n count : ℕ) : Type 0 where
    pub from_start : start ≤ count
    pub walked : Walked turn (λ i. i) n (count - start)

  pub cycled_none : (n : ℕ) → Cycled n start
  cycled_none n =
      record {
        from_start = omega arith;
        walked = subst (Walked turn (λ i. i) n) (let e : 0 ≡ start - start = omega arith in e) (walk_none turn (λ i. i) n);
      }

  module _ (n count : ℕ) (v : Cycled n count) where
    this : (t : Bool) → t ≡ good_at polys rows (cell_at cells count) (cells_from cells start (count - start)) → t ≡ turn (count - start)
    this t e =
        e
        ∙ ap (λ (m : ℕ). good_at polys rows (cell_at cells m) (cells_from cells start (count - start)))
        (let l = v.from_start in let q : count ≡ start + (count - start) = omega arith in q)

    module _ (t : Bool) (e : t ≡ good_at polys rows (cell_at cells count) (cells_from cells start (count - start))) (l : count < start + n) where
      pub cycled_more : t ≡ true → Cycled n (count + 1)
      cycled_more f =
          record {
            from_start = (let k = v.from_start in omega arith);
            walked = subst (Walked turn (λ i. i) n) (let k = v.from_start in let q : count - start + 1 ≡ count + 1 - start = omega arith in q)
                (walk_more turn (λ i. i) n (count - start) v.walked (let k = v.from_start in omega arith) (sym (this t e) ∙ f));
          }

      pub cycled_fails : t ≡ false → false ≡ good_cycle polys rows (cells_from cells start n)
      cycled_fails f =
          bad_cell n (walk_fails turn (λ i. i) n (count - start) (let k = v.from_start in omega arith) (sym (this t e) ∙ f))

    pub cycled_all : (n ≡ 0 → ⊥) → start + n ≤ count → true ≡ good_cycle polys rows (cells_from cells start n)
    cycled_all ne l = good_cells n ne (walk_done turn (λ i. i) n (count - start) v.walked (let k = v.from_start in omega arith))

-- ---- the cycles
module _ (polys rows : ℕ) (lengths body : List ℕ) where
  -- the search before cycle i, whose cells are those from `start` on
  pub record Before (start i : ℕ) : Type 0 where
    pub upto : i ≤ length lengths
    pub left : start + total (drop i lengths) ≡ length body / 2
    pub same : cycles_good polys rows (split lengths (cells_of body)) ≡ cycles_good polys rows (split (drop i lengths) (drop start (cells_of body)))

  pub before_first : total lengths ≡ length body / 2 → Before 0 0
  before_first e = record { upto = omega arith; left = omega arith; same = refl }

  module _ (start i : ℕ) (v : Before start i) (l : i < length lengths) where
    next_left : start + (get_or lengths i 0 + total (drop (i + 1) lengths)) ≡ length body / 2
    next_left = ap (λ (m : ℕ). start + m) (sym (total_drop lengths i l)) ∙ v.left

    pub room : start + get_or lengths i 0 ≤ length body / 2
    room = let q = next_left in omega arith

    next : cycles_good polys rows (split lengths (cells_of body))
        ≡ (good_cycle polys rows (cells_from body start (get_or lengths i 0)) && cycles_good polys rows (split (drop (i + 1) lengths) (drop (start + get_or lengths i 0) (cells_of body))))
    unfolding cycles_good all_of
    next =
        v.same ∙ ap (cycles_good polys rows) (split_drop lengths (cells_of body) start i l)
        ∙ ap
        (λ (xs : List Cell).
        good_cycle polys rows xs && cycles_good polys rows (split (drop (i + 1) lengths) (drop (start + get_or lengths i 0) (cells_of body))))
        (tabulate_part (cell_at body) (length body / 2) start (get_or lengths i 0) room)

    pub before_next : (t : Bool) → t ≡ good_cycle polys rows (cells_from body start (get_or lengths i 0)) → not t ≡ false
        → Before (start + get_or lengths i 0) (i + 1)
    before_next t e f =
        record {
          upto = omega arith;
          left = (let q = next_left in omega arith);
          same =
              next
              ∙ ap (λ (s : Bool). s && cycles_good polys rows (split (drop (i + 1) lengths) (drop (start + get_or lengths i 0) (cells_of body))))
              (sym e ∙ not-false t f);
        }

    pub bad_cycle : (t : Bool) → t ≡ good_cycle polys rows (cells_from body start (get_or lengths i 0)) → not t ≡ true
        → false ≡ cycles_good polys rows (split lengths (cells_of body))
    bad_cycle t e f =
        sym
        (next
        ∙ ap (λ (s : Bool). s && cycles_good polys rows (split (drop (i + 1) lengths) (drop (start + get_or lengths i 0) (cells_of body))))
        (sym e ∙ not-true t f))

  pub no_cycle_left : (start i : ℕ) → Before start i → length lengths ≤ i → true ≡ cycles_good polys rows (split lengths (cells_of body))
  unfolding cycles_good split all_of
  no_cycle_left start i v l =
      sym (v.same ∙ ap (λ (ns : List ℕ). cycles_good polys rows (split ns (drop start (cells_of body)))) (drop_of_length-le lengths {i = i} l))
