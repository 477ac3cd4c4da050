-- The words of the columns: the word of a cell, one cell's label changed, the first labels, labels exchanged along places, and how large
-- a label is.
use mathlib.Core.Path.{◌≡◌, refl, sym, ap, ap₂, ◌∙◌}
use mathlib.Core.Bool.{Bool, cond, ◌&&◌}
use mathlib.Core.List.{List, [], ◌∷◌, ◌++◌, map, append-nil}
use Prim.Native.Nat.{ℕ, zero, suc, ◌+◌, ◌-◌, ◌*◌, ◌/◌, ◌%◌, ◌≤◌, ◌<◌}
use native.Mathlib.Nat.{not-suc-le-zero, zero-mul, one-mul, mul-zero, div-add-mod', div-lt_iff_lt-mul}
use native.Mathlib.Decide.{ℕ_discrete}
use native.Mathlib.Omega.{arith}
use lib.ListN.{length, get_or, drop, set, drop_of_length-le, length-map}
use lib.Seq.{drop-cons}
use lib.Dec.{eqb}
use borrow.Author.Tests.{eq-eqb, ne_eqb}
use Rattle.lists.specs.Lists.{tabulate, range, concat, index_of, write_at, All}
use Rattle.lists.proofs.Tests.{false_true, by_test}
use Rattle.lists.proofs.Columns.{tabulate_length, tabulate_cong, tabulate_of, columns_length, get_columns}
use Rattle.lists.proofs.Over.{write_at_inside, write_at_front, length_write_at}
use Rattle.lists.proofs.Parts.{div_row, mod_row, columns_flat}
use Rattle.lists.proofs.Sets.{write_at_set, set_tabulate}
use Rattle.lists.proofs.Turns.{grid_lt}
use Rattle.lists.proofs.Places.{get_index}
use Rattle.backend.specs.Circuit.{Cell, same_cell}
use Rattle.backend.proofs.Cells.{same_cell_is, same_self}
use Rattle.preprocessor.specs.Permutation.{last_cell, before, source, first_label_in, cell_in, label_in, label_columns, CellPlaced, Once, Starts, cell_word, CycleIn, Moved, in_one, moved_words, Walked}
use Rattle.preprocessor.proofs.Cycles.{Other, Distinct, last_all, source_all, apart_distinct, taken, passed, passed_cycle}

-- ---- labels exchanged: the first place takes v, each after it what the place before it held
unfoldable pub exchanged : List ℕ → ℕ → List ℕ → List ℕ
exchanged d v [] = d
exchanged d v (q ∷ qs) = exchanged (set d q v) (get_or d q 0) qs

module _ (ps : List ℕ) (rows : ℕ) where
  -- the same labels, the same words
  pub labels_same : (l m : Cell → ℕ) → ((x : Cell) → l x ≡ m x) → label_columns ps rows l ≡ label_columns ps rows m
  unfolding label_columns
  labels_same l m h =
      ap concat (tabulate_cong (λ i. tabulate (λ b. l (cell_in ps i b)) rows) (λ i. tabulate (λ b. m (cell_in ps i b)) rows) (length ps)
      (λ i w. tabulate_cong (λ b. l (cell_in ps i b)) (λ b. m (cell_in ps i b)) rows (λ b u. h (cell_in ps i b))))

  pub labels_length : (l : Cell → ℕ) → length (label_columns ps rows l) ≡ length ps * rows
  unfolding label_columns
  labels_length l = columns_length rows (λ i b. l (cell_in ps i b)) (length ps)

  labels_flat : (l : Cell → ℕ) → label_columns ps rows l ≡ tabulate (λ j. l (cell_in ps (j / rows) (j % rows))) (length ps * rows)
  unfolding label_columns
  labels_flat l = columns_flat rows (λ i b. l (cell_in ps i b)) (length ps)

  -- ---- cells and places
  pub placed_lt : (x : Cell) → CellPlaced ps rows x → first_label_in ps rows x < length ps * rows
  placed_lt x h = grid_lt (length ps) rows (index_of x.polynomial ps) x.row h.column_in h.row_in

  -- the cell at its column and row
  cell_at : (x : Cell) → CellPlaced ps rows x → cell_in ps (index_of x.polynomial ps) x.row ≡ x
  cell_at x h = ap (λ (q : ℕ). record { polynomial = q; row = x.row }) (get_index x.polynomial ps 0 h.column_in)

  pub label_of : (l : Cell → ℕ) (x : Cell) → CellPlaced ps rows x → get_or (label_columns ps rows l) (first_label_in ps rows x) 0 ≡ l x
  unfolding label_columns
  label_of l x h =
      get_columns rows (λ i b. l (cell_in ps i b)) (length ps) (index_of x.polynomial ps) x.row 0 h.column_in h.row_in
      ∙ ap l (cell_at x h)

  -- the column of a place
  place_column : (j : ℕ) → j < length ps * rows → j / rows < length ps
  place_column j l = (div-lt_iff_lt-mul {k = rows} {x = j} {y = length ps} (pos rows l)).1 l
    where
      pos : (r : ℕ) → j < length ps * r → 0 < r
      pos zero w = let e = mul-zero (length ps) in omega arith
      pos (suc r) w = omega arith

  module _ (once : Once ps) where
    pub cell_number : (i b : ℕ) → i < length ps → first_label_in ps rows (cell_in ps i b) ≡ i * rows + b
    cell_number i b l = ap (λ (j : ℕ). j * rows + b) (once i l)

    pub cell_placed : (i b : ℕ) → i < length ps → b < rows → CellPlaced ps rows (cell_in ps i b)
    cell_placed i b l m = record { column_in = (let e = once i l in omega arith); row_in = m }

    -- a label is the place of a cell
    pub label_lt : (cycles : List (List Cell)) → All (All (CellPlaced ps rows)) cycles → (i b : ℕ) → i < length ps → b < rows
        → label_in ps rows cycles i b < length ps * rows
    label_lt cycles a i b l m =
        placed_lt (source cycles (cell_in ps i b)) (source_all (CellPlaced ps rows) cycles (cell_in ps i b) a (cell_placed i b l m))

    -- the place is a cell's exactly where the cell is the same
    place_same : (y : Cell) → CellPlaced ps rows y → (j : ℕ) → j < length ps * rows
        → eqb j (first_label_in ps rows y) ≡ same_cell (cell_in ps (j / rows) (j % rows)) y
    place_same y h j l = go (ℕ_discrete j (first_label_in ps rows y))
      where
        go : Dec (j ≡ first_label_in ps rows y) → eqb j (first_label_in ps rows y) ≡ same_cell (cell_in ps (j / rows) (j % rows)) y
        go (yes e) =
            eq-eqb j (first_label_in ps rows y) e
            ∙ sym (ap₂ ◌&&◌ (eq-eqb (get_or ps (j / rows) 0) y.polynomial column_same) (eq-eqb (j % rows) y.row row_same))
          where
            column_same : get_or ps (j / rows) 0 ≡ y.polynomial
            column_same =
                ap (λ (n : ℕ). get_or ps (n / rows) 0) e
                ∙ ap (λ (i : ℕ). get_or ps i 0) (div_row (index_of y.polynomial ps) rows y.row h.row_in)
                ∙ get_index y.polynomial ps 0 h.column_in

            row_same : j % rows ≡ y.row
            row_same = ap (λ (n : ℕ). n % rows) e ∙ mod_row (index_of y.polynomial ps) rows y.row h.row_in
        go (no n) =
            ne_eqb j (first_label_in ps rows y) n
            ∙ sym (by_test (same_cell (cell_in ps (j / rows) (j % rows)) y) (λ t. absurd (n (number (same_cell_is (cell_in ps (j / rows) (j % rows)) y t)))) (λ t. t))
          where
            number : cell_in ps (j / rows) (j % rows) ≡ y → j ≡ first_label_in ps rows y
            number e =
                sym (div-add-mod' j rows)
                ∙ sym (cell_number (j / rows) (j % rows) (place_column j l))
                ∙ ap (first_label_in ps rows) e

    -- one cell's label changed
    pub label_set : (l : Cell → ℕ) (y : Cell) (v : ℕ) → CellPlaced ps rows y
        → set (label_columns ps rows l) (first_label_in ps rows y) v ≡ label_columns ps rows (taken l y v)
    label_set l y v h =
        ap (λ (s : List ℕ). set s (first_label_in ps rows y) v) (labels_flat l)
        ∙ set_tabulate (λ j. l (cell_in ps (j / rows) (j % rows))) (length ps * rows) (first_label_in ps rows y) v (placed_lt y h)
        ∙ tabulate_cong (λ j. cond (eqb j (first_label_in ps rows y)) v (l (cell_in ps (j / rows) (j % rows))))
        (λ j. taken l y v (cell_in ps (j / rows) (j % rows)))
        (length ps * rows)
        (λ j m. ap (λ (t : Bool). cond t v (l (cell_in ps (j / rows) (j % rows)))) (place_same y h j m))
        ∙ sym (labels_flat (taken l y v))

    -- "column idx of the sorted list starts as idx × 2^k + row": the words are 0, 1, 2, …
    pub first_labels : range (length ps * rows) ≡ label_columns ps rows (first_label_in ps rows)
    first_labels =
        tabulate_cong (λ j. j) (λ j. first_label_in ps rows (cell_in ps (j / rows) (j % rows))) (length ps * rows)
        (λ j l. sym (div-add-mod' j rows) ∙ sym (cell_number (j / rows) (j % rows) (place_column j l)))
        ∙ sym (labels_flat (first_label_in ps rows))

    -- ---- the columns as a run of a buffer
    module _ (d : List ℕ) (at : ℕ) (room : at + length ps * rows ≤ length d) where
      abbrev run : (Cell → ℕ) → List ℕ
      run l = write_at d at (label_columns ps rows l)

      pub run_length : (l : Cell → ℕ) → length (run l) ≡ length d
      run_length l = length_write_at d at (label_columns ps rows l) (let e = labels_length l in omega arith)

      run_get : (l : Cell → ℕ) (x : Cell) → CellPlaced ps rows x → get_or (run l) (at + first_label_in ps rows x) 0 ≡ l x
      run_get l x h =
          write_at_inside d at (label_columns ps rows l) (first_label_in ps rows x) 0 (omega arith)
          (let e = labels_length l in let w = placed_lt x h in omega arith)
          ∙ label_of l x h

      run_set : (l : Cell → ℕ) (y : Cell) (v : ℕ) → CellPlaced ps rows y → set (run l) (at + first_label_in ps rows y) v ≡ run (taken l y v)
      run_set l y v h =
          write_at_set d at (label_columns ps rows l) (first_label_in ps rows y) v (let e = labels_length l in omega arith)
          (let e = labels_length l in let w = placed_lt y h in omega arith)
          ∙ ap (write_at d at) (label_set l y v h)

      -- labels exchanged along the places of cells are passed on along the cells
      run_exchanged : (word : Cell → ℕ) → ((x : Cell) → CellPlaced ps rows x → word x ≡ at + first_label_in ps rows x)
          → (l : Cell → ℕ) (v : ℕ) (ys : List Cell) → All (CellPlaced ps rows) ys
          → exchanged (run l) v (map word ys) ≡ run (passed l v ys)
      unfolding exchanged passed
      run_exchanged word e l v [] a = refl
      run_exchanged word e l v (y ∷ ys) a =
          ap₂ (λ (s : List ℕ) (u : ℕ). exchanged s u (map word ys))
          (ap (λ (j : ℕ). set (run l) j v) (e y a.0) ∙ run_set l y v a.0)
          (ap (λ (j : ℕ). get_or (run l) j 0) (e y a.0) ∙ run_get l y a.0)
          ∙ run_exchanged word e (taken l y v) (l y) ys a.1

-- the place of the last cell
last_word : (word : Cell → ℕ) (y : Cell) (ys : List Cell) → get_or (map word (y ∷ ys)) (length ys) 0 ≡ word (last_cell y ys)
unfolding last_cell
last_word word y [] = refl
last_word word y (z ∷ ys) = last_word word z ys

-- one turn of the walk
pub exchanged_next : (d : List ℕ) (v : ℕ) (qs : List ℕ) (i : ℕ) → i < length qs
    → exchanged d v (drop i qs) ≡ exchanged (set d (get_or qs i 0) v) (get_or d (get_or qs i 0) 0) (drop (suc i) qs)
unfolding exchanged
exchanged_next d v qs i l = ap (exchanged d v) (drop-cons qs i 0 l)

pub exchanged_none : (d : List ℕ) (v : ℕ) (qs : List ℕ) (i : ℕ) → length qs ≤ i → exchanged d v (drop i qs) ≡ d
unfolding exchanged
exchanged_none d v qs i l = ap (exchanged d v) (drop_of_length-le qs l)

-- a whole walk, by its labels
walked : (starts : List ℕ) (cycle : List Cell) (old new : List ℕ) → 0 < length cycle
    → new ≡ exchanged old (get_or old (get_or (map (cell_word starts) cycle) (length cycle - 1) 0) 0) (map (cell_word starts) cycle)
    → Moved starts cycle old new
walked starts [] old new p e ps rows at d l once placed apart words room start = absurd (not-suc-le-zero p)
walked starts (y ∷ ys) old new p e ps rows at d l once placed apart words room start =
    e
    ∙ ap₂ (λ (s : List ℕ) (v : ℕ). exchanged s v (map (cell_word starts) (y ∷ ys))) start held
    ∙ run_exchanged ps rows once d at room (cell_word starts) place l (l (last_cell y ys)) (y ∷ ys) placed
    ∙ ap (write_at d at)
    (labels_same ps rows (passed l (l (last_cell y ys)) (y ∷ ys)) (λ x. l (before (y ∷ ys) x))
    (λ x. passed_cycle l y ys x (apart_distinct (y ∷ ys) apart)))
  where
    place : (x : Cell) → CellPlaced ps rows x → cell_word starts x ≡ at + first_label_in ps rows x
    place x h = let q = words x.polynomial h.column_in in omega arith

    last_placed : CellPlaced ps rows (last_cell y ys)
    last_placed = last_all (CellPlaced ps rows) y ys placed

    held : get_or old (get_or (map (cell_word starts) (y ∷ ys)) (length (y ∷ ys) - 1) 0) 0 ≡ l (last_cell y ys)
    held =
        let z : Cell = last_cell y ys in
        let i : length (y ∷ ys) - 1 ≡ length ys = omega arith in
        ap₂ (λ (s : List ℕ) (n : ℕ). get_or s (get_or (map (cell_word starts) (y ∷ ys)) n 0) 0) start i
        ∙ ap (λ (n : ℕ). get_or (write_at d at (label_columns ps rows l)) n 0) (last_word (cell_word starts) y ys ∙ place z last_placed)
        ∙ run_get ps rows once d at room l z last_placed

-- ---- every word after a walk

-- words as the rows of one column
module _ (old : List ℕ) where
  one_column : (m : Cell → ℕ) → label_columns (0 ∷ []) (length old) m ≡ tabulate (λ j. m (in_one j)) (length old)
  unfolding label_columns tabulate concat
  one_column m = append-nil (tabulate (λ j. m (in_one j)) (length old))

  all_over : (f : ℕ → ℕ) → write_at old 0 (tabulate f (length old)) ≡ tabulate f (length old)
  all_over f =
      let e = tabulate_length f (length old) in
      write_at_front old (tabulate f (length old))
      ∙ ap (λ (s : List ℕ). tabulate f (length old) ++ s) (drop_of_length-le old {i = length (tabulate f (length old))} (omega arith))
      ∙ append-nil (tabulate f (length old))

  one_over : (m : Cell → ℕ) → write_at old 0 (label_columns (0 ∷ []) (length old) m) ≡ tabulate (λ j. m (in_one j)) (length old)
  one_over m = ap (write_at old 0) (one_column m) ∙ all_over (λ j. m (in_one j))

  held_at : Cell → ℕ
  held_at x = get_or old x.row 0

  as_held : write_at old 0 (label_columns (0 ∷ []) (length old) held_at) ≡ old
  unfolding held_at
  as_held = one_over held_at ∙ tabulate_of old 0

rows_back : (ws : List ℕ) → map (λ (x : Cell). x.row) (map in_one ws) ≡ ws
rows_back [] = refl
rows_back (w ∷ ws) = ap (λ (s : List ℕ). w ∷ s) (rows_back ws)

one_place : (n : ℕ) (x : Cell) → CellPlaced (0 ∷ []) n x → x.row ≡ 0 + first_label_in (0 ∷ []) n x
one_place n x h =
    let q : index_of x.polynomial (0 ∷ []) ≡ 0 = (let c = h.column_in in omega arith) in
    let e : index_of x.polynomial (0 ∷ []) * n ≡ 0 = ap (λ (i : ℕ). i * n) q ∙ zero-mul n in
    omega arith

-- the words of a cycle, none twice, after labels are exchanged along them
words_walked : (ws old new : List ℕ) → 0 < length ws → All (λ w. w < length old) ws → Distinct (map in_one ws)
    → new ≡ exchanged old (get_or old (get_or ws (length ws - 1) 0) 0) ws
    → new ≡ moved_words ws old
unfolding moved_words index_of held_at
words_walked [] old new p a t e = absurd (not-suc-le-zero p)
words_walked (w ∷ ws) old new p a t e =
    e
    ∙ ap₂ (λ (s : List ℕ) (v : ℕ). exchanged s v (w ∷ ws)) (sym (as_held old)) held
    ∙ ap (exchanged run (held_at old z)) (sym (rows_back (w ∷ ws)))
    ∙ run_exchanged (0 ∷ []) (length old) once old 0 (omega (arith, one-mul (length old))) (λ (x : Cell). x.row) place (held_at old) (held_at old z) (map in_one (w ∷ ws)) (placed (w ∷ ws) a)
    ∙ ap (write_at old 0)
    (labels_same (0 ∷ []) (length old) (passed (held_at old) (held_at old z) (map in_one (w ∷ ws))) (λ x. held_at old (before (map in_one (w ∷ ws)) x))
    (λ x. passed_cycle (held_at old) (in_one w) (map in_one ws) x t))
    ∙ one_over old (λ x. held_at old (before (map in_one (w ∷ ws)) x))
  where
    z : Cell
    z = last_cell (in_one w) (map in_one ws)

    run : List ℕ
    run = write_at old 0 (label_columns (0 ∷ []) (length old) (held_at old))

    once : Once (0 ∷ [])
    once zero l = refl
    once (suc i) l = absurd (omega arith)

    place : (x : Cell) → CellPlaced (0 ∷ []) (length old) x → x.row ≡ 0 + first_label_in (0 ∷ []) (length old) x
    place x h = one_place (length old) x h

    placed : (us : List ℕ) → All (λ u. u < length old) us → All (CellPlaced (0 ∷ []) (length old)) (map in_one us)
    placed [] b = tt
    placed (u ∷ us) b = (record { column_in = omega arith; row_in = b.0 }, placed us b.1)

    held : get_or old (get_or (w ∷ ws) (length (w ∷ ws) - 1) 0) 0 ≡ held_at old z
    held =
        let i : length (w ∷ ws) - 1 ≡ length ws = omega arith in
        ap (λ (n : ℕ). get_or old (get_or (w ∷ ws) n 0) 0) (i ∙ sym (length-map ws in_one))
        ∙ ap (λ (s : List ℕ). get_or old (get_or s (length (map in_one ws)) 0) 0) (sym (rows_back (w ∷ ws)))
        ∙ ap (λ (n : ℕ). get_or old n 0) (last_word (λ (x : Cell). x.row) (in_one w) (map in_one ws))

-- ---- different cells have different words
module _ (starts : List ℕ) (ps : List ℕ) (rows at : ℕ) (words : Starts starts ps rows at) where
  cell_of : (x : Cell) → CellPlaced ps rows x → cell_in ps (first_label_in ps rows x / rows) (first_label_in ps rows x % rows) ≡ x
  cell_of x h =
      ap₂ (cell_in ps) (div_row (index_of x.polynomial ps) rows x.row h.row_in) (mod_row (index_of x.polynomial ps) rows x.row h.row_in)
      ∙ cell_at ps rows x h

  same_word : (x y : Cell) → CellPlaced ps rows x → CellPlaced ps rows y → cell_word starts x ≡ cell_word starts y → x ≡ y
  same_word x y h g e =
      let p = words x.polynomial h.column_in in
      let q = words y.polynomial g.column_in in
      let n : first_label_in ps rows x ≡ first_label_in ps rows y = omega arith in
      sym (cell_of x h) ∙ ap (λ (j : ℕ). cell_in ps (j / rows) (j % rows)) n ∙ cell_of y g

  other_word : (x y : Cell) → CellPlaced ps rows x → CellPlaced ps rows y → Other x y → Other (in_one (cell_word starts x)) (in_one (cell_word starts y))
  other_word x y h g o =
      ne_eqb (cell_word starts x) (cell_word starts y)
      (λ e. false_true (sym o ∙ ap (same_cell x) (sym (same_word x y h g e)) ∙ same_self x))

  others : (x : Cell) → CellPlaced ps rows x → (ys : List Cell) → All (CellPlaced ps rows) ys → All (Other x) ys
      → All (Other (in_one (cell_word starts x))) (map in_one (map (cell_word starts) ys))
  others x h [] a o = tt
  others x h (y ∷ ys) a o = (other_word x y h a.0 o.0, others x h ys a.1 o.1)

  distinct_words : (ys : List Cell) → All (CellPlaced ps rows) ys → Distinct ys → Distinct (map in_one (map (cell_word starts) ys))
  distinct_words [] a t = tt
  distinct_words (y ∷ ys) a t = (others y a.0 ys a.1 t.0, distinct_words ys a.1 t.1)

-- a whole walk, by its labels and by its words
pub all_walked : (starts : List ℕ) (cycle : List Cell) (old new : List ℕ) → 0 < length cycle → CycleIn starts cycle (length old)
    → All (λ (x : Cell). (x.polynomial < 72) × (cell_word starts x < length old)) cycle
    → new ≡ exchanged old (get_or old (get_or (map (cell_word starts) cycle) (length cycle - 1) 0) 0) (map (cell_word starts) cycle)
    → Walked starts cycle old new
all_walked starts cycle old new p c a e = (
  walked starts cycle old new p e,
  words_walked (map (cell_word starts) cycle) old new (omega (arith, n)) (low cycle a)
      (distinct_words starts c.list c.rows c.at c.begun cycle c.placed (apart_distinct cycle c.apart))
      (e ∙ ap (λ (m : ℕ). exchanged old (get_or old (get_or (map (cell_word starts) cycle) (m - 1) 0) 0) (map (cell_word starts) cycle)) (sym n)),
)
  where
    n : length (map (cell_word starts) cycle) ≡ length cycle
    n = length-map cycle (cell_word starts)

    low : (ys : List Cell) → All (λ (x : Cell). (x.polynomial < 72) × (cell_word starts x < length old)) ys
        → All (λ w. w < length old) (map (cell_word starts) ys)
    low [] b = tt
    low (y ∷ ys) b = (b.0.1, low ys b.1)
