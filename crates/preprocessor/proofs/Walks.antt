-- What holds before each turn of the loops of `permutation_polys`.
use mathlib.Core.Path.{◌≡◌, refl, sym, ap, ap₂, ◌∙◌, subst}
use mathlib.Core.List.{List, [], map}
use Prim.Native.Nat.{ℕ, suc, ◌+◌, ◌-◌, ◌*◌, ◌/◌, ◌≤◌, ◌<◌}
use native.Mathlib.Nat.{not-suc-le-zero, suc-mul, mul-le-mul_right, div-mul-le_self, mul-div_cancel}
use native.Mathlib.Numerals.{add-one}
use native.Mathlib.Decide.{ℕ_discrete}
use native.Mathlib.Omega.{arith}
use lib.ListN.{length, get_or, take, drop, set, length-set, length-map, length-drop}
use lib.Seq.{get_or-set_same, get_or-set_other, get_or-take, get_or-drop, length-take-le, take_all, take-suc}
use Rattle.lists.specs.Lists.{tabulate, range, index_of, write_at, split, total, All}
use Rattle.lists.proofs.All.{all_get, all_weaken}
use Rattle.lists.proofs.Lists.{get_map, split_length}
use Rattle.lists.proofs.Columns.{tabulate_length, tabulate_cong, get_tabulate, below_length}
use Rattle.lists.proofs.Over.{length_write_at, write_at_none, write_at_tabulate, write_at_again}
use Rattle.lists.proofs.Parts.{total_next, total_within, get_split}
use Rattle.lists.proofs.Searches.{tabulate_part}
use Rattle.lists.proofs.Places.{get_index}
use Rattle.backend.specs.Circuit.{Cell, cell_at, cells_of}
use Rattle.preprocessor.specs.Permutation.{source, before, first_label_in, label_columns, permutation_columns, CellPlaced, Once, Apart, Walkable, Starts, cell_word, CycleIn, Walked}
use Rattle.preprocessor.proofs.Cycles.{source_end}
use Rattle.preprocessor.proofs.Labels.{labels_same, labels_length, placed_lt, first_labels, run_length, exchanged, exchanged_next, exchanged_none, all_walked}

-- ---- the first labels
pub record First (d : List ℕ) (at count : ℕ) (columns : List ℕ) (j : ℕ) : Type 0 where
  pub low : j ≤ count
  pub long : length columns ≡ length d
  pub words : columns ≡ write_at d at (range j)

module _ (d : List ℕ) (at count : ℕ) where
  pub first_start : First d at count d 0
  unfolding tabulate
  first_start = record { low = omega arith; long = refl; words = sym (write_at_none d at) }

  pub first_next : (columns : List ℕ) (j : ℕ) → at + count ≤ length d → First d at count columns j → j < count
      → First d at count (set columns (at + j) j) (j + 1)
  first_next columns j h w l =
      record {
        low = omega arith;
        long = length-set columns (at + j) j ∙ w.long;
        words =
            ap (λ (s : List ℕ). set s (at + j) j) w.words ∙ write_at_tabulate d at (λ i. i) j (omega arith)
            ∙ ap (λ (n : ℕ). write_at d at (range n)) (sym (add-one j));
      }

  pub first_end : (columns : List ℕ) (j : ℕ) → First d at count columns j → count ≤ j → columns ≡ write_at d at (range count)
  first_end columns j w l =
      let e : j ≡ count = let q = w.low in omega arith in
      w.words ∙ ap (λ (n : ℕ). write_at d at (range n)) e

pub first_room : (d₀ d : List ℕ) (at count : ℕ) → at + count ≤ length d₀ → d ≡ write_at d₀ at (range count) → at + count ≤ length d
first_room d₀ d at count h e =
    let n = below_length count in
    let q : length d ≡ length d₀ = ap length e ∙ length_write_at d₀ at (range count) (omega arith) in
    omega arith

-- ---- where the columns begin
pub record Begun (ps : List ℕ) (rows at : ℕ) (starts : List ℕ) (i : ℕ) : Type 0 where
  pub low : i ≤ length ps
  pub long : length starts ≡ 72
  pub words : (j : ℕ) → j < i → get_or starts (get_or ps j 0) 0 ≡ at + j * rows

module _ (ps : List ℕ) (rows at : ℕ) where
  pub begun_start : (starts : List ℕ) → length starts ≡ 72 → Begun ps rows at starts 0
  begun_start starts e = record { low = omega arith; long = e; words = λ j l. absurd (not-suc-le-zero l) }

  pub begun_next : (starts : List ℕ) (i : ℕ) → Once ps → All (λ q. q < 72) ps → Begun ps rows at starts i → i < length ps
      → Begun ps rows at (set starts (get_or ps i 0) (at + i * rows)) (i + 1)
  begun_next starts i once few w l =
      record {
        low = omega arith;
        long = length-set starts (get_or ps i 0) (at + i * rows) ∙ w.long;
        words = λ j m. go j m (ℕ_discrete j i);
      }
    where
      apart : (j : ℕ) → j < i → (j ≡ i → ⊥) → get_or ps j 0 ≡ get_or ps i 0 → ⊥
      apart j m n e = n (sym (once j (omega arith)) ∙ ap (λ (q : ℕ). index_of q ps) e ∙ once i l)

      go : (j : ℕ) → j < i + 1 → Dec (j ≡ i) → get_or (set starts (get_or ps i 0) (at + i * rows)) (get_or ps j 0) 0 ≡ at + j * rows
      go j m (yes e) =
          ap (λ (n : ℕ). get_or (set starts (get_or ps i 0) (at + i * rows)) (get_or ps n 0) 0) e
          ∙ get_or-set_same starts (get_or ps i 0) (at + i * rows) 0
          (let q = all_get (λ q. q < 72) ps few i 0 l in let v = w.long in omega arith)
          ∙ ap (λ (n : ℕ). at + n * rows) (sym e)
      go j m (no n) =
          get_or-set_other starts (get_or ps i 0) (get_or ps j 0) (at + i * rows) 0 (apart j (omega arith) n) ∙ w.words j (omega arith)

  pub begun_end : (starts : List ℕ) (i : ℕ) → Begun ps rows at starts i → length ps ≤ i → Starts starts ps rows at
  begun_end starts i w l q m =
      ap (λ (p : ℕ). get_or starts p 0) (sym (get_index q ps 0 m)) ∙ w.words (index_of q ps) (omega arith)

  -- a column's first word is in the buffer
  pub begins : (i n : ℕ) → i < length ps → at + length ps * rows < n → (i * rows < n) × (at + i * rows < n)
  begins i n l h =
      let q : suc i * rows ≤ length ps * rows = mul-le-mul_right rows l in
      let w = suc-mul i rows in
      (omega arith, omega arith)

-- ---- along a cycle, whose cell i is x i, for i < n
module _ (starts : List ℕ) (cycle : List Cell) where
  abbrev pub words : List ℕ
  words = map (cell_word starts) cycle

  pub record Along (d : List ℕ) (v : ℕ) (columns : List ℕ) (label i : ℕ) : Type 0 where
    pub low : i ≤ length cycle
    pub long : length columns ≡ length d
    pub left : exchanged columns label (drop i words) ≡ exchanged d v words

  pub along_start : (d : List ℕ) (v : ℕ) → Along d v d v 0
  along_start d v = record { low = omega arith; long = refl; left = refl }

  module _ (n : ℕ) (x : ℕ → Cell) (count : length cycle ≡ n) (each : (i : ℕ) (y : Cell) → i < n → get_or cycle i y ≡ x i) where
    words_length : length words ≡ n
    words_length = length-map cycle (cell_word starts) ∙ count

    words_get : (i : ℕ) → i < n → get_or words i 0 ≡ cell_word starts (x i)
    words_get i l = get_map (cell_word starts) cycle i (x 0) 0 (omega (arith, count)) ∙ ap (cell_word starts) (each i (x 0) l)

    pub along_next : (d : List ℕ) (v : ℕ) (columns : List ℕ) (label i held : ℕ) (after : List ℕ) → Along d v columns label i → i < n
        → held ≡ get_or columns (cell_word starts (x i)) 0
        → after ≡ set columns (cell_word starts (x i)) label
        → Along d v after held (i + 1)
    along_next d v columns label i held after w l h a =
        record {
          low = omega (arith, count);
          long = ap length a ∙ length-set columns (cell_word starts (x i)) label ∙ w.long;
          left =
              ap₂ (λ (s : List ℕ) (u : ℕ). exchanged s u (drop (i + 1) words)) (a ∙ ap (λ (n : ℕ). set columns n label) here) (h ∙ ap (λ (n : ℕ). get_or columns n 0) here)
              ∙ ap (λ (n : ℕ). exchanged (set columns (get_or words i 0) label) (get_or columns (get_or words i 0) 0) (drop n words)) (add-one i)
              ∙ sym (exchanged_next columns label words i (let q = words_length in omega arith))
              ∙ w.left;
        }
      where
        here : cell_word starts (x i) ≡ get_or words i 0
        here = sym (words_get i l)

    pub along_end : (d : List ℕ) (v : ℕ) (columns : List ℕ) (label i : ℕ) → 0 < n → CycleIn starts cycle (length d)
        → All (λ (x : Cell). (x.polynomial < 72) × (cell_word starts x < length d)) cycle
        → v ≡ get_or d (cell_word starts (x (n - 1))) 0
        → Along d v columns label i
        → n ≤ i
        → Walked starts cycle d columns
    along_end d v columns label i p c a e w l =
        all_walked starts cycle d columns (omega (arith, count)) c a
        (sym (exchanged_none columns label words i (let q = words_length in omega arith))
        ∙ w.left
        ∙ ap (λ (u : ℕ). exchanged d u words)
        (e ∙ ap (λ (n : ℕ). get_or d n 0) (sym (words_get (n - 1) (omega arith)) ∙ ap (λ (n : ℕ). get_or words (n - 1) 0) (sym count))))

    -- a cell of the cycle, and its word
    pub along_cell : (m i : ℕ) → All (λ (x : Cell). (x.polynomial < 72) × (cell_word starts x < m)) cycle → i < n
        → ((x i).polynomial < 72) × (cell_word starts (x i) < m)
    along_cell m i a l =
        subst (λ (x : Cell). (x.polynomial < 72) × (cell_word starts x < m)) (each i (x 0) l)
        (all_get (λ (x : Cell). (x.polynomial < 72) × (cell_word starts x < m)) cycle a i (x 0) (omega (arith, count)))

    pub along_fits : (d : List ℕ) (v : ℕ) (columns : List ℕ) (label i : ℕ) → Along d v columns label i
        → All (λ (x : Cell). (x.polynomial < 72) × (cell_word starts x < length d)) cycle
        → i < n
        → ((x i).polynomial < 72) × (cell_word starts (x i) < length columns)
    along_fits d v columns label i w a l =
        along_cell (length columns) i (subst (λ (m : ℕ). All (λ (x : Cell). (x.polynomial < 72) × (cell_word starts x < m)) cycle) (sym w.long) a) l

-- of cells in words
module _ (starts cells : List ℕ) where
  unfoldable pub Walking : List ℕ → ℕ → List ℕ → ℕ → ℕ → Type 0
  Walking = Along starts (cells_of cells)

  cells_count : length (cells_of cells) ≡ length cells / 2
  cells_count = tabulate_length (cell_at cells) (length cells / 2)

  cells_each : (i : ℕ) (y : Cell) → i < length cells / 2 → get_or (cells_of cells) i y ≡ cell_at cells i
  cells_each i y l = get_tabulate (cell_at cells) (length cells / 2) i y l

  pub walking_start : (d : List ℕ) (v : ℕ) → Walking d v d v 0
  unfolding Walking
  walking_start = along_start starts (cells_of cells)

  pub walking_next : (d : List ℕ) (v : ℕ) (columns : List ℕ) (label i held : ℕ) (after : List ℕ) → Walking d v columns label i → i < length cells / 2
      → held ≡ get_or columns (cell_word starts (cell_at cells i)) 0
      → after ≡ set columns (cell_word starts (cell_at cells i)) label
      → Walking d v after held (i + 1)
  unfolding Walking
  walking_next = along_next starts (cells_of cells) (length cells / 2) (cell_at cells) cells_count cells_each

  pub walking_end : (d : List ℕ) (v : ℕ) (columns : List ℕ) (label i : ℕ) → 0 < length cells / 2
      → CycleIn starts (cells_of cells) (length d)
      → All (λ (x : Cell). (x.polynomial < 72) × (cell_word starts x < length d)) (cells_of cells)
      → v ≡ get_or d (cell_word starts (cell_at cells (length cells / 2 - 1))) 0
      → Walking d v columns label i
      → length cells / 2 ≤ i
      → Walked starts (cells_of cells) d columns
  unfolding Walking
  walking_end = along_end starts (cells_of cells) (length cells / 2) (cell_at cells) cells_count cells_each

  pub cell_fits : (m i : ℕ) → All (λ (x : Cell). (x.polynomial < 72) × (cell_word starts x < m)) (cells_of cells) → i < length cells / 2
      → ((cell_at cells i).polynomial < 72) × (cell_word starts (cell_at cells i) < m)
  cell_fits = along_cell starts (cells_of cells) (length cells / 2) (cell_at cells) cells_count cells_each

  pub walking_fits : (d : List ℕ) (v : ℕ) (columns : List ℕ) (label i : ℕ) → Walking d v columns label i
      → All (λ (x : Cell). (x.polynomial < 72) × (cell_word starts x < length d)) (cells_of cells)
      → i < length cells / 2
      → ((cell_at cells i).polynomial < 72) × (cell_word starts (cell_at cells i) < length columns)
  unfolding Walking
  walking_fits = along_fits starts (cells_of cells) (length cells / 2) (cell_at cells) cells_count cells_each

-- ---- cycle after cycle
pub record Turning (rows : ℕ) (ps lengths cells d : List ℕ) (at : ℕ) (columns : List ℕ) (start i : ℕ) : Type 0 where
  pub low : i ≤ length lengths
  pub long : length columns ≡ length d
  pub from : start ≡ total (take i lengths) * 2
  pub words : columns ≡ write_at d at (permutation_columns ps rows (take i (split lengths (cells_of cells))))

module _ (rows : ℕ) (ps lengths cells : List ℕ) (at : ℕ) (walk : Walkable ps rows (split lengths (cells_of cells))) (sums : total lengths ≡ length cells / 2) where
  abbrev cycles : List (List Cell)
  cycles = split lengths (cells_of cells)

  abbrev labelled : List (List Cell) → List ℕ
  labelled Cs = permutation_columns ps rows Cs

  first_length : (Cs : List (List Cell)) → length (range (length ps * rows)) ≡ length (labelled Cs)
  first_length Cs = below_length (length ps * rows) ∙ sym (labels_length ps rows (λ x. first_label_in ps rows (source Cs x)))

  module _ (d₀ d : List ℕ) (room : at + length ps * rows ≤ length d₀) (first : d ≡ write_at d₀ at (range (length ps * rows))) where
    -- the labels that are written over the first ones
    again : (Cs : List (List Cell)) → write_at d at (labelled Cs) ≡ write_at d₀ at (labelled Cs)
    again Cs =
        ap (λ (s : List ℕ). write_at s at (labelled Cs)) first
        ∙ write_at_again d₀ at (range (length ps * rows)) (labelled Cs) (let e = below_length (length ps * rows) in omega arith) (first_length Cs)

    pub turning_start : Turning rows ps lengths cells d at d 0 0
    unfolding total source
    turning_start =
        record {
          low = omega arith;
          long = refl;
          from = refl;
          words = first ∙ ap (write_at d₀ at) (first_labels ps rows walk.once) ∙ sym (again []);
        }

    pub turning_end : (columns : List ℕ) (start i : ℕ) → Turning rows ps lengths cells d at columns start i → length lengths ≤ i
        → columns ≡ write_at d₀ at (labelled cycles)
    turning_end columns start i w l =
        w.words
        ∙ ap (λ (Cs : List (List Cell)). write_at d at (labelled Cs)) (take_all i cycles (let e = split_length lengths (cells_of cells) in omega arith))
        ∙ again cycles

  module _ (d columns : List ℕ) (start i : ℕ) (w : Turning rows ps lengths cells d at columns start i) (l : i < length lengths) where
    -- the cycle's words are among the cells'
    pub turn_fits : start + get_or lengths i 0 * 2 ≤ length cells
    turn_fits =
        let q = total_within lengths i in
        let e = w.from in
        let h = div-mul-le_self (length cells) 2 in
        omega arith

    abbrev part : List ℕ
    part = take (start + get_or lengths i 0 * 2 - start) (drop start cells)

    part_length : length part ≡ get_or lengths i 0 * 2
    part_length =
        length-take-le (start + get_or lengths i 0 * 2 - start) (drop start cells)
        (let h = turn_fits in let e = length-drop start cells in omega arith)
        ∙ (omega arith)

    part_count : length part / 2 ≡ get_or lengths i 0
    part_count = ap (λ (n : ℕ). n / 2) part_length ∙ mul-div_cancel (get_or lengths i 0) {n = 2} (omega arith)

    part_get : (j : ℕ) → j < get_or lengths i 0 * 2 → get_or part j 0 ≡ get_or cells (start + j) 0
    part_get j h = get_or-take (start + get_or lengths i 0 * 2 - start) (drop start cells) j 0 (omega arith) ∙ get_or-drop start cells j 0

    -- they are the cycle
    pub turn_cycle : cells_of part ≡ get_or cycles i []
    turn_cycle =
        ap (tabulate (cell_at part)) part_count
        ∙ tabulate_cong (cell_at part) (λ j. cell_at cells (total (take i lengths) + j)) (get_or lengths i 0) same
        ∙ sym (tabulate_part (cell_at cells) (length cells / 2) (total (take i lengths)) (get_or lengths i 0) (let q = total_within lengths i in omega arith))
        ∙ sym (get_split lengths (cells_of cells) i l)
      where
        same : (j : ℕ) → j < get_or lengths i 0 → cell_at part j ≡ cell_at cells (total (take i lengths) + j)
        same j h =
            let e = w.from in
            let a : start + j * 2 ≡ (total (take i lengths) + j) * 2 = omega arith in
            let b : start + (j * 2 + 1) ≡ (total (take i lengths) + j) * 2 + 1 = omega arith in
            ap₂ (λ (q r : ℕ). record { polynomial = q; row = r })
            (part_get (j * 2) (omega arith) ∙ ap (λ (n : ℕ). get_or cells n 0) a)
            (part_get (j * 2 + 1) (omega arith) ∙ ap (λ (n : ℕ). get_or cells n 0) b)

    inside : i < length cycles
    inside = let e = split_length lengths (cells_of cells) in omega arith

    here : (Q : List Cell → Type 0) → All Q cycles → Q (cells_of part)
    here Q a = subst Q (sym turn_cycle) (all_get Q cycles a i [] inside)

    module _ (starts : List ℕ) (begin : Starts starts ps rows at) (room : at + length ps * rows ≤ length d) where
      cell_in_is : (x : Cell) → CellPlaced ps rows x → (x.polynomial < 72) × (cell_word starts x < length columns)
      cell_in_is x h =
          let few : get_or ps (index_of x.polynomial ps) 0 < 72 = all_get (λ q. q < 72) ps walk.few (index_of x.polynomial ps) 0 h.column_in in
          let e = get_index x.polynomial ps 0 h.column_in in
          let p = placed_lt ps rows x h in
          let b = begin x.polynomial h.column_in in
          let q = w.long in
          (subst (λ (n : ℕ). n < 72) e few, omega arith)

      pub turn_asks : (0 < length part / 2)
          × (All (λ (x : Cell). (x.polynomial < 72) × (cell_word starts x < length columns)) (cells_of part)
          × CycleIn starts (cells_of part) (length columns))
      turn_asks = (
        (let s = here (λ cycle. 0 < length cycle) walk.some in let e = tabulate_length (cell_at part) (length part / 2) in omega arith),
        (
          all_weaken (CellPlaced ps rows) (λ (x : Cell). (x.polynomial < 72) × (cell_word starts x < length columns)) cell_in_is (cells_of part) (here (All (CellPlaced ps rows)) walk.placed),
          record {
            list = ps;
            rows = rows;
            at = at;
            once = walk.once;
            placed = here (All (CellPlaced ps rows)) walk.placed;
            apart = here Apart walk.apart;
            begun = begin;
            room = (let q = w.long in omega arith);
          },
        ),
      )

      pub turn_next : (after : List ℕ) → Walked starts (cells_of part) columns after → Turning rows ps lengths cells d at after (start + get_or lengths i 0 * 2) (i + 1)
      turn_next after m =
          record {
            low = omega arith;
            long = ap length moved ∙ run_length ps rows walk.once d at room (λ x. first_label_in ps rows (source (take i cycles) (before (cells_of part) x)));
            from =
                let e = w.from in
                let q = total_next lengths i l in
                let p : total (take (i + 1) lengths) ≡ total (take (suc i) lengths) = ap (λ (n : ℕ). total (take n lengths)) (add-one i) in
                omega arith;
            words =
                moved
                ∙ ap (write_at d at)
                (labels_same ps rows (λ x. first_label_in ps rows (source (take i cycles) (before (cells_of part) x))) (λ x. first_label_in ps rows (source (take (i + 1) cycles) x))
                (λ x. ap (first_label_in ps rows) (one_more x)));
          }
        where
          moved : after ≡ write_at d at (label_columns ps rows (λ x. first_label_in ps rows (source (take i cycles) (before (cells_of part) x))))
          moved =
              m.0 ps rows at d (λ x. first_label_in ps rows (source (take i cycles) x)) walk.once (here (All (CellPlaced ps rows)) walk.placed)
              (here Apart walk.apart)
              begin
              room
              w.words

          one_more : (x : Cell) → source (take i cycles) (before (cells_of part) x) ≡ source (take (i + 1) cycles) x
          one_more x =
              ap (λ (cycle : List Cell). source (take i cycles) (before cycle x)) turn_cycle
              ∙ sym (source_end (take i cycles) (get_or cycles i []) x)
              ∙ ap (λ (Cs : List (List Cell)). source Cs x) (sym (take-suc cycles i [] inside) ∙ ap (λ (n : ℕ). take n cycles) (sym (add-one i)))
