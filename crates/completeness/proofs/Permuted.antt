-- σ permutes the copied cells, and their first labels differ: Permutes and the labels of Copies.
use mathlib.Core.Path.{◌≡◌, refl, sym, ap, ◌∙◌, subst}
use mathlib.Core.Logic.{◌≢◌}
use mathlib.Core.Bool.{Bool, true, cond}
use mathlib.Core.List.{List, [], ◌∷◌, map}
use Prim.Native.Nat.{ℕ, ◌+◌, ◌*◌, ◌/◌, ◌%◌, ◌^◌, ◌≤◌, ◌<◌}
use native.Mathlib.Nat.{lt_irrefl, div-lt_iff_lt-mul, div-add-mod', mod-lt, mul-le-mul}
use native.Mathlib.Omega.{arith}
use lib.Pow.{pow_pos, pow_mono}
use lib.ListN.{length, get_or}
use Rattle.field.specs.Prime.{P}
use Rattle.field.specs.Algebra.{Field}
use Rattle.field.specs.Field.{𝔾, el}
use Rattle.field.proofs.Elements.{el_injective}
use Rattle.bh.proofs.Perm.{Keeps, onto}
use Rattle.lists.specs.Lists.{range, concat, index_of, All}
use Rattle.lists.proofs.Tests.{by_test}
use Rattle.lists.proofs.All.{all_get, all_from, all_weaken}
use Rattle.lists.proofs.Columns.{below_length}
use Rattle.lists.proofs.Places.{get_index}
use Rattle.lists.proofs.Searches.{count_le}
use Rattle.identities.specs.Cycles.{labels as moved_to}
use Rattle.identities.proofs.Cycles.{labels_good}
use Rattle.backend.specs.Circuit.{Circuit, Cell, circuit_of, same_cell, rows_of, num_poly, num_witness, cells_name, copied, copied_in, num_copied}
use Rattle.backend.specs.Questions.{q11}
use Rattle.backend.proofs.Cells.{same_cell_is}
use Rattle.backend.proofs.Numbers.{polys}
use Rattle.backend.proofs.Passed.{yes_all}
use Rattle.preprocessor.specs.Permutation.{last_cell, before_from, before, source, first_label}
use Rattle.preprocessor.proofs.Cycles.{source_all}
use Rattle.preprocessor.proofs.Labels.{cell_number, cell_placed}
use Rattle.preprocessor.proofs.Copied.{Good as GoodCell, cells_good, cells_placed, copied_once}
use Rattle.prover.specs.Log.{Log}
use Rattle.hyperplonk_spec.specs.Meaning.{Admitted, no_cell}
use Rattle.hyperplonk_spec.specs.Copies.{copied_cell, IsCopied, σ, IsPermutation, Permutes, IsLabelling, LabelsDifferWhere, LabelsDifferAt𝔾}
use Rattle.hyperplonk_spec.proofs.Embeds.{embeds, embeds_num}
use Rattle.completeness.proofs.CellNumbers.{Placed, number_in, same_true, source_agree}
use Rattle.completeness.proofs.CycleNumbers.{cycles_good_is}
use Rattle.completeness.proofs.DemandThreeOf.{k_below_21}
use Rattle.completeness.proofs.Plonk.{source_apart}

-- ---- a cell that no cycle names stays
still_from : (p : Cell) (ys : List Cell) (x : Cell) → All (λ y. x ≢ y) ys → before_from p ys x ≡ x
unfolding before_from
still_from p [] x a = refl
still_from p (y ∷ ys) x a =
    by_test (same_cell x y) (λ e. absurd (a.0 (same_cell_is x y e)))
    (λ e. ap (λ (t : Bool). cond t p (before_from y ys x)) e ∙ still_from y ys x a.1)

still_before : (ys : List Cell) (x : Cell) → All (λ y. x ≢ y) ys → before ys x ≡ x
unfolding before
still_before [] x a = refl
still_before (y ∷ ys) x a = still_from (last_cell y ys) (y ∷ ys) x a

still_source : (Cs : List (List Cell)) (x : Cell) → All (All (λ y. x ≢ y)) Cs → source Cs x ≡ x
unfolding source
still_source [] x a = refl
still_source (C ∷ Cs) x a = ap (before C) (still_source Cs x a.1) ∙ still_before C x a.0

module _ (c : Circuit) where
  -- ---- the copied cells are the placed ones
  pub placed_of : (x : Cell) → IsCopied c x → Placed c x
  placed_of x h =
      subst (Placed c) (sym h.is) (cell_placed (copied c) (rows_of c) (copied_once c) h.column x.row h.column_in h.row_in)

  pub copied_of : (x : Cell) → Placed c x → IsCopied c x
  copied_of x h =
      record {
        column = index_of x.polynomial (copied c);
        column_in = h.column_in;
        row_in = h.row_in;
        is = ap (λ (q : ℕ). record { polynomial = q; row = x.row }) (sym (get_index x.polynomial (copied c) 0 h.column_in));
      }

  -- ---- first labels
  pub label_first : (i b : ℕ) → i < num_copied c → first_label c (copied_cell c i b) ≡ i * rows_of c + b
  unfolding first_label
  label_first i b l = cell_number (copied c) (rows_of c) (copied_once c) i b l

  pub labels : IsLabelling c
  labels =
      record {
        first = label_first;
        label_in_is = λ x h. number_in c x (placed_of x h);
        apart = λ x y h k e. same_cell_is x y (same_true c x y (placed_of x h) (placed_of y k) e);
      }

  -- the cell of a number
  numbered : (t : ℕ) → t < num_copied c * rows_of c → Placed c (copied_cell c (t / rows_of c) (t % rows_of c)) × (first_label c (copied_cell c (t / rows_of c) (t % rows_of c)) ≡ t)
  numbered t l =
      let i : t / rows_of c < num_copied c = (div-lt_iff_lt-mul {k = rows_of c} {x = t} {y = num_copied c} (pow_pos c.k)).1 l in (
        cell_placed (copied c) (rows_of c) (copied_once c) (t / rows_of c) (t % rows_of c) i (mod-lt t (pow_pos c.k)),
        label_first (t / rows_of c) (t % rows_of c) i ∙ div-add-mod' t (rows_of c),
      )

  -- ---- σ
  module _ (e : q11 c ≡ true) where
    abbrev Cs : List (List ℕ)
    Cs = map (map (first_label c)) c.cycles

    a : All (All (Placed c)) c.cycles
    a = cells_placed c e

    keeps_numbers : Keeps (num_copied c * rows_of c) (moved_to Cs)
    keeps_numbers =
        let w = labels_good (num_copied c) (rows_of c) Cs (cycles_good_is c e) in
        record {
          within = w.within;
          apart = λ i j m h q. lt_irrefl j (subst (λ (x : ℕ). x < j) (w.apart i j q) m);
        }

    source_onto : (y : Cell) → Placed c y → (x : Cell) × Placed c x × (σ c x ≡ y)
    source_onto y h =
        let t = onto (num_copied c * rows_of c) (moved_to Cs) keeps_numbers (first_label c y) (number_in c y h) in
        let x : Cell = copied_cell c (t.0 / rows_of c) (t.0 % rows_of c) in
        let n = numbered t.0 t.1 in (
          x,
          n.0,
          same_cell_is (σ c x) y
              (same_true c (σ c x) y (source_all (Placed c) c.cycles x a n.0) h
              (source_agree c c.cycles x a n.0 ∙ ap (moved_to Cs) n.1 ∙ t.2)),
        )

    row_0 : (x : Cell) → x.row ≡ 0 → σ c x ≡ x
    row_0 x z =
        still_source c.cycles x
        (all_weaken (λ C. (0 < length C) × All (GoodCell (num_poly c) (rows_of c) c.cycles C) C) (All (λ y. x ≢ y))
        (λ C w. all_weaken (GoodCell (num_poly c) (rows_of c) c.cycles C) (λ y. x ≢ y) (λ y v q. low y.row v.row_pos (sym (ap (λ (u : Cell). u.row) q) ∙ z)) C w.1)
        c.cycles
        (cells_good c e))
      where
        low : (r : ℕ) → 1 ≤ r → r ≡ 0 → ⊥
        low r p q = omega arith

    is_permutation : IsPermutation c
    is_permutation =
        record {
          named_copied = λ j l i m.
              let C : List Cell = get_or c.cycles j [] in
              copied_of (get_or C i no_cell) (all_get (Placed c) C (all_get (All (Placed c)) c.cycles a j [] l) i no_cell m);
          into = λ x h. copied_of (σ c x) (source_all (Placed c) c.cycles x a (placed_of x h));
          one_to_one = λ x y h. source_apart c e x y h;
          onto = λ y h. let r = source_onto y (placed_of y h) in (r.0, copied_of r.0 r.1, r.2);
          row_0_stays = row_0;
          unnamed_stays = λ x h.
              still_source c.cycles x
              (all_from (All (λ y. x ≢ y)) c.cycles [] (λ j l. all_from (λ y. x ≢ y) (get_or c.cycles j []) no_cell (λ i m. h j l i m)));
        }

pub permutes : Permutes
permutes c e = is_permutation c e

-- ---- labels as elements
pub labels_differ_where : (𝓕 : Field) (g : Log 𝓕) → LabelsDifferWhere 𝓕 g
labels_differ_where 𝓕 g inj x y h k e =
    let l = labels g.circuit in
    l.apart x y h k (inj (first_label g.circuit x) (first_label g.circuit y) (l.label_in_is x h) (l.label_in_is y k) e)

copied_few : (ws : List ℕ) → num_copied (circuit_of ws) ≤ num_poly (circuit_of ws)
unfolding copied copied_in
copied_few ws = let q = count_le (cells_name (concat (circuit_of ws).cycles)) (range (num_poly (circuit_of ws))) in let w = below_length (num_poly (circuit_of ws)) in omega arith

-- no label reaches p
pub labels_small : (g : Log 𝔾) → Admitted 𝔾 g → (n : ℕ) → n < num_copied g.circuit * rows_of g.circuit → n < P
labels_small g ad n l =
    let r : rows_of g.circuit ≤ 2 ^ 20 = pow_mono {i = g.circuit.k} {j = 20} (let k = k_below_21 𝔾 g ad in omega arith) in
    let m : num_copied g.circuit * rows_of g.circuit ≤ 72 * 2 ^ 20 = mul-le-mul few r in
    omega arith
  where
    few : num_copied g.circuit ≤ 72
    few =
        subst (λ (c : Circuit). num_copied c ≤ 72) (sym ad.read)
        (let y = yes_all ad.words ad.passed in
        let p = polys ad.words (num_witness (circuit_of ad.words)) y.laid refl in
        let i = y.laid.few_instances in
        let q = y.laid.few_preprocess in
        let w = y.counted.few_witness in
        let n = copied_few ad.words in
        omega arith)

pub labels_differ_at_𝔾 : LabelsDifferAt𝔾
labels_differ_at_𝔾 g ad = labels_differ_where 𝔾 g (λ m n l k e. el_injective m n (labels_small g ad m l) (labels_small g ad n k) (sym (own m) ∙ e ∙ own n))
  where
    own : (n : ℕ) → g.el n ≡ el n
    own n = embeds_num 𝔾 g.el ad.embeds n ∙ sym (embeds_num 𝔾 el embeds n)
