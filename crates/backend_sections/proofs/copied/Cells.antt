-- The copied columns, gathered: which polynomials the first cells name, and those among the first polynomials.
use mathlib.Core.Path.{◌≡◌, refl, sym, ap, ◌∙◌}
use mathlib.Core.Bool.{Bool, true, false, cond, ◌||◌, or-false}
use mathlib.Core.List.{List, [], ◌∷◌, ◌++◌, append-nil}
use Prim.Native.Nat.{ℕ, zero, suc, ◌+◌, ◌≤◌, ◌<◌, ◌/◌, ◌*◌}
use native.Mathlib.Omega.{arith}
use native.Mathlib.Numerals.{add-one}
use native.Mathlib.Decide.{ℕ_discrete}
use lib.Dec.{eqb}
use lib.ListN.{length, get_or, set, replicate, length-set, length-replicate, length-append}
use lib.Seq.{get_or-set_same, get_or-set_other}
use borrow.Author.Tests.{eq-eqb, ne_eqb}
use Rattle.lists.specs.Lists.{tabulate, range, any_of, filter}
use Rattle.lists.proofs.Tests.{filter_append}
use Rattle.lists.proofs.Columns.{tabulate_suc}
use Rattle.lists.proofs.Searches.{any_next}
use Rattle.backend.specs.Circuit.{Cell, cell_at, cells_of, cells_name, copied_in}

-- a flag for each of 72 polynomials: does one of the first i cells name it?
pub record Named (cells : List ℕ) (named : List Bool) (i : ℕ) : Type 0 where
  pub upto : i ≤ length cells / 2
  pub many : length named ≡ 72
  pub each : (q : ℕ) → q < 72 → get_or named q false ≡ cells_name (tabulate (cell_at cells) i) q

-- the copied columns among the first q polynomials
pub record Gathered (cells : List ℕ) (polys : ℕ) (columns : List ℕ) (q : ℕ) : Type 0 where
  pub upto : q ≤ polys
  pub few : length columns ≤ q
  pub found : columns ≡ filter (cells_name (cells_of cells)) (range q)

or_true : (t : Bool) → (t || true) ≡ true
or_true true = refl
or_true false = refl

those_one : (p : ℕ → Bool) (q : ℕ) → filter p (q ∷ []) ≡ cond (p q) (q ∷ []) []
unfolding filter
those_one p q = refl

none_named : (n : ℕ) (q : ℕ) → get_or (replicate n false) q false ≡ false
none_named zero q = refl
none_named (suc n) zero = refl
none_named (suc n) (suc q) = none_named n q

module _ (cells : List ℕ) where
  pub named_none : (named : List Bool) → named ≡ replicate 72 false → Named cells named 0
  unfolding tabulate any_of
  named_none named e =
      record {
        upto = omega arith;
        many = ap length e ∙ length-replicate 72 false;
        each = λ q l. ap (λ (xs : List Bool). get_or xs q false) e ∙ none_named 72 q;
      }

  next_named : (i q : ℕ) → cells_name (tabulate (cell_at cells) (i + 1)) q ≡ (cells_name (tabulate (cell_at cells) i) q || eqb (get_or cells (i * 2) 0) q)
  next_named i q = any_next (λ (x : Cell). eqb x.polynomial q) (cell_at cells) i

  -- cell i names a polynomial below 72
  pub named_set : (named : List Bool) (i : ℕ) → Named cells named i → i < length cells / 2 → get_or cells (i * 2) 0 < 72
      → Named cells (set named (get_or cells (i * 2) 0) true) (i + 1)
  named_set named i v l k =
      record { upto = omega arith; many = length-set named (get_or cells (i * 2) 0) true ∙ v.many; each = each }
    where
      w : ℕ
      w = get_or cells (i * 2) 0

      each : (q : ℕ) → q < 72 → get_or (set named w true) q false ≡ cells_name (tabulate (cell_at cells) (i + 1)) q
      each q m = go (ℕ_discrete q w)
        where
          go : Dec (q ≡ w) → get_or (set named w true) q false ≡ cells_name (tabulate (cell_at cells) (i + 1)) q
          go (yes e) =
              ap (λ (j : ℕ). get_or (set named w true) j false) e ∙ get_or-set_same named w true false (let r = v.many in omega arith)
              ∙ sym (next_named i q ∙ ap (λ (t : Bool). cells_name (tabulate (cell_at cells) i) q || t) (eq-eqb w q (sym e)) ∙ or_true (cells_name (tabulate (cell_at cells) i) q))
          go (no ne) =
              get_or-set_other named w q true false ne ∙ v.each q m
              ∙ sym (next_named i q ∙ ap (λ (t : Bool). cells_name (tabulate (cell_at cells) i) q || t) (ne_eqb w q (λ e. ne (sym e))) ∙ or-false (cells_name (tabulate (cell_at cells) i) q))

  -- cell i names one past them
  pub named_past : (named : List Bool) (i : ℕ) → Named cells named i → i < length cells / 2 → 72 ≤ get_or cells (i * 2) 0 → Named cells named (i + 1)
  named_past named i v l k =
      record {
        upto = omega arith;
        many = v.many;
        each = λ q m.
            v.each q m
            ∙ sym
            (next_named i q ∙ ap (λ (t : Bool). cells_name (tabulate (cell_at cells) i) q || t) (ne_eqb (get_or cells (i * 2) 0) q (λ e. omega arith))
            ∙ or-false (cells_name (tabulate (cell_at cells) i) q));
      }

  pub named_all : (named : List Bool) (i : ℕ) → Named cells named i → length cells / 2 ≤ i → (q : ℕ) → q < 72
      → get_or named q false ≡ cells_name (cells_of cells) q
  named_all named i v l q m =
      v.each q m ∙ ap (λ (n : ℕ). cells_name (tabulate (cell_at cells) n) q) (let u = v.upto in let e : i ≡ length cells / 2 = omega arith in e)

  -- ---- gathered
  abbrev pub is_named : ℕ → Bool
  is_named q = cells_name (cells_of cells) q

  those_next : (q : ℕ) → filter is_named (range (q + 1)) ≡ filter is_named (range q) ++ cond (is_named q) (q ∷ []) []
  those_next q =
      ap (λ (n : ℕ). filter is_named (range n)) (add-one q) ∙ ap (filter is_named) (tabulate_suc (λ i. i) q)
      ∙ filter_append is_named (range q) (q ∷ [])
      ∙ ap (λ (xs : List ℕ). filter is_named (range q) ++ xs) one
    where
      one : filter is_named (q ∷ []) ≡ cond (is_named q) (q ∷ []) []
      one = those_one is_named q

  pub gathered_none : (polys : ℕ) → Gathered cells polys [] 0
  unfolding tabulate filter
  gathered_none polys = record { upto = omega arith; few = omega arith; found = refl }

  pub gathered_more : (polys : ℕ) (columns : List ℕ) (q : ℕ) → Gathered cells polys columns q → q < polys → is_named q ≡ true
      → Gathered cells polys (columns ++ (q ∷ [])) (q + 1)
  gathered_more polys columns q v l e =
      record {
        upto = omega arith;
        few = (let u = v.few in omega (arith, length-append columns (q ∷ [])));
        found =
            ap (λ (xs : List ℕ). xs ++ (q ∷ [])) v.found
            ∙ sym (those_next q ∙ ap (λ (t : Bool). filter is_named (range q) ++ cond t (q ∷ []) []) e);
      }

  pub gathered_same : (polys : ℕ) (columns : List ℕ) (q : ℕ) → Gathered cells polys columns q → q < polys → is_named q ≡ false
      → Gathered cells polys columns (q + 1)
  gathered_same polys columns q v l e =
      record {
        upto = omega arith;
        few = (let u = v.few in omega arith);
        found =
            v.found
            ∙ sym (those_next q ∙ ap (λ (t : Bool). filter is_named (range q) ++ cond t (q ∷ []) []) e ∙ append-nil (filter is_named (range q)));
      }

  pub gathered_all : (polys : ℕ) (columns : List ℕ) (q : ℕ) → Gathered cells polys columns q → polys ≤ q
      → columns ≡ copied_in polys (cells_of cells)
  unfolding copied_in
  gathered_all polys columns q v m = v.found ∙ ap (λ (n : ℕ). filter is_named (range n)) (let u = v.upto in let e : q ≡ polys = omega arith in e)
