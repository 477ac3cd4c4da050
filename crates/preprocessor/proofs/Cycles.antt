-- Cycles: one more at the end; labels passed on along the cells of a cycle, one carried at a time.
use mathlib.Core.Path.{◌≡◌, refl, sym, ap, ◌∙◌}
use mathlib.Core.Bool.{Bool, true, false, cond}
use mathlib.Core.List.{List, [], ◌∷◌, ◌++◌}
use Prim.Native.Nat.{suc, ◌≤◌}
use native.Mathlib.Omega.{arith}
use lib.ListN.{length}
use Rattle.lists.specs.Lists.{filter, count_of, All}
use Rattle.lists.proofs.Tests.{by_test, count_cons, count_none}
use Rattle.lists.proofs.All.{all_weaken, all_both, all_any}
use Rattle.backend.specs.Circuit.{Cell, same_cell}
use Rattle.backend.proofs.Cells.{same_self, same_sym, same_cell_is}
use Rattle.preprocessor.specs.Permutation.{last_cell, before_from, before, source, Apart}

-- "Cycles act one after another"
pub source_end : (cycles : List (List Cell)) (cycle : List Cell) (x : Cell) → source (cycles ++ (cycle ∷ [])) x ≡ source cycles (before cycle x)
unfolding source
source_end [] cycle x = refl
source_end (y ∷ ys) cycle x = ap (before y) (source_end ys cycle x)

-- ---- no cell twice
abbrev pub Other : Cell → Cell → Type 0
Other x y = same_cell x y ≡ false

abbrev pub Distinct : List Cell → Type 0
Distinct [] = Unit {0}
Distinct (x ∷ xs) = All (Other x) xs × Distinct xs

distinct_le : (xs : List Cell) → All (λ x. count_of (same_cell x) xs ≤ 1) xs → Distinct xs
unfolding filter
distinct_le [] a = tt
distinct_le (x ∷ xs) a = (
  count_none (same_cell x) xs none,
  distinct_le xs (all_weaken (λ y. count_of (same_cell y) (x ∷ xs) ≤ 1) (λ y. count_of (same_cell y) xs ≤ 1) (λ y l. let q = count_cons (same_cell y) x xs in omega arith) xs a.1),
)
  where
    none : count_of (same_cell x) xs ≡ 0
    none =
        let e : length (cond (same_cell x x) (x ∷ filter (same_cell x) xs) (filter (same_cell x) xs)) ≡ suc (count_of (same_cell x) xs) =
        ap (λ (t : Bool). length (cond t (x ∷ filter (same_cell x) xs) (filter (same_cell x) xs))) (same_self x) in
        let l = a.0 in
        omega arith

pub apart_distinct : (cycle : List Cell) → Apart cycle → Distinct cycle
apart_distinct cycle a =
    distinct_le cycle (all_weaken (λ x. count_of (same_cell x) cycle ≡ 1) (λ x. count_of (same_cell x) cycle ≤ 1) (λ x e. omega arith) cycle a)

-- ---- labels
module _ {L : Type 0} where
  -- cell y takes v
  abbrev pub taken : (Cell → L) → Cell → L → Cell → L
  taken l y v x = cond (same_cell x y) v (l x)

  -- the first cell takes v, each after it what the cell before it held
  unfoldable pub passed : (Cell → L) → L → List Cell → Cell → L
  passed l v [] x = l x
  passed l v (y ∷ ys) x = passed (taken l y v) (l y) ys x

  passed_other : (l : Cell → L) (v : L) (ys : List Cell) (x : Cell) → All (Other x) ys → passed l v ys x ≡ l x
  unfolding passed
  passed_other l v [] x a = refl
  passed_other l v (y ∷ ys) x a =
      passed_other (taken l y v) (l y) ys x a.1 ∙ ap (λ (t : Bool). cond t v (l x)) a.0

  -- o: what the cells held when the cycle began
  passed_from : (o l : Cell → L) (p : Cell) (ys : List Cell) (x : Cell) → Distinct ys → All (λ y. l y ≡ o y) ys → l x ≡ o x
      → passed l (o p) ys x ≡ o (before_from p ys x)
  unfolding passed before_from
  passed_from o l p [] x u a e = e
  passed_from o l p (y ∷ ys) x u a e =
      by_test (same_cell x y)
      (λ t.
      passed_other (taken l y (o p)) (l y) ys x (elsewhere t)
      ∙ ap (λ (s : Bool). cond s (o p) (l x)) t
      ∙ sym (ap (λ (s : Bool). o (cond s p (before_from y ys x))) t))
      (λ t.
      ap (λ (v : L). passed (taken l y (o p)) v ys x) a.0
      ∙ passed_from o (taken l y (o p)) y ys x u.1 kept (ap (λ (s : Bool). cond s (o p) (l x)) t ∙ e)
      ∙ sym (ap (λ (s : Bool). o (cond s p (before_from y ys x))) t))
    where
      elsewhere : same_cell x y ≡ true → All (Other x) ys
      elsewhere t = all_weaken (Other y) (Other x) (λ z h. ap (λ (w : Cell). same_cell w z) (same_cell_is x y t) ∙ h) ys u.0

      kept : All (λ z. taken l y (o p) z ≡ o z) ys
      kept =
          all_weaken (λ z. Other y z × (l z ≡ o z)) (λ z. taken l y (o p) z ≡ o z)
          (λ z h. ap (λ (s : Bool). cond s (o p) (l z)) (same_sym z y ∙ h.0) ∙ h.1)
          ys
          (all_both (Other y) (λ z. l z ≡ o z) ys u.0 a.1)

  -- "along a cycle each cell takes the label that the cell before held when the cycle began, the first that of the last"
  pub passed_cycle : (l : Cell → L) (y : Cell) (ys : List Cell) (x : Cell) → Distinct (y ∷ ys) → passed l (l (last_cell y ys)) (y ∷ ys) x ≡ l (before (y ∷ ys) x)
  unfolding before
  passed_cycle l y ys x u = passed_from l l (last_cell y ys) (y ∷ ys) x u (all_any (λ z. l z ≡ l z) (λ z. refl) (y ∷ ys)) refl

-- ---- what the cells of cycles have, the cell whose label x holds has
module _ (Q : Cell → Type 0) where
  pub last_all : (y : Cell) (ys : List Cell) → All Q (y ∷ ys) → Q (last_cell y ys)
  unfolding last_cell
  last_all y [] a = a.0
  last_all y (z ∷ ys) a = last_all z ys a.1

  from_all : (p : Cell) (ys : List Cell) (x : Cell) → Q p → All Q ys → Q x → Q (before_from p ys x)
  unfolding before_from
  from_all p [] x h a q = q
  from_all p (y ∷ ys) x h a q = go (same_cell x y) (from_all y ys x a.0 a.1 q)
    where
      go : (t : Bool) → Q (before_from y ys x) → Q (cond t p (before_from y ys x))
      go true r = h
      go false r = r

  pub before_all : (ys : List Cell) (x : Cell) → All Q ys → Q x → Q (before ys x)
  unfolding before
  before_all [] x a q = q
  before_all (y ∷ ys) x a q = from_all (last_cell y ys) (y ∷ ys) x (last_all y ys a) a q

  pub source_all : (cycles : List (List Cell)) (x : Cell) → All (All Q) cycles → Q x → Q (source cycles x)
  unfolding source
  source_all [] x a q = q
  source_all (y ∷ ys) x a q = before_all y (source ys x) a.0 (source_all ys x a.1 q)
