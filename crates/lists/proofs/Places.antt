-- The place of a number in a list: `index_of`.
use mathlib.Core.Path.{◌≡◌, sym, ap, ◌∙◌, subst}
use mathlib.Core.Logic.{◌≢◌}
use mathlib.Core.Bool.{Bool, true, false, cond}
use mathlib.Core.List.{List, [], ◌∷◌, ◌++◌}
use Prim.Native.Nat.{ℕ, zero, suc, ◌<◌}
use native.Mathlib.Nat.{not-suc-le-zero}
use native.Mathlib.Decide.{ℕ_discrete}
use native.Mathlib.Omega.{arith}
use lib.ListN.{length, get_or}
use borrow.Author.Tests.{eq-eqb, ne_eqb}
use Rattle.lists.specs.Lists.{tabulate, range, filter, index_of}

-- q stands in the list
abbrev pub Among : ℕ → List ℕ → Type 0
Among q xs = index_of q xs < length xs

pub index_here : (q x : ℕ) (xs : List ℕ) → q ≡ x → index_of q (x ∷ xs) ≡ 0
unfolding index_of
index_here q x xs e = ap (λ (t : Bool). cond t 0 (suc (index_of q xs))) (eq-eqb q x e)

pub index_cons : (q x : ℕ) (xs : List ℕ) → q ≢ x → index_of q (x ∷ xs) ≡ suc (index_of q xs)
unfolding index_of
index_cons q x xs n = ap (λ (t : Bool). cond t 0 (suc (index_of q xs))) (ne_eqb q x n)

-- what stands there is q
pub get_index : (q : ℕ) (xs : List ℕ) (d : ℕ) → Among q xs → get_or xs (index_of q xs) d ≡ q
get_index q [] d l = absurd (not-suc-le-zero l)
get_index q (x ∷ xs) d l = go (ℕ_discrete q x) (get_index q xs d)
  where
    go : Dec (q ≡ x) → (Among q xs → get_or xs (index_of q xs) d ≡ q) → get_or (x ∷ xs) (index_of q (x ∷ xs)) d ≡ q
    go (yes e) rec = ap (λ (i : ℕ). get_or (x ∷ xs) i d) (index_here q x xs e) ∙ sym e
    go (no n) rec =
        ap (λ (i : ℕ). get_or (x ∷ xs) i d) (index_cons q x xs n) ∙ rec (let w = index_cons q x xs n in omega arith)

-- ---- where q stands
pub among_left : (q : ℕ) (xs ys : List ℕ) → Among q xs → Among q (xs ++ ys)
among_left q [] ys l = absurd (not-suc-le-zero l)
among_left q (x ∷ xs) ys l = go (ℕ_discrete q x) (among_left q xs ys)
  where
    go : Dec (q ≡ x) → (Among q xs → Among q (xs ++ ys)) → Among q (x ∷ (xs ++ ys))
    go (yes e) rec = let w = index_here q x (xs ++ ys) e in omega arith
    go (no n) rec =
        let w = index_cons q x (xs ++ ys) n in
        let u = index_cons q x xs n in
        let r = rec (omega arith) in
        omega arith

pub among_right : (q : ℕ) (xs ys : List ℕ) → Among q ys → Among q (xs ++ ys)
among_right q [] ys l = l
among_right q (x ∷ xs) ys l = go (ℕ_discrete q x) (among_right q xs ys l)
  where
    go : Dec (q ≡ x) → Among q (xs ++ ys) → Among q (x ∷ (xs ++ ys))
    go (yes e) r = let w = index_here q x (xs ++ ys) e in omega arith
    go (no n) r = let w = index_cons q x (xs ++ ys) n in omega arith

pub among_below : (n q : ℕ) → q < n → Among q (range n)
unfolding tabulate
among_below zero q l = absurd (not-suc-le-zero l)
among_below (suc n) q l = go (ℕ_discrete q n) (among_below n q)
  where
    go : Dec (q ≡ n) → (q < n → Among q (range n)) → Among q (range n ++ (n ∷ []))
    go (yes e) rec = among_right q (range n) (n ∷ []) (let w = index_here q n [] e in omega arith)
    go (no m) rec = among_left q (range n) (n ∷ []) (rec (omega arith))

pub among_filter : (p : ℕ → Bool) (q : ℕ) (xs : List ℕ) → p q ≡ true → Among q xs → Among q (filter p xs)
unfolding filter
among_filter p q [] t l = absurd (not-suc-le-zero l)
among_filter p q (x ∷ xs) t l = go (ℕ_discrete q x) (among_filter p q xs t)
  where
    go : Dec (q ≡ x) → (Among q xs → Among q (filter p xs)) → Among q (cond (p x) (x ∷ filter p xs) (filter p xs))
    go (yes e) rec =
        subst (λ (b : Bool). Among q (cond b (x ∷ filter p xs) (filter p xs))) (sym t ∙ ap p e)
        (let w = index_here q x (filter p xs) e in omega arith)
    go (no n) rec = go' (p x) (rec (let w = index_cons q x xs n in omega arith))
      where
        go' : (b : Bool) → Among q (filter p xs) → Among q (cond b (x ∷ filter p xs) (filter p xs))
        go' true r = let w = index_cons q x (filter p xs) n in omega arith
        go' false r = r
