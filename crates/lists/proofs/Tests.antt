-- Tests: what `all_of`, `any_of`, `filter` and `count_of` say. (A test of two numbers: borrow.Author.Tests.)
use mathlib.Core.Path.{◌≡◌, refl, sym, ap, ap₂, ◌∙◌, subst}
use mathlib.Core.Logic.{ite}
use mathlib.Core.Bool.{Bool, true, false, cond, decide, ◌&&◌, ◌||◌}
use mathlib.Core.List.{List, [], ◌∷◌, ◌++◌}
use Prim.Native.Nat.{ℕ, zero, suc, ◌+◌, ◌≤◌, ◌<◌}
use native.Mathlib.Nat.{not-suc-le-zero, suc-ne-zero}
use native.Mathlib.Decide.{ℕ_discrete}
use native.Mathlib.Omega.{arith}
use lib.Dec.{T, eqb}
use lib.ListN.{length, get_or, length-append}
use borrow.Author.Tests.{eq-eqb, ne_eqb}
use Rattle.lists.specs.Lists.{all_of, any_of, filter, count_of, concat, same_words, All}

-- ---- one test
pub false_true : {C : Type 0} → ◌≡◌ {A = Bool} false true → C
false_true e = absurd (subst T (sym e) tt)

-- both outcomes
pub by_test : {C : Type 0} (t : Bool) → (t ≡ true → C) → (t ≡ false → C) → C
by_test true f g = f refl
by_test false f g = g refl

pub and_left : (a b : Bool) → (a && b) ≡ true → a ≡ true
and_left true b e = refl
and_left false b e = e

pub and_right : (a b : Bool) → (a && b) ≡ true → b ≡ true
and_right true b e = e
and_right false b e = false_true e

pub and_both : (a b : Bool) → a ≡ true → b ≡ true → (a && b) ≡ true
and_both a b p q = ap₂ ◌&&◌ p q

pub eqb_sym : (m n : ℕ) → eqb m n ≡ eqb n m
eqb_sym m n = go (ℕ_discrete m n)
  where
    go : Dec (m ≡ n) → eqb m n ≡ eqb n m
    go (yes e) = eq-eqb m n e ∙ sym (eq-eqb n m (sym e))
    go (no e) = ne_eqb m n e ∙ sym (ne_eqb n m (λ h. e (sym h)))

-- a choice by a test is the choice by what it decides
pub cond_ite : {P C : Type 0} (d : Dec P) (x y : C) → cond (decide d) x y ≡ ite d x y
unfolding decide
cond_ite (yes p) x y = refl
cond_ite (no p) x y = refl

pub cond_eqb : {C : Type 0} (m n : ℕ) (x y : C) → cond (eqb m n) x y ≡ ite (ℕ_discrete m n) x y
cond_eqb {C} m n x y = go (ℕ_discrete m n)
  where
    go : (d : Dec (m ≡ n)) → cond (eqb m n) x y ≡ ite d x y
    go (yes e) = ap (λ (t : Bool). cond t x y) (eq-eqb m n e)
    go (no e) = ap (λ (t : Bool). cond t x y) (ne_eqb m n e)

pub same_words_is : (ws : List ℕ) → same_words ws ws ≡ true
unfolding same_words
same_words_is [] = refl
same_words_is (w ∷ ws) = ap₂ ◌&&◌ (eq-eqb w w refl) (same_words_is ws)

module _ {A : Type 0} (p : A → Bool) where
  -- ---- all
  pub all_true : (xs : List A) → all_of p xs ≡ true → All (λ x. p x ≡ true) xs
  unfolding all_of
  all_true [] e = tt
  all_true (x ∷ xs) e = (and_left (p x) (all_of p xs) e, all_true xs (and_right (p x) (all_of p xs) e))

  pub true_all : (xs : List A) → All (λ x. p x ≡ true) xs → all_of p xs ≡ true
  unfolding all_of
  true_all [] a = refl
  true_all (x ∷ xs) a = ap₂ ◌&&◌ a.0 (true_all xs a.1)

  pub all_each : (d : A) (xs : List A) → all_of p xs ≡ true → (i : ℕ) → i < length xs → p (get_or xs i d) ≡ true
  unfolding all_of
  all_each d [] e i l = absurd (not-suc-le-zero l)
  all_each d (x ∷ xs) e zero l = and_left (p x) (all_of p xs) e
  all_each d (x ∷ xs) e (suc i) l = all_each d xs (and_right (p x) (all_of p xs) e) i (omega arith)

  -- not all: then one does not
  pub all_not : (d : A) (xs : List A) → all_of p xs ≡ false → (i : ℕ) × (i < length xs) × (p (get_or xs i d) ≡ false)
  unfolding all_of
  all_not d [] e = false_true (sym e)
  all_not d (x ∷ xs) e = go (p x) refl e (all_not d xs)
    where
      go : (t : Bool) → p x ≡ t → (t && all_of p xs) ≡ false
          → (all_of p xs ≡ false → (i : ℕ) × (i < length xs) × (p (get_or xs i d) ≡ false))
          → (i : ℕ) × (i < length (x ∷ xs)) × (p (get_or (x ∷ xs) i d) ≡ false)
      go true q e rec = let r = rec e in (suc r.0, (let l = r.1 in omega arith), r.2)
      go false q e rec = (0, omega arith, q)

  pub all_append : (xs ys : List A) → all_of p (xs ++ ys) ≡ (all_of p xs && all_of p ys)
  unfolding all_of
  all_append [] ys = refl
  all_append (x ∷ xs) ys = go (p x) (all_append xs ys)
    where
      go : (t : Bool) → all_of p (xs ++ ys) ≡ (all_of p xs && all_of p ys)
          → (t && all_of p (xs ++ ys)) ≡ ((t && all_of p xs) && all_of p ys)
      go true ih = ih
      go false ih = refl

  -- ---- any
  pub any_at : (d : A) (xs : List A) (i : ℕ) → i < length xs → p (get_or xs i d) ≡ true → any_of p xs ≡ true
  unfolding any_of
  any_at d [] i l e = absurd (not-suc-le-zero l)
  any_at d (x ∷ xs) zero l e = ap (λ (t : Bool). t || any_of p xs) e
  any_at d (x ∷ xs) (suc i) l e = go (p x) (any_at d xs i (omega arith) e)
    where
      go : (t : Bool) → any_of p xs ≡ true → (t || any_of p xs) ≡ true
      go true r = refl
      go false r = r

  pub any_append : (xs ys : List A) → any_of p (xs ++ ys) ≡ (any_of p xs || any_of p ys)
  unfolding any_of
  any_append [] ys = refl
  any_append (x ∷ xs) ys = go (p x) (any_append xs ys)
    where
      go : (t : Bool) → any_of p (xs ++ ys) ≡ (any_of p xs || any_of p ys)
          → (t || any_of p (xs ++ ys)) ≡ ((t || any_of p xs) || any_of p ys)
      go true ih = refl
      go false ih = ih

  pub any_concat : (xss : List (List A)) (j : ℕ) → j < length xss → any_of p (get_or xss j []) ≡ true → any_of p (concat xss) ≡ true
  unfolding concat
  any_concat [] j l e = absurd (not-suc-le-zero l)
  any_concat (xs ∷ xss) zero l e = any_append xs (concat xss) ∙ ap (λ (t : Bool). t || any_of p (concat xss)) e
  any_concat (xs ∷ xss) (suc j) l e =
      any_append xs (concat xss) ∙ ap (λ (t : Bool). any_of p xs || t) (any_concat xss j (omega arith) e) ∙ or_true (any_of p xs)
    where
      or_true : (t : Bool) → (t || true) ≡ true
      or_true true = refl
      or_true false = refl

  -- ---- those
  pub filter_append : (xs ys : List A) → filter p (xs ++ ys) ≡ filter p xs ++ filter p ys
  unfolding filter
  filter_append [] ys = refl
  filter_append (x ∷ xs) ys = go (p x) (filter_append xs ys)
    where
      go : (t : Bool) → filter p (xs ++ ys) ≡ filter p xs ++ filter p ys
          → cond t (x ∷ filter p (xs ++ ys)) (filter p (xs ++ ys)) ≡ cond t (x ∷ filter p xs) (filter p xs) ++ filter p ys
      go true ih = ap (λ (l : List A). x ∷ l) ih
      go false ih = ih

  -- ---- how many
  pub count_append : (xs ys : List A) → count_of p (xs ++ ys) ≡ count_of p xs + count_of p ys
  count_append xs ys = ap length (filter_append xs ys) ∙ length-append (filter p xs) (filter p ys)

  pub count_one : (x : A) → count_of p (x ∷ []) ≡ cond (p x) 1 0
  unfolding filter
  count_one x = go (p x)
    where
      go : (t : Bool) → length (cond t (x ∷ []) []) ≡ cond t 1 0
      go true = refl
      go false = refl

  pub count_cons : (x : A) (xs : List A) → count_of p xs ≤ count_of p (x ∷ xs)
  unfolding filter
  count_cons x xs = go (p x)
    where
      go : (t : Bool) → count_of p xs ≤ length (cond t (x ∷ filter p xs) (filter p xs))
      go true = omega arith
      go false = omega arith

  pub count_none : (xs : List A) → count_of p xs ≡ 0 → All (λ x. p x ≡ false) xs
  unfolding filter
  count_none [] e = tt
  count_none (x ∷ xs) e =
      by_test (p x) (λ t. absurd (suc-ne-zero (length (filter p xs)) (sym (with_test t) ∙ e))) (λ t. (t, count_none xs (sym (with_test t) ∙ e)))
    where
      with_test : {t : Bool} → p x ≡ t → length (cond (p x) (x ∷ filter p xs) (filter p xs)) ≡ length (cond t (x ∷ filter p xs) (filter p xs))
      with_test t = ap (λ (b : Bool). length (cond b (x ∷ filter p xs) (filter p xs))) t
