-- How many of a column pass a test, and that each is there once exactly when none is among those before it.
use mathlib.Core.Path.{◌≡◌, refl, sym, ap, ◌∙◌}
use mathlib.Core.Bool.{Bool, true, false, cond, not, ◌&&◌}
use mathlib.Core.List.{List, [], ◌∷◌}
use Prim.Native.Nat.{ℕ, zero, suc, ◌+◌, ◌≤◌, ◌<◌}
use native.Mathlib.Nat.{not-suc-le-zero}
use native.Mathlib.Decide.{dec_lt}
use native.Mathlib.Omega.{arith}
use lib.Dec.{eqb}
use borrow.Author.Tests.{eqb-true, eq-eqb, not-true}
use Rattle.lists.specs.Lists.{tabulate, range, all_of, filter, count_of}
use Rattle.lists.proofs.Tests.{by_test, and_left, and_right, and_both, all_each, true_all, count_append, count_one}
use Rattle.lists.proofs.All.{all_tabulate}
use Rattle.lists.proofs.Columns.{tabulate_suc, tabulate_length, get_tabulate, below_length, below_get}

pub same_tests : (a b : Bool) → (a ≡ true → b ≡ true) → (b ≡ true → a ≡ true) → a ≡ b
same_tests true true f g = refl
same_tests true false f g = sym (f refl)
same_tests false true f g = g refl
same_tests false false f g = refl

module _ {A : Type 0} (p : A → Bool) (f : ℕ → A) where
  pub count_next : (n : ℕ) → count_of p (tabulate f (suc n)) ≡ count_of p (tabulate f n) + cond (p (f n)) 1 0
  count_next n =
      ap (λ (xs : List A). count_of p xs) (tabulate_suc f n) ∙ count_append p (tabulate f n) (f n ∷ [])
      ∙ ap (λ (k : ℕ). count_of p (tabulate f n) + k) (count_one p (f n))

  count_fails : (n : ℕ) → p (f n) ≡ false → count_of p (tabulate f (suc n)) ≡ count_of p (tabulate f n)
  count_fails n e =
      let q = count_next n in
      let r : ◌≡◌ {A = ℕ} (cond (p (f n)) 1 0) 0 = ap (λ (t : Bool). cond {A = ℕ} t 1 0) e in
      omega arith

  count_passes : (n : ℕ) → p (f n) ≡ true → count_of p (tabulate f (suc n)) ≡ count_of p (tabulate f n) + 1
  count_passes n e =
      let q = count_next n in
      let r : ◌≡◌ {A = ℕ} (cond (p (f n)) 1 0) 1 = ap (λ (t : Bool). cond {A = ℕ} t 1 0) e in
      omega arith

  count_grows : (n : ℕ) → count_of p (tabulate f n) ≤ count_of p (tabulate f (suc n))
  count_grows n = let q = count_next n in omega arith

  pub count_no : (n : ℕ) → ((i : ℕ) → i < n → p (f i) ≡ false) → count_of p (tabulate f n) ≡ 0
  unfolding tabulate filter
  count_no zero h = refl
  count_no (suc n) h = count_fails n (h n (omega arith)) ∙ count_no n (λ i l. h i (omega arith))

  pub count_some : (n i : ℕ) → i < n → p (f i) ≡ true → 1 ≤ count_of p (tabulate f n)
  count_some zero i l e = absurd (not-suc-le-zero l)
  count_some (suc n) i l e = go (dec_lt i n) (count_some n i)
    where
      go : Dec (i < n) → (i < n → p (f i) ≡ true → 1 ≤ count_of p (tabulate f n)) → 1 ≤ count_of p (tabulate f (suc n))
      go (yes m) rec = let q = rec m e in let r = count_grows n in omega arith
      go (no m) rec =
          let s : i ≡ n = omega arith in
          let q = count_passes n (ap (λ (j : ℕ). p (f j)) (sym s) ∙ e) in
          omega arith

  pub count_two : (n i j : ℕ) → i < j → j < n → p (f i) ≡ true → p (f j) ≡ true → 2 ≤ count_of p (tabulate f n)
  count_two zero i j k l d e = absurd (not-suc-le-zero l)
  count_two (suc n) i j k l d e = go (dec_lt j n) (count_two n i j k)
    where
      go : Dec (j < n) → (j < n → p (f i) ≡ true → p (f j) ≡ true → 2 ≤ count_of p (tabulate f n)) → 2 ≤ count_of p (tabulate f (suc n))
      go (yes m) rec = let q = rec m d e in let r = count_grows n in omega arith
      go (no m) rec =
          let s : j ≡ n = omega arith in
          let q = count_passes n (ap (λ (t : ℕ). p (f t)) (sym s) ∙ e) in
          let r = count_some n i (omega arith) d in
          omega arith

  pub count_single : (n i : ℕ) → i < n → p (f i) ≡ true → ((j : ℕ) → j < n → (j ≡ i → ⊥) → p (f j) ≡ false)
      → count_of p (tabulate f n) ≡ 1
  count_single zero i l e h = absurd (not-suc-le-zero l)
  count_single (suc n) i l e h = go (dec_lt i n) (count_single n i)
    where
      go : Dec (i < n) → (i < n → p (f i) ≡ true → ((j : ℕ) → j < n → (j ≡ i → ⊥) → p (f j) ≡ false) → count_of p (tabulate f n) ≡ 1)
          → count_of p (tabulate f (suc n)) ≡ 1
      go (yes m) rec =
          count_fails n (h n (omega arith) (λ s. omega arith)) ∙ rec m e (λ j k ne. h j (omega arith) ne)
      go (no m) rec =
          let s : i ≡ n = omega arith in
          let q = count_passes n (ap (λ (t : ℕ). p (f t)) (sym s) ∙ e) in
          let r = count_no n (λ j k. h j (omega arith) (λ z. omega arith)) in
          omega arith

-- ---- each once
module _ {A : Type 0} (same : A → A → Bool) (self : (x : A) → same x x ≡ true) (both : (x y : A) → same x y ≡ same y x) where
  -- none of these
  abbrev pub new : A → List A → Bool
  new x xs = all_of (λ y. not (same x y)) xs

  module _ (q : A → Bool) (f : ℕ → A) (n : ℕ) where
    abbrev pub by_turns : ℕ → Bool
    by_turns i = q (f i) && new (f i) (tabulate f i)

    abbrev pub all_once : A → Bool
    all_once x = q x && eqb (count_of (same x) (tabulate f n)) 1

    apart : (i j : ℕ) → j < i → by_turns i ≡ true → same (f i) (f j) ≡ false
    apart i j l e =
        not-true (same (f i) (f j))
        (ap (λ (x : A). not (same (f i) x)) (sym (get_tabulate f i j (f j) l))
        ∙ all_each (λ y. not (same (f i) y)) (f j) (tabulate f i) (and_right (q (f i)) (new (f i) (tabulate f i)) e) j
        (let r = tabulate_length f i in omega arith))

    turn_at : all_of by_turns (range n) ≡ true → (i : ℕ) → i < n → by_turns i ≡ true
    turn_at e i l =
        ap by_turns (sym (below_get n i 0 l)) ∙ all_each by_turns 0 (range n) e i (let r = below_length n in omega arith)

    once_at : all_of by_turns (range n) ≡ true → (i : ℕ) → i < n → all_once (f i) ≡ true
    once_at e i l =
        and_both (q (f i)) (eqb (count_of (same (f i)) (tabulate f n)) 1) (and_left (q (f i)) (new (f i) (tabulate f i)) (turn_at e i l))
        (eq-eqb (count_of (same (f i)) (tabulate f n)) 1 (count_single (same (f i)) f n i l (self (f i)) others))
      where
        others : (j : ℕ) → j < n → (j ≡ i → ⊥) → same (f i) (f j) ≡ false
        others j m ne = go (dec_lt j i)
          where
            go : Dec (j < i) → same (f i) (f j) ≡ false
            go (yes k) = apart i j k (turn_at e i l)
            go (no k) = both (f i) (f j) ∙ apart j i (omega arith) (turn_at e j m)

    back_at : all_of all_once (tabulate f n) ≡ true → (i : ℕ) → i < n → by_turns i ≡ true
    back_at e i l = and_both (q (f i)) (new (f i) (tabulate f i)) (and_left (q (f i)) once here) (true_all (λ y. not (same (f i) y)) (tabulate f i) (all_tabulate (λ y. not (same (f i) y) ≡ true) f i unlike))
      where
        once : Bool
        once = eqb (count_of (same (f i)) (tabulate f n)) 1

        here : all_once (f i) ≡ true
        here = ap all_once (sym (get_tabulate f n i (f i) l)) ∙ all_each all_once (f i) (tabulate f n) e i (let r = tabulate_length f n in omega arith)

        unlike : (j : ℕ) → j < i → not (same (f i) (f j)) ≡ true
        unlike j k =
            by_test (same (f i) (f j))
            (λ t.
            let two = count_two (same (f i)) f n j i k l t (self (f i)) in
            let one = eqb-true (count_of (same (f i)) (tabulate f n)) 1 (and_right (q (f i)) once here) in
            absurd (omega arith))
            (λ t. ap not t)

    pub once_by_turns : all_of by_turns (range n) ≡ all_of all_once (tabulate f n)
    once_by_turns =
        same_tests (all_of by_turns (range n)) (all_of all_once (tabulate f n))
        (λ e. true_all all_once (tabulate f n) (all_tabulate (λ x. all_once x ≡ true) f n (once_at e)))
        (λ e. true_all by_turns (range n) (all_tabulate (λ i. by_turns i ≡ true) (λ i. i) n (back_at e)))
