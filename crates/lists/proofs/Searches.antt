-- Counts and searches by index: one entry more, and the end. (For one that fails: Walks.)
use mathlib.Core.Path.{◌≡◌, refl, sym, ap, ap₂, ◌∙◌}
use mathlib.Core.Bool.{Bool, true, false, cond, ◌||◌, or-false}
use mathlib.Core.List.{List, [], ◌∷◌, map}
use Prim.Native.Nat.{ℕ, suc, ◌+◌, ◌-◌, ◌≤◌, ◌<◌}
use native.Mathlib.Numerals.{add-one}
use native.Mathlib.Omega.{arith}
use lib.ListN.{length, get_or, take, drop}
use lib.Seq.{take-suc, drop-cons, take_at, drop_at, drop-drop}
use Rattle.lists.specs.Lists.{tabulate, any_of, filter, count_of, concat, total, split}
use Rattle.lists.proofs.Tests.{any_append, any_at, count_append, count_one}
use Rattle.lists.proofs.Lists.{concat_end}
use Rattle.lists.proofs.Columns.{tabulate_length, tabulate_suc, tabulate_append, get_tabulate}

module _ {A : Type 0} (p : A → Bool) where
  pub count_more : (d : A) (xs : List A) (i : ℕ) → i < length xs → count_of p (take (i + 1) xs) ≡ count_of p (take i xs) + cond (p (get_or xs i d)) 1 0
  count_more d xs i l =
      ap (λ (n : ℕ). count_of p (take n xs)) (add-one i) ∙ ap (λ (ys : List A). count_of p ys) (take-suc xs i d l)
      ∙ count_append p (take i xs) (get_or xs i d ∷ [])
      ∙ ap (λ (n : ℕ). count_of p (take i xs) + n) (count_one p (get_or xs i d))

  pub any_next : (f : ℕ → A) (n : ℕ) → any_of p (tabulate f (n + 1)) ≡ (any_of p (tabulate f n) || p (f n))
  unfolding any_of
  any_next f n =
      ap (λ (m : ℕ). any_of p (tabulate f m)) (add-one n) ∙ ap (any_of p) (tabulate_suc f n) ∙ any_append p (tabulate f n) (f n ∷ [])
      ∙ ap (λ (t : Bool). any_of p (tabulate f n) || t) (or-false (p (f n)))

  -- a search for one that passes
  pub any_on : (f : ℕ → A) (n : ℕ) → p (f n) ≡ false → any_of p (tabulate f n) ≡ false → any_of p (tabulate f (n + 1)) ≡ false
  any_on f n e h = any_next f n ∙ ap₂ ◌||◌ h e

  pub any_stop : (f : ℕ → A) (n i : ℕ) → p (f i) ≡ true → i < n → true ≡ any_of p (tabulate f n)
  any_stop f n i e l =
      sym (any_at p (f i) (tabulate f n) i (let q = tabulate_length f n in omega arith) (ap p (get_tabulate f n i (f i) l) ∙ e))

  pub any_end : (f : ℕ → A) (n i : ℕ) → i ≤ n → n ≤ i → any_of p (tabulate f i) ≡ false → false ≡ any_of p (tabulate f n)
  any_end f n i l m h = sym h ∙ ap (λ (j : ℕ). any_of p (tabulate f j)) (let e : i ≡ n = omega arith in e)

  -- a column of lists, joined
  pub count_joined : (f : ℕ → List A) (n : ℕ) → count_of p (concat (tabulate f (n + 1))) ≡ count_of p (concat (tabulate f n)) + count_of p (f n)
  count_joined f n =
      ap (λ (m : ℕ). count_of p (concat (tabulate f m))) (add-one n)
      ∙ ap (λ (xss : List (List A)). count_of p (concat xss)) (tabulate_suc f n)
      ∙ ap (λ (xs : List A). count_of p xs) (concat_end (tabulate f n) (f n))
      ∙ count_append p (concat (tabulate f n)) (f n)

  pub count_le : (xs : List A) → count_of p xs ≤ length xs
  unfolding filter
  count_le [] = omega arith
  count_le (x ∷ xs) = go (p x) (count_le xs)
    where
      go : (t : Bool) → count_of p xs ≤ length xs → length (cond t (x ∷ filter p xs) (filter p xs)) ≤ suc (length xs)
      go true l = omega arith
      go false l = omega arith

pub count_map : {A B : Type 0} (p : B → Bool) (f : A → B) (xs : List A) → count_of p (map f xs) ≡ count_of (λ x. p (f x)) xs
unfolding filter
count_map p f [] = refl
count_map p f (x ∷ xs) = go (p (f x)) (count_map p f xs)
  where
    go : (t : Bool) → count_of p (map f xs) ≡ count_of (λ x. p (f x)) xs
        → length (cond t (f x ∷ filter p (map f xs)) (filter p (map f xs))) ≡ length (cond t (x ∷ filter (λ y. p (f y)) xs) (filter (λ y. p (f y)) xs))
    go true e = ap suc e
    go false e = e

-- a part of a column
pub tabulate_part : {A : Type 0} (f : ℕ → A) (n s m : ℕ) → s + m ≤ n → take m (drop s (tabulate f n)) ≡ tabulate (λ i. f (s + i)) m
tabulate_part {A = A} f n s m l =
    let r : ℕ = n - (s + m) in
    let g : ℕ → A = λ i. f (s + i) in
    let e : n ≡ s + (m + r) = omega arith in
    ap (λ (k : ℕ). take m (drop s (tabulate f k))) e
    ∙ ap (λ (xs : List A). take m (drop s xs)) (tabulate_append f s (m + r))
    ∙ ap (take m) (drop_at (tabulate f s) (tabulate g (m + r)) s (tabulate_length f s))
    ∙ ap (take m) (tabulate_append g m r)
    ∙ take_at (tabulate g m) (tabulate (λ i. g (m + i)) r) m (tabulate_length g m)

-- the parts of a list, one after another
pub total_drop : (ns : List ℕ) (i : ℕ) → i < length ns → total (drop i ns) ≡ get_or ns i 0 + total (drop (i + 1) ns)
unfolding total
total_drop ns i l = ap total (drop-cons ns i 0 l) ∙ ap (λ (j : ℕ). get_or ns i 0 + total (drop j ns)) (sym (add-one i))

pub split_drop : {A : Type 0} (ns : List ℕ) (xs : List A) (s i : ℕ) → i < length ns
    → split (drop i ns) (drop s xs) ≡ take (get_or ns i 0) (drop s xs) ∷ split (drop (i + 1) ns) (drop (s + get_or ns i 0) xs)
unfolding split
split_drop {A = A} ns xs s i l =
    ap (λ (ms : List ℕ). split ms (drop s xs)) (drop-cons ns i 0 l)
    ∙ ap (λ (yss : List (List A)). take (get_or ns i 0) (drop s xs) ∷ yss)
    (ap₂ (λ (j : ℕ) (ys : List A). split (drop j ns) ys) (sym (add-one i)) (drop-drop (get_or ns i 0) s xs))
