-- Tests and sums of a list, walked by index.
use mathlib.Core.Path.{◌≡◌, refl, sym, ap, ap₂, ◌∙◌}
use mathlib.Core.Bool.{Bool, true, false, ◌&&◌, ◌||◌, and-true, and-false}
use mathlib.Core.List.{List, [], ◌∷◌, map}
use Prim.Native.Nat.{ℕ, zero, suc, ◌+◌, ◌-◌, ◌*◌, ◌≤◌, ◌<◌, min}
use native.Mathlib.Nat.{add-zero, min-eq_left, min-eq_right, mul-le-mul_right, suc-mul}
use native.Mathlib.Numerals.{add-one}
use native.Mathlib.Omega.{arith}
use native.Mathlib.Decide.{dec_lt}
use lib.ListN.{length, get_or, take, drop}
use lib.Dec.{ltb}
use borrow.Author.Tests.{lt-ltb, le-ltb}
use Rattle.lists.specs.Lists.{tabulate, all_of, any_of, total, concat}
use Rattle.lists.proofs.Tests.{and_both, all_append, any_append}
use Rattle.lists.proofs.Columns.{tabulate_of, concat_parts}
use Rattle.lists.proofs.Totals.{total_append}

module _ {A : Type 0} (p : A → Bool) where
  all_one : (x : A) → all_of p (x ∷ []) ≡ p x
  unfolding all_of
  all_one x = and-true (p x)

  -- the first i + 1
  pub all_next : (f : ℕ → A) (i : ℕ) → all_of p (tabulate f (i + 1)) ≡ (all_of p (tabulate f i) && p (f i))
  unfolding tabulate
  all_next f i =
      ap (λ (n : ℕ). all_of p (tabulate f n)) (add-one i) ∙ all_append p (tabulate f i) (f i ∷ [])
      ∙ ap (λ (b : Bool). all_of p (tabulate f i) && b) (all_one (f i))

  pub all_more : (f : ℕ → A) (i : ℕ) → all_of p (tabulate f i) ≡ true → p (f i) ≡ true → all_of p (tabulate f (i + 1)) ≡ true
  all_more f i h e = all_next f i ∙ and_both (all_of p (tabulate f i)) (p (f i)) h e

  -- one that does not hold
  pub all_fails : (f : ℕ → A) (n i : ℕ) → i < n → p (f i) ≡ false → all_of p (tabulate f n) ≡ false
  all_fails f zero i l e = absurd (omega arith)
  all_fails f (suc n) i l e = go (dec_lt i n) (λ m. all_fails f n i m e)
    where
      go : Dec (i < n) → (i < n → all_of p (tabulate f n) ≡ false) → all_of p (tabulate f (suc n)) ≡ false
      go (yes m) r = ap (λ (m : ℕ). all_of p (tabulate f m)) (sym (add-one n)) ∙ all_next f n ∙ ap (λ (b : Bool). b && p (f n)) (r m)
      go (no m) r =
          let q : i ≡ n = omega arith in
          ap (λ (m : ℕ). all_of p (tabulate f m)) (sym (add-one n)) ∙ all_next f n
          ∙ ap (λ (b : Bool). all_of p (tabulate f n) && b) (ap (λ (j : ℕ). p (f j)) (sym q) ∙ e)
          ∙ and-false (all_of p (tabulate f n))

  -- a list by its places
  pub all_places : (xs : List A) (d : A) → all_of p xs ≡ all_of p (tabulate (λ i. get_or xs i d) (length xs))
  all_places xs d = ap (all_of p) (sym (tabulate_of xs d))

  pub all_concat : (xss : List (List A)) → all_of (all_of p) xss ≡ all_of p (concat xss)
  unfolding all_of concat
  all_concat [] = refl
  all_concat (xs ∷ xss) = ap (λ (b : Bool). all_of p xs && b) (all_concat xss) ∙ sym (all_append p xs (concat xss))

  pub any_lists : (xss : List (List A)) → any_of (any_of p) xss ≡ any_of p (concat xss)
  unfolding any_of concat
  any_lists [] = refl
  any_lists (xs ∷ xss) = ap (λ (b : Bool). any_of p xs || b) (any_lists xss) ∙ sym (any_append p xs (concat xss))

  -- parts of s words each, all together
  pub all_parts : (s : ℕ) (xs : List A) (n : ℕ) → all_of (all_of p) (tabulate (λ i. take s (drop (i * s) xs)) n) ≡ all_of p (take (n * s) xs)
  all_parts s xs n = all_concat (tabulate (λ i. take s (drop (i * s) xs)) n) ∙ ap (all_of p) (concat_parts s xs n)

pub all_map : {A B : Type 0} (p : B → Bool) (f : A → B) (xs : List A) → all_of p (map f xs) ≡ all_of (λ x. p (f x)) xs
unfolding all_of
all_map p f [] = refl
all_map p f (x ∷ xs) = ap (λ (b : Bool). p (f x) && b) (all_map p f xs)

pub any_map : {A B : Type 0} (p : B → Bool) (f : A → B) (xs : List A) → any_of p (map f xs) ≡ any_of (λ x. p (f x)) xs
unfolding any_of
any_map p f [] = refl
any_map p f (x ∷ xs) = ap (λ (b : Bool). p (f x) || b) (any_map p f xs)

pub all_same : {A : Type 0} (p q : A → Bool) → ((x : A) → p x ≡ q x) → (xs : List A) → all_of p xs ≡ all_of q xs
unfolding all_of
all_same p q h [] = refl
all_same p q h (x ∷ xs) = ap₂ ◌&&◌ (h x) (all_same p q h xs)

-- the sum of the first i + 1
pub total_next : (f : ℕ → ℕ) (i : ℕ) → total (tabulate f (i + 1)) ≡ total (tabulate f i) + f i
unfolding tabulate total
total_next f i =
    ap (λ (n : ℕ). total (tabulate f n)) (add-one i) ∙ total_append (tabulate f i) (f i ∷ [])
    ∙ ap (λ (n : ℕ). total (tabulate f i) + n) (add-zero (f i))

pub total_grows : (f : ℕ → ℕ) (i n : ℕ) → i ≤ n → total (tabulate f i) ≤ total (tabulate f n)
total_grows f i zero l =
    let q : i ≡ 0 = omega arith in
    let r : total (tabulate f i) ≡ total (tabulate f 0) = ap (λ (m : ℕ). total (tabulate f m)) q in
    omega arith
total_grows f i (suc n) l = go (dec_lt n i) (λ m. total_grows f i n m)
  where
    one : total (tabulate f (suc n)) ≡ total (tabulate f n) + f n
    one = ap (λ (m : ℕ). total (tabulate f m)) (sym (add-one n)) ∙ total_next f n

    go : Dec (n < i) → (i ≤ n → total (tabulate f i) ≤ total (tabulate f n)) → total (tabulate f i) ≤ total (tabulate f (suc n))
    go (yes m) r =
        let q : i ≡ suc n = omega arith in
        let e : total (tabulate f i) ≡ total (tabulate f (suc n)) = ap (λ (m : ℕ). total (tabulate f m)) q in
        omega arith
    go (no m) r = let q = r (omega arith) in omega (arith, one)

-- a walk through n places: the first i hold
pub record Walked {A : Type 0} (p : A → Bool) (f : ℕ → A) (n i : ℕ) : Type 0 where
  pub upto : i ≤ n
  pub hold : all_of p (tabulate f i) ≡ true

module _ {A : Type 0} (p : A → Bool) (f : ℕ → A) where
  pub walk_none : (n : ℕ) → Walked p f n 0
  unfolding all_of tabulate
  walk_none n = record { upto = omega arith; hold = refl }

  module _ (n i : ℕ) (w : Walked p f n i) where
    pub walk_more : i < n → p (f i) ≡ true → Walked p f n (i + 1)
    walk_more l e = record { upto = omega arith; hold = all_more p f i w.hold e }

    pub walk_done : n ≤ i → true ≡ all_of p (tabulate f n)
    walk_done l = let q : i ≡ n = let u = w.upto in omega arith in sym w.hold ∙ ap (λ (m : ℕ). all_of p (tabulate f m)) q

  pub walk_fails : (n i : ℕ) → i < n → p (f i) ≡ false → false ≡ all_of p (tabulate f n)
  walk_fails n i l e = sym (all_fails p f n i l e)

-- the same over a list
module _ {A : Type 0} (p : A → Bool) (xs : List A) (d : A) (i : ℕ) where
  pub list_done : Walked p (λ i. get_or xs i d) (length xs) i → length xs ≤ i → true ≡ all_of p xs
  list_done w l = walk_done p (λ i. get_or xs i d) (length xs) i w l ∙ sym (all_places p xs d)

  pub list_fails : i < length xs → p (get_or xs i d) ≡ false → false ≡ all_of p xs
  list_fails l e = walk_fails p (λ i. get_or xs i d) (length xs) i l e ∙ sym (all_places p xs d)

-- a sum of n places, not past a limit: that of the first i
pub record Summed (f : ℕ → ℕ) (n limit sum i : ℕ) : Type 0 where
  pub upto : i ≤ n
  pub sum_is : sum ≡ total (tabulate f i)
  pub low : sum ≤ limit

module _ (f : ℕ → ℕ) (n limit : ℕ) where
  pub sum_none : Summed f n limit 0 0
  unfolding total tabulate
  sum_none = record { upto = omega arith; sum_is = refl; low = omega arith }

  module _ (sum i : ℕ) (s : Summed f n limit sum i) where
    pub sum_more : i < n → f i ≤ limit - sum → Summed f n limit (sum + f i) (i + 1)
    sum_more l h =
        record {
          upto = omega arith;
          sum_is = ap (λ (m : ℕ). m + f i) s.sum_is ∙ sym (total_next f i);
          low = let w = s.low in omega arith;
        }

    pub sum_past : i < n → limit - sum < f i → limit ≡ min (total (tabulate f n)) limit
    sum_past l h =
        let g : total (tabulate f (i + 1)) ≤ total (tabulate f n) = total_grows f (i + 1) n (omega arith) in
        let e = total_next f i in
        let w = s.low in
        let q = s.sum_is in
        sym (min-eq_right (omega arith))

    pub sum_done : n ≤ i → sum ≡ min (total (tabulate f n)) limit
    sum_done l =
        let q : i ≡ n = let u = s.upto in omega arith in
        let e : sum ≡ total (tabulate f n) = s.sum_is ∙ ap (λ (m : ℕ). total (tabulate f m)) q in
        let w = s.low in
        e ∙ sym (min-eq_left (omega arith))

-- word j of entry i of n
pub entry_inside : (i n j size len : ℕ) → i < n → j < size → n * size ≤ len → i * size + j < len
entry_inside i n j size len h k l =
    let m : suc i * size ≤ n * size = mul-le-mul_right size (omega arith) in
    omega (arith, suc-mul i size)

-- above 0 or not
pub is_nought : (w : ℕ) → w ≡ 0 → ltb 0 w ≡ false
is_nought w e = le-ltb 0 w (omega arith)

pub not_nought : (w : ℕ) → (w ≡ 0 → ⊥) → ltb 0 w ≡ true
not_nought w h = lt-ltb 0 w (omega arith)
