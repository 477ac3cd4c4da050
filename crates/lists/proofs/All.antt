-- What all of a list have.
use mathlib.Core.Path.{◌≡◌, refl, ap₂}
use mathlib.Core.Bool.{Bool, true, false, cond}
use mathlib.Core.List.{List, [], ◌∷◌, ◌++◌, map}
use Prim.Native.Nat.{ℕ, zero, suc, ◌<◌}
use native.Mathlib.Nat.{not-suc-le-zero}
use native.Mathlib.Omega.{arith}
use lib.ListN.{length, get_or, take, drop}
use Rattle.lists.specs.Lists.{tabulate, filter, concat, split, All}

module _ {A : Type 0} (Q : A → Type 0) where
  -- by index
  pub all_get : (xs : List A) → All Q xs → (i : ℕ) (d : A) → i < length xs → Q (get_or xs i d)
  all_get [] a i d l = absurd (not-suc-le-zero l)
  all_get (x ∷ xs) a zero d l = a.0
  all_get (x ∷ xs) a (suc i) d l = all_get xs a.1 i d (omega arith)

  pub all_from : (xs : List A) (d : A) → ((i : ℕ) → i < length xs → Q (get_or xs i d)) → All Q xs
  all_from [] d h = tt
  all_from (x ∷ xs) d h = (h 0 (omega arith), all_from xs d (λ i l. h (suc i) (omega arith)))

  -- also past the end, where the default has it
  pub all_get_d : (xs : List A) (i : ℕ) (d : A) → Q d → All Q xs → Q (get_or xs i d)
  all_get_d [] i d q a = q
  all_get_d (x ∷ xs) zero d q a = a.0
  all_get_d (x ∷ xs) (suc i) d q a = all_get_d xs i d q a.1

  pub all_join : (xs ys : List A) → All Q xs → All Q ys → All Q (xs ++ ys)
  all_join [] ys p q = q
  all_join (x ∷ xs) ys p q = (p.0, all_join xs ys p.1 q)

  pub all_left : (xs ys : List A) → All Q (xs ++ ys) → All Q xs
  all_left [] ys p = tt
  all_left (x ∷ xs) ys p = (p.0, all_left xs ys p.1)

  pub all_right : (xs ys : List A) → All Q (xs ++ ys) → All Q ys
  all_right [] ys p = p
  all_right (x ∷ xs) ys p = all_right xs ys p.1

  pub all_tabulate : (f : ℕ → A) (n : ℕ) → ((i : ℕ) → i < n → Q (f i)) → All Q (tabulate f n)
  unfolding tabulate
  all_tabulate f zero h = tt
  all_tabulate f (suc n) h =
      all_join (tabulate f n) (f n ∷ []) (all_tabulate f n (λ i l. h i (omega arith))) (h n (omega arith), tt)

  pub all_take : (n : ℕ) (xs : List A) → All Q xs → All Q (take n xs)
  all_take zero xs a = tt
  all_take (suc n) [] a = tt
  all_take (suc n) (x ∷ xs) a = (a.0, all_take n xs a.1)

  pub all_drop : (n : ℕ) (xs : List A) → All Q xs → All Q (drop n xs)
  all_drop zero xs a = a
  all_drop (suc n) [] a = tt
  all_drop (suc n) (x ∷ xs) a = all_drop n xs a.1

  pub all_split : (ns : List ℕ) (xs : List A) → All Q xs → All (All Q) (split ns xs)
  unfolding split
  all_split [] xs a = tt
  all_split (n ∷ ns) xs a = (all_take n xs a, all_split ns (drop n xs) (all_drop n xs a))

  pub all_concat : (xss : List (List A)) → All (All Q) xss → All Q (concat xss)
  unfolding concat
  all_concat [] a = tt
  all_concat (xs ∷ xss) a = all_join xs (concat xss) a.0 (all_concat xss a.1)

  pub all_filter : (p : A → Bool) (xs : List A) → All Q xs → All Q (filter p xs)
  unfolding filter
  all_filter p [] a = tt
  all_filter p (x ∷ xs) a = go (p x) (all_filter p xs a.1)
    where
      go : (t : Bool) → All Q (filter p xs) → All Q (cond t (x ∷ filter p xs) (filter p xs))
      go true r = (a.0, r)
      go false r = r

  -- each, whatever the list
  pub all_any : ((x : A) → Q x) → (xs : List A) → All Q xs
  all_any h [] = tt
  all_any h (x ∷ xs) = (h x, all_any h xs)

module _ {A : Type 0} (Q R : A → Type 0) where
  pub all_weaken : ((x : A) → Q x → R x) → (xs : List A) → All Q xs → All R xs
  all_weaken h [] a = tt
  all_weaken h (x ∷ xs) a = (h x a.0, all_weaken h xs a.1)

  pub all_both : (xs : List A) → All Q xs → All R xs → All (λ x. Q x × R x) xs
  all_both [] p q = tt
  all_both (x ∷ xs) p q = ((p.0, q.0), all_both xs p.1 q.1)

pub all_mapped : {A B : Type 0} (Q : A → Type 0) (R : B → Type 0) (f : A → B) → ((x : A) → Q x → R (f x)) → (xs : List A)
    → All Q xs
    → All R (map f xs)
all_mapped Q R f h [] a = tt
all_mapped Q R f h (x ∷ xs) a = (h x a.0, all_mapped Q R f h xs a.1)

-- whatever the list
pub all_map : {A B : Type 0} (R : B → Type 0) (f : A → B) → ((x : A) → R (f x)) → (xs : List A) → All R (map f xs)
all_map R f h [] = tt
all_map R f h (x ∷ xs) = (h x, all_map R f h xs)

-- two maps that agree on what has a property
pub map_same : {A B : Type 0} (Q : A → Type 0) (f g : A → B) → ((x : A) → Q x → f x ≡ g x) → (xs : List A) → All Q xs
    → map f xs ≡ map g xs
map_same Q f g h [] a = refl
map_same Q f g h (x ∷ xs) a = ap₂ (λ (u : _) (v : List _). u ∷ v) (h x a.0) (map_same Q f g h xs a.1)
