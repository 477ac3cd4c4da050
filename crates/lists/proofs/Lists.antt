-- Entries of lists, and of lists of lists. (Further facts: lib.ListN, lib.Seq.)
use mathlib.Core.Path.{◌≡◌, refl, sym, ap, ◌∙◌}
use mathlib.Core.List.{List, [], ◌∷◌, ◌++◌, map, append_assoc, append-nil}
use Prim.Native.Nat.{ℕ, zero, suc, ◌+◌, ◌*◌, ◌≤◌, ◌<◌}
use native.Mathlib.Nat.{not-suc-le-zero}
use native.Mathlib.Omega.{arith}
use lib.ListN.{length, get_or, drop, length-append, get_or-append, get_or-eq_default}
use lib.Seq.{get_or-append-add}
use Rattle.lists.specs.Lists.{concat, split, total}

module _ {A : Type 0} where
  -- an entry of the first list, and of the second, at a number that is the first's length and i more
  pub get_left : (xs ys : List A) (i : ℕ) (d : A) → i < length xs → get_or (xs ++ ys) i d ≡ get_or xs i d
  get_left xs ys i d l = get_or-append xs ys d i l

  pub get_past : (xs ys : List A) (n i : ℕ) (d : A) → n ≡ length xs + i → get_or (xs ++ ys) n d ≡ get_or ys i d
  get_past xs ys n i d e = ap (λ (m : ℕ). get_or (xs ++ ys) m d) e ∙ get_or-append-add xs ys i d

  pub get_none : (xs : List A) (i : ℕ) (d : A) → length xs ≤ i → get_or xs i d ≡ d
  get_none xs i d l = get_or-eq_default xs d l

  pub get_map : {B : Type 0} (f : A → B) (xs : List A) (i : ℕ) (d : A) (e : B) → i < length xs → get_or (map f xs) i e ≡ f (get_or xs i d)
  get_map f [] i d e l = absurd (not-suc-le-zero l)
  get_map f (x ∷ xs) zero d e l = refl
  get_map f (x ∷ xs) (suc i) d e l = get_map f xs i d e (omega arith)

  -- ---- lists of lists
  pub split_length : (ns : List ℕ) (xs : List A) → length (split ns xs) ≡ length ns
  unfolding split
  split_length [] xs = refl
  split_length (n ∷ ns) xs = ap suc (split_length ns (drop n xs))

  pub concat_append : (xss yss : List (List A)) → concat (xss ++ yss) ≡ concat xss ++ concat yss
  unfolding concat
  concat_append [] yss = refl
  concat_append (xs ∷ xss) yss =
      ap (λ (l : List A). xs ++ l) (concat_append xss yss) ∙ sym (append_assoc xs (concat xss) (concat yss))

  pub concat_end : (xss : List (List A)) (ys : List A) → concat (xss ++ (ys ∷ [])) ≡ concat xss ++ ys
  unfolding concat
  concat_end xss ys = concat_append xss (ys ∷ []) ∙ ap (λ (l : List A). concat xss ++ l) (append-nil ys)

  pub concat_length : (xss : List (List A)) → length (concat xss) ≡ total (map (λ xs. length xs) xss)
  unfolding concat total
  concat_length [] = refl
  concat_length (xs ∷ xss) = length-append xs (concat xss) ∙ ap (λ (n : ℕ). length xs + n) (concat_length xss)

  -- two of each
  pub pairs_length : {B : Type 0} (f h : A → B) (xs : List A) → length (concat (map (λ x. f x ∷ h x ∷ []) xs)) ≡ length xs * 2
  unfolding concat
  pairs_length f h [] = refl
  pairs_length f h (x ∷ xs) = omega (arith, pairs_length f h xs)
