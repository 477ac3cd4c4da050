-- Lists of words compared, whole and part by part.
use mathlib.Core.Path.{◌≡◌, refl, sym, ap, ap₂, ◌∙◌}
use mathlib.Core.Bool.{true, false}
use mathlib.Core.List.{List, [], ◌∷◌, ◌++◌}
use Prim.Native.Nat.{ℕ, ◌+◌, ◌≤◌, ◌<◌}
use native.Mathlib.Numerals.{add-one}
use lib.Dec.{eqb}
use lib.ListN.{length, get_or, take, drop}
use lib.Seq.{take-suc, take_all, take-add}
use borrow.Author.Tests.{eqb-true}
use Rattle.lists.specs.Lists.{same_words}
use Rattle.lists.proofs.Tests.{false_true, by_test, and_left, and_right, same_words_is}

pub words_same : (xs ys : List ℕ) → same_words xs ys ≡ true → xs ≡ ys
unfolding same_words
words_same [] [] e = refl
words_same [] (y ∷ ys) e = false_true e
words_same (x ∷ xs) [] e = false_true e
words_same (x ∷ xs) (y ∷ ys) e =
    ap₂ ◌∷◌ (eqb-true x y (and_left (eqb x y) (same_words xs ys) e)) (words_same xs ys (and_right (eqb x y) (same_words xs ys) e))

pub apart : (xs ys : List ℕ) → same_words xs ys ≡ false → xs ≡ ys → ⊥
apart xs ys f e = false_true (sym f ∙ ap (λ (zs : List ℕ). same_words xs zs) (sym e) ∙ same_words_is xs)

module _ (xs ys : List ℕ) where
  pub same_yes : xs ≡ ys → same_words xs ys ≡ true
  same_yes e = ap (λ (zs : List ℕ). same_words xs zs) (sym e) ∙ same_words_is xs

  pub same_no : (xs ≡ ys → ⊥) → same_words xs ys ≡ false
  same_no n = by_test (same_words xs ys) (λ t. absurd (n (words_same xs ys t))) (λ f. f)

  -- ---- word by word
  pub same_next : (i : ℕ) → i < length xs → i < length ys → take i xs ≡ take i ys → get_or xs i 0 ≡ get_or ys i 0
      → take (i + 1) xs ≡ take (i + 1) ys
  same_next i h l e g =
      ap (λ (n : ℕ). take n xs) (add-one i) ∙ take-suc xs i 0 h ∙ ap₂ (λ (zs : List ℕ) (z : ℕ). zs ++ (z ∷ [])) e g
      ∙ sym (ap (λ (n : ℕ). take n ys) (add-one i) ∙ take-suc ys i 0 l)

  pub same_all : (n : ℕ) → length xs ≤ n → length ys ≤ n → take n xs ≡ take n ys → same_words xs ys ≡ true
  same_all n h l e = same_yes (sym (take_all n xs h) ∙ e ∙ take_all n ys l)

  pub differ_at : (i : ℕ) → (get_or xs i 0 ≡ get_or ys i 0 → ⊥) → same_words xs ys ≡ false
  differ_at i n = same_no (λ e. n (ap (λ (zs : List ℕ). get_or zs i 0) e))

  -- ---- run by run
  pub run_same : (i n : ℕ) → take i xs ≡ take i ys → same_words (take n (drop i xs)) (take n (drop i ys)) ≡ true
      → take (i + n) xs ≡ take (i + n) ys
  run_same i n e t =
      take-add i n xs ∙ ap₂ ◌++◌ e (words_same (take n (drop i xs)) (take n (drop i ys)) t) ∙ sym (take-add i n ys)

  pub run_differs : (i n : ℕ) → same_words (take n (drop i xs)) (take n (drop i ys)) ≡ false → same_words xs ys ≡ false
  run_differs i n f =
      same_no (λ e. apart (take n (drop i xs)) (take n (drop i ys)) f (ap (λ (zs : List ℕ). take n (drop i zs)) e))
