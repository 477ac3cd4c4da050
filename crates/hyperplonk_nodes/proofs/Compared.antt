-- A run of lent words, compared with the composed words in a window.
use mathlib.Core.Path.{◌≡◌, refl, sym, ap, ◌∙◌}
use mathlib.Core.Bool.{Bool, true, ◌&&◌}
use mathlib.Core.List.{List, [], ◌∷◌}
use Prim.Native.Nat.{ℕ, ◌+◌, ◌-◌, ◌*◌, ◌≤◌, min}
use native.Mathlib.Omega.{arith}
use native.Mathlib.Decide.{dec_le}
use lib.Dec.{eqb}
use lib.ListN.{length, take, drop}
use lib.Pointwise.{pointwise}
use lib.Seq.{take_all}
use Rattle.lists.specs.Lists.{same_words}
use Rattle.lists.proofs.Same.{run_same}
use Rattle.backend.specs.Circuit.{Circuit}
use Rattle.preprocessor.specs.Compose.{composed_words, composed_nodes}
use Rattle.preprocessor.specs.ComposeWords.{Composed}
use Rattle.preprocessor.proofs.Composed.{composed_part}

-- what `==` says of two slices
words_compared : (xs ys : List ℕ) → pointwise eqb xs ys ≡ same_words xs ys
unfolding same_words
words_compared [] [] = refl
words_compared [] (y ∷ ys) = refl
words_compared (x ∷ xs) [] = refl
words_compared (x ∷ xs) (y ∷ ys) = ap (λ (t : Bool). eqb x y && t) (words_compared xs ys)

pub compared : (r : Bool) (xs : List ℕ) (n : ℕ) {from : ℕ} {c : Circuit} {d d1 : List ℕ} {next : ℕ} → n ≤ length d
    → from + n ≤ composed_nodes c * 4
    → Composed from c d d1 next
    → r ≡ pointwise eqb xs (take n d1)
    → r ≡ same_words xs (take n (drop from (composed_words c)))
compared r xs n {from} {c} {d} {d1} h l w e =
    e ∙ words_compared xs (take n d1) ∙ ap (same_words xs) (composed_part n h l w)

-- the words up to the window's end, or all words where the window reaches further
pub up_to : (xs ys : List ℕ) (i e next : ℕ) → length xs ≡ length ys → e ≡ min (length xs) next → i ≤ e → take i xs ≡ take i ys
    → same_words (take (e - i) (drop i xs)) (take (e - i) (drop i ys)) ≡ true
    → take next xs ≡ take next ys
up_to xs ys i e next l m h p t = go (dec_le next (length xs))
  where
    same : take e xs ≡ take e ys
    same =
        let z : e ≡ i + (e - i) = omega arith in
        ap (λ (n : ℕ). take n xs) z ∙ run_same xs ys i (e - i) p t ∙ ap (λ (n : ℕ). take n ys) (sym z)

    go : Dec (next ≤ length xs) → take next xs ≡ take next ys
    go (yes a) = let z : next ≡ e = omega arith in rw z same
    go (no a) =
        take_all next xs (omega arith) ∙ sym (take_all e xs (omega arith)) ∙ same
        ∙ take_all e ys (omega arith)
        ∙ sym (take_all next ys (omega arith))
