-- Lists by rising number: each number stands once.
use mathlib.Core.Path.{◌≡◌, refl, ap, ◌∙◌}
use mathlib.Core.Bool.{Bool, true, false, cond}
use mathlib.Core.List.{List, [], ◌∷◌, ◌++◌}
use Prim.Native.Nat.{ℕ, zero, suc, ◌<◌}
use native.Mathlib.Nat.{not-suc-le-zero}
use native.Mathlib.Omega.{arith}
use lib.ListN.{length, get_or}
use Rattle.lists.specs.Lists.{tabulate, range, filter, index_of, All}
use Rattle.lists.proofs.All.{all_get, all_join, all_filter, all_tabulate}
use Rattle.lists.proofs.Places.{index_here, index_cons}

-- each is less than those after it
abbrev pub Rising : List ℕ → Type 0
Rising [] = Unit {0}
Rising (x ∷ xs) = All (λ y. x < y) xs × Rising xs

pub rising_end : (xs : List ℕ) (n : ℕ) → Rising xs → All (λ x. x < n) xs → Rising (xs ++ (n ∷ []))
rising_end [] n r a = (tt, tt)
rising_end (x ∷ xs) n r a = (all_join (λ y. x < y) xs (n ∷ []) r.0 (a.0, tt), rising_end xs n r.1 a.1)

pub rising_below : (n : ℕ) → Rising (range n)
unfolding tabulate
rising_below zero = tt
rising_below (suc n) = rising_end (range n) n (rising_below n) (all_tabulate (λ x. x < n) (λ i. i) n (λ i l. l))

pub rising_filter : (p : ℕ → Bool) (xs : List ℕ) → Rising xs → Rising (filter p xs)
unfolding filter
rising_filter p [] r = tt
rising_filter p (x ∷ xs) r = go (p x) (rising_filter p xs r.1)
  where
    go : (t : Bool) → Rising (filter p xs) → Rising (cond t (x ∷ filter p xs) (filter p xs))
    go true h = (all_filter (λ y. x < y) p xs r.0, h)
    go false h = h

-- the place of what stands at place i is i
pub rising_index : (xs : List ℕ) (i : ℕ) → Rising xs → i < length xs → index_of (get_or xs i 0) xs ≡ i
rising_index [] i r l = absurd (not-suc-le-zero l)
rising_index (x ∷ xs) zero r l = index_here x x xs refl
rising_index (x ∷ xs) (suc i) r l =
    index_cons (get_or xs i 0) x xs (apart (all_get (λ y. x < y) xs r.0 i 0 (omega arith))) ∙ ap suc (rising_index xs i r.1 (omega arith))
  where
    apart : {y : ℕ} → x < y → y ≡ x → ⊥
    apart h e = omega arith
