-- What `any_of` says: there is one.
use mathlib.Core.Path.{◌≡◌, refl, sym, ap, ◌∙◌}
use mathlib.Core.Logic.{◌⊎◌, inl, inr}
use mathlib.Core.Bool.{Bool, true, false, ◌||◌}
use mathlib.Core.List.{List, [], ◌∷◌}
use Prim.Native.Nat.{ℕ, suc, ◌<◌}
use native.Mathlib.Omega.{arith}
use lib.ListN.{length, get_or}
use Rattle.lists.specs.Lists.{tabulate, any_of, All}
use Rattle.lists.proofs.Tests.{false_true}
use Rattle.lists.proofs.Columns.{tabulate_length, get_tabulate}

pub or_cases : (a b : Bool) → (a || b) ≡ true → (a ≡ true) ⊎ (b ≡ true)
or_cases true b e = inl refl
or_cases false b e = inr e

module _ {A : Type 0} (p : A → Bool) where
  pub some_at : (d : A) (xs : List A) → any_of p xs ≡ true → (i : ℕ) × (i < length xs) × (p (get_or xs i d) ≡ true)
  unfolding any_of
  some_at d [] e = false_true e
  some_at d (x ∷ xs) e = go (p x) refl e (some_at d xs)
    where
      go : (t : Bool) → p x ≡ t → (t || any_of p xs) ≡ true
          → (any_of p xs ≡ true → (i : ℕ) × (i < length xs) × (p (get_or xs i d) ≡ true))
          → (i : ℕ) × (i < length (x ∷ xs)) × (p (get_or (x ∷ xs) i d) ≡ true)
      go true q e rec = (0, omega arith, q)
      go false q e rec = let r = rec e in (suc r.0, (let l = r.1 in omega arith), r.2)

  pub some_tabulate : (f : ℕ → A) (n : ℕ) → any_of p (tabulate f n) ≡ true → (i : ℕ) × (i < n) × (p (f i) ≡ true)
  some_tabulate f n e =
      let r = some_at (f 0) (tabulate f n) e in
      let l : r.0 < n = (let a = r.1 in let b = tabulate_length f n in omega arith) in
      (r.0, l, sym (ap p (get_tabulate f n r.0 (f 0) l)) ∙ r.2)

  pub none_all : (xs : List A) → any_of p xs ≡ false → All (λ x. p x ≡ false) xs
  unfolding any_of
  none_all [] e = tt
  none_all (x ∷ xs) e = go (p x) refl e (none_all xs)
    where
      go : (t : Bool) → p x ≡ t → (t || any_of p xs) ≡ false → (any_of p xs ≡ false → All (λ x. p x ≡ false) xs)
          → All (λ x. p x ≡ false) (x ∷ xs)
      go true q e rec = false_true (sym e)
      go false q e rec = (q, rec e)
