-- Questions in order: what `first_no` says.
use mathlib.Core.Path.{◌≡◌, refl, sym, ap, ◌∙◌}
use mathlib.Core.Bool.{Bool, true, false, cond}
use mathlib.Core.List.{List, [], ◌∷◌, ◌++◌, map}
use Prim.Native.Nat.{ℕ, zero, suc, ◌<◌}
use native.Mathlib.Nat.{suc-ne-zero}
use native.Mathlib.Omega.{arith}
use Rattle.lists.specs.Lists.{Question, question_of, first_no, All}

-- no question has the number 0, which says that all are yes
abbrev pub Numbered : {A : Type 0} → Question A → Type 0
Numbered q = 0 < q.number

pub first_none : {A : Type 0} (x : A) → first_no [] x ≡ 0
unfolding first_no
first_none x = refl

module _ {A : Type 0} (q : Question A) (qs : List (Question A)) (x : A) where
  -- a yes: the questions after it
  pub first_next : q.test x ≡ true → first_no (q ∷ qs) x ≡ first_no qs x
  unfolding first_no
  first_next e = ap (λ (t : Bool). cond t (first_no qs x) q.number) e

  -- a no: its number
  pub first_number_is : q.test x ≡ false → first_no (q ∷ qs) x ≡ q.number
  unfolding first_no
  first_number_is e = ap (λ (t : Bool). cond t (first_no qs x) q.number) e

  -- all yes: the first, and those after it
  pub first_yes : (n : ℕ) → q.number ≡ suc n → first_no (q ∷ qs) x ≡ 0 → (q.test x ≡ true) × (first_no qs x ≡ 0)
  unfolding first_no
  first_yes n p e = go (q.test x) refl e
    where
      go : (t : Bool) → q.test x ≡ t → cond t (first_no qs x) q.number ≡ 0 → (q.test x ≡ true) × (first_no qs x ≡ 0)
      go true w e = (w, e)
      go false w e = absurd (suc-ne-zero n (sym p ∙ e))

-- ---- questions one list after another
pub first_append : {A : Type 0} (qs rs : List (Question A)) (x : A) → first_no qs x ≡ 0 → All Numbered qs → first_no (qs ++ rs) x ≡ first_no rs x
unfolding first_no
first_append [] rs x e a = refl
first_append (q ∷ qs) rs x e a = go (q.test x) e (λ w. first_append qs rs x w a.1)
  where
    bad : q.number ≡ 0 → 0 < q.number → ⊥
    bad e l = omega arith

    go : (t : Bool) → cond t (first_no qs x) q.number ≡ 0 → (first_no qs x ≡ 0 → first_no (qs ++ rs) x ≡ first_no rs x)
        → cond t (first_no (qs ++ rs) x) q.number ≡ first_no rs x
    go true e rec = rec e
    go false e rec = absurd (bad e a.0)

-- a no among the first is the answer
pub first_refused : {A : Type 0} (qs rs : List (Question A)) (x : A) (n : ℕ) → first_no qs x ≡ suc n → first_no (qs ++ rs) x ≡ suc n
unfolding first_no
first_refused [] rs x n e = absurd (suc-ne-zero n (sym e))
first_refused (q ∷ qs) rs x n e = go (q.test x) e (first_refused qs rs x n)
  where
    go : (t : Bool) → cond t (first_no qs x) q.number ≡ suc n → (first_no qs x ≡ suc n → first_no (qs ++ rs) x ≡ suc n)
        → cond t (first_no (qs ++ rs) x) q.number ≡ suc n
    go true e rec = rec e
    go false e rec = e

pub first_both : {A : Type 0} (qs rs : List (Question A)) (x : A) → first_no (qs ++ rs) x ≡ 0 → All Numbered qs
    → (first_no qs x ≡ 0) × (first_no rs x ≡ 0)
first_both qs rs x e a = go (first_no qs x) refl
  where
    go : (n : ℕ) → first_no qs x ≡ n → (first_no qs x ≡ 0) × (first_no rs x ≡ 0)
    go zero w = (w, sym (first_append qs rs x w a) ∙ e)
    go (suc n) w = absurd (suc-ne-zero n (sym (first_refused qs rs x n w) ∙ e))

-- ---- questions put to what f reads off
pub first_of : {A B : Type 0} (f : A → B) (qs : List (Question B)) (x : A) → first_no (map (question_of f) qs) x ≡ first_no qs (f x)
unfolding first_no
first_of f [] x = refl
first_of f (q ∷ qs) x = ap (λ (n : ℕ). cond (q.test (f x)) n q.number) (first_of f qs x)

pub numbered_of : {A B : Type 0} (f : A → B) (qs : List (Question B)) → All Numbered qs → All Numbered (map (question_of f) qs)
numbered_of f [] a = tt
numbered_of f (q ∷ qs) a = (a.0, numbered_of f qs a.1)
