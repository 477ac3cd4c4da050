-- The search from the last row down, over words below p.
use mathlib.Core.Path.{◌≡◌, refl, sym, ap, ap₂, ◌∙◌}
use mathlib.Core.Logic.{◌≢◌}
use mathlib.Core.Bool.{Bool, true, false, cond, decide}
use mathlib.Core.Option.{some}
use mathlib.Core.Option as maybe
use Prim.Native.Nat.{ℕ, zero, suc, ◌-◌, ◌≤◌, ◌<◌}
use native.Mathlib.Omega.{arith}
use Rattle.std.specs.Prelude.{Option, Some, None}
use Rattle.field.specs.Prime.{P}
use Rattle.field.specs.Field.{𝔾, el}
use Rattle.field.proofs.Elements.{el_injective}
use Rattle.lists.specs.Lists.{last_where}
use Rattle.prover.specs.Lookup.{same, last_equal}
use Rattle.prover.specs.Answers.{found_of, found}

-- words below p are equal exactly when they are in the field
pub same_true : (a b : ℕ) → a ≡ b → same 𝔾 (el a) (el b) ≡ true
unfolding decide
same_true a b e = go (𝔾.decide (el a) (el b))
  where
    go : (d : Dec (el a ≡ el b)) → decide d ≡ true
    go (yes p) = refl
    go (no p) = absurd (p (ap el e))

pub same_false : (a b : ℕ) → a < P → b < P → a ≢ b → same 𝔾 (el a) (el b) ≡ false
unfolding decide
same_false a b h l n = go (𝔾.decide (el a) (el b))
  where
    go : (d : Dec (el a ≡ el b)) → decide d ≡ false
    go (yes p) = absurd (n (el_injective a b h l p))
    go (no p) = refl

-- the last of the first n is one of them
pub last_below : (p : ℕ → Bool) (n a : ℕ) → last_where p n ≡ some a → a < n
unfolding last_where
last_below p zero a h = let z : ◌≡◌ {A = ℕ} 0 1 = cc in absurd (omega arith)
last_below p (suc n) a h = go (λ e. last_below p n a e) (p n) h
  where
    go : (last_where p n ≡ some a → a < n) → (t : Bool) → cond t (some n) (last_where p n) ≡ some a → a < suc n
    go f true e = let q : n ≡ a = cc in omega arith
    go f false e = omega (arith, f e)

module _ (table : ℕ → ℕ) (v : ℕ) where
  -- the last equal row of the first j
  abbrev pub last_row : ℕ → maybe.Option ℕ
  last_row j = last_equal 𝔾 j (λ r. el (table r)) (el v)

  -- the search's answer for the first j rows
  abbrev pub found_row : ℕ → Option ℕ
  found_row j = found 𝔾 j (λ r. el (table r)) (el v)

  pub row_below : (n a : ℕ) → last_row n ≡ some a → a < n
  unfolding last_equal
  row_below n a h = last_below (λ r. same 𝔾 (el (table r)) (el v)) n a h

  -- the search from the last row down, when none of the rows from j on is equal
  module _ (rows j : ℕ) (left : found_row rows ≡ found_row j) where
    -- nor is the next
    pub search_miss : 0 < j → table (j - 1) < P → v < P → table (j - 1) ≢ v → found_row rows ≡ found_row (j - 1)
    unfolding found last_equal last_where
    search_miss l small-t small-v n = left ∙ go j l small-t n
      where
        go : (j : ℕ) → 0 < j → table (j - 1) < P → table (j - 1) ≢ v → found_row j ≡ found_row (j - 1)
        go zero l t n = absurd (omega arith)
        go (suc j) l t n =
            let p : suc j - 1 ≡ j = omega arith in
            let q : table (suc j - 1) ≡ table j = ap table p in
            ap (λ (t : Bool). found_of (cond t (some j) (last_row j))) (same_false (table j) v (rw q at t) small-v (λ e. n (q ∙ e)))
            ∙ ap found_row (sym p)

    -- the next is: the answer is this row
    pub search_hit : 0 < j → table (j - 1) ≡ v → (answer : Option ℕ) → answer ≡ Some (j - 1) → answer ≡ found_row rows
    unfolding found last_equal last_where
    search_hit l h answer e = e ∙ sym (left ∙ go j l h)
      where
        go : (j : ℕ) → 0 < j → table (j - 1) ≡ v → found_row j ≡ Some (j - 1)
        go zero l h = absurd (omega arith)
        go (suc j) l h =
            let p : suc j - 1 ≡ j = omega arith in
            ap (λ (t : Bool). found_of (cond t (some j) (last_row j))) (same_true (table j) v (ap table (sym p) ∙ h))
            ∙ ap (λ (i : ℕ). Some i) (sym p)

    -- no row is left: the answer is none
    pub search_none : j ≤ 0 → (answer : Option ℕ) → answer ≡ None → answer ≡ found_row rows
    unfolding found last_equal last_where
    search_none n answer e = e ∙ sym (left ∙ go j n)
      where
        go : (j : ℕ) → j ≤ 0 → found_row j ≡ None
        go zero n = refl
        go (suc j) n = absurd (omega arith)

-- only the first rows are looked at
pub last_same : (p q : ℕ → Bool) (n : ℕ) → ((r : ℕ) → r < n → p r ≡ q r) → last_where p n ≡ last_where q n
unfolding last_where
last_same p q zero h = refl
last_same p q (suc n) h =
    ap₂ (λ (t : Bool) (o : maybe.Option ℕ). cond t (some n) o) (h n (omega arith)) (last_same p q n (λ r l. h r (omega arith)))

pub row_same : (t u : ℕ → ℕ) (v w n : ℕ) → v ≡ w → ((r : ℕ) → r < n → t r ≡ u r) → last_row t v n ≡ last_row u w n
unfolding last_equal
row_same t u v w n e h =
    last_same (λ r. same 𝔾 (el (t r)) (el v)) (λ r. same 𝔾 (el (u r)) (el w)) n
    (λ r l. ap₂ (λ (a b : ℕ). same 𝔾 (el a) (el b)) (h r l) e)
