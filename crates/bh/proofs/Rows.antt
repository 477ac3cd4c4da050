-- The rows in order, one after another.
use mathlib.Core.Path.{◌≡◌, sym, ap, ◌∙◌}
use Prim.Native.Nat.{ℕ, suc, ◌+◌, ◌-◌, ◌^◌, ◌≤◌, ◌<◌}
use native.Mathlib.Omega.{arith}
use lib.Pow.{pow-lt, pow_mono}
use Rattle.bh.specs.Rows.{row_at, place_of, next_row}
use Rattle.bh.proofs.Iter.{iter_zero}
use Rattle.bh.proofs.Order.{row_suc, row_next, row_lt}
use Rattle.bh.proofs.Place.{place_row}

pub row_one : (k : ℕ) → 1 ≡ row_at k 1
row_one k = sym (row_suc k 0 ∙ iter_zero (next_row k) 1)

pub row_first : (k place : ℕ) → place ≡ 0 → 1 ≡ row_at k (place + 1)
row_first k place e = row_one k ∙ ap (row_at k) (let q : 1 ≡ place + 1 = omega arith in q)

pub row_on : (k place : ℕ) → 0 < place → next_row k (row_at k place) ≡ row_at k (place + 1)
row_on k place h =
    let e : place ≡ suc (place - 1) = omega arith in
    ap (λ (t : ℕ). next_row k (row_at k t)) e ∙ sym (row_next k (place - 1))
    ∙ ap (row_at k) (let q : suc (suc (place - 1)) ≡ place + 1 = omega arith in q)

pub one_row : (k : ℕ) → 0 < k → 1 < 2 ^ k
one_row k h = pow-lt {i = 0} {j = k} h

pub row_in : (k row place : ℕ) → 0 < k → k < 21 → row ≡ row_at k place → row < 2 ^ k
row_in k row place hk lk e = rw e (row_lt k hk lk place)

pub placed_at : (k row place : ℕ) → 0 < k → k < 21 → place < 2 ^ k → row ≡ row_at k place → place ≡ place_of k row
placed_at k row place hk lk h e = sym (ap (place_of k) e ∙ place_row k hk lk place h)

pub row_small : (k row : ℕ) → k < 21 → row < 2 ^ k → row < 1048576
row_small k row h l = let w : 2 ^ k ≤ 2 ^ 20 = pow_mono {i = k} {j = 20} (omega arith) in omega arith
