-- The signed numbers kept in words: as rotations of 32 bits, round the order, and as places.
use mathlib.Core.Path.{◌≡◌, refl, sym, ap, ap₂, ◌∙◌, subst, subst⁻¹}
use mathlib.Core.Bool.{Bool, true, false, cond}
use Prim.Native.Nat.{ℕ, zero, suc, ◌+◌, ◌-◌, ◌*◌, ◌/◌, ◌%◌, ◌^◌, ◌≤◌, ◌<◌}
use native.Mathlib.Nat.{mod-add-div', mod-lt, mod-eq_of_lt, zero-mul, suc-mul, add-mul, add-mul-mod_self_right, div-lt_iff_lt-mul}
use native.Mathlib.Decide.{dec_lt}
use native.Mathlib.Omega.{arith}
use lib.Dec.{T, eqb, ltb, lit<, lit≤}
use lib.IntN.{ℤ, pos, negsuc, neg_ℤ, nat_abs, ◌+ℤ◌, ◌-ℤ◌}
use lib.Pow.{pow_pos, pow-lt, pow-add}
use lib.Signed.{non_neg}
use mir.Syntax.{w32, w64}
use mir.Val.{Fits, SFits, to_z, of_z}
use mir.Facts.{sfits_widen, to_z-of_z, to_z_pos}
use borrow.Author.Tests.{lt-ltb, le-ltb, eq-eqb, ne_eqb, eqb-true, eqb-false, ltb-true, ltb-false}
use mathlib.Core.Logic.{◌≢◌}
use Rattle.lists.proofs.Tests.{by_test}
use Rattle.bh.specs.Rows.{iter, next_row, prev_row, row_at, place_of, rotated, mod_z, lagrange_row}
use Rattle.bh.proofs.Iter.{iter_add, iter_zero, iter_comm}
use Rattle.bh.proofs.Order.{walk_undo, back_walk_lt, row_zero, row_suc, next_zero, next_returns}
use Rattle.bh.proofs.Words.{shifted}
use Rattle.bh.proofs.Place.{row_place, place_row}
use Rattle.expression.specs.Expr.{sameℤ}
use Rattle.expression.specs.Nodes.{decode_signed, encode_signed}

-- ---- a distance as a signed number

module _ (d : ℕ) (h : d < 2 ^ 31) where
  pub on_is : to_z w32 d ≡ pos d
  on_is = to_z_pos w32 h

  less : pos 0 -ℤ to_z w32 d ≡ neg_ℤ (pos d)
  less = ap (λ (z : ℤ). pos 0 -ℤ z) on_is ∙ minus d
    where
      minus : (n : ℕ) → pos 0 -ℤ pos n ≡ neg_ℤ (pos n)
      minus zero = refl
      minus (suc n) =
          ap (λ (t : Bool). cond t (negsuc (suc n - 1)) (pos (0 - suc n))) (lt-ltb 0 (suc n) (omega arith))
          ∙ ap negsuc (let e : suc n - 1 ≡ n = omega arith in e)

  neg_fits : SFits w32 (neg_ℤ (pos d))
  neg_fits = go d h
    where
      go : (n : ℕ) → n < 2 ^ 31 → SFits w32 (neg_ℤ (pos n))
      go zero m = record { sfits = lit< tt }
      go (suc n) m = record { sfits = omega arith }

  pub back_fits : SFits w32 (pos 0 -ℤ to_z w32 d)
  back_fits = subst⁻¹ (SFits w32) less neg_fits

  pub back_is : to_z w32 (of_z w32 (pos 0 -ℤ to_z w32 d)) ≡ neg_ℤ (pos d)
  back_is = to_z-of_z {w = w32} back_fits ∙ less

-- ---- the number that a word keeps

pub signed_back : (w : ℕ) → w < 2147483648 → decode_signed w ≡ neg_ℤ (pos (2147483648 - w))
signed_back w h =
    ap (λ (t : Bool). cond t (negsuc (2147483648 - suc w)) (pos (w - 2147483648))) (lt-ltb w 2147483648 h)
    ∙ sym (ap (λ (n : ℕ). neg_ℤ (pos n)) (let e : 2147483648 - w ≡ suc (2147483648 - suc w) = omega arith in e))

pub signed_on : (w : ℕ) → 2147483648 ≤ w → decode_signed w ≡ pos (w - 2147483648)
signed_on w h =
    ap (λ (t : Bool). cond t (negsuc (2147483648 - suc w)) (pos (w - 2147483648))) (le-ltb w 2147483648 h)

-- a word read as a signed number is kept as that word
pub kept_signed : (w : ℕ) → encode_signed (decode_signed w) ≡ w
kept_signed w = by (ltb w 2147483648) refl
  where
    by : (t : Bool) → ltb w 2147483648 ≡ t → encode_signed (cond t (negsuc (2147483648 - suc w)) (pos (w - 2147483648))) ≡ w
    by true h = omega (arith, ltb-true w 2147483648 h)
    by false h = omega (arith, ltb-false w 2147483648 h)

-- ---- a rotation as the word that keeps it

module _ (z : ℤ) (fits : SFits w32 z) where
  abbrev wider : ℤ
  wider = to_z w64 (of_z w64 (to_z w32 (of_z w32 z)))

  pub widens : SFits w64 (to_z w32 (of_z w32 z))
  widens = subst⁻¹ (SFits w64) (to_z-of_z {w = w32} fits) (sfits_widen tt fits)

  wide : wider ≡ z
  wide = to_z-of_z {w = w64} widens ∙ to_z-of_z {w = w32} fits

  plus_is : (y : ℤ) → SFits w32 y → y +ℤ pos 2147483648 ≡ pos (encode_signed y)
  plus_is (pos n) f = refl
  plus_is (negsuc n) f =
      ap (λ (t : Bool). cond t (negsuc (suc n - suc 2147483648)) (pos (2147483648 - suc n)))
      (le-ltb 2147483648 (suc n) (let g = f.sfits in omega arith))

  sum_is : wider +ℤ pos 2147483648 ≡ pos (encode_signed z)
  sum_is = ap (λ (y : ℤ). y +ℤ pos 2147483648) wide ∙ plus_is z fits

  kept_small : (y : ℤ) → SFits w32 y → encode_signed y < 2 ^ 32
  kept_small (pos n) f = let g = f.sfits in omega arith
  kept_small (negsuc n) f = omega arith

  kept_fits : SFits w64 (pos (encode_signed z))
  kept_fits = record { sfits = let g = kept_small z fits in omega arith }

  pub sum_fits : SFits w64 (wider +ℤ pos 2147483648)
  sum_fits = subst⁻¹ (SFits w64) sum_is kept_fits

  sum_read : to_z w64 (of_z w64 (wider +ℤ pos 2147483648)) ≡ pos (encode_signed z)
  sum_read = to_z-of_z {w = w64} sum_fits ∙ sum_is

  Casts : ℤ → Type 0
  Casts y = T (non_neg y) × Fits w64 (nat_abs y)

  pub sum_casts : T (non_neg (to_z w64 (of_z w64 (wider +ℤ pos 2147483648)))) × Fits w64 (nat_abs (to_z w64 (of_z w64 (wider +ℤ pos 2147483648))))
  unfolding Casts
  sum_casts = subst⁻¹ Casts sum_read (tt, record { fits = let g = kept_small z fits in omega arith })

  pub kept_is : nat_abs (to_z w64 (of_z w64 (wider +ℤ pos 2147483648))) ≡ encode_signed z
  kept_is = ap nat_abs sum_read

  signed_of : (y : ℤ) → SFits w32 y → decode_signed (encode_signed y) ≡ y
  signed_of (pos n) f = signed_on (n + 2147483648) (omega arith) ∙ ap pos (let e : n + 2147483648 - 2147483648 ≡ n = omega arith in e)
  signed_of (negsuc n) f =
      let g = f.sfits in
      signed_back (2147483648 - suc n) (omega arith)
      ∙ ap (λ (x : ℕ). neg_ℤ (pos x)) (let e : 2147483648 - (2147483648 - suc n) ≡ suc n = omega arith in e)

  pub signed_kept : decode_signed (encode_signed z) ≡ z
  signed_kept = signed_of z fits

-- two words keep one number only if they are one word
pub signed_same : (v w : ℕ) → sameℤ (decode_signed v) (decode_signed w) ≡ eqb v w
signed_same v w = go (dec_lt v 2147483648) (dec_lt w 2147483648)
  where
    equal : (a b c d : ℕ) → (a ≡ b → c ≡ d) → (c ≡ d → a ≡ b) → eqb a b ≡ eqb c d
    equal a b c d f g = by_test (eqb c d) (λ t. eq-eqb a b (g (eqb-true c d t)) ∙ sym t) (λ t. ne_eqb a b (λ e. eqb-false c d t (f e)) ∙ sym t)

    back : (u : ℕ) → u < 2147483648 → decode_signed u ≡ negsuc (2147483648 - suc u)
    back u h = ap (λ (t : Bool). cond t (negsuc (2147483648 - suc u)) (pos (u - 2147483648))) (lt-ltb u 2147483648 h)

    apart : v ≢ w → false ≡ eqb v w
    apart n = sym (ne_eqb v w n)

    go : Dec (v < 2147483648) → Dec (w < 2147483648) → sameℤ (decode_signed v) (decode_signed w) ≡ eqb v w
    go (yes h) (yes g) =
        ap₂ sameℤ (back v h) (back w g)
        ∙ equal (2147483648 - suc v) (2147483648 - suc w) v w (λ e. omega arith) (λ e. ap (λ (x : ℕ). 2147483648 - suc x) e)
    go (yes h) (no g) = ap₂ sameℤ (back v h) (signed_on w (omega arith)) ∙ apart (λ e. omega arith)
    go (no h) (yes g) = ap₂ sameℤ (signed_on v (omega arith)) (back w g) ∙ apart (λ e. omega arith)
    go (no h) (no g) =
        ap₂ sameℤ (signed_on v (omega arith)) (signed_on w (omega arith))
        ∙ equal (v - 2147483648) (w - 2147483648) v w (λ e. omega arith) (λ e. ap (λ (x : ℕ). x - 2147483648) e)

-- ---- round the order

pub one_shifted : (k : ℕ) → k < 21 → 1 * 2 ^ k % 18446744073709551616 ≡ 2 ^ k
one_shifted k l = shifted k (omega arith)

pub round_small : (k : ℕ) → 0 < k → k < 21
    → (0 < 1 * 2 ^ k % 18446744073709551616 - 1) × (1 * 2 ^ k % 18446744073709551616 - 1 < 2147483648)
round_small k h l =
    let e = one_shifted k l in
    let m = pow-lt {i = 0} {j = k} h in
    let n = pow-lt {i = k} {j = 31} (omega arith) in
    (omega arith, omega arith)

module _ (k : ℕ) (h : 0 < k) (l : k < 21) where
  l32 : k < 32
  l32 = omega arith

  nought : (n : ℕ) → iter (next_row k) n 0 ≡ 0
  nought zero = iter_zero (next_row k) 0
  nought (suc n) = Rattle.bh.proofs.Iter.iter_suc (next_row k) n 0 ∙ ap (next_row k) (nought n) ∙ next_zero k l32

  -- once round leads back to each row
  once : (b : ℕ) → b < 2 ^ k → iter (next_row k) (2 ^ k - 1) b ≡ b
  once b m = go (place_of k b) (row_place k h l b m)
    where
      go : (t : ℕ) → row_at k t ≡ b → iter (next_row k) (2 ^ k - 1) b ≡ b
      go zero e =
          let z : b ≡ 0 = sym e ∙ row_zero k in
          ap (iter (next_row k) (2 ^ k - 1)) z ∙ nought (2 ^ k - 1) ∙ sym z
      go (suc t) e =
          let z : b ≡ iter (next_row k) t 1 = sym e ∙ row_suc k t in
          ap (iter (next_row k) (2 ^ k - 1)) z ∙ iter_comm (next_row k) (2 ^ k - 1) t 1 ∙ ap (iter (next_row k) t) (next_returns k h l) ∙ sym z

  often : (q b : ℕ) → b < 2 ^ k → iter (next_row k) (q * (2 ^ k - 1)) b ≡ b
  often zero b m = ap (λ (x : ℕ). iter (next_row k) x b) (zero-mul (2 ^ k - 1)) ∙ iter_zero (next_row k) b
  often (suc q) b m =
      ap (λ (x : ℕ). iter (next_row k) x b) (suc-mul q (2 ^ k - 1)) ∙ iter_add (next_row k) (q * (2 ^ k - 1)) (2 ^ k - 1) b
      ∙ ap (iter (next_row k) (q * (2 ^ k - 1))) (once b m)
      ∙ often q b m

  -- so a distance counts by its remainder, on and back
  pub on_round : (d b : ℕ) → b < 2 ^ k → iter (next_row k) (d % (2 ^ k - 1)) b ≡ iter (next_row k) d b
  on_round d b m =
      sym
      (ap (λ (x : ℕ). iter (next_row k) x b) (sym (mod-add-div' d (2 ^ k - 1)))
      ∙ iter_add (next_row k) (d % (2 ^ k - 1)) (d / (2 ^ k - 1) * (2 ^ k - 1)) b
      ∙ ap (iter (next_row k) (d % (2 ^ k - 1))) (often (d / (2 ^ k - 1)) b m))

  pub back_round : (d b : ℕ) → b < 2 ^ k → iter (prev_row k) (d % (2 ^ k - 1)) b ≡ iter (prev_row k) d b
  back_round d b m =
      let c : ℕ = iter (prev_row k) d b in
      let e : iter (next_row k) d c ≡ b = Rattle.bh.proofs.Order.undo_walk k l32 d b m in
      let n : c < 2 ^ k = back_walk_lt k l32 d b m in
      ap (iter (prev_row k) (d % (2 ^ k - 1))) (sym e ∙ sym (on_round d c n)) ∙ walk_undo k l32 (d % (2 ^ k - 1)) c n

  rotated_on : (n b : ℕ) → rotated k b (pos n) ≡ iter (next_row k) n b
  unfolding rotated
  rotated_on n b = refl

  rotated_back : (n b : ℕ) → rotated k b (neg_ℤ (pos n)) ≡ iter (prev_row k) n b
  unfolding rotated
  rotated_back zero b = iter_zero (next_row k) b ∙ sym (iter_zero (prev_row k) b)
  rotated_back (suc n) b = refl

  -- a distance that has the same remainder as a word's leads to the row that the word's number leads to
  pub keeps_on : (w d : ℕ) (z : ℤ) → 2147483648 ≤ w → d % (2 ^ k - 1) ≡ (w - 2147483648) % (2 ^ k - 1) → z ≡ pos d → (b : ℕ) → b < 2 ^ k
      → rotated k b z ≡ rotated k b (decode_signed w)
  keeps_on w d z g e f b m =
      ap (rotated k b) f ∙ rotated_on d b ∙ sym (on_round d b m) ∙ ap (λ (x : ℕ). iter (next_row k) x b) e
      ∙ on_round (w - 2147483648) b m
      ∙ sym (rotated_on (w - 2147483648) b)
      ∙ ap (rotated k b) (sym (signed_on w g))

  pub keeps_back : (w d : ℕ) (z : ℤ) → w < 2147483648 → d % (2 ^ k - 1) ≡ (2147483648 - w) % (2 ^ k - 1) → z ≡ neg_ℤ (pos d) → (b : ℕ)
      → b < 2 ^ k
      → rotated k b z ≡ rotated k b (decode_signed w)
  keeps_back w d z g e f b m =
      ap (rotated k b) f ∙ rotated_back d b ∙ sym (back_round d b m) ∙ ap (λ (x : ℕ). iter (prev_row k) x b) e
      ∙ back_round (2147483648 - w) b m
      ∙ sym (rotated_back (2147483648 - w) b)
      ∙ ap (rotated k b) (sym (signed_back w g))

  -- a number from −k to k is at most once round the order
  once_round : (n : ℕ) → suc n ≤ 2 ^ n
  once_round zero = lit≤ tt
  once_round (suc n) =
      let e = once_round n in
      let f = pow-lt {i = n} {j = suc n} (omega arith) in
      omega arith

  abs_back : (n : ℕ) → nat_abs (neg_ℤ (pos n)) ≡ n
  abs_back zero = refl
  abs_back (suc n) = refl

  pub number_on : (w d : ℕ) (z : ℤ) → 2147483648 ≤ w → (w - 2147483648 ≤ 2 ^ k - 1 → d ≡ w - 2147483648) → z ≡ pos d
      → nat_abs (decode_signed w) ≤ k
      → z ≡ decode_signed w
  number_on w d z g e f m =
      let n = subst (λ (y : ℤ). nat_abs y ≤ k) (signed_on w g) m in
      let o = once_round k in
      f ∙ ap pos (e (omega arith)) ∙ sym (signed_on w g)

  pub number_back : (w d : ℕ) (z : ℤ) → w < 2147483648 → (2147483648 - w ≤ 2 ^ k - 1 → d ≡ 2147483648 - w) → z ≡ neg_ℤ (pos d)
      → nat_abs (decode_signed w) ≤ k
      → z ≡ decode_signed w
  number_back w d z g e f m =
      let n = subst (λ (y : ℤ). nat_abs y ≤ k) (signed_back w g) m in
      let a = abs_back (2147483648 - w) in
      let o = once_round k in
      f ∙ ap (λ (x : ℕ). neg_ℤ (pos x)) (e (omega arith)) ∙ sym (signed_back w g)

-- ---- Lagrange, by the place

-- 2^k divides 2^31
module _ (k : ℕ) (l : k < 21) where
  whole : 2147483648 ≡ 2 ^ (31 - k) * 2 ^ k
  whole = ap (λ (x : ℕ). 2 ^ x) (let e : 31 ≡ 31 - k + k = omega arith in e) ∙ pow-add 2 (31 - k) k

  below_0 : (w : ℕ) → w < 2147483648 → 2 ^ k - suc ((2147483648 - suc w) % 2 ^ k) ≡ w % 2 ^ k
  below_0 w h =
      let N : ℕ = 2 ^ k in
      let A : ℕ = 2 ^ (31 - k) in
      let n : ℕ = 2147483648 - suc w in
      let q : ℕ = n / N in
      let r : ℕ = n % N in
      let e : r + q * N ≡ n = mod-add-div' n N in
      let f : r < N = mod-lt n (pow_pos k) in
      let t : 2147483648 ≡ A * N = whole in
      let u : q < A = (div-lt_iff_lt-mul (pow_pos k)).1 (subst (λ (x : ℕ). n < x) t (let z : n < 2147483648 = omega arith in z)) in
      let B : ℕ = A - suc q in
      let v : A * N ≡ B * N + suc q * N = ap (λ (x : ℕ). x * N) (let z : A ≡ B + suc q = omega arith in z) ∙ add-mul B (suc q) N in
      let x : suc q * N ≡ q * N + N = suc-mul q N in
      let y : w ≡ N - suc r + B * N = omega arith in
      sym (ap (λ (a : ℕ). a % N) y ∙ add-mul-mod_self_right (N - suc r) B N ∙ mod-eq_of_lt (let z : N - suc r < N = omega arith in z))

  pub mod_signed : (w : ℕ) → mod_z (decode_signed w) (2 ^ k) ≡ w % 2 ^ k
  unfolding mod_z
  mod_signed w = go (dec_lt w 2147483648)
    where
      go : Dec (w < 2147483648) → mod_z (decode_signed w) (2 ^ k) ≡ w % 2 ^ k
      go (yes h) =
          ap (λ (z : ℤ). mod_z z (2 ^ k))
          (ap (λ (t : Bool). cond t (negsuc (2147483648 - suc w)) (pos (w - 2147483648))) (lt-ltb w 2147483648 h))
          ∙ below_0 w h
      go (no h) =
          ap (λ (z : ℤ). mod_z z (2 ^ k)) (signed_on w (omega arith))
          ∙ sym (add-mul-mod_self_right (w - 2147483648) (2 ^ (31 - k)) (2 ^ k))
          ∙ ap (λ (x : ℕ). x % 2 ^ k)
          (let e = whole in
          let z : w - 2147483648 + 2 ^ (31 - k) * 2 ^ k ≡ w = omega arith in
          z)

module _ (k : ℕ) (h : 0 < k) (l : k < 21) (row place w : ℕ) (m : row < 2 ^ k) (e : place ≡ place_of k row) where
  pub lagrange_here : w % 2 ^ k ≡ place → eqb row (lagrange_row k (decode_signed w)) ≡ true
  unfolding lagrange_row
  lagrange_here p =
      eq-eqb row (row_at k (mod_z (decode_signed w) (2 ^ k)))
      (sym (row_place k h l row m) ∙ ap (row_at k) (sym e ∙ sym p ∙ sym (mod_signed k l w)))

  pub lagrange_away : (w % 2 ^ k ≡ place → ⊥) → eqb row (lagrange_row k (decode_signed w)) ≡ false
  unfolding lagrange_row
  lagrange_away p =
      ne_eqb row (row_at k (mod_z (decode_signed w) (2 ^ k)))
      (λ q.
      p
      (sym (place_row k h l (w % 2 ^ k) (mod-lt w (pow_pos k)))
      ∙ ap (place_of k) (ap (row_at k) (sym (mod_signed k l w)) ∙ sym q)
      ∙ sym e))
