-- Totals, the largest of numbers, n / s rounded up, and the parts of a cut.
use mathlib.Core.Path.{◌≡◌, refl, sym, ap, ◌∙◌, subst}
use mathlib.Core.List.{List, [], ◌∷◌, ◌++◌}
use Prim.Native.Nat.{ℕ, zero, suc, ◌+◌, ◌-◌, ◌*◌, ◌≤◌, ◌<◌, max}
use native.Mathlib.Nat.{
  lt-div-mul-add,
  le-div_iff_mul-le,
  mul-le-mul_left,
  mul-le-mul_right,
  mul_comm,
  suc-mul,
  zero-mul,
  mul-zero,
  div-eq_of_lt,
  add_assoc,
}
use native.Mathlib.Decide.{dec_lt}
use native.Mathlib.Omega.{arith}
use lib.ListN.{length, get_or, take, drop, drop_of_length-le}
use lib.Seq.{take-nil, take_all}
use Rattle.lists.specs.Lists.{tabulate, concat, total, maximum, ceil_div, cut}
use Rattle.lists.proofs.Lists.{get_none}
use Rattle.lists.proofs.Columns.{tabulate_length, get_tabulate, concat_parts}

-- ---- totals
pub total_append : (ms ns : List ℕ) → total (ms ++ ns) ≡ total ms + total ns
unfolding total
total_append [] ns = omega arith
total_append (m ∷ ms) ns = ap (λ (x : ℕ). m + x) (total_append ms ns) ∙ sym (add_assoc m (total ms) (total ns))

pub maximum_append : (ms ns : List ℕ) → maximum (ms ++ ns) ≡ max (maximum ms) (maximum ns)
unfolding maximum
maximum_append [] ns = omega arith
maximum_append (m ∷ ms) ns = let q = maximum_append ms ns in omega arith

-- ---- rounded up
-- a product that covers a positive number has positive factors
pub factor_pos : (n a b : ℕ) → 0 < n → n ≤ a * b → (0 < a) × (0 < b)
factor_pos n zero b p l = absurd (bad (zero-mul b) l)
  where
    bad : 0 * b ≡ 0 → n ≤ 0 * b → ⊥
    bad z l = omega arith
factor_pos n (suc a) zero p l = absurd (bad (mul-zero (suc a)) l)
  where
    bad : suc a * 0 ≡ 0 → n ≤ suc a * 0 → ⊥
    bad z l = omega arith
factor_pos n (suc a) (suc b) p l = (omega arith, omega arith)

pub ceil_none : (d : ℕ) → 0 < d → ceil_div 0 d ≡ 0
ceil_none d h = div-eq_of_lt {n = 0 + d - 1} {m = d} (omega arith)

pub ceil_cover : (n d : ℕ) → 0 < d → n ≤ ceil_div n d * d
ceil_cover n d h = let q = lt-div-mul-add {a = n + d - 1} {b = d} h in omega arith

-- c parts are fewer than enough
pub ceil_below : (n d c : ℕ) → 0 < d → c < ceil_div n d → c * d < n
ceil_below n d c h l =
    let q = (le-div_iff_mul-le {k = d} {x = suc c} {y = n + d - 1} h).0 l in
    let w = suc-mul c d in
    omega arith

pub ceil_le : (n d c : ℕ) → 0 < d → n ≤ c * d → ceil_div n d ≤ c
ceil_le n d c h l = go (dec_lt c (ceil_div n d))
  where
    go : Dec (c < ceil_div n d) → ceil_div n d ≤ c
    go (yes w) = absurd (bad (ceil_below n d c h w))
      where
        bad : c * d < n → ⊥
        bad q = omega arith
    go (no w) = omega arith

pub ceil_pos : (n d : ℕ) → 0 < n → 0 < d → 0 < ceil_div n d
ceil_pos n d hn hd = (factor_pos n (ceil_div n d) d hn (ceil_cover n d hd)).0

-- N parts of size d; cut again evenly into parts of n / N, rounded up, there are N again, and none of them is empty
module _ (n d : ℕ) (hn : 0 < n) (hd : 0 < d) where
  abbrev N : ℕ
  N = ceil_div n d

  abbrev s : ℕ
  s = ceil_div n (ceil_div n d)

  even_le : s ≤ d
  even_le = ceil_le n N d (ceil_pos n d hn hd) (subst (λ (x : ℕ). n ≤ x) (mul_comm N d) (ceil_cover n d hd))

  -- part c of the even cut is not empty
  pub even_full : (c : ℕ) → c < N → c * s < n
  even_full c l =
      let q = ceil_below n d c hd l in
      let w : c * s ≤ c * d = mul-le-mul_left c even_le in
      omega arith

  pub even_cover : n ≤ N * s
  even_cover = subst (λ (x : ℕ). n ≤ x) (mul_comm s N) (ceil_cover n N (ceil_pos n d hn hd))

  pub even_pos : 0 < s
  even_pos = (factor_pos n N s hn even_cover).1

  -- the even cut has as many parts
  pub even_parts : ceil_div n s ≡ N
  even_parts = go N refl (ceil_le n s N even_pos even_cover) (ceil_cover n s even_pos) (ceil_pos n d hn hd)
    where
      go : (c : ℕ) → N ≡ c → ceil_div n s ≤ N → n ≤ ceil_div n s * s → 0 < N → ceil_div n s ≡ N
      go zero e a cover p = omega arith
      go (suc c) e a cover p = last (dec_lt c (ceil_div n s)) (even_full c (omega arith))
        where
          last : Dec (c < ceil_div n s) → c * s < n → ceil_div n s ≡ N
          last (yes w) f = omega arith
          last (no w) f = absurd (short f cover (mul-le-mul_right s (omega arith)))
            where
              short : c * s < n → n ≤ ceil_div n s * s → ceil_div n s * s ≤ c * s → ⊥
              short f q m = omega arith

-- ---- the parts of a cut
module _ {A : Type 0} (s : ℕ) (xs : List A) where
  pub cut_length : length (cut s xs) ≡ ceil_div (length xs) s
  unfolding cut
  cut_length = tabulate_length (λ i. take s (drop (i * s) xs)) (ceil_div (length xs) s)

  -- part i: past the last, none
  pub get_cut : (i : ℕ) → 0 < s → get_or (cut s xs) i [] ≡ take s (drop (i * s) xs)
  unfolding cut
  get_cut i p = go (dec_lt i (ceil_div (length xs) s))
    where
      f : ℕ → List A
      f i = take s (drop (i * s) xs)

      past : ceil_div (length xs) s ≤ i → length xs ≤ i * s
      past h =
          let q = ceil_cover (length xs) s p in
          let m : ceil_div (length xs) s * s ≤ i * s = mul-le-mul_right s h in
          omega arith

      go : Dec (i < ceil_div (length xs) s) → get_or (tabulate f (ceil_div (length xs) s)) i [] ≡ f i
      go (yes h) = get_tabulate f (ceil_div (length xs) s) i [] h
      go (no h) =
          get_none (tabulate f (ceil_div (length xs) s)) i [] (let q = tabulate_length f (ceil_div (length xs) s) in omega arith)
          ∙ sym (ap (take s) (drop_of_length-le xs {i = i * s} (past (omega arith))) ∙ take-nil s)

  -- together they are the list
  pub concat_cut : 0 < s → concat (cut s xs) ≡ xs
  unfolding cut
  concat_cut p = concat_parts s xs (ceil_div (length xs) s) ∙ take_all (ceil_div (length xs) s * s) xs (ceil_cover (length xs) s p)
