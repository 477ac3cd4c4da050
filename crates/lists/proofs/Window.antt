-- A buffer that stands for the words from place f on, after a run of words was written: `writeWindow f d at s`.
use mathlib.Core.Path.{◌≡◌, refl, sym, ap, ◌∙◌}
use mathlib.Core.Bool.{Bool, cond}
use mathlib.Core.List.{List, [], ◌∷◌, ◌++◌}
use Prim.Native.Nat.{ℕ, zero, suc, ◌+◌, ◌-◌, ◌≤◌, ◌<◌}
use native.Mathlib.Decide.{dec_lt}
use native.Mathlib.Omega.{arith}
use lib.ListN.{length, get_or, take, drop, set, length-append, length-drop, length-set}
use lib.Seq.{length-take-le, get_or-take, get_or-drop, ext_get_or, get_or-set_same, get_or-set_other}
use lib.Dec.{leb}
use borrow.Author.Tests.{le-leb, lt-leb}
use Rattle.lists.specs.Lists.{write_window, write_at}
use Rattle.lists.proofs.Lists.{get_left, get_past, get_none}
use Rattle.lists.proofs.Columns.{tabulate_length, get_tabulate}
use Rattle.lists.proofs.Over.{length_write_at, write_at_before, write_at_inside, write_at_after}

module _ (f : ℕ) (d : List ℕ) (at : ℕ) (s : List ℕ) where
  pub length_write_window : length (write_window f d at s) ≡ length d
  unfolding write_window
  length_write_window =
      tabulate_length (λ j. cond (leb at (f + j)) (get_or s (f + j - at) (get_or d j 0)) (get_or d j 0)) (length d)

  at_word : (j : ℕ) → j < length d
      → get_or (write_window f d at s) j 0 ≡ cond (leb at (f + j)) (get_or s (f + j - at) (get_or d j 0)) (get_or d j 0)
  unfolding write_window
  at_word j l =
      get_tabulate (λ j. cond (leb at (f + j)) (get_or s (f + j - at) (get_or d j 0)) (get_or d j 0)) (length d) j 0 l

  -- ---- its words
  pub write_window_before : (j : ℕ) → j < length d → f + j < at → get_or (write_window f d at s) j 0 ≡ get_or d j 0
  write_window_before j l h =
      at_word j l
      ∙ ap (λ (b : Bool). cond b (get_or s (f + j - at) (get_or d j 0)) (get_or d j 0)) (lt-leb at (f + j) h)

  from_at : (j : ℕ) → j < length d → at ≤ f + j → get_or (write_window f d at s) j 0 ≡ get_or s (f + j - at) (get_or d j 0)
  from_at j l h =
      at_word j l
      ∙ ap (λ (b : Bool). cond b (get_or s (f + j - at) (get_or d j 0)) (get_or d j 0)) (le-leb at (f + j) h)

  pub write_window_inside : (j i : ℕ) → j < length d → f + j ≡ at + i → i < length s → get_or (write_window f d at s) j 0 ≡ get_or s i 0
  write_window_inside j i l e h =
      from_at j l (omega arith)
      ∙ ap (λ (n : ℕ). get_or s n (get_or d j 0)) (let q : f + j - at ≡ i = omega arith in q)
      ∙ inside s i h (get_or d j 0) 0
    where
      inside : (xs : List ℕ) (n : ℕ) → n < length xs → (x y : ℕ) → get_or xs n x ≡ get_or xs n y
      inside [] n h x y = absurd (omega arith)
      inside (x₀ ∷ xs) zero h x y = refl
      inside (x₀ ∷ xs) (suc n) h x y = inside xs n (omega arith) x y

  pub write_window_after : (j : ℕ) → j < length d → at + length s ≤ f + j → get_or (write_window f d at s) j 0 ≡ get_or d j 0
  write_window_after j l h = from_at j l (omega arith) ∙ get_none s (f + j - at) (get_or d j 0) (omega arith)

  -- where no word of the run falls into the buffer
  pub write_window_below : at + length s ≤ f → write_window f d at s ≡ d
  write_window_below h =
      ext_get_or 0 (write_window f d at s) d length_write_window (λ j l. write_window_after j (omega (arith, length_write_window)) (omega arith))

  pub write_window_beyond : f + length d ≤ at → write_window f d at s ≡ d
  write_window_beyond h =
      ext_get_or 0 (write_window f d at s) d length_write_window
      (λ j l. write_window_before j (omega (arith, length_write_window)) (omega (arith, length_write_window)))

  -- a run that stands whole in a buffer from the first place on
  pub write_window_write_at : f ≡ 0 → at + length s ≤ length d → write_window f d at s ≡ write_at d at s
  write_window_write_at z h =
      ext_get_or 0 (write_window f d at s) (write_at d at s) (length_write_window ∙ sym (length_write_at d at s h))
      (λ j l. by j (omega (arith, length_write_window)) (dec_lt j at) (dec_lt j (at + length s)))
    where
      by : (j : ℕ) → j < length d → Dec (j < at) → Dec (j < at + length s) → get_or (write_window f d at s) j 0 ≡ get_or (write_at d at s) j 0
      by j l (yes a) b = write_window_before j l (omega arith) ∙ sym (write_at_before d at s j 0 (omega arith) a)
      by j l (no a) (yes b) =
          let e : at + (j - at) ≡ j = omega arith in
          write_window_inside j (j - at) l (omega arith) (omega arith)
          ∙ sym (ap (λ (i : ℕ). get_or (write_at d at s) i 0) (sym e) ∙ write_at_inside d at s (j - at) 0 (omega arith) (omega arith))
      by j l (no a) (no b) = write_window_after j l (omega arith) ∙ sym (write_at_after d at s j 0 (omega arith) (omega arith))

-- ---- one run behind another
module _ (f : ℕ) (d : List ℕ) (at : ℕ) (s t : List ℕ) where
  pub write_window_then : (i : ℕ) → i ≡ at + length s → write_window f (write_window f d at s) i t ≡ write_window f d at (s ++ t)
  write_window_then i e =
      ext_get_or 0 (write_window f (write_window f d at s) i t) (write_window f d at (s ++ t)) (both ∙ sym (length_write_window f d at (s ++ t)))
      (λ j l. by j (omega (arith, both)) (dec_lt (f + j) at) (dec_lt (f + j) i) (dec_lt (f + j) (i + length t)))
    where
      both : length (write_window f (write_window f d at s) i t) ≡ length d
      both = length_write_window f (write_window f d at s) i t ∙ length_write_window f d at s

      within : (j : ℕ) → j < length d → j < length (write_window f d at s)
      within j l = omega (arith, length_write_window f d at s)

      by : (j : ℕ) → j < length d → Dec (f + j < at) → Dec (f + j < i) → Dec (f + j < i + length t)
          → get_or (write_window f (write_window f d at s) i t) j 0 ≡ get_or (write_window f d at (s ++ t)) j 0
      by j l (yes a) b c =
          write_window_before f (write_window f d at s) i t j (within j l) (omega arith) ∙ write_window_before f d at s j l a
          ∙ sym (write_window_before f d at (s ++ t) j l a)
      by j l (no a) (yes b) c =
          let n : ℕ = f + j - at in
          write_window_before f (write_window f d at s) i t j (within j l) b ∙ write_window_inside f d at s j n l (omega arith) (omega arith)
          ∙ sym (write_window_inside f d at (s ++ t) j n l (omega arith) (omega (arith, length-append s t))
          ∙ get_left s t n 0 (omega arith))
      by j l (no a) (no b) (yes c) =
          let n : ℕ = f + j - at in
          let m : ℕ = f + j - i in
          write_window_inside f (write_window f d at s) i t j m (within j l) (omega arith) (omega arith)
          ∙ sym (write_window_inside f d at (s ++ t) j n l (omega arith) (omega (arith, length-append s t))
          ∙ get_past s t n m 0 (omega arith))
      by j l (no a) (no b) (no c) =
          write_window_after f (write_window f d at s) i t j (within j l) (omega arith) ∙ write_window_after f d at s j l (omega arith)
          ∙ sym (write_window_after f d at (s ++ t) j l (omega (arith, length-append s t)))

-- ---- the words of a whole run that fall into the buffer
pub write_window_part : (f : ℕ) (d s : List ℕ) (n : ℕ) → n ≤ length d → f + n ≤ length s
    → take n (write_window f d 0 s) ≡ take n (drop f s)
write_window_part f d s n h l =
    ext_get_or 0 (take n (write_window f d 0 s)) (take n (drop f s)) (left ∙ sym right)
    (λ j m. by j (omega (arith, left)))
  where
    left : length (take n (write_window f d 0 s)) ≡ n
    left = length-take-le n (write_window f d 0 s) (omega (arith, length_write_window f d 0 s))

    right : length (take n (drop f s)) ≡ n
    right = length-take-le n (drop f s) (omega (arith, length-drop f s))

    by : (j : ℕ) → j < n → get_or (take n (write_window f d 0 s)) j 0 ≡ get_or (take n (drop f s)) j 0
    by j m =
        get_or-take n (write_window f d 0 s) j 0 m ∙ write_window_inside f d 0 s j (f + j) (omega arith) (omega arith) (omega arith)
        ∙ sym (get_or-take n (drop f s) j 0 m ∙ get_or-drop f s j 0)

-- ---- one word
pub write_window_one : (f : ℕ) (d : List ℕ) (at v : ℕ) → f ≤ at → at - f < length d → write_window f d at (v ∷ []) ≡ set d (at - f) v
write_window_one f d at v h l =
    ext_get_or 0 (write_window f d at (v ∷ [])) (set d (at - f) v) (length_write_window f d at (v ∷ []) ∙ sym (length-set d (at - f) v))
    (λ j m. by j (omega (arith, length_write_window f d at (v ∷ []))) (dec_lt j (at - f)) (dec_lt (at - f) j))
  where
    by : (j : ℕ) → j < length d → Dec (j < at - f) → Dec (at - f < j)
        → get_or (write_window f d at (v ∷ [])) j 0 ≡ get_or (set d (at - f) v) j 0
    by j m (yes a) b =
        write_window_before f d at (v ∷ []) j m (omega arith)
        ∙ sym (get_or-set_other d (at - f) j v 0 (λ e. omega arith))
    by j m (no a) (yes b) =
        write_window_after f d at (v ∷ []) j m (omega arith)
        ∙ sym (get_or-set_other d (at - f) j v 0 (λ e. omega arith))
    by j m (no a) (no b) =
        let e : j ≡ at - f = omega arith in
        write_window_inside f d at (v ∷ []) j 0 m (omega arith) (omega arith)
        ∙ sym (ap (λ (i : ℕ). get_or (set d (at - f) v) i 0) e ∙ get_or-set_same d (at - f) v 0 l)
