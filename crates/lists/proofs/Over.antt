-- A buffer after a run of words was written into it: `writeAt d at s`, d with s from place `at` on.
use mathlib.Core.Path.{◌≡◌, refl, sym, ap, ap₂, ◌∙◌}
use mathlib.Core.List.{List, [], ◌∷◌, ◌++◌, append_assoc}
use Prim.Native.Nat.{ℕ, suc, ◌+◌, ◌-◌, ◌≤◌, ◌<◌}
use native.Mathlib.Nat.{add-zero, zero-add}
use native.Mathlib.Numerals.{add-one}
use native.Mathlib.Omega.{arith}
use lib.ListN.{length, get_or, take, drop, set, length-append, length-drop, take-append-drop}
use lib.Seq.{length-take-le, take_at, drop_at, drop-append-add, drop-drop, set_split, sets, sets-eq, get_or-take, get_or-drop}
use Rattle.lists.specs.Lists.{tabulate, write_prefix, write_at}
use Rattle.lists.proofs.Lists.{get_left}
use Rattle.lists.proofs.Columns.{tabulate_length, tabulate_suc}

-- lists that agree from a place on agree further behind
pub drop_more : {A : Type 0} (m n : ℕ) (x y : List A) → m ≤ n → drop m x ≡ drop m y → drop n x ≡ drop n y
drop_more {A} m n x y h e =
    let q : n ≡ m + (n - m) = omega arith in
    ap (λ (i : ℕ). drop i x) q ∙ sym (drop-drop (n - m) m x) ∙ ap (drop (n - m)) e ∙ drop-drop (n - m) m y
    ∙ ap (λ (i : ℕ). drop i y) (sym q)

module _ {A : Type 0} (d : List A) (at : ℕ) (s : List A) where
  pub length_write_at : at + length s ≤ length d → length (write_at d at s) ≡ length d
  unfolding write_at
  length_write_at h =
      omega (
        arith,
        length-append (take at d) (s ++ drop (at + length s) d),
        length-append s (drop (at + length s) d),
        length-take-le at d (omega arith),
        length-drop (at + length s) d,
      )

  -- ---- its parts
  pub take_write_at : at ≤ length d → take at (write_at d at s) ≡ take at d
  unfolding write_at
  take_write_at h = take_at (take at d) (s ++ drop (at + length s) d) at (length-take-le at d h)

  from_over : at ≤ length d → drop at (write_at d at s) ≡ s ++ drop (at + length s) d
  unfolding write_at
  from_over h = drop_at (take at d) (s ++ drop (at + length s) d) at (length-take-le at d h)

  pub drop_write_at : at ≤ length d → drop (at + length s) (write_at d at s) ≡ drop (at + length s) d
  drop_write_at h =
      sym (drop-drop (length s) at (write_at d at s)) ∙ ap (drop (length s)) (from_over h)
      ∙ drop_at s (drop (at + length s) d) (length s) refl

  -- further behind
  pub drop_past : (n : ℕ) → at ≤ length d → at + length s ≤ n → drop n (write_at d at s) ≡ drop n d
  drop_past n h l = drop_more (at + length s) n (write_at d at s) d l (drop_write_at h)

  -- ---- its entries
  pub write_at_before : (i : ℕ) (z : A) → at ≤ length d → i < at → get_or (write_at d at s) i z ≡ get_or d i z
  write_at_before i z h l =
      sym (get_or-take at (write_at d at s) i z l) ∙ ap (λ (xs : List A). get_or xs i z) (take_write_at h) ∙ get_or-take at d i z l

  pub write_at_inside : (i : ℕ) (z : A) → at ≤ length d → i < length s → get_or (write_at d at s) (at + i) z ≡ get_or s i z
  write_at_inside i z h l =
      sym (get_or-drop at (write_at d at s) i z) ∙ ap (λ (xs : List A). get_or xs i z) (from_over h)
      ∙ get_left s (drop (at + length s) d) i z l

  pub write_at_after : (i : ℕ) (z : A) → at ≤ length d → at + length s ≤ i → get_or (write_at d at s) i z ≡ get_or d i z
  write_at_after i z h l =
      let e : i ≡ at + length s + (i - (at + length s)) = omega arith in
      ap (λ (j : ℕ). get_or (write_at d at s) j z) e
      ∙ sym (get_or-drop (at + length s) (write_at d at s) (i - (at + length s)) z)
      ∙ ap (λ (xs : List A). get_or xs (i - (at + length s)) z) (drop_write_at h)
      ∙ get_or-drop (at + length s) d (i - (at + length s)) z
      ∙ ap (λ (j : ℕ). get_or d j z) (sym e)

  -- ---- one run behind another
  pub write_at_write_at : (t : List A) → at + length s ≤ length d → write_at (write_at d at s) (at + length s) t ≡ write_at d at (s ++ t)
  unfolding write_at
  write_at_write_at t h =
      let n : length (take at d ++ s) ≡ at + length s =
      length-append (take at d) s ∙ ap (λ (j : ℕ). j + length s) (length-take-le at d (omega arith)) in
      let rest : List A = drop (at + length s) d in
      let whole : take at d ++ (s ++ rest) ≡ (take at d ++ s) ++ rest = sym (append_assoc (take at d) s rest) in
      let front : take (at + length s) (take at d ++ (s ++ rest)) ≡ take at d ++ s =
      ap (take (at + length s)) whole ∙ take_at (take at d ++ s) rest (at + length s) n in
      let sums : at + length s + length t ≡ at + length (s ++ t) = omega (arith, length-append s t) in
      let back : drop (at + length s + length t) (take at d ++ (s ++ rest)) ≡ drop (at + length (s ++ t)) d =
      ap₂ drop (ap (λ (j : ℕ). j + length t) (sym n)) whole
      ∙ drop-append-add (take at d ++ s) rest (length t)
      ∙ drop-drop (length t) (at + length s) d
      ∙ ap (λ (j : ℕ). drop j d) sums in
      ap₂ (λ (x y : List A). x ++ (t ++ y)) front back
      ∙ append_assoc (take at d) s (t ++ drop (at + length (s ++ t)) d)
      ∙ ap (λ (x : List A). take at d ++ x) (sym (append_assoc s t (drop (at + length (s ++ t)) d)))

module _ {A : Type 0} where
  pub write_at_none : (d : List A) (at : ℕ) → write_at d at [] ≡ d
  unfolding write_at
  write_at_none d at = ap (λ (n : ℕ). take at d ++ drop n d) (add-zero at) ∙ take-append-drop at d

  -- from the first place on
  pub write_at_front : (d s : List A) → write_at d 0 s ≡ s ++ drop (length s) d
  unfolding write_at
  write_at_front d s = ap (λ (n : ℕ). s ++ drop n d) (zero-add (length s))

  -- a run written again, by one as long
  pub write_at_again : (d : List A) (at : ℕ) (s t : List A) → at + length s ≤ length d → length s ≡ length t → write_at (write_at d at s) at t ≡ write_at d at t
  unfolding write_at
  write_at_again d at s t h e =
      ap₂ (λ (x y : List A). x ++ (t ++ y)) (take_write_at d at s (omega arith))
      (ap (λ (n : ℕ). drop (at + n) (write_at d at s)) (sym e) ∙ drop_write_at d at s (omega arith) ∙ ap (λ (n : ℕ). drop (at + n) d) e)

  -- ---- word by word
  pub write_at_one : (d : List A) (at : ℕ) (v : A) → at < length d → write_at d at (v ∷ []) ≡ set d at v
  unfolding write_at
  write_at_one d at v h =
      ap (λ (n : ℕ). take at d ++ (v ∷ drop n d)) (add-one at) ∙ sym (set_split d at v h)

  pub write_at_snoc : (d : List A) (at : ℕ) (s : List A) (v : A) → at + length s < length d
      → set (write_at d at s) (at + length s) v ≡ write_at d at (s ++ (v ∷ []))
  write_at_snoc d at s v h =
      sym (write_at_one (write_at d at s) (at + length s) v (let e = length_write_at d at s (omega arith) in omega arith))
      ∙ write_at_write_at d at s (v ∷ []) (omega arith)

  -- the next word of a column
  pub write_at_tabulate : (d : List A) (at : ℕ) (f : ℕ → A) (n : ℕ) → at + n < length d
      → set (write_at d at (tabulate f n)) (at + n) (f n) ≡ write_at d at (tabulate f (suc n))
  write_at_tabulate d at f n h =
      let e = tabulate_length f n in
      ap (λ (m : ℕ). set (write_at d at (tabulate f n)) (at + m) (f n)) (sym e)
      ∙ write_at_snoc d at (tabulate f n) (f n) (omega arith)
      ∙ ap (write_at d at) (sym (tabulate_suc f n))

  -- words set one after another
  pub write_at_sets : (vs d : List A) (at : ℕ) → at + length vs ≤ length d → sets d at vs ≡ write_at d at vs
  unfolding write_at
  write_at_sets vs d at h = sets-eq vs d at h ∙ append_assoc (take at d) vs (drop (at + length vs) d)

-- `write_prefix` is `write_at` from the first place on
pub write_at_write_prefix : (s d : List ℕ) → write_prefix s d ≡ write_at d 0 s
write_at_write_prefix s d = sym (write_at_front d s)
