-- One word of a column in a buffer changed.
use mathlib.Core.Path.{◌≡◌, refl, sym, ap, ap₂, ◌∙◌}
use mathlib.Core.Logic.{◌≢◌}
use mathlib.Core.Bool.{Bool, cond}
use mathlib.Core.List.{List, [], ◌∷◌, ◌++◌}
use Prim.Native.Nat.{ℕ, ◌+◌, ◌≤◌, ◌<◌}
use native.Mathlib.Nat.{zero-add, suc-add}
use native.Mathlib.Decide.{ℕ_discrete}
use native.Mathlib.Omega.{arith}
use lib.Dec.{eqb}
use lib.ListN.{length, get_or, take, drop, set, length-set, length-drop, take-append-drop}
use lib.Seq.{set-append_left, length-take-le, get_or-set_same, get_or-set_other, get_or-drop, drop-drop, ext_get_or}
use borrow.Author.Tests.{eq-eqb, ne_eqb}
use Rattle.lists.specs.Lists.{tabulate, write_at}
use Rattle.lists.proofs.Columns.{tabulate_length, get_tabulate, tabulate_cong, tabulate_take}

module _ {A : Type 0} where
  pub set_append_add : (xs ys : List A) (n : ℕ) (v : A) → set (xs ++ ys) (length xs + n) v ≡ xs ++ set ys n v
  set_append_add [] ys n v = ap (λ (i : ℕ). set ys i v) (zero-add n)
  set_append_add (x ∷ xs) ys n v =
      ap (λ (i : ℕ). set (x ∷ (xs ++ ys)) i v) (suc-add (length xs) n) ∙ ap (λ (l : List A). x ∷ l) (set_append_add xs ys n v)

  -- a word of what was written
  pub write_at_set : (d : List A) (at : ℕ) (s : List A) (i : ℕ) (v : A) → at ≤ length d → i < length s
      → set (write_at d at s) (at + i) v ≡ write_at d at (set s i v)
  unfolding write_at
  write_at_set d at s i v h l =
      ap (λ (n : ℕ). set (take at d ++ (s ++ drop (at + length s) d)) (n + i) v) (sym (length-take-le at d h))
      ∙ set_append_add (take at d) (s ++ drop (at + length s) d) i v
      ∙ ap (λ (x : List A). take at d ++ x) (set-append_left s (drop (at + length s) d) i v l)
      ∙ ap (λ (n : ℕ). take at d ++ (set s i v ++ drop (at + n) d)) (sym (length-set s i v))

  -- two columns that differ at one place
  pub set_tabulate_to : (f g : ℕ → A) (n a : ℕ) → a < n → ((i : ℕ) → i < n → i ≢ a → f i ≡ g i) → set (tabulate f n) a (g a) ≡ tabulate g n
  set_tabulate_to f g n a l h =
      ext_get_or (g a) (set (tabulate f n) a (g a)) (tabulate g n)
      (length-set (tabulate f n) a (g a) ∙ tabulate_length f n ∙ sym (tabulate_length g n))
      (λ i m. at i (let q = length-set (tabulate f n) a (g a) in let w = tabulate_length f n in omega arith) (ℕ_discrete i a))
    where
      at : (i : ℕ) → i < n → Dec (i ≡ a) → get_or (set (tabulate f n) a (g a)) i (g a) ≡ get_or (tabulate g n) i (g a)
      at i m (yes e) =
          ap (λ (j : ℕ). get_or (set (tabulate f n) a (g a)) j (g a)) e
          ∙ get_or-set_same (tabulate f n) a (g a) (g a) (let w = tabulate_length f n in omega arith)
          ∙ sym (get_tabulate g n i (g a) m ∙ ap g e)
      at i m (no e) =
          get_or-set_other (tabulate f n) a i (g a) (g a) e ∙ get_tabulate f n i (g a) m ∙ h i m e ∙ sym (get_tabulate g n i (g a) m)

  -- one entry changed
  pub set_tabulate : (f : ℕ → A) (n a : ℕ) (v : A) → a < n → set (tabulate f n) a v ≡ tabulate (λ i. cond (eqb i a) v (f i)) n
  set_tabulate f n a v l =
      let g : ℕ → A = λ i. cond (eqb i a) v (f i) in
      ap (set (tabulate f n) a) (sym (ap (λ (t : Bool). cond t v (f a)) (eq-eqb a a refl)))
      ∙ set_tabulate_to f g n a l (λ i _ e. sym (ap (λ (t : Bool). cond t v (f i)) (ne_eqb i a e)))

-- a word of a column in a buffer: the others stay as they are
pub write_at_tabulate_set : (d : List ℕ) (at : ℕ) (f g : ℕ → ℕ) (n a : ℕ) → at ≤ length d → a < n → ((i : ℕ) → i < n → i ≢ a → f i ≡ g i)
    → set (write_at d at (tabulate f n)) (at + a) (g a) ≡ write_at d at (tabulate g n)
write_at_tabulate_set d at f g n a h l e =
    write_at_set d at (tabulate f n) a (g a) h (let q = tabulate_length f n in omega arith)
    ∙ ap (write_at d at) (set_tabulate_to f g n a l e)

-- words written where they stand
pub write_at_self : (d : List ℕ) (at n : ℕ) → at + n ≤ length d → write_at d at (tabulate (λ i. get_or d (at + i) 0) n) ≡ d
unfolding write_at
write_at_self d at n h =
    let part : tabulate (λ i. get_or d (at + i) 0) n ≡ take n (drop at d) =
    tabulate_cong (λ i. get_or d (at + i) 0) (λ i. get_or (drop at d) i 0) n (λ i _. sym (get_or-drop at d i 0))
    ∙ tabulate_take (drop at d) 0 n (let q = length-drop at d in omega arith) in
    let rest : drop (at + length (tabulate (λ i. get_or d (at + i) 0) n)) d ≡ drop n (drop at d) =
    ap (λ (m : ℕ). drop (at + m) d) (tabulate_length (λ i. get_or d (at + i) 0) n) ∙ sym (drop-drop n at d) in
    ap₂ (λ (x y : List ℕ). take at d ++ (x ++ y)) part rest
    ∙ ap (λ (x : List ℕ). take at d ++ x) (take-append-drop n (drop at d))
    ∙ take-append-drop at d
