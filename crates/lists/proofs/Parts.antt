-- Parts of lists: the parts that `split` gives, columns one after another as one.
use mathlib.Core.Path.{◌≡◌, refl, sym, ap, ap₂, ◌∙◌}
use mathlib.Core.List.{List, [], ◌∷◌, ◌++◌}
use Prim.Native.Nat.{ℕ, zero, suc, ◌+◌, ◌*◌, ◌/◌, ◌%◌, ◌≤◌, ◌<◌}
use native.Mathlib.Nat.{
  not-suc-le-zero,
  add-zero,
  zero-mul,
  suc-mul,
  mul-add-div_right,
  mul-add-mod_self_right,
  div-eq_of_lt,
  mod-eq_of_lt,
}
use native.Mathlib.Numerals.{add-one}
use native.Mathlib.Omega.{arith}
use lib.ListN.{length, get_or, take, drop}
use lib.Seq.{take-add, take-suc, drop-drop}
use Rattle.lists.specs.Lists.{tabulate, concat, split, total}
use Rattle.lists.proofs.Columns.{columns_suc, tabulate_append, tabulate_cong}

-- column and row of a place
pub div_row : (i rows b : ℕ) → b < rows → (i * rows + b) / rows ≡ i
div_row i rows b l = mul-add-div_right {m = rows} (omega arith) i b ∙ ap (λ (n : ℕ). i + n) (div-eq_of_lt l) ∙ add-zero i

pub mod_row : (i rows b : ℕ) → b < rows → (i * rows + b) % rows ≡ b
mod_row i rows b l = mul-add-mod_self_right i rows b ∙ mod-eq_of_lt l

-- the total of one number more
pub total_next : (ns : List ℕ) (i : ℕ) → i < length ns → total (take (suc i) ns) ≡ total (take i ns) + get_or ns i 0
unfolding total
total_next [] i l = absurd (not-suc-le-zero l)
total_next (n ∷ ns) zero l = omega arith
total_next (n ∷ ns) (suc i) l = let q = total_next ns i (omega arith) in omega arith

pub total_within : (ns : List ℕ) (i : ℕ) → total (take i ns) + get_or ns i 0 ≤ total ns
unfolding total
total_within [] zero = omega arith
total_within [] (suc i) = omega arith
total_within (n ∷ ns) zero = omega arith
total_within (n ∷ ns) (suc i) = let q = total_within ns i in omega arith

module _ {A : Type 0} where
  -- part i: as many as its number, behind those of the parts before
  pub get_split : (ns : List ℕ) (xs : List A) (i : ℕ) → i < length ns → get_or (split ns xs) i [] ≡ take (get_or ns i 0) (drop (total (take i ns)) xs)
  unfolding split total
  get_split [] xs i l = absurd (not-suc-le-zero l)
  get_split (n ∷ ns) xs zero l = refl
  get_split (n ∷ ns) xs (suc i) l =
      get_split ns (drop n xs) i (omega arith) ∙ ap (take (get_or ns i 0)) (drop-drop (total (take i ns)) n xs)

  -- one part more
  pub split_end : (ns : List ℕ) (n : ℕ) (xs : List A) → split (ns ++ (n ∷ [])) xs ≡ split ns xs ++ (take n (drop (total ns) xs) ∷ [])
  unfolding split total
  split_end [] n xs = refl
  split_end (m ∷ ns) n xs =
      ap (λ (l : List (List A)). take m xs ∷ l)
      (split_end ns n (drop m xs) ∙ ap (λ (ys : List A). split ns (drop m xs) ++ (take n ys ∷ [])) (drop-drop (total ns) m xs))

  -- the parts, joined again
  pub concat_split : (ns : List ℕ) (xs : List A) → concat (split ns xs) ≡ take (total ns) xs
  unfolding concat split total
  concat_split [] xs = refl
  concat_split (n ∷ ns) xs = ap (λ (ys : List A). take n xs ++ ys) (concat_split ns (drop n xs)) ∙ sym (take-add n (total ns) xs)

  -- columns of one length, one after another, by place
  pub columns_flat : (rows : ℕ) (f : ℕ → ℕ → A) (n : ℕ) → concat (tabulate (λ i. tabulate (f i) rows) n) ≡ tabulate (λ j. f (j / rows) (j % rows)) (n * rows)
  unfolding tabulate concat
  columns_flat rows f zero = ap (tabulate (λ j. f (j / rows) (j % rows))) (sym (zero-mul rows))
  columns_flat rows f (suc n) =
      columns_suc rows f n
      ∙ ap₂ ◌++◌ (columns_flat rows f n) (tabulate_cong (f n) (λ b. f ((n * rows + b) / rows) ((n * rows + b) % rows)) rows same)
      ∙ sym (tabulate_append (λ j. f (j / rows) (j % rows)) (n * rows) rows)
      ∙ ap (tabulate (λ j. f (j / rows) (j % rows))) (sym (suc-mul n rows))
    where
      same : (b : ℕ) → b < rows → f n b ≡ f ((n * rows + b) / rows) ((n * rows + b) % rows)
      same b l = sym (ap₂ f (div_row n rows b l) (mod_row n rows b l))

module _ (ns : List ℕ) (i : ℕ) (lt : i < length ns) where
  pub total_more : total (take i ns) + get_or ns i 0 ≡ total (take (i + 1) ns)
  total_more = sym (total_next ns i lt) ∙ ap (λ (j : ℕ). total (take j ns)) (sym (add-one i))

  pub split_more : {A : Type 0} (xs : List A)
      → split (take (i + 1) ns) xs ≡ split (take i ns) xs ++ (take (get_or ns i 0) (drop (total (take i ns)) xs) ∷ [])
  split_more xs =
      ap (λ (l : List ℕ). split l xs) (ap (λ (n : ℕ). take n ns) (add-one i) ∙ take-suc ns i 0 lt)
      ∙ split_end (take i ns) (get_or ns i 0) xs

  -- what part i needs is there
  pub part_there : (from len : ℕ) → from ≡ total (take i ns) → total ns ≤ len → from + get_or ns i 0 ≤ len
  part_there from len e h = let q = total_within ns i in omega arith
