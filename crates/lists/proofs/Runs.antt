-- Parts of a column, sums of a list's first numbers, and part j of a split list. Proved.
use mathlib.Core.Path.{◌≡◌, refl, ap, ap₂, ◌∙◌}
use mathlib.Core.List.{List}
use Prim.Native.Nat.{ℕ, ◌+◌, ◌-◌, ◌≤◌, ◌<◌, min}
use native.Mathlib.Decide.{dec_lt}
use native.Mathlib.Omega.{arith}
use lib.ListN.{length, get_or, take, drop}
use lib.Seq.{take_all, take_at, drop_at}
use Rattle.lists.specs.Lists.{tabulate, total}
use Rattle.lists.proofs.Columns.{tabulate_length, tabulate_append}
use Rattle.lists.proofs.Parts.{total_within, total_more}

-- ---- runs of a column
module _ {A : Type 0} (f : ℕ → A) where
  pub drop_tabulate : (s n : ℕ) → s ≤ n → drop s (tabulate f n) ≡ tabulate (λ i. f (s + i)) (n - s)
  drop_tabulate s n h =
      let e : n ≡ s + (n - s) = omega arith in
      ap (λ (m : ℕ). drop s (tabulate f m)) e ∙ ap (drop s) (tabulate_append f s (n - s))
      ∙ drop_at (tabulate f s) (tabulate (λ i. f (s + i)) (n - s)) s (tabulate_length f s)

  pub take_tabulate : (w n : ℕ) → w ≤ n → take w (tabulate f n) ≡ tabulate f w
  take_tabulate w n h =
      let e : n ≡ w + (n - w) = omega arith in
      ap (λ (m : ℕ). take w (tabulate f m)) e ∙ ap (take w) (tabulate_append f w (n - w))
      ∙ take_at (tabulate f w) (tabulate (λ i. f (w + i)) (n - w)) w (tabulate_length f w)

  pub take_min : (w n : ℕ) → take w (tabulate f n) ≡ tabulate f (min w n)
  take_min w n = go (dec_lt n w)
    where
      go : Dec (n < w) → take w (tabulate f n) ≡ tabulate f (min w n)
      go (yes h) =
          take_all w (tabulate f n) (let e = tabulate_length f n in omega arith) ∙ ap (tabulate f) (omega arith)
      go (no h) = take_tabulate w n (omega arith) ∙ ap (tabulate f) (omega arith)

pub part_tabulate : {A : Type 0} (f : ℕ → A) (s w n : ℕ) → s + w ≤ n → take w (drop s (tabulate f n)) ≡ tabulate (λ i. f (s + i)) w
part_tabulate f s w n h =
    ap (take w) (drop_tabulate f s n (omega arith)) ∙ take_tabulate (λ i. f (s + i)) w (n - s) (omega arith)

-- ---- sums of the first numbers
pub total_first : (ns : List ℕ) (i : ℕ) → total (take i ns) ≤ total ns
total_first ns i = let q = total_within ns i in omega arith

pub total_none : (ns : List ℕ) → total (take 0 ns) ≡ 0
unfolding total
total_none ns = refl

pub total_step : (ns : List ℕ) (i sum n : ℕ) → i < length ns → sum ≡ total (take i ns) → n ≡ get_or ns i 0
    → sum + n ≡ total (take (i + 1) ns)
total_step ns i sum n h p q = ap₂ ◌+◌ p q ∙ total_more ns i h
