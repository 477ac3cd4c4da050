-- A column written into a buffer, one word after another.
use mathlib.Core.Path.{◌≡◌, refl, sym, ap, ap₂, ◌∙◌}
use mathlib.Core.List.{List}
use Prim.Native.Nat.{ℕ, ◌+◌, ◌≤◌, ◌<◌}
use native.Mathlib.Numerals.{add-one}
use native.Mathlib.Omega.{arith}
use lib.ListN.{length, get_or, set, replicate, length-set}
use Rattle.lists.specs.Lists.{tabulate, write_at}
use Rattle.lists.proofs.Columns.{tabulate_replicate}
use Rattle.lists.proofs.Over.{write_at_none, write_at_tabulate, write_at_before}

-- the buffer when the first i words of the column f stand from `at` on
pub record Filled (rows : ℕ) (f : ℕ → ℕ) (d : List ℕ) (at : ℕ) (m : List ℕ) (i : ℕ) : Type 0 where
  pub upto : i ≤ rows
  pub size : length m ≡ length d
  pub now : m ≡ write_at d at (tabulate f i)

module _ (rows : ℕ) (f : ℕ → ℕ) (d : List ℕ) (at : ℕ) where
  pub fill_start : Filled rows f d at d 0
  unfolding tabulate
  fill_start = record { upto = omega arith; size = refl; now = sym (write_at_none d at) }

  module _ (m : List ℕ) (i : ℕ) (inv : Filled rows f d at m i) where
    pub fill_more : at + rows ≤ length d → i < rows → (w : ℕ) → w ≡ f i → Filled rows f d at (set m (at + i) w) (i + 1)
    fill_more room h w e =
        record {
          upto = omega arith;
          size = length-set m (at + i) w ∙ inv.size;
          now =
              ap₂ (λ (x : List ℕ) (v : ℕ). set x (at + i) v) inv.now e
              ∙ write_at_tabulate d at f i (omega arith)
              ∙ ap (λ (n : ℕ). write_at d at (tabulate f n)) (sym (add-one i));
        }

    -- the same, at the word p
    pub fill_more_at : at + rows ≤ length d → i < rows → (p : ℕ) → p ≡ at + i → (w : ℕ) → w ≡ f i → Filled rows f d at (set m p w) (i + 1)
    fill_more_at room h p q w e = rw q (fill_more room h w e)

    -- what stands before is as it was
    pub fill_before : at ≤ length d → (j : ℕ) → j < at → get_or m j 0 ≡ get_or d j 0
    fill_before room j l = ap (λ (x : List ℕ). get_or x j 0) inv.now ∙ write_at_before d at (tabulate f i) j 0 room l

    pub fill_end : rows ≤ i → m ≡ write_at d at (tabulate f rows)
    fill_end h = let e : i ≡ rows = omega arith in inv.now ∙ ap (λ (n : ℕ). write_at d at (tabulate f n)) e

pub fill_zero : (rows : ℕ) (d : List ℕ) (at : ℕ) (m : List ℕ) → m ≡ write_at d at (tabulate (λ _. 0) rows) → m ≡ write_at d at (replicate rows 0)
fill_zero rows d at m e = e ∙ ap (write_at d at) (tabulate_replicate 0 rows)
