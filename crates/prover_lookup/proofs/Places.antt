-- Where the columns of a lookup stand, and columns written one after another.
use mathlib.Core.Path.{◌≡◌, sym, ap, ap₂, ◌∙◌}
use mathlib.Core.List.{List, ◌++◌}
use Prim.Native.Nat.{ℕ, suc, ◌+◌, ◌*◌, ◌≤◌, ◌<◌}
use native.Mathlib.Nat.{zero-mul, suc-mul, add-mul, mul_assoc, mul_right_comm, mul-le-mul_right}
use native.Mathlib.Numerals.{add-one}
use native.Mathlib.Omega.{arith}
use lib.ListN.{length, get_or, take}
use Rattle.lists.specs.Lists.{tabulate, concat, total, write_at}
use Rattle.lists.proofs.Columns.{columns_suc, columns_length}
use Rattle.lists.proofs.Over.{write_at_write_at}
use Rattle.lists.proofs.Parts.{total_within, total_more}
use Rattle.lists.proofs.Runs.{total_none}

-- ---- numbers

pub next_place : (j rows : ℕ) → (j + 1) * rows ≡ j * rows + rows
next_place j rows = ap (λ (x : ℕ). x * rows) (add-one j) ∙ suc-mul j rows

-- the table stands behind the input, and the next input behind the table
pub table_place : (at j rows : ℕ) → at + (j * 2 + 1) * rows ≡ at + j * 2 * rows + rows
table_place at j rows = omega (arith, next_place (j * 2) rows)

pub next_input : (at j rows : ℕ) → at + (j + 1) * 2 * rows ≡ at + j * 2 * rows + rows + rows
next_input at j rows =
    let e : (j + 1) * 2 ≡ j * 2 + 1 + 1 = omega arith in
    omega (arith, ap (λ (x : ℕ). x * rows) e, next_place (j * 2 + 1) rows, next_place (j * 2) rows)

-- row b of input i
pub input_place : (i rows b : ℕ) → i * (2 * rows) + b ≡ 0 + i * 2 * rows + b
input_place i rows b = omega (arith, mul_assoc i 2 rows)

pub place_there : (n j rows : ℕ) → j < n → j * rows + rows ≤ n * rows
place_there n j rows l =
    let m : suc j * rows ≤ n * rows = mul-le-mul_right rows (omega arith) in
    omega (arith, suc-mul j rows)

pub pair_there : (n j rows : ℕ) → j < n → j * 2 * rows + rows + rows ≤ n * 2 * rows
pair_there n j rows l =
    let m : suc (suc (j * 2)) * rows ≤ n * 2 * rows = mul-le-mul_right rows (omega arith) in
    omega (arith, suc-mul (suc (j * 2)) rows, suc-mul (j * 2) rows)

-- the first input and its table
pub first_there : (n rows : ℕ) → 0 < n → rows + rows ≤ n * 2 * rows
first_there n rows l = omega (arith, pair_there n 0 rows l, zero-mul rows)

pub pair_turn : (n rows : ℕ) → n * 2 * rows ≡ n * rows * 2
pair_turn n rows = mul_right_comm n 2 rows

-- ---- groups, by their sizes. Those before the first have no lookups; a group's stand behind those of the groups before it

module _ (at rows : ℕ) (sizes : List ℕ) where
  pub group_first : at ≡ at + total (take 0 sizes) * 2 * rows
  group_first =
      omega (arith, ap (λ (t : ℕ). t * 2 * rows) (total_none sizes), zero-mul rows)

  pub part : (a b : ℕ) → (a + b) * 2 * rows ≡ a * 2 * rows + b * 2 * rows
  part a b = let e : (a + b) * 2 ≡ a * 2 + b * 2 = omega arith in ap (λ (x : ℕ). x * rows) e ∙ add-mul (a * 2) (b * 2) rows

  pub group_there : (j : ℕ) → total (take j sizes) * 2 * rows + get_or sizes j 0 * 2 * rows ≤ total sizes * 2 * rows
  group_there j =
      let w = total_within sizes j in
      let m : (total (take j sizes) + get_or sizes j 0) * 2 * rows ≤ total sizes * 2 * rows = mul-le-mul_right rows (omega arith) in
      omega (arith, part (total (take j sizes)) (get_or sizes j 0))

  pub group_next : (j : ℕ) → j < length sizes
      → at + total (take j sizes) * 2 * rows + get_or sizes j 0 * rows * 2 ≡ at + total (take (j + 1) sizes) * 2 * rows
  group_next j l =
      let e : get_or sizes j 0 * 2 * rows ≡ get_or sizes j 0 * rows * 2 = pair_turn (get_or sizes j 0) rows in
      omega (arith, part (total (take j sizes)) (get_or sizes j 0), ap (λ (t : ℕ). t * 2 * rows) (total_more sizes j l))

-- ---- buffers

-- a run behind the columns that stand from word `to` on
module _ (d : List ℕ) (to rows : ℕ) (f : ℕ → ℕ → ℕ) (j p : ℕ) (at : p ≡ to + j * rows) (room : to + j * rows ≤ length d)
    (cur e : List ℕ) (is : cur ≡ write_at d to (concat (tabulate (λ j. tabulate (f j) rows) j))) where
  pub run_next : (s : List ℕ) → e ≡ write_at cur p s → e ≡ write_at d to (concat (tabulate (λ j. tabulate (f j) rows) j) ++ s)
  run_next s put =
      let len = columns_length rows f j in
      let q : p ≡ to + length (concat (tabulate (λ j. tabulate (f j) rows) j)) = omega arith in
      put
      ∙ ap₂ (λ (x : List ℕ) (w : ℕ). write_at x w s) is q
      ∙ write_at_write_at d to (concat (tabulate (λ j. tabulate (f j) rows) j)) s (omega arith)

  pub column_next : e ≡ write_at cur p (tabulate (f j) rows) → e ≡ write_at d to (concat (tabulate (λ j. tabulate (f j) rows) (j + 1)))
  column_next put =
      run_next (tabulate (f j) rows) put
      ∙ ap (write_at d to) (sym (columns_suc rows f j))
      ∙ ap (λ (i : ℕ). write_at d to (concat (tabulate (λ j. tabulate (f j) rows) i))) (sym (add-one j))
