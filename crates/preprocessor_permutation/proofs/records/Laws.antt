-- The laws of a walk along a cycle (`preprocessor`'s `Along`), where cell i is known.
use mathlib.Core.Path.{◌≡◌, refl, sym, subst}
use mathlib.Core.List.{List}
use Prim.Native.Nat.{ℕ, ◌+◌, ◌-◌, ◌/◌, ◌≤◌, ◌<◌}
use lib.ListN.{length, get_or, set}
use Rattle.lists.specs.Lists.{All}
use Rattle.backend.specs.Circuit.{Cell, cell_at, cells_of}
use Rattle.preprocessor.specs.Permutation.{CycleIn, Walked, cell_word}
use Rattle.preprocessor.proofs.Walks.{Along, along_next, along_end, along_cell, along_fits}
use Rattle.lists.proofs.Columns.{tabulate_length}
use Rattle.std.proofs.lemmas.List.{get_or_default}

-- two words for a cell
pub cells_count : (ws : List ℕ) → length (cells_of ws) ≡ length ws / 2
cells_count ws = tabulate_length (cell_at ws) (length ws / 2)

pub cells_some : (ws : List ℕ) → 0 < length ws / 2 → 0 < length (cells_of ws)
cells_some ws h = subst (λ (n : ℕ). 0 < n) (sym (cells_count ws)) h

-- a cell where there is none
abbrev pub none : Cell
none = record { polynomial = 0; row = 0 }

module _ (starts : List ℕ) (xs : List Cell) where
  at : ℕ → Cell
  at i = get_or xs i none

  each : (i : ℕ) (y : Cell) → i < length xs → get_or xs i y ≡ at i
  unfolding at
  each i y l = get_or_default xs i y none l

  abbrev pub Inside : ℕ → Cell → Type 0
  Inside m x = (x.polynomial < 72) × (cell_word starts x < m)

  module _ (i : ℕ) (l : i < length xs) (x : Cell) (e : get_or xs i none ≡ x) where
    pub cell : (m : ℕ) → All (Inside m) xs → Inside m x
    unfolding at
    cell m a = subst (Inside m) e (along_cell starts xs (length xs) at refl each m i a l)

    pub fits : (d : List ℕ) (v : ℕ) (columns : List ℕ) (label : ℕ) → Along starts xs d v columns label i → All (Inside (length d)) xs → Inside (length columns) x
    unfolding at
    fits d v columns label w a = subst (Inside (length columns)) e (along_fits starts xs (length xs) at refl each d v columns label i w a l)

    pub next : (d : List ℕ) (v : ℕ) (columns : List ℕ) (label held : ℕ) (after : List ℕ) → Along starts xs d v columns label i
        → held ≡ get_or columns (cell_word starts x) 0
        → after ≡ set columns (cell_word starts x) label
        → Along starts xs d v after held (i + 1)
    unfolding at
    next d v columns label held after w =
        subst (λ (y : Cell). held ≡ get_or columns (cell_word starts y) 0 → after ≡ set columns (cell_word starts y) label → Along starts xs d v after held (i + 1)) e
        (along_next starts xs (length xs) at refl each d v columns label i held after w l)

  pub end : (x : Cell) → get_or xs (length xs - 1) none ≡ x → (d : List ℕ) (v : ℕ) (columns : List ℕ) (label i : ℕ) → 0 < length xs
      → CycleIn starts xs (length d)
      → All (Inside (length d)) xs
      → v ≡ get_or d (cell_word starts x) 0
      → Along starts xs d v columns label i
      → length xs ≤ i
      → Walked starts xs d columns
  unfolding at
  end x e d v columns label i p c a =
      subst (λ (y : Cell). v ≡ get_or d (cell_word starts y) 0 → Along starts xs d v columns label i → length xs ≤ i → Walked starts xs d columns) e
      (along_end starts xs (length xs) at refl each d v columns label i p c a)
