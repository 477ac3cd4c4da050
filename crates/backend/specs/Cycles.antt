-- Question 11, put to one cell after another.
use Rattle.std.specs.Prelude.{Bool, not, ◌&&◌, List, ℕ, ◌+◌, ◌-◌, ltb}
use Rattle.lists.specs.Lists.{tabulate, all_of, within}
use Rattle.backend.specs.Circuit.{Cell, cell_at, same_cell}

-- n cells of a body, from `start` on
abbrev pub cells_from : List ℕ → ℕ → ℕ → List Cell
cells_from body start n = tabulate (λ i. cell_at body (start + i)) n

-- is it none of these?
abbrev pub fresh : Cell → List Cell → Bool
fresh x before = all_of (λ y. not (same_cell x y)) before

-- a cell and those before it in its cycle: its polynomial in range, its row from 1 to 2^k − 1, "no cell twice within one cycle"
abbrev pub good_at : ℕ → ℕ → Cell → List Cell → Bool
good_at polys rows x before = ltb x.polynomial polys && within 1 (rows - 1) x.row && fresh x before
