-- Cells in 1024 chains, by the remainder of their rows: each cell is linked to the last before it of its chain.
use Rattle.std.specs.Prelude.{◌≡◌, cond, List, ℕ, zero, suc, ◌%◌, ◌<◌, eqb, length, get_or}
use Rattle.backend.specs.Circuit.{cell_at}

-- the chain of cell m
abbrev pub chain_of : List ℕ → ℕ → ℕ
chain_of cells m = (cell_at cells m).row % 1024

-- one more than the number of the last of the first n cells in chain b, 0 where there is none
unfoldable pub last_in : List ℕ → ℕ → ℕ → ℕ
last_in cells b zero = 0
last_in cells b (suc n) = cond (eqb (chain_of cells n) b) (suc n) (last_in cells b n)

-- the first n cells are linked
pub record Linked (cells heads earlier : List ℕ) (n : ℕ) : Type 0 where
  pub chains : length heads ≡ 1024
  pub room : length earlier ≡ 4096
  pub heads_are : (b : ℕ) → b < 1024 → get_or heads b 0 ≡ last_in cells b n
  pub earlier_are : (m : ℕ) → m < n → get_or earlier m 0 ≡ last_in cells (chain_of cells m) m
