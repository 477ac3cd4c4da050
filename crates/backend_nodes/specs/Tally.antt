-- How often each node is named, counted in one of 1024 places.
use Rattle.std.specs.Prelude.{◌≡◌, List, ℕ, ◌+◌, ◌^◌, ◌<◌, length, get_or}
use Rattle.lists.specs.Lists.{count_of}
use Rattle.backend.specs.Layout.{Name, is_name}

-- each place has room for n more
pub record Room (counts : List ℕ) (n : ℕ) : Type 0 where
  pub places : length counts ≡ 1024
  pub each : (i : ℕ) → i < 1024 → get_or counts i 0 + n < 2 ^ 64

-- place i has one more for each of these names that names node i
pub record Tally (before : List ℕ) (names : List Name) (after : List ℕ) : Type 0 where
  pub places : length after ≡ length before
  pub each : (i : ℕ) → i < 1024 → get_or after i 0 ≡ get_or before i 0 + count_of (is_name i) names
