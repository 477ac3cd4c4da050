-- The fact that no group is empty has one proof at most, as a ghost field asks.
use Rattle.std.specs.Prelude.{List, [], ◌∷◌, ℕ, ◌<◌}
use Rattle.std.specs.Coded.{×_prop, Unit-prop, le_prop}
use Rattle.lists.specs.Lists.{All}

pub filled-prop : (sizes : List ℕ) → IsProp (All (λ s. 0 < s) sizes)
filled-prop [] = Unit-prop
filled-prop (s ∷ sizes) = ×_prop le_prop (filled-prop sizes)
