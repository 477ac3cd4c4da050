-- A chain's `all` answers as `all_of`.
use mathlib.Core.Path.{◌≡◌, refl, ap}
use mathlib.Core.Bool.{Bool, ◌&&◌}
use mathlib.Core.List.{List, [], ◌∷◌}
use Rattle.std.specs.List.{list_all}
use Rattle.lists.specs.Lists.{all_of}

pub list_all-is : {A : Type 0} (p : A → Bool) (xs : List A) → list_all p xs ≡ all_of p xs
unfolding all_of
list_all-is p [] = refl
list_all-is p (x ∷ xs) = ap (λ (b : Bool). p x && b) (list_all-is p xs)
