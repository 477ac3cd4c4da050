-- The checked constructor's answer for all words.
use mathlib.Core.Path.{◌≡◌, refl, sym, ap, ◌∙◌}
use mathlib.Core.Bool.{Bool, true, false, cond, ◌&&◌}
use mathlib.Core.List.{List, [], ◌∷◌, map}
use Prim.Native.Nat.{ℕ, max}
use native.Mathlib.Omega.{arith}
use lib.Dec.{ltb}
use Rattle.field.specs.Prime.{P}
use Rattle.lists.specs.Lists.{all_of, maximum}
use Rattle.field.specs.Parse.{Among, choose, parsed, number_among, parsed_number}

max_zero : (n : ℕ) → max 0 n ≡ n
max_zero n = omega arith

max_same : (n : ℕ) (t : Bool) → max n (cond t 0 n) ≡ n
max_same n true = omega arith
max_same n false = omega arith

module _ (a : Among) where
  all_number : (ws : List ℕ) → cond (all_of (λ w. ltb w P) ws) 0 (number_among a) ≡ maximum (map (λ w. parsed_number a (parsed w)) ws)
  unfolding all_of maximum
  all_number [] = refl
  all_number (w ∷ ws) = by (ltb w P) (all_number ws)
    where
      by : (t : Bool)
          → cond (all_of (λ w. ltb w P) ws) 0 (number_among a) ≡ maximum (map (λ w. parsed_number a (parsed w)) ws)
          → cond (t && all_of (λ w. ltb w P) ws) 0 (number_among a)
          ≡ max (parsed_number a (choose t w)) (maximum (map (λ w. parsed_number a (parsed w)) ws))
      by true e = e ∙ sym (max_zero (maximum (map (λ w. parsed_number a (parsed w)) ws)))
      by false e = sym (ap (max (number_among a)) (sym e) ∙ max_same (number_among a) (all_of (λ w. ltb w P) ws))

pub words_number : (ws : List ℕ) (r : Bool) → r ≡ all_of (λ w. ltb w P) ws
    → (r ≡ all_of (λ w. ltb w P) ws) × ((a : Among) → cond r 0 (number_among a) ≡ maximum (map (λ w. parsed_number a (parsed w)) ws))
words_number ws r e = (e, λ a. ap (λ (t : Bool). cond t 0 (number_among a)) e ∙ all_number a ws)
