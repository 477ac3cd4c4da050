-- The element of 𝔾 that a field value is: that of its word, whatever the word.
use Rattle.std.specs.Prelude.{Bool}
use Rattle.std.proofs.Math.Bool.{decide}
use Rattle.field.specs.Field.{𝔾, el}
use Rattle.field.specs.declared.goldilocks.Goldilocks.{Goldilocks}

abbrev pub elem : Goldilocks → 𝔾.F
elem x = el x.0

abbrev pub is_zero : 𝔾.F → Bool
is_zero x = decide (𝔾.decide x 𝔾.zero)
