-- Question 17 by its parts: the groups', and the copied columns'.
use mathlib.Core.Path.{◌≡◌, sym, ap, ◌∙◌}
use mathlib.Core.Bool.{Bool, ◌||◌}
use mathlib.Core.List.{List, map}
use Rattle.field.specs.Algebra.{Field}
use Rattle.lists.specs.Lists.{concat, any_of}
use Rattle.lists.proofs.Tests.{any_append}
use Rattle.lists.proofs.Walks.{any_map, any_lists}
use Rattle.backend.specs.Circuit.{Pair, rows_of, num_copied, groups_of}
use Rattle.prover.specs.Lookup.{same}
use Rattle.prover.specs.Log.{Log}
use Rattle.prover.specs.Columns.{group_inputs, group_table, permutation_factor_at}
use Rattle.prover.specs.Denominators.{
  some_zero,
  group_denominators,
  factor_denominators,
  denominators_of,
  zero_denominator,
}

module _ (𝓕 : Field) (g : Log 𝓕) where
  open 𝓕 use {F, zero}

  abbrev is : F → Bool
  is x = same 𝓕 x zero

  abbrev of_group : List (List Pair) → List F
  of_group gr = group_denominators 𝓕 (rows_of g.circuit) g.γ (group_inputs 𝓕 g gr) (group_table 𝓕 g gr)

  abbrev of_columns : List F
  of_columns = factor_denominators 𝓕 (rows_of g.circuit) (num_copied g.circuit) (permutation_factor_at 𝓕 g)

  pub zero_parts : zero_denominator 𝓕 g
      ≡ (any_of (λ gr. some_zero 𝓕 (group_denominators 𝓕 (rows_of g.circuit) g.γ (group_inputs 𝓕 g gr) (group_table 𝓕 g gr))) (groups_of g.circuit)
      || some_zero 𝓕 (factor_denominators 𝓕 (rows_of g.circuit) (num_copied g.circuit) (permutation_factor_at 𝓕 g)))
  unfolding zero_denominator denominators_of some_zero
  zero_parts =
      any_append is (concat (map of_group (groups_of g.circuit))) of_columns
      ∙ ap (λ (t : Bool). t || any_of is of_columns)
      (sym (any_lists is (map of_group (groups_of g.circuit))) ∙ any_map (any_of is) of_group (groups_of g.circuit))
