-- 15 is given exactly when, for some group, no column of whole counts turns the table into the inputs; the m of a group of s lookups sums
-- to s × 2^k, and each h to 0.
use mathlib.Core.Path.{◌≡◌, ap, ◌∙◌}
use mathlib.Core.Logic.{◌↔◌}
use mathlib.Core.Bool.{true, false}
use mathlib.Core.List.{[]}
use Prim.Native.Nat.{ℕ, ◌*◌}
use lib.ListN.{length, get_or, length-map}
use Rattle.field.specs.Algebra.{Field}
use Rattle.lists.proofs.Tests.{all_each}
use Rattle.backend.specs.Circuit.{rows_of, groups_of}
use Rattle.prover.specs.Lookup.{sum_counts, group_covered, sum_rows}
use Rattle.prover.specs.Log.{Log}
use Rattle.prover.specs.Columns.{input_at, group_inputs, group_table, count_at, m_at, lookup_h_at, all_covered}
use Rattle.prover.proofs.Groups.{group_sum, groups_refused, groups_counted}
use Rattle.hyperplonk_spec.specs.Meaning.{Embeds, EachGroup, NoCounts, HasCounts}
use Rattle.completeness.proofs.Habock.{habock_sum}

module _ (𝓕 : Field) (g : Log 𝓕) where
  open 𝓕 use {F, zero as nil}

  abbrev rows : ℕ
  rows = rows_of g.circuit

  pub covered_each : all_covered 𝓕 g ≡ true → EachGroup 𝓕 g (λ group. group_covered 𝓕 (rows_of g.circuit) (group_inputs 𝓕 g group) (group_table 𝓕 g group) ≡ true)
  unfolding all_covered
  covered_each e j l =
      all_each (λ group. group_covered 𝓕 rows (group_inputs 𝓕 g group) (group_table 𝓕 g group)) [] (groups_of g.circuit) e j l

  -- Meaning's refused_when
  pub refused_when : (all_covered 𝓕 g ≡ false) ↔ NoCounts 𝓕 g
  unfolding NoCounts all_covered
  refused_when = groups_refused 𝓕 rows (group_inputs 𝓕 g) (group_table 𝓕 g) [] (groups_of g.circuit)

  -- Meaning's covered_when
  pub covered_when : (all_covered 𝓕 g ≡ true) ↔ HasCounts 𝓕 g
  unfolding all_covered
  covered_when = groups_counted 𝓕 rows (group_inputs 𝓕 g) (group_table 𝓕 g) [] (groups_of g.circuit)

  pub m_sums : all_covered 𝓕 g ≡ true → EachGroup 𝓕 g (λ group. sum_counts (rows_of g.circuit) (count_at 𝓕 g group) ≡ length group * rows_of g.circuit)
  unfolding count_at group_inputs
  m_sums e j l =
      group_sum 𝓕 rows (group_inputs 𝓕 g (get_or (groups_of g.circuit) j [])) (group_table 𝓕 g (get_or (groups_of g.circuit) j [])) (covered_each e j l)
      ∙ ap (λ (n : ℕ). n * rows) (length-map (get_or (groups_of g.circuit) j []) (input_at 𝓕 g))

  pub h_sums : Embeds 𝓕 g.el → all_covered 𝓕 g ≡ true → EachGroup 𝓕 g (λ group. sum_rows 𝓕 (rows_of g.circuit) (lookup_h_at 𝓕 g group) ≡ nil)
  unfolding lookup_h_at m_at count_at
  h_sums h e j l =
      habock_sum 𝓕 g.el rows (group_inputs 𝓕 g (get_or (groups_of g.circuit) j [])) (group_table 𝓕 g (get_or (groups_of g.circuit) j [])) g.γ h (covered_each e j l)
