-- Demand 3 over any field: DemandThreeOf of Meaning, proved.
use mathlib.Core.Path.{◌≡◌, refl, sym, ap, ◌∙◌, subst}
use mathlib.Core.Bool.{Bool, true, false, cond}
use mathlib.Core.List.{[], ◌∷◌}
use Prim.Native.Nat.{ℕ, zero, suc, ◌<◌}
use native.Mathlib.Omega.{arith}
use lib.Dec.{eqb}
use borrow.Author.Tests.{eq-eqb}
use Rattle.field.specs.Algebra.{Field}
use Rattle.lists.specs.Lists.{tabulate, All}
use Rattle.lists.proofs.Tests.{false_true}
use Rattle.lists.proofs.All.{all_get, all_join, all_tabulate}
use Rattle.expression.specs.Expr.{Expr}
use Rattle.expression.specs.Value.{value_at}
use Rattle.backend.specs.Circuit.{Circuit, num_copied}
use Rattle.backend.specs.Constraints.{lookup_constraint, lookup_constraints}
use Rattle.backend.specs.Questions.{q11}
use Rattle.backend.proofs.Passed.{Yes, yes_all}
use Rattle.preprocessor.specs.Compose.{num_z, start_constraint, part_constraint, permutation_constraints, composed_constraints, constraint_trees, lookup_tree_of, params_of, permutation_trees}
use Rattle.prover.specs.Log.{Log}
use Rattle.prover.specs.Columns.{all_covered, composed_environment}
use Rattle.prover.specs.Denominators.{zero_denominator}
use Rattle.hyperplonk_spec.specs.Meaning.{Admitted, EachRow, NoneZero, Premises, Conclusions, Demand3Of, DemandThreeOf}
use Rattle.completeness.proofs.Counts.{refused_when, covered_when, m_sums, h_sums}
use Rattle.completeness.proofs.Denominators.{zero_denominator_when, none_zero_when}
use Rattle.completeness.proofs.Passed.{k_pos, k_small}
use Rattle.completeness.proofs.ComposedZero.{user_zeros, lookup_zeros, composed_zero}
use Rattle.completeness.proofs.PermutationZero.{start_zeros, part_zeros}

module _ (𝓕 : Field) (g : Log 𝓕) (ad : Admitted 𝓕 g) where
  open 𝓕 use {F, zero as nil}

  yes_words : Yes ad.words
  yes_words = yes_all ad.words ad.passed

  pub k_positive : 0 < g.circuit.k
  k_positive = subst (λ (c : Circuit). 0 < c.k) (sym ad.read) (k_pos ad.words yes_words)

  pub k_below_21 : g.circuit.k < 21
  k_below_21 = subst (λ (c : Circuit). c.k < 21) (sym ad.read) (k_small ad.words yes_words)

  pub eleven_yes : q11 g.circuit ≡ true
  eleven_yes = ap q11 ad.read ∙ yes_words.eleven

  module _ (p : Premises 𝓕 g) (nz : NoneZero 𝓕 g) (α : F) (y : ℕ → F) where
    abbrev Zero : Expr → Type 0
    Zero e = EachRow 𝓕 g (λ b. value_at 𝓕 (composed_environment 𝓕 g α y) e b ≡ nil)

    permutation_zeros : All Zero (permutation_constraints g.circuit)
    unfolding permutation_trees params_of
    permutation_zeros = go (eqb (num_copied g.circuit) 0) refl
      where
        go : (t : Bool) → eqb (num_copied g.circuit) 0 ≡ t
            → All Zero (cond t [] (start_constraint g.circuit ∷ tabulate (part_constraint g.circuit) (num_z g.circuit)))
        go true e = tt
        go false e = (
          start_zeros 𝓕 g pos k_positive k_below_21 eleven_yes ad p nz α y,
          all_tabulate Zero (part_constraint g.circuit) (num_z g.circuit) (part_zeros 𝓕 g pos k_positive k_below_21 eleven_yes ad p nz α y),
        )
          where
            pos : 0 < num_copied g.circuit
            pos = go' (num_copied g.circuit) e
              where
                go' : (n : ℕ) → eqb n 0 ≡ false → 0 < n
                go' zero w = false_true (sym w ∙ eq-eqb 0 0 refl)
                go' (suc n) w = omega arith

    pub all_zeros : All Zero (composed_constraints g.circuit)
    unfolding constraint_trees lookup_tree_of lookup_constraint lookup_constraints params_of
    all_zeros =
        all_join Zero g.circuit.constraints _ (user_zeros 𝓕 g ad α y p)
        (all_join Zero (lookup_constraints g.circuit) (permutation_constraints g.circuit) (lookup_zeros 𝓕 g ad α y nz) permutation_zeros)

  pub concluded : Premises 𝓕 g → all_covered 𝓕 g ≡ true → zero_denominator 𝓕 g ≡ false → Conclusions 𝓕 g
  concluded p e z =
      let nz : NoneZero 𝓕 g = (none_zero_when 𝓕 g).0 z in
      record {
        constraints_zero = λ α y i l. all_get (Zero p nz α y) (composed_constraints g.circuit) (all_zeros p nz α y) i (Expr.constant 0) l;
        h_sums = h_sums 𝓕 g ad.embeds e;
        m_sums = m_sums 𝓕 g e;
        composed_sum = λ α y. composed_zero 𝓕 g ad α y (all_zeros p nz α y) e;
      }

  pub demand_3_of : Demand3Of 𝓕 g
  demand_3_of =
      record {
        refused_when = refused_when 𝓕 g;
        covered_when = covered_when 𝓕 g;
        some_zero_when = zero_denominator_when 𝓕 g;
        none_zero_when = none_zero_when 𝓕 g;
        holds_when = concluded;
      }

pub demand_three_of : DemandThreeOf
demand_three_of 𝓕 g ad = demand_3_of 𝓕 g ad
