-- Each part of a composed constraint is the stage's: Reads of Composed.
use mathlib.Core.Path.{◌≡◌, sym, ap, ap₂, ◌∙◌, subst, refl}
use mathlib.Core.List.{List, [], ◌∷◌, ◌++◌}
use Prim.Native.Nat.{ℕ, ◌+◌, ◌*◌, ◌<◌}
use native.Mathlib.Omega.{arith}
use lib.ListN.{get_or}
use Rattle.field.specs.Algebra.{Field}
use Rattle.bh.specs.Rows.{rotated, iter}
use Rattle.lists.specs.Lists.{range, All}
use Rattle.lists.proofs.Lists.{get_left, get_past, get_map}
use Rattle.lists.proofs.Columns.{below_length, below_get}
use Rattle.lists.proofs.All.{all_get, all_get_d, all_split, all_tabulate, all_filter, all_mapped, map_same}
use Rattle.expression.specs.Expr.{Expr, evaluate, distribute_powers}
use Rattle.expression.specs.Value.{poly_of, value_ops, value_at}
use Rattle.expression.proofs.Agree.{agree_value}
use Rattle.backend.specs.Circuit.{
  Pair,
  Circuit,
  rows_of,
  num_challenges,
  num_poly,
  group_sizes,
  num_groups,
  groups_of,
  copied,
  copied_in,
  num_copied,
  perm_number,
  m_number,
  h_number,
  z_number,
}
use Rattle.backend.specs.Constraints.{beta_of, inputs_of, tables_of}
use Rattle.backend.proofs.Degree.{groups_length}
use Rattle.backend.proofs.Passed.{yes_all}
use Rattle.preprocessor.specs.Compose.{num_z, identity_tree, params_of, permutation_tree}
use Rattle.prover.specs.Log.{Log}
use Rattle.prover.specs.Columns.{power_sum, given_polys, user_environment, compressed_at, input_at, table_at, group_table, m_at, lookup_h_at, permutation_at, copied_at, identity_factor_at, permutation_factor_at, z_at, permutation_polys, m_polys, h_polys, z_polys, all_polys, composed_environment}
use Rattle.prover.proofs.Lengths.{given_length, permutations_length, m_length, h_length}
use Rattle.hyperplonk_spec.proofs.Embeds.{embeds_add}
use Rattle.hyperplonk_spec.specs.Meaning.{Admitted}
use Rattle.hyperplonk_spec.specs.Composed.{input_in, table_in, ReadAs}
use Rattle.hyperplonk_spec.proofs.Powers.{powers_value}
use Rattle.completeness.specs.Scope.{user_scope, Scoped}
use Rattle.completeness.proofs.Passed.{constraints_scoped, lookups_scoped}

-- ---- circuits
pub copied_below : (c : Circuit) → All (λ q. q < num_poly c) (copied c)
unfolding copied_in copied
copied_below c = all_filter (λ q. q < num_poly c) _ (range (num_poly c)) (all_tabulate (λ q. q < num_poly c) (λ i. i) (num_poly c) (λ i l. l))

module _ (𝓕 : Field) where
  open 𝓕 use {F, zero as nil, one, add, mul, neg}

  module _ (g : Log 𝓕) where
    abbrev c : Circuit
    c = g.circuit

    -- ---- the places of the polynomials
    pub poly_given : (q b : ℕ) → q < num_poly g.circuit → poly_of 𝓕 (all_polys 𝓕 g) q b ≡ poly_of 𝓕 (given_polys 𝓕 g) q b
    unfolding all_polys
    poly_given q b l = ap (λ (p : ℕ → F). p b) (get_left (given_polys 𝓕 g) _ q (λ r. nil) (let e = given_length 𝓕 g in omega arith))

    pub poly_permutation : (i b : ℕ) → i < num_copied g.circuit → poly_of 𝓕 (all_polys 𝓕 g) (perm_number g.circuit i) b ≡ permutation_at 𝓕 g i b
    unfolding all_polys permutation_polys
    poly_permutation i b l =
        ap (λ (p : ℕ → F). p b)
        (get_past (given_polys 𝓕 g) _ (perm_number g.circuit i) i (λ r. nil) (let e = given_length 𝓕 g in omega arith)
        ∙ get_left (permutation_polys 𝓕 g) _ i (λ r. nil) (let e = permutations_length 𝓕 g in omega arith)
        ∙ get_map (permutation_at 𝓕 g) (range (num_copied g.circuit)) i 0 (λ r. nil) (let e = below_length (num_copied g.circuit) in omega arith)
        ∙ ap (permutation_at 𝓕 g) (below_get (num_copied g.circuit) i 0 l))

    pub poly_m : (j b : ℕ) → j < num_groups g.circuit → poly_of 𝓕 (all_polys 𝓕 g) (m_number g.circuit j) b ≡ m_at 𝓕 g (get_or (groups_of g.circuit) j []) b
    unfolding all_polys m_polys
    poly_m j b l =
        ap (λ (p : ℕ → F). p b)
        (get_past (given_polys 𝓕 g) _ (m_number g.circuit j) (num_copied g.circuit + j) (λ r. nil) (let e = given_length 𝓕 g in omega arith)
        ∙ get_past (permutation_polys 𝓕 g) _ (num_copied g.circuit + j) j (λ r. nil) (let e = permutations_length 𝓕 g in omega arith)
        ∙ get_left (m_polys 𝓕 g) _ j (λ r. nil) (let e = m_length 𝓕 g in omega arith)
        ∙ get_map (m_at 𝓕 g) (groups_of g.circuit) j [] (λ r. nil) (let e = groups_length g.circuit in omega arith))

    pub poly_h : (j b : ℕ) → j < num_groups g.circuit → poly_of 𝓕 (all_polys 𝓕 g) (h_number g.circuit j) b ≡ lookup_h_at 𝓕 g (get_or (groups_of g.circuit) j []) b
    unfolding all_polys h_polys
    poly_h j b l =
        ap (λ (p : ℕ → F). p b)
        (get_past (given_polys 𝓕 g) _ (h_number g.circuit j) (num_copied g.circuit + (num_groups g.circuit + j)) (λ r. nil) (let e = given_length 𝓕 g in omega arith)
        ∙ get_past (permutation_polys 𝓕 g) _ (num_copied g.circuit + (num_groups g.circuit + j)) (num_groups g.circuit + j) (λ r. nil) (let e = permutations_length 𝓕 g in omega arith)
        ∙ get_past (m_polys 𝓕 g) _ (num_groups g.circuit + j) j (λ r. nil) (let e = m_length 𝓕 g in omega arith)
        ∙ get_left (h_polys 𝓕 g) _ j (λ r. nil) (let e = h_length 𝓕 g in omega arith)
        ∙ get_map (lookup_h_at 𝓕 g) (groups_of g.circuit) j [] (λ r. nil) (let e = groups_length g.circuit in omega arith))

    pub poly_z : (i b : ℕ) → i < num_z g.circuit → poly_of 𝓕 (all_polys 𝓕 g) (z_number g.circuit i) b ≡ z_at 𝓕 g i b
    unfolding all_polys z_polys
    poly_z i b l =
        let G : ℕ = num_groups g.circuit in
        ap (λ (p : ℕ → F). p b)
        (get_past (given_polys 𝓕 g) _ (z_number g.circuit i) (num_copied g.circuit + (G + (G + i))) (λ r. nil) (let e = given_length 𝓕 g in omega arith)
        ∙ get_past (permutation_polys 𝓕 g) _ (num_copied g.circuit + (G + (G + i))) (G + (G + i)) (λ r. nil) (let e = permutations_length 𝓕 g in omega arith)
        ∙ get_past (m_polys 𝓕 g) _ (G + (G + i)) (G + i) (λ r. nil) (let e = m_length 𝓕 g in omega arith)
        ∙ get_past (h_polys 𝓕 g) _ (G + i) i (λ r. nil) (let e = h_length 𝓕 g in omega arith)
        ∙ get_map (z_at 𝓕 g) (range (num_z g.circuit)) i 0 (λ r. nil) (let e = below_length (num_z g.circuit) in omega arith)
        ∙ ap (z_at 𝓕 g) (below_get (num_z g.circuit) i 0 l))

    pub copied_poly : (i b : ℕ) → i < num_copied g.circuit → poly_of 𝓕 (all_polys 𝓕 g) (get_or (copied g.circuit) i 0) b ≡ copied_at 𝓕 g i b
    unfolding copied_at
    copied_poly i b l =
        poly_given (get_or (copied g.circuit) i 0) b (all_get (λ q. q < num_poly g.circuit) (copied g.circuit) (copied_below g.circuit) i 0 l)

    module _ (ad : Admitted 𝓕 g) (α : F) where
      abbrev challenges : List F
      challenges = g.user ++ (g.β ∷ g.γ ∷ α ∷ [])

      pub beta_value : get_or challenges (num_challenges g.circuit) nil ≡ g.β
      beta_value = get_past g.user _ (num_challenges g.circuit) 0 nil (let e = ad.user_all in omega arith)

      pub gamma_value : get_or challenges (num_challenges g.circuit + 1) nil ≡ g.γ
      gamma_value = get_past g.user _ (num_challenges g.circuit + 1) 1 nil (let e = ad.user_all in omega arith)

      module _ (y : ℕ → F) where
        -- ---- user expressions
        pub user_value : (e : Expr) → Scoped (num_poly g.circuit) (num_challenges g.circuit) e → (b : ℕ)
            → value_at 𝓕 (composed_environment 𝓕 g α y) e b ≡ value_at 𝓕 (user_environment 𝓕 g) e b
        unfolding composed_environment user_environment
        user_value e h b =
            agree_value 𝓕 (user_scope (num_poly g.circuit) (num_challenges g.circuit)) (composed_environment 𝓕 g α y) (user_environment 𝓕 g) b
            (record {
              same_k = refl;
              same_el = refl;
              same_eq = λ i l. absurd l;
              same_poly = λ q r l. poly_given q (rotated g.circuit.k b r) l;
              same_challenge = λ i l. get_left g.user _ i nil (let e = ad.user_all in omega arith);
            })
            e
            h

        abbrev InScope : Expr → Type 0
        InScope e = Scoped (num_poly g.circuit) (num_challenges g.circuit) e

        pub constraints_in : All InScope g.circuit.constraints
        constraints_in =
            subst (λ (c : Circuit). All (λ e. Scoped (num_poly c) (num_challenges c) e) c.constraints) (sym ad.read)
            (constraints_scoped ad.words (yes_all ad.words ad.passed))

        pub lookups_in : All (All (λ (p : Pair). InScope p.input × InScope p.table)) g.circuit.lookups
        lookups_in =
            subst (λ (c : Circuit). All (All (λ (p : Pair). Scoped (num_poly c) (num_challenges c) p.input × Scoped (num_poly c) (num_challenges c) p.table)) c.lookups)
            (sym ad.read)
            (lookups_scoped ad.words (yes_all ad.words ad.passed))

        compressed_value : (es : List Expr) → All InScope es → (b : ℕ)
            → value_at 𝓕 (composed_environment 𝓕 g α y) (distribute_powers es (beta_of g.circuit)) b ≡ compressed_at 𝓕 g es b
        unfolding compressed_at composed_environment value_at value_ops evaluate
        compressed_value es h b =
            powers_value 𝓕 (composed_environment 𝓕 g α y) g.circuit ad.embeds es (beta_of g.circuit) b
            ∙ ap₂ (power_sum 𝓕) beta_value
            (map_same InScope (λ e. value_at 𝓕 (composed_environment 𝓕 g α y) e b) (λ e. value_at 𝓕 (user_environment 𝓕 g) e b) (λ e h. user_value e h b) es h)

        abbrev PairsIn : List Pair → Type 0
        PairsIn l = All (λ (p : Pair). InScope p.input × InScope p.table) l

        pairs_in_is : (j i : ℕ) → PairsIn (get_or (get_or (groups_of g.circuit) j []) i [])
        unfolding groups_of
        pairs_in_is j i =
            all_get_d PairsIn (get_or (groups_of g.circuit) j []) i [] tt
            (all_get_d (All PairsIn) (groups_of g.circuit) j [] tt
            (all_split PairsIn (group_sizes g.circuit.groups) g.circuit.lookups lookups_in))

        pub reads : ReadAs 𝓕 g α y
        unfolding composed_environment input_in table_in input_at table_at group_table identity_tree params_of permutation_tree identity_factor_at permutation_factor_at value_at value_ops evaluate rotated iter
        reads =
            record {
              input = λ j l i n b m.
                  compressed_value (inputs_of (get_or (get_or (groups_of g.circuit) j []) i []))
                  (all_mapped (λ (p : Pair). InScope p.input × InScope p.table) InScope (λ (p : Pair). p.input) (λ p q. q.0)
                  (get_or (get_or (groups_of g.circuit) j []) i []) (pairs_in_is j i))
                  b;
              table = λ j l b m.
                  compressed_value (tables_of (get_or (get_or (groups_of g.circuit) j []) 0 []))
                  (all_mapped (λ (p : Pair). InScope p.input × InScope p.table) InScope (λ (p : Pair). p.table) (λ p q. q.1)
                  (get_or (get_or (groups_of g.circuit) j []) 0 []) (pairs_in_is j 0))
                  b;
              m = λ j b l. poly_m j b l;
              h = λ j b l. poly_h j b l;
              z = λ i b l. poly_z i b l;
              identity_factor_is = λ i b l.
                  ap₂ add
                  (ap₂ add (copied_poly i b l) (ap₂ mul beta_value (sym (embeds_add 𝓕 g.el ad.embeds (i * rows_of g.circuit) b))))
                  gamma_value;
              permutation_factor_is = λ i b l.
                  ap₂ add (ap₂ add (copied_poly i b l) (ap₂ mul beta_value (poly_permutation i b l))) gamma_value;
            }
