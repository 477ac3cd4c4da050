-- User and lookup constraints are zero, and the composed expression sums to zero where all constraints are.
use mathlib.Core.Path.{◌≡◌, sym, ap, ap₂, ◌∙◌, subst}
use mathlib.Core.Logic.{◌≢◌}
use mathlib.Core.Bool.{true}
use mathlib.Core.List.{List, [], ◌∷◌, ◌++◌, map, map-map}
use Prim.Native.Nat.{ℕ, ◌<◌}
use native.Mathlib.Omega.{arith}
use lib.ListN.{length, get_or}
use Rattle.field.specs.Algebra.{Field, product, zero_mul}
use Rattle.lists.specs.Lists.{tabulate, All}
use Rattle.lists.proofs.All.{all_get, all_from, all_tabulate, map_same}
use Rattle.identities.proofs.Totals.{up_to_cong}
use Rattle.expression.specs.Expr.{Expr}
use Rattle.expression.specs.Value.{Environment, value_at}
use Rattle.backend.specs.Circuit.{Circuit, Pair, rows_of, num_challenges, num_poly, num_groups, groups_of, h_number}
use Rattle.backend.specs.Constraints.{lookup_constraint, lookup_constraints}
use Rattle.backend.proofs.Degree.{groups_length}
use Rattle.backend.proofs.Passed.{yes_all}
use Rattle.preprocessor.specs.Compose.{composed_constraints, compose}
use Rattle.prover.specs.Lookup.{sum_rows, omitted_sum}
use Rattle.prover.specs.Log.{Log}
use Rattle.prover.specs.Columns.{power_sum, input_at, group_inputs, group_table, m_at, lookup_h_at, all_covered, composed_environment}
use Rattle.prover.proofs.Groups.{group_h_holds}
use Rattle.hyperplonk_spec.specs.Meaning.{Embeds, Admitted, EachRow, NoneZero, Premises}
use Rattle.hyperplonk_spec.specs.Composed.{zero_check_in, column_at_is, gamma_in, alpha_in, input_in, inputs_in, LookupHolds}
use Rattle.hyperplonk_spec.proofs.ConstraintZero.{lookup_zero}
use Rattle.hyperplonk_spec.proofs.Powers.{compose_value, sum_composed, power_zeros}
use Rattle.completeness.specs.Scope.{Scoped}
use Rattle.completeness.proofs.Groups.{groups_have}
use Rattle.completeness.proofs.ReadColumns.{reads, user_value, constraints_in, gamma_value}
use Rattle.completeness.proofs.Counts.{h_sums}

module _ (𝓕 : Field) where
  open 𝓕 use {F, zero as nil, one, add, mul, neg, inv}

  module _ (g : Log 𝓕) (ad : Admitted 𝓕 g) (α : F) (y : ℕ → F) where
    abbrev Zero : Expr → Type 0
    Zero e = EachRow 𝓕 g (λ b. value_at 𝓕 (composed_environment 𝓕 g α y) e b ≡ nil)

    pub user_zeros : Premises 𝓕 g → All Zero g.circuit.constraints
    user_zeros p =
        all_from Zero g.circuit.constraints (Expr.constant 0)
        (λ i l b m.
        user_value 𝓕 g ad α y (get_or g.circuit.constraints i (Expr.constant 0))
        (all_get (λ e. Scoped (num_poly g.circuit) (num_challenges g.circuit) e) g.circuit.constraints (constraints_in 𝓕 g ad α y) i (Expr.constant 0) l)
        b
        ∙ p.zero_constraints i l b m)

    abbrev group : ℕ → List (List Pair)
    group j = get_or (groups_of g.circuit) j []

    -- the equation of a group, by equal parts
    holds_same : (I J : List F) (T U m n x y : F) → I ≡ J → T ≡ U → m ≡ n → x ≡ y
        → mul (mul y (product 𝓕 J)) U ≡ add (mul (omitted_sum 𝓕 J) U) (neg (mul n (product 𝓕 J)))
        → mul (mul x (product 𝓕 I)) T ≡ add (mul (omitted_sum 𝓕 I) T) (neg (mul m (product 𝓕 I)))
    holds_same I J T U m n x y p q r s h = rw (p, q, r, s) h

    -- γ + input, for each lookup of group j, as the scene has them and as the log has
    inputs_same : (j : ℕ) → j < num_groups g.circuit → (b : ℕ) → b < rows_of g.circuit
        → map (λ (input : ℕ → F). add (gamma_in 𝓕 (composed_environment 𝓕 g α y) g.circuit) (input b)) (inputs_in 𝓕 (composed_environment 𝓕 g α y) g.circuit j)
        ≡ map (λ (input : ℕ → F). add g.γ (input b)) (group_inputs 𝓕 g (group j))
    unfolding composed_environment inputs_in group_inputs
    inputs_same j l b m =
        map-map (λ (input : ℕ → F). add (gamma_in 𝓕 s g.circuit) (input b)) (input_in 𝓕 s g.circuit) (group j)
        ∙ map_same (λ l. input_in 𝓕 s g.circuit l b ≡ input_at 𝓕 g l b) (λ l. add (gamma_in 𝓕 s g.circuit) (input_in 𝓕 s g.circuit l b)) (λ l. add g.γ (input_at 𝓕 g l b))
        (λ l e. ap₂ add (gamma_value 𝓕 g ad α) e) (group j)
        (all_from (λ l. input_in 𝓕 s g.circuit l b ≡ input_at 𝓕 g l b) (group j) [] (λ i n. (reads 𝓕 g ad α y).input j l i n b m))
        ∙ sym (map-map (λ (input : ℕ → F). add g.γ (input b)) (input_at 𝓕 g) (group j))
      where
        s : Environment 𝓕
        s = composed_environment 𝓕 g α y

    lookup_holds : (j : ℕ) → j < num_groups g.circuit → (b : ℕ) → b < rows_of g.circuit
        → All (λ x. x ≢ nil) (map (λ (input : ℕ → F). add g.γ (input b)) (group_inputs 𝓕 g (group j)))
        → add g.γ (group_table 𝓕 g (group j) b) ≢ nil
        → LookupHolds 𝓕 (composed_environment 𝓕 g α y) g.circuit j b
    unfolding lookup_h_at composed_environment
    lookup_holds j l b m p q =
        holds_same _ _ _ _ _ _ _ _ (inputs_same j l b m) (ap₂ add (gamma_value 𝓕 g ad α) ((reads 𝓕 g ad α y).table j l b m)) ((reads 𝓕 g ad α y).m j b l)
        ((reads 𝓕 g ad α y).h j b l)
        (group_h_holds 𝓕 g.γ (group_inputs 𝓕 g (group j)) (group_table 𝓕 g (group j)) (m_at 𝓕 g (group j)) b p q)

    -- no γ + input is zero
    inputs_nonzero : (ls : List (List Pair)) (b : ℕ) → All (λ l. add g.γ (input_at 𝓕 g l b) ≢ nil) ls
        → All (λ x. x ≢ nil) (map (λ (input : ℕ → F). add g.γ (input b)) (group_inputs 𝓕 g ls))
    unfolding group_inputs
    inputs_nonzero [] b a = tt
    inputs_nonzero (l ∷ ls) b a = (a.0, inputs_nonzero ls b a.1)

    -- each group has a lookup
    has_lookup : (j : ℕ) → j < num_groups g.circuit → 0 < length (group j)
    has_lookup j l =
        subst (λ (c : Circuit). j < num_groups c → 0 < length (get_or (groups_of c) j [])) (sym ad.read)
        (groups_have ad.words (yes_all ad.words ad.passed) j)
        l

    pub lookup_zeros : NoneZero 𝓕 g → All Zero (lookup_constraints g.circuit)
    unfolding lookup_constraints
    lookup_zeros p =
        all_tabulate Zero (lookup_constraint g.circuit) (num_groups g.circuit)
        (λ j l b m.
        let w : j < length (groups_of g.circuit) = let q = groups_length g.circuit in omega arith in
        (lookup_zero 𝓕 (composed_environment 𝓕 g α y) g.circuit j b (has_lookup j l)).1
        (lookup_holds j l b m
        (inputs_nonzero (group j) b (all_from (λ l. add g.γ (input_at 𝓕 g l b) ≢ nil) (group j) [] (λ i n. p.input_denominators j w i n b m)))
        (p.table_denominators j w b m)))

    pub embeds_in : Embeds 𝓕 (composed_environment 𝓕 g α y).el
    unfolding composed_environment
    embeds_in = ad.embeds

    -- the composed expression sums to zero
    pub composed_zero : All Zero (composed_constraints g.circuit) → all_covered 𝓕 g ≡ true
        → sum_rows 𝓕 (rows_of g.circuit) (value_at 𝓕 (composed_environment 𝓕 g α y) (compose g.circuit)) ≡ nil
    composed_zero zs e =
        up_to_cong add nil (value_at 𝓕 s (compose c)) (λ b. power_sum 𝓕 (alpha_in 𝓕 s c) (tabulate (λ j. column_at_is 𝓕 s c (h_number c j) b) (num_groups c) ++ (zero_check_in 𝓕 s c b ∷ []))) (rows_of c)
        (λ b l. compose_value 𝓕 s c embed b)
        ∙ sum_composed 𝓕 (alpha_in 𝓕 s c) (λ j b. column_at_is 𝓕 s c (h_number c j) b) (zero_check_in 𝓕 s c) (num_groups c) (rows_of c)
        (λ j l.
        up_to_cong add nil (λ b. column_at_is 𝓕 s c (h_number c j) b) (lookup_h_at 𝓕 g (get_or (groups_of c) j [])) (rows_of c) (λ b m. (reads 𝓕 g ad α y).h j b l)
        ∙ h_sums 𝓕 g ad.embeds e j (let q = groups_length c in omega arith))
        (λ b l.
        ap (λ (x : F). mul x (s.eq b))
        (power_zeros 𝓕 (alpha_in 𝓕 s c) (map (λ e. value_at 𝓕 s e b) (composed_constraints c)) (values_zero b l (composed_constraints c) zs))
        ∙ zero_mul 𝓕 (s.eq b))
      where
        c : Circuit
        c = g.circuit

        s : Environment 𝓕
        s = composed_environment 𝓕 g α y

        embed : Embeds 𝓕 (composed_environment 𝓕 g α y).el
        embed = embeds_in

        values_zero : (b : ℕ) → b < rows_of g.circuit → (es : List Expr) → All Zero es → All (λ x. x ≡ nil) (map (λ e. value_at 𝓕 (composed_environment 𝓕 g α y) e b) es)
        values_zero b l [] a = tt
        values_zero b l (e ∷ es) a = (a.0 b l, values_zero b l es a.1)
