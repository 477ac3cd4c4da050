-- What `zero_denominator` says: there is a group, a lookup of it or its table, and a row, or a copied column and a row but 0, where a denominator is zero; and else
-- there is none. Over any field.
use mathlib.Core.Path.{◌≡◌, refl, sym, ap, ◌∙◌, subst}
use mathlib.Core.Logic.{◌⊎◌, ◌↔◌, inl, inr, ⊎_elim}
use mathlib.Core.Bool.{Bool, true, false, ◌||◌}
use mathlib.Core.List.{List, []}
use Prim.Native.Nat.{ℕ, zero, suc, ◌-◌, ◌<◌}
use native.Mathlib.Omega.{arith}
use lib.ListN.{length, get_or, length-map}
use Rattle.field.specs.Algebra.{Field}
use Rattle.lists.specs.Lists.{tabulate, any_of}
use Rattle.lists.proofs.Lists.{get_map}
use Rattle.lists.proofs.Tests.{false_true, by_test, any_at}
use Rattle.lists.proofs.Searches.{any_stop}
use Rattle.lists.proofs.Walks.{any_lists}
use Rattle.lists.proofs.Some.{or_cases, some_at, some_tabulate}
use Rattle.backend.specs.Circuit.{Pair, rows_of, num_copied, groups_of}
use Rattle.prover.specs.Lookup.{same}
use Rattle.prover.specs.Log.{Log}
use Rattle.prover.specs.Columns.{input_at, group_inputs, group_table, permutation_factor_at}
use Rattle.prover.specs.Denominators.{some_zero, group_denominators, factor_denominators, zero_denominator}
use Rattle.prover.proofs.Denominators.{is_zero, nil_when}
use Rattle.prover.proofs.Groups.{group_some}
use Rattle.prover.proofs.NoneZero.{zero_parts}
use Rattle.hyperplonk_spec.specs.Meaning.{NoneZero, SomeZero, ZeroInput, ZeroTable, ZeroFactor}

or_left : (a b : Bool) → a ≡ true → (a || b) ≡ true
or_left a b e = ap (λ (t : Bool). t || b) e

or_right : (a b : Bool) → b ≡ true → (a || b) ≡ true
or_right true b e = refl
or_right false b e = e

module _ (𝓕 : Field) where
  open 𝓕 use {F, zero as nil, add}

  abbrev is_nil : F → Bool
  is_nil x = same 𝓕 x nil

  -- of the copied columns
  module _ (rows n : ℕ) (f : ℕ → ℕ → F) where
    abbrev AtFactor : Type 0
    AtFactor = (i : ℕ) × (i < n) × ((b : ℕ) × (b < rows) × ((0 < b) × (f i b ≡ nil)))

    factor_some : some_zero 𝓕 (factor_denominators 𝓕 rows n f) ≡ true → AtFactor
    unfolding some_zero factor_denominators
    factor_some e =
        let r = some_tabulate (any_of is_nil) (λ i. tabulate (λ b. f i (suc b)) (rows - 1)) n
        (any_lists is_nil (tabulate (λ i. tabulate (λ b. f i (suc b)) (rows - 1)) n) ∙ e) in
        let s = some_tabulate is_nil (λ b. f r.0 (suc b)) (rows - 1) r.2 in
        (r.0, r.1, (suc s.0, (let l = s.1 in omega arith), (omega arith, nil_when 𝓕 (f r.0 (suc s.0)) s.2)))

    some_factor : AtFactor → some_zero 𝓕 (factor_denominators 𝓕 rows n f) ≡ true
    unfolding some_zero factor_denominators
    some_factor s =
        sym (any_lists is_nil (tabulate (λ i. tabulate (λ b. f i (suc b)) (rows - 1)) n))
        ∙ sym
        (any_stop (any_of is_nil) (λ i. tabulate (λ b. f i (suc b)) (rows - 1)) n s.0 (go s.2.0 s.2.1 s.2.2.0 s.2.2.1) s.1)
      where
        go : (b : ℕ) → b < rows → 0 < b → f s.0 b ≡ nil → any_of is_nil (tabulate (λ b. f s.0 (suc b)) (rows - 1)) ≡ true
        go zero l p e = absurd (bad p)
          where
            bad : 0 < 0 → ⊥
            bad p = omega arith
        go (suc b) l p e =
            sym (any_stop is_nil (λ b. f s.0 (suc b)) (rows - 1) b (is_zero 𝓕 (f s.0 (suc b)) e) (omega arith))

  module _ (g : Log 𝓕) where
    abbrev rows : ℕ
    rows = rows_of g.circuit

    abbrev groups : List (List (List Pair))
    groups = groups_of g.circuit

    abbrev of : List (List Pair) → List F
    of group = group_denominators 𝓕 rows g.γ (group_inputs 𝓕 g group) (group_table 𝓕 g group)

    abbrev factors : List F
    factors = factor_denominators 𝓕 rows (num_copied g.circuit) (permutation_factor_at 𝓕 g)

    -- of a group: there is a lookup of it and a row, or a row of its table
    abbrev AtRow : (ℕ → F) → Type 0
    AtRow f = (b : ℕ) × (b < rows) × (add g.γ (f b) ≡ nil)

    abbrev AtLookup : List (List Pair) → Type 0
    AtLookup group = (i : ℕ) × (i < length group) × AtRow (input_at 𝓕 g (get_or group i []))

    input_is : (group : List (List Pair)) (i : ℕ) → i < length group
        → get_or (group_inputs 𝓕 g group) i (λ b. nil) ≡ input_at 𝓕 g (get_or group i [])
    unfolding group_inputs
    input_is group i l = get_map (input_at 𝓕 g) group i [] (λ b. nil) l

    inputs_length : (group : List (List Pair)) → length (group_inputs 𝓕 g group) ≡ length group
    unfolding group_inputs
    inputs_length group = length-map group (input_at 𝓕 g)

    group_when : (group : List (List Pair)) → (some_zero 𝓕 (of group) ≡ true) ↔ (AtLookup group ⊎ AtRow (group_table 𝓕 g group))
    group_when group =
        let w = group_some 𝓕 rows g.γ (group_inputs 𝓕 g group) (group_table 𝓕 g group) (λ b. nil) in (
          λ e. ⊎_elim (λ s. inl (there s.0 s.1 s.2)) inr (w.0 e),
          λ s. w.1 (⊎_elim (λ s. inl (back s.0 s.1 s.2)) inr s),
        )
      where
        there : (i : ℕ) → i < length (group_inputs 𝓕 g group) → AtRow (get_or (group_inputs 𝓕 g group) i (λ b. nil)) → AtLookup group
        there i l r =
            let m : i < length group = let q = inputs_length group in omega arith in
            (i, m, subst AtRow (input_is group i m) r)

        back : (i : ℕ) → i < length group → AtRow (input_at 𝓕 g (get_or group i []))
            → (i : ℕ) × (i < length (group_inputs 𝓕 g group)) × AtRow (get_or (group_inputs 𝓕 g group) i (λ b. nil))
        back i l r = (i, (let q = inputs_length group in omega arith), subst AtRow (sym (input_is group i l)) r)

    some_zero_of : zero_denominator 𝓕 g ≡ true → SomeZero 𝓕 g
    some_zero_of e =
        ⊎_elim grouped factor (or_cases (any_of (λ group. some_zero 𝓕 (of group)) groups) (some_zero 𝓕 factors) (sym (zero_parts 𝓕 g) ∙ e))
      where
        grouped : any_of (λ group. some_zero 𝓕 (of group)) groups ≡ true → SomeZero 𝓕 g
        grouped h =
            let r = some_at (λ group. some_zero 𝓕 (of group)) [] groups h in
            ⊎_elim (λ s. inl (r.0, r.1, s)) (λ s. inr (inl (r.0, r.1, s))) ((group_when (get_or groups r.0 [])).0 r.2)

        factor : some_zero 𝓕 factors ≡ true → SomeZero 𝓕 g
        factor h = inr (inr (factor_some rows (num_copied g.circuit) (permutation_factor_at 𝓕 g) h))

    zero_of_some : SomeZero 𝓕 g → zero_denominator 𝓕 g ≡ true
    zero_of_some s = zero_parts 𝓕 g ∙ ⊎_elim input (⊎_elim table factor) s
      where
        grouped : (j : ℕ) → j < length groups → some_zero 𝓕 (of (get_or groups j [])) ≡ true
            → (any_of (λ group. some_zero 𝓕 (of group)) groups || some_zero 𝓕 factors) ≡ true
        grouped j l e =
            or_left (any_of (λ group. some_zero 𝓕 (of group)) groups) (some_zero 𝓕 factors)
            (any_at (λ group. some_zero 𝓕 (of group)) [] groups j l e)

        input : ZeroInput 𝓕 g → (any_of (λ group. some_zero 𝓕 (of group)) groups || some_zero 𝓕 factors) ≡ true
        input z = grouped z.0 z.1 ((group_when (get_or groups z.0 [])).1 (inl z.2))

        table : ZeroTable 𝓕 g → (any_of (λ group. some_zero 𝓕 (of group)) groups || some_zero 𝓕 factors) ≡ true
        table z = grouped z.0 z.1 ((group_when (get_or groups z.0 [])).1 (inr z.2))

        factor : ZeroFactor 𝓕 g → (any_of (λ group. some_zero 𝓕 (of group)) groups || some_zero 𝓕 factors) ≡ true
        factor z =
            or_right (any_of (λ group. some_zero 𝓕 (of group)) groups) (some_zero 𝓕 factors)
            (some_factor rows (num_copied g.circuit) (permutation_factor_at 𝓕 g) z)

    pub zero_denominator_when : (zero_denominator 𝓕 g ≡ true) ↔ SomeZero 𝓕 g
    zero_denominator_when = (some_zero_of, zero_of_some)

    none_of : zero_denominator 𝓕 g ≡ false → NoneZero 𝓕 g
    none_of e =
        record {
          input_denominators = λ j l i n b m z. no (inl (j, l, (i, n, (b, m, z))));
          table_denominators = λ j l b m z. no (inr (inl (j, l, (b, m, z))));
          factor_denominators_is = λ i l b m p z. no (inr (inr (i, l, (b, m, (p, z)))));
        }
      where
        no : SomeZero 𝓕 g → ⊥
        no s = false_true (sym e ∙ zero_of_some s)

    of_none : NoneZero 𝓕 g → zero_denominator 𝓕 g ≡ false
    of_none n = by_test (zero_denominator 𝓕 g) (λ e. absurd (no (some_zero_of e))) (λ e. e)
      where
        no : SomeZero 𝓕 g → ⊥
        no s =
            ⊎_elim (λ z. n.input_denominators z.0 z.1 z.2.0 z.2.1 z.2.2.0 z.2.2.1 z.2.2.2)
            (⊎_elim (λ z. n.table_denominators z.0 z.1 z.2.0 z.2.1 z.2.2) (λ z. n.factor_denominators_is z.0 z.1 z.2.0 z.2.1 z.2.2.0 z.2.2.1))
            s

    pub none_zero_when : (zero_denominator 𝓕 g ≡ false) ↔ NoneZero 𝓕 g
    none_zero_when = (none_of, of_none)
