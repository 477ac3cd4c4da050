-- The value of a list by powers of its base, and of the composed expression: PowersValue and ComposeValue of Composed; and when such
-- lists sum to zero.
use mathlib.Core.Path.{◌≡◌, refl, sym, ap, ap₂, ◌∙◌, fun_ext}
use mathlib.Core.List.{List, [], ◌∷◌, ◌++◌, map, map-append}
use Prim.Native.Nat.{ℕ, suc, ◌<◌}
use native.Mathlib.Omega.{arith}
use lib.ListN.{length, get_or}
use Rattle.field.specs.Algebra.{Field, add_assoc, add_zero, mul_assoc, mul_add, mul_zero, one_mul, pow}
use Rattle.bh.specs.Sums.{up_to}
use Rattle.bh.specs.Rows.{rotated, iter}
use Rattle.lists.specs.Lists.{tabulate, All}
use Rattle.lists.proofs.Columns.{map_tabulate, tabulate_first}
use Rattle.identities.proofs.Totals.{up_to_first, up_to_units, up_to_cong, up_to_op}
use Rattle.identities.proofs.Fields.{adds, mul_sum}
use Rattle.expression.specs.Expr.{Expr, running, evaluate, values, exprs_of, distribute_powers, at}
use Rattle.expression.specs.Value.{Environment, value_ops, value_at}
use Rattle.backend.specs.Circuit.{Circuit, num_groups, h_number}
use Rattle.backend.specs.Constraints.{alpha_of}
use Rattle.preprocessor.specs.Compose.{composed_constraints, zero_check, compose_tree, params_of, outer_trees, zero_tree}
use Rattle.prover.specs.Columns.{power_sum}
use Rattle.hyperplonk_spec.specs.Meaning.{Embeds}
use Rattle.hyperplonk_spec.specs.Composed.{PowersValue, ComposeValue, zero_check_in}

module _ (𝓕 : Field) where
  open 𝓕 use {F, zero, one, add, mul}

  pub power_nil : (β : F) → power_sum 𝓕 β [] ≡ zero
  unfolding power_sum up_to
  power_nil β = refl

  -- x₀ + β × (x₁ + β × x₂ + …)
  pub power_cons : (β x : F) (xs : List F) → power_sum 𝓕 β (x ∷ xs) ≡ add x (mul β (power_sum 𝓕 β xs))
  unfolding power_sum pow
  power_cons β x xs =
      up_to_first add zero (adds 𝓕) (λ i. mul (pow 𝓕 β i) (get_or (x ∷ xs) i zero)) (length xs)
      ∙ ap₂ add (one_mul 𝓕 x)
      (ap (λ (f : ℕ → F). up_to add zero f (length xs))
      (fun_ext (λ i. mul_assoc 𝓕 β (pow 𝓕 β i) (get_or xs i zero)))
      ∙ sym (mul_sum 𝓕 β (λ i. mul (pow 𝓕 β i) (get_or xs i zero)) (length xs)))

  -- zeros by powers
  pub power_zeros : (α : F) (xs : List F) → All (λ x. x ≡ zero) xs → power_sum 𝓕 α xs ≡ zero
  power_zeros α [] a = power_nil α
  power_zeros α (x ∷ xs) a =
      power_cons α x xs ∙ ap₂ (λ (u v : F). add u (mul α v)) a.0 (power_zeros α xs a.1) ∙ ap (add zero) (mul_zero 𝓕 α)
      ∙ add_zero 𝓕 zero

  -- columns by powers, and last one that is zero: together they sum to zero where each column does
  pub sum_composed : (α : F) (H : ℕ → ℕ → F) (v : ℕ → F) (n rows : ℕ)
      → ((j : ℕ) → j < n → up_to add zero (λ b. H j b) rows ≡ zero) → ((b : ℕ) → b < rows → v b ≡ zero)
      → up_to add zero (λ b. power_sum 𝓕 α (tabulate (λ j. H j b) n ++ (v b ∷ []))) rows ≡ zero
  unfolding tabulate
  sum_composed α H v ℕ.zero rows h z = up_to_units add zero (adds 𝓕) _ rows (λ b l. power_zeros α (tabulate (λ j. H j b) 0 ++ (v b ∷ [])) (none b l))
    where
      none : (b : ℕ) → b < rows → All (λ x. x ≡ zero) (tabulate (λ j. H j b) 0 ++ (v b ∷ []))
      none b l = (z b l, tt)
  sum_composed α H v (suc n) rows h z =
      up_to_cong add zero _ (λ b. add (H 0 b) (mul α (rest b))) rows
      (λ b l. ap (λ (xs : List F). power_sum 𝓕 α (xs ++ (v b ∷ []))) (tabulate_first (λ j. H j b) n) ∙ power_cons α (H 0 b) (tabulate (λ j. H (suc j) b) n ++ (v b ∷ [])))
      ∙ up_to_op add zero (adds 𝓕) (λ b. H 0 b) (λ b. mul α (rest b)) rows
      ∙ ap₂ add (h 0 (omega arith))
      (sym (mul_sum 𝓕 α rest rows) ∙ ap (mul α) (sum_composed α (λ j. H (suc j)) v n rows (λ j l. h (suc j) (omega arith)) z) ∙ mul_zero 𝓕 α)
      ∙ add_zero 𝓕 zero
    where
      rest : ℕ → F
      rest b = power_sum 𝓕 α (tabulate (λ j. H (suc j) b) n ++ (v b ∷ []))

  module _ (s : Environment 𝓕) where
    running_value : (b : ℕ) (base power acc : F) (vs : List F)
        → running (value_ops 𝓕 s b) base power acc vs ≡ add acc (mul power (power_sum 𝓕 base vs))
    unfolding running value_ops
    running_value b base power acc [] =
        sym (add_zero 𝓕 acc) ∙ ap (add acc) (sym (mul_zero 𝓕 power) ∙ ap (mul power) (sym (power_nil base)))
    running_value b base power acc (v ∷ vs) =
        running_value b base (mul power base) (add acc (mul power v)) vs
        ∙ add_assoc 𝓕 acc (mul power v) (mul (mul power base) (power_sum 𝓕 base vs))
        ∙ ap (add acc)
        (ap (add (mul power v)) (mul_assoc 𝓕 power base (power_sum 𝓕 base vs))
        ∙ sym (mul_add 𝓕 power v (mul base (power_sum 𝓕 base vs)))
        ∙ ap (mul power) (sym (power_cons base v vs)))

    values_of : (b : ℕ) (e : Expr) (es : List Expr)
        → values (value_ops 𝓕 s b) (exprs_of e es) ≡ map (λ f. value_at 𝓕 s f b) (e ∷ es)
    unfolding evaluate exprs_of value_at
    values_of b e [] = refl
    values_of b e (f ∷ es) = ap (λ (l : List F). value_at 𝓕 s e b ∷ l) (values_of b f es)

    powers_from : (es : List Expr) (base : Expr) (b : ℕ) (e f : Expr)
        → value_at 𝓕 s (distribute_powers (e ∷ (f ∷ es)) base) b
        ≡ power_sum 𝓕 (value_at 𝓕 s base b) (map (λ x. value_at 𝓕 s x b) (e ∷ (f ∷ es)))
    unfolding evaluate exprs_of value_at distribute_powers
    powers_from es base b e f =
        ap (running (value_ops 𝓕 s b) (value_at 𝓕 s base b) (value_at 𝓕 s base b) (value_at 𝓕 s e b)) (values_of b f es)
        ∙ running_value b (value_at 𝓕 s base b) (value_at 𝓕 s base b) (value_at 𝓕 s e b) (map (λ x. value_at 𝓕 s x b) (f ∷ es))
        ∙ sym (power_cons (value_at 𝓕 s base b) (value_at 𝓕 s e b) (map (λ x. value_at 𝓕 s x b) (f ∷ es)))

    module _ (c : Circuit) where
      pub powers_value : PowersValue 𝓕 s c
      unfolding evaluate value_at value_ops distribute_powers
      powers_value h [] base b = h.el_zero ∙ sym (power_nil (value_at 𝓕 s base b))
      powers_value h (e ∷ []) base b =
          sym
          (power_cons (value_at 𝓕 s base b) (value_at 𝓕 s e b) []
          ∙ ap (add (value_at 𝓕 s e b))
          (ap (mul (value_at 𝓕 s base b)) (power_nil (value_at 𝓕 s base b)) ∙ mul_zero 𝓕 (value_at 𝓕 s base b))
          ∙ add_zero 𝓕 (value_at 𝓕 s e b))
      powers_value h (e ∷ (f ∷ es)) base b = powers_from es base b e f

      zero_check_value : Embeds 𝓕 s.el → (b : ℕ) → value_at 𝓕 s (zero_check c) b ≡ zero_check_in 𝓕 s c b
      unfolding zero_tree params_of evaluate value_at value_ops
      zero_check_value h b =
          ap (λ (v : F). mul v (s.eq b)) (powers_value h (composed_constraints c) (alpha_of c) b)

      pub compose_value : ComposeValue 𝓕 s c
      unfolding compose_tree outer_trees params_of evaluate value_at value_ops rotated iter
      compose_value h b =
          let hs : ℕ → Expr = λ j. at (h_number c j) in
          powers_value h (tabulate hs (num_groups c) ++ (zero_check c ∷ [])) (alpha_of c) b
          ∙ ap (power_sum 𝓕 (value_at 𝓕 s (alpha_of c) b))
          (map-append (λ e. value_at 𝓕 s e b) (tabulate hs (num_groups c)) (zero_check c ∷ [])
          ∙ ap (λ (l : List F). l ++ (value_at 𝓕 s (zero_check c) b ∷ [])) (map_tabulate (λ e. value_at 𝓕 s e b) hs (num_groups c))
          ∙ ap (λ (v : F). tabulate (λ j. value_at 𝓕 s (hs j) b) (num_groups c) ++ (v ∷ [])) (zero_check_value h b))
