-- The degrees of the composed constraints are at most D, and that of the composed expression at most D + 1: PartDegree, ComposedDegree
-- and ComposeDegree of Composed.
use mathlib.Core.Path.{◌≡◌, refl, sym, ap, ap₂, ◌∙◌}
use mathlib.Core.Bool.{Bool, true, false, cond}
use mathlib.Core.List.{List, [], ◌∷◌, ◌++◌, map}
use Prim.Native.Nat.{ℕ, suc, ◌+◌, ◌-◌, ◌*◌, ◌≤◌, max, min}
use native.Mathlib.Nat.{add-zero}
use native.Mathlib.Omega.{arith}
use lib.ListN.{length, get_or, drop, length-take}
use lib.Dec.{eqb, ltb}
use lib.IntN.{pos}
use Rattle.lists.specs.Lists.{tabulate, range, maximum, All}
use Rattle.lists.proofs.All.{all_get, all_join, all_left, all_right, all_tabulate}
use Rattle.lists.proofs.Totals.{get_cut}
use Rattle.expression.specs.Expr.{Expr, evaluate, degree_ops, degree, distribute_powers, product_from, product_of}
use Rattle.backend.specs.Circuit.{Circuit, num_challenges, num_groups, num_copied, h_number, z_number}
use Rattle.backend.specs.Constraints.{lookup_constraint, lookup_constraints, max_degree}
use Rattle.backend.proofs.Degree.{powers_degree}
use Rattle.preprocessor.specs.Compose.{num_z, constraint_cut, identity_factor, permutation_factor, next_z, start_constraint, part_constraint, permutation_constraints, composed_constraints, zero_check, compose_tree, constraint_trees, identity_tree, lookup_tree_of, next_tree, params_of, outer_trees, part_tree, permutation_tree, permutation_trees, start_tree, zero_tree}
use Rattle.hyperplonk_spec.specs.Composed.{PartDegree, ComposedDegree, ComposeDegree}
use Rattle.completeness.proofs.Cuts.{degree_two}

-- a product of factors of degree 1
module _ (f : ℕ → Expr) (h : (t : ℕ) → degree (f t) ≡ 1) where
  from_degree : (e : Expr) (part : List ℕ) → degree (product_from e (map f part)) ≡ degree e + length part
  unfolding degree degree_ops evaluate product_from
  from_degree e [] = sym (add-zero (degree e))
  from_degree e (t ∷ ts) =
      from_degree (Expr.product e (f t)) ts ∙ ap (λ (n : ℕ). degree e + n + length ts) (h t) ∙ step (degree e) (length ts)
    where
      step : (a b : ℕ) → a + 1 + b ≡ a + suc b
      step a b = omega arith

  product_degree : (part : List ℕ) → degree (product_of (map f part)) ≡ length part
  unfolding degree degree_ops evaluate product_of
  product_degree [] = refl
  product_degree (t ∷ ts) = from_degree (f t) ts ∙ ap (λ (n : ℕ). n + length ts) (h t) ∙ step (length ts)
    where
      step : (b : ℕ) → 1 + b ≡ suc b
      step b = omega arith

module _ (c : Circuit) where
  identity_degree : (t : ℕ) → degree (identity_factor c t) ≡ 1
  unfolding degree degree_ops evaluate identity_tree params_of
  identity_degree t = refl

  permutation_degree : (t : ℕ) → degree (permutation_factor c t) ≡ 1
  unfolding degree degree_ops evaluate permutation_tree params_of
  permutation_degree t = refl

  next_degree : (i : ℕ) → degree (next_z c i) ≡ 1
  unfolding next_tree params_of degree degree_ops evaluate
  next_degree i = go (ltb (suc i) (num_z c))
    where
      go : (t : Bool) → degree (cond t (Expr.poly (z_number c (suc i)) (pos 0)) (Expr.poly (z_number c 0) (pos 1))) ≡ 1
      go true = refl
      go false = refl

  part_is : (i : ℕ) → degree (part_constraint c i) ≡ 1 + length (get_or (constraint_cut c) i [])
  unfolding degree degree_ops evaluate part_tree params_of
  part_is i =
      ap₂ max
      (ap (λ (n : ℕ). 1 + n) (product_degree (identity_factor c) identity_degree (get_or (constraint_cut c) i [])))
      (ap₂ ◌+◌ (next_degree i) (product_degree (permutation_factor c) permutation_degree (get_or (constraint_cut c) i [])))
      ∙ step (length (get_or (constraint_cut c) i []))
    where
      step : (n : ℕ) → max (1 + n) (1 + n) ≡ 1 + n
      step n = omega arith

  -- a part has at most D − 1 columns
  part_size_is : (i : ℕ) → length (get_or (constraint_cut c) i []) ≤ max_degree c - 1
  unfolding params_of
  part_size_is i =
      let e : length (get_or (constraint_cut c) i []) ≡ min (max_degree c - 1) (length (drop (i * (max_degree c - 1)) (range (num_copied c)))) =
      ap length (get_cut (max_degree c - 1) (range (num_copied c)) i (let q = degree_two c in omega arith)) ∙ simp length-take in
      omega arith

  pub part_degree : (i : ℕ) → PartDegree c i
  part_degree i =
      record {
        is = part_is i;
        most = (let q = part_is i in let r = part_size_is i in let s = degree_two c in omega arith);
      }

  start_is : degree (start_constraint c) ≡ 2
  unfolding degree degree_ops evaluate start_tree params_of
  start_is = refl

  -- each entry is at most the largest
  below_largest : (es : List Expr) (D : ℕ) → maximum (map degree es) ≤ D → All (λ e. degree e ≤ D) es
  unfolding maximum
  below_largest [] D h = tt
  below_largest (e ∷ es) D h = (omega arith, below_largest es D (omega arith))

  given : All (λ e. degree e ≤ max_degree c) (c.constraints ++ lookup_constraints c)
  unfolding max_degree maximum
  given = below_largest (c.constraints ++ lookup_constraints c) (max_degree c) (omega arith)

  permutation : All (λ e. degree e ≤ max_degree c) (permutation_constraints c)
  unfolding permutation_trees params_of
  permutation = go (eqb (num_copied c) 0)
    where
      go : (t : Bool) → All (λ e. degree e ≤ max_degree c) (cond t [] (start_constraint c ∷ tabulate (part_constraint c) (num_z c)))
      go true = tt
      go false = (
        let q = start_is in let s = degree_two c in omega arith,
        all_tabulate (λ e. degree e ≤ max_degree c) (part_constraint c) (num_z c) (λ i l. (part_degree i).most),
      )

  all_degrees : All (λ e. degree e ≤ max_degree c) (composed_constraints c)
  unfolding constraint_trees lookup_tree_of lookup_constraint lookup_constraints params_of
  all_degrees =
      all_join (λ e. degree e ≤ max_degree c) c.constraints (lookup_constraints c ++ permutation_constraints c)
      (all_left (λ e. degree e ≤ max_degree c) c.constraints (lookup_constraints c) given)
      (all_join (λ e. degree e ≤ max_degree c) (lookup_constraints c) (permutation_constraints c)
      (all_right (λ e. degree e ≤ max_degree c) c.constraints (lookup_constraints c) given)
      permutation)

pub composed_degree : ComposedDegree
composed_degree c i l = all_get (λ e. degree e ≤ max_degree c) (composed_constraints c) (all_degrees c) i (Expr.constant 0) l

-- the largest is at most what each is
largest_below : (es : List Expr) (D : ℕ) → All (λ e. degree e ≤ D) es → maximum (map degree es) ≤ D
unfolding maximum
largest_below [] D a = omega arith
largest_below (e ∷ es) D a = let p = a.0 in let q = largest_below es D a.1 in omega arith

powers_below : (es : List Expr) (i D : ℕ) → All (λ e. degree e ≤ D) es → degree (distribute_powers es (Expr.challenge i)) ≤ D
powers_below es i D a = let p = powers_degree es i in let q = largest_below es D a in omega arith

module _ (c : Circuit) where
  check_degree : degree (zero_check c) ≤ max_degree c + 1
  unfolding degree degree_ops evaluate zero_tree params_of
  check_degree = let p = powers_below (composed_constraints c) (num_challenges c + 2) (max_degree c) (all_degrees c) in omega arith

  h_degree : (j : ℕ) → degree (Expr.poly (h_number c j) (pos 0)) ≤ max_degree c + 1
  unfolding degree degree_ops evaluate
  h_degree j = let q = degree_two c in omega arith

pub compose_degree : ComposeDegree
unfolding compose_tree outer_trees params_of
compose_degree c =
    powers_below (tabulate (λ j. Expr.poly (h_number c j) (pos 0)) (num_groups c) ++ (zero_check c ∷ [])) (num_challenges c + 2) (max_degree c + 1)
    (all_join (λ e. degree e ≤ max_degree c + 1) (tabulate (λ j. Expr.poly (h_number c j) (pos 0)) (num_groups c)) (zero_check c ∷ [])
    (all_tabulate (λ e. degree e ≤ max_degree c + 1) (λ j. Expr.poly (h_number c j) (pos 0)) (num_groups c) (λ j l. h_degree c j))
    (check_degree c, tt))
