-- The node words that building writes are read as the composed tree: ReadsBack of Composed.
use mathlib.Core.Path.{refl}
use mathlib.Core.Bool.{Bool, true, false, cond}
use mathlib.Core.List.{List, [], ◌∷◌, map}
use Prim.Native.Nat.{ℕ, suc}
use lib.Dec.{eqb, ltb}
use lib.IntN.{pos}
use lib.ListN.{get_or}
use Rattle.lists.specs.Lists.{tabulate, All}
use Rattle.lists.proofs.All.{all_get_d, all_join, all_tabulate, all_split, all_mapped, all_map}
use Rattle.expression.specs.Expr.{Expr, at, product_of}
use Rattle.expression.specs.Nodes.{expr_of}
use Rattle.expression.proofs.Within.{powers_within, from_within, product_within}
use Rattle.expression.proofs.ReadBack.{kept_signs, Kept, read_kept, read_back}
use Rattle.backend.specs.Circuit.{
  Section,
  Circuit,
  Pair,
  circuit_of,
  body_of,
  entries,
  pair_at,
  num_challenges,
  group_sizes,
  num_groups,
  groups_of,
  num_copied,
  m_number,
  h_number,
  z_number,
}
use Rattle.backend.specs.Constraints.{beta_of, alpha_of, inputs_of, tables_of, side_of, omit_one, sum_from, sum_of, numerator_tree, group_tree, group_with, lookup_constraint, lookup_constraints}
use Rattle.preprocessor.specs.Compose.{num_z, constraint_cut, identity_factor, permutation_factor, next_z, part_constraint, start_constraint, permutation_constraints, composed_constraints, zero_check, compose, composed_words, composed_nodes, compose_tree, constraint_trees, identity_tree, lookup_tree_of, next_tree, params_of, outer_trees, part_tree, permutation_tree, permutation_trees, start_tree, zero_tree}
use Rattle.hyperplonk_spec.specs.Composed.{ReadsBack}

abbrev PairKept : Pair → Type 0
PairKept p = Kept p.input × Kept p.table

-- a circuit whose trees are kept
record CircuitKept (c : Circuit) : Type 0 where
  constraints : All Kept c.constraints
  lookups : All (All PairKept) c.lookups

circuit_kept : (ws : List ℕ) → CircuitKept (circuit_of ws)
unfolding circuit_of
circuit_kept ws =
    record {
      constraints =
          all_map Kept (expr_of (body_of ws Section.nodes)) (read_kept (body_of ws Section.nodes)) (body_of ws Section.constraints);
      lookups =
          all_split PairKept (body_of ws Section.widths)
          (tabulate (pair_at (body_of ws Section.nodes) (body_of ws Section.pairs)) (entries ws Section.pairs))
          (all_tabulate PairKept (pair_at (body_of ws Section.nodes) (body_of ws Section.pairs)) (entries ws Section.pairs)
          (λ i l. (read_kept (body_of ws Section.nodes) _, read_kept (body_of ws Section.nodes) _)));
    }

module _ (c : Circuit) (k : CircuitKept c) where
  -- the side of a lookup, with gamma
  side_kept : (es : List Expr) → All Kept es → Kept (side_of (num_challenges c) es)
  side_kept es a = (powers_within kept_signs es (beta_of c) a tt, tt)

  inputs_kept : (group : List (List Pair)) → All (All PairKept) group → All Kept (map (λ l. side_of (num_challenges c) (inputs_of l)) group)
  inputs_kept group a =
      all_mapped (All PairKept) Kept (λ l. side_of (num_challenges c) (inputs_of l))
      (λ l h. side_kept (inputs_of l) (all_mapped PairKept Kept (λ (p : Pair). p.input) (λ p q. q.0) l h)) group a

  -- all but one
  omit_kept : (es : List Expr) → All Kept es → All (All Kept) (omit_one es)
  unfolding omit_one
  omit_kept [] a = tt
  omit_kept (e ∷ es) a = (a.1, all_mapped (All Kept) (All Kept) (λ ys. e ∷ ys) (λ ys b. (a.0, b)) (omit_one es) (omit_kept es a.1))

  sums_kept : (e : Expr) (es : List Expr) → Kept e → All Kept es → Kept (sum_from e es)
  unfolding sum_from
  sums_kept e [] a b = a
  sums_kept e (f ∷ es) a b = sums_kept (Expr.sum e f) es (a, b.0) b.1

  sum_kept : (es : List Expr) → All Kept es → Kept (sum_of es)
  unfolding sum_of
  sum_kept [] a = tt
  sum_kept (e ∷ es) a = sums_kept e es a.0 a.1

  numerator_kept : (t : Expr) (is : List Expr) → Kept t → All Kept is → Kept (numerator_tree t is)
  unfolding numerator_tree
  numerator_kept t [] a b = a
  numerator_kept t (i ∷ []) a b = a
  numerator_kept t (i ∷ (j ∷ is)) a b = (
    a,
    sum_kept (map product_of (omit_one (i ∷ (j ∷ is))))
        (all_mapped (All Kept) Kept product_of (λ es q. product_within kept_signs es q) (omit_one (i ∷ (j ∷ is))) (omit_kept (i ∷ (j ∷ is)) b)),
  )

  tree_kept : (m h : ℕ) (is : List Expr) (t : Expr) → All Kept is → Kept t → Kept (group_tree (at m) (at h) is t)
  unfolding group_tree
  tree_kept m h is t a b = (
    ((from_within kept_signs (at h) is refl a, b), numerator_kept t is b a),
    from_within kept_signs (at m) is refl a,
  )

  groups_kept : All (All (All PairKept)) (groups_of c)
  unfolding groups_of
  groups_kept = all_split (All PairKept) (group_sizes c.groups) c.lookups k.lookups

  lookup_kept : (j : ℕ) → Kept (lookup_constraint c j)
  unfolding lookup_constraint group_with
  lookup_kept j =
      let group : List (List Pair) = get_or (groups_of c) j [] in
      let h : All (All PairKept) group = all_get_d (All (All PairKept)) (groups_of c) j [] tt groups_kept in
      tree_kept (m_number c j) (h_number c j) (map (λ l. side_of (num_challenges c) (inputs_of l)) group) (side_of (num_challenges c) (tables_of (get_or group 0 [])))
      (inputs_kept group h)
      (side_kept (tables_of (get_or group 0 []))
      (all_mapped PairKept Kept (λ (p : Pair). p.table) (λ p q. q.1) (get_or group 0 []) (all_get_d (All PairKept) group 0 [] tt h)))

  identity_kept : (i : ℕ) → Kept (identity_factor c i)
  unfolding identity_tree params_of
  identity_kept i = ((refl, (tt, (tt, tt))), tt)

  permutation_kept : (i : ℕ) → Kept (permutation_factor c i)
  unfolding permutation_tree params_of
  permutation_kept i = ((refl, (tt, refl)), tt)

  next_kept : (i : ℕ) → Kept (next_z c i)
  unfolding next_tree params_of
  next_kept i = go (ltb (suc i) (num_z c))
    where
      go : (t : Bool) → Kept (cond t (at (z_number c (suc i))) (Expr.poly (z_number c 0) (pos 1)))
      go true = refl
      go false = refl

  part_kept : (i : ℕ) → Kept (part_constraint c i)
  unfolding part_tree params_of
  part_kept i =
      let part : List ℕ = get_or (constraint_cut c) i [] in (
        (refl, product_within kept_signs (map (identity_factor c) part) (all_map Kept (identity_factor c) identity_kept part)),
        (next_kept i, product_within kept_signs (map (permutation_factor c) part) (all_map Kept (permutation_factor c) permutation_kept part)),
      )

  start_kept : Kept (start_constraint c)
  unfolding start_tree params_of
  start_kept = (refl, (refl, tt))

  permutations_kept : All Kept (permutation_constraints c)
  unfolding permutation_trees params_of
  permutations_kept = go (eqb (num_copied c) 0)
    where
      go : (t : Bool) → All Kept (cond t [] (start_constraint c ∷ tabulate (part_constraint c) (num_z c)))
      go true = tt
      go false = (start_kept, all_tabulate Kept (part_constraint c) (num_z c) (λ i l. part_kept i))

  composed_kept : All Kept (composed_constraints c)
  unfolding constraint_trees lookup_tree_of lookup_constraint params_of lookup_constraints
  composed_kept =
      all_join Kept c.constraints _ k.constraints
      (all_join Kept (lookup_constraints c) (permutation_constraints c)
      (all_tabulate Kept (lookup_constraint c) (num_groups c) (λ j l. lookup_kept j))
      permutations_kept)

  compose_kept : Kept (compose c)
  unfolding compose_tree outer_trees params_of zero_tree
  compose_kept =
      powers_within kept_signs _ (alpha_of c)
      (all_join Kept (tabulate (λ j. at (h_number c j)) (num_groups c)) (zero_check c ∷ [])
      (all_tabulate Kept (λ j. at (h_number c j)) (num_groups c) (λ j l. refl))
      ((powers_within kept_signs (composed_constraints c) (alpha_of c) composed_kept tt, tt), tt))
      tt

pub reads_back : ReadsBack
unfolding composed_words composed_nodes
reads_back ws = read_back (compose (circuit_of ws)) (compose_kept (circuit_of ws) (circuit_kept ws))
