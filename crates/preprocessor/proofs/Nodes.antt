-- How many nodes the composed expression takes, in closed form, an Item counted as `item`. Proved.
use mathlib.Core.Path.{◌≡◌, refl, sym, ap, ap₂, ◌∙◌}
use mathlib.Core.Bool.{Bool, true, false, cond}
use mathlib.Core.List.{List, [], ◌∷◌, ◌++◌, map}
use Prim.Native.Nat.{ℕ, zero, suc, ◌+◌, ◌*◌}
use native.Mathlib.Nat.{suc-mul}
use native.Mathlib.Omega.{arith}
use lib.Dec.{eqb, ltb}
use lib.IntN.{pos}
use lib.ListN.{length, get_or, length-map}
use Rattle.lists.specs.Lists.{tabulate, total, cut, range, ceil_div}
use Rattle.lists.proofs.Lists.{concat_length}
use Rattle.lists.proofs.Columns.{tabulate_cong, tabulate_of, map_tabulate, below_length}
use Rattle.lists.proofs.Totals.{total_append, concat_cut, cut_length}
use Rattle.expression.specs.Expr.{Expr, at, exprs_of, distribute_powers, product_from, product_of}
use Rattle.expression.specs.Flat.{body, size}
use Rattle.expression.specs.Walks.{weight, weights}
use Rattle.backend.specs.Circuit.{Circuit, Pair, num_groups, groups_of, copied}
use Rattle.backend.specs.Constraints.{inputs_of, tables_of, side_of, group_with}
use Rattle.preprocessor.specs.Compose.{compose, composed_constraints, number_of_m, number_of_h, number_of_z, chunk, identity_tree, permutation_tree, next_tree, start_tree, part_tree, lookup_tree_of, permutation_trees, constraint_trees, zero_tree, outer_trees, compose_tree, params_of}
use Rattle.preprocessor.specs.ComposeWords.{Limits, permutation_nodes}
use Rattle.preprocessor.specs.Count.{nodes_in, list_nodes, group_nodes}
use Rattle.preprocessor.specs.declared.CircuitParams.{CircuitParams}
use Rattle.preprocessor.proofs.Parts.{part_size_is, start_size}
use Rattle.preprocessor.proofs.Groups.{group_weight}
use Rattle.preprocessor.proofs.ComposeWords.{outer_length, zero_weight}

module _ (item : ℕ) where
  pub nodes_append : (es fs : List Expr) → nodes_in item (es ++ fs) ≡ nodes_in item es + nodes_in item fs
  unfolding nodes_in
  nodes_append [] fs = omega arith
  nodes_append (e ∷ es) fs = let q = nodes_append es fs in omega arith

  pub nodes_one : (e : Expr) → nodes_in item (e ∷ []) ≡ weight item e
  unfolding nodes_in
  nodes_one e = omega arith

  pub nodes_column : (f : ℕ → Expr) (n : ℕ) → nodes_in item (tabulate f n) ≡ total (tabulate (λ i. weight item (f i)) n)
  unfolding nodes_in tabulate total
  nodes_column f zero = refl
  nodes_column f (suc n) =
      nodes_append (tabulate f n) (f n ∷ [])
      ∙ ap (λ (m : ℕ). m + (weight item (f n) + 0)) (nodes_column f n)
      ∙ sym (total_append (tabulate (λ i. weight item (f i)) n) (weight item (f n) ∷ []))

  -- ---- lists
  exprs_weights : (e : Expr) (es : List Expr) → weights item (exprs_of e es) ≡ suc (length es) * item + (weight item e + nodes_in item es)
  unfolding exprs_of nodes_in weight
  exprs_weights e [] = omega arith
  exprs_weights e (f ∷ es) =
      let q = exprs_weights f es in
      let m = suc-mul (suc (length es)) item in
      omega arith

  pub list_size : (b : Expr) → weight item b ≡ 1 → (es : List Expr) → weight item (distribute_powers es b) ≡ nodes_in item es + list_nodes item (length es)
  unfolding distribute_powers nodes_in list_nodes weight
  list_size b h [] = refl
  list_size b h (e ∷ []) = omega arith
  list_size b h (e ∷ (f ∷ es)) =
      let p = exprs_weights e (f ∷ es) in
      omega arith

  pub challenge_size : (i : ℕ) → weight item (Expr.challenge i) ≡ 1
  unfolding weight
  challenge_size i = refl

  query_size : (q : ℕ) → weight item (at q) ≡ 1
  unfolding weight
  query_size q = refl

  -- ---- the outer list
  queries_nodes : (f : ℕ → ℕ) (n : ℕ) → nodes_in item (tabulate (λ j. at (f j)) n) ≡ n
  unfolding tabulate nodes_in
  queries_nodes f zero = refl
  queries_nodes f (suc n) =
      nodes_append (tabulate (λ j. at (f j)) n) (at (f n) ∷ [])
      ∙ ap₂ ◌+◌ (queries_nodes f n) (nodes_one (at (f n)) ∙ query_size (f n))
      ∙ omega arith

  outer_nodes : (v : CircuitParams) (es : List Expr) → nodes_in item (outer_trees v es) ≡ v.num_groups + weight item (zero_tree v es)
  unfolding outer_trees
  outer_nodes v es =
      nodes_append (tabulate (λ j. at (number_of_h v j)) v.num_groups) (zero_tree v es ∷ [])
      ∙ ap₂ ◌+◌ (queries_nodes (number_of_h v) v.num_groups) (nodes_one (zero_tree v es))

  pub compose_size : (v : CircuitParams) (es : List Expr)
      → weight item (compose_tree v es) ≡ nodes_in item es + list_nodes item (length es) + 2 + v.num_groups + list_nodes item (suc v.num_groups)
  unfolding compose_tree
  compose_size v es =
      let b : Expr = Expr.challenge (v.num_challenges + 2) in
      let p = list_size b (challenge_size (v.num_challenges + 2)) (outer_trees v es) in
      let q = outer_nodes v es in
      let r = zero_weight item v es in
      let s = list_size b (challenge_size (v.num_challenges + 2)) es in
      let t : list_nodes item (length (outer_trees v es)) ≡ list_nodes item (suc v.num_groups) = ap (list_nodes item) (outer_length v es) in
      omega arith

  -- ---- a group
  -- the nodes of a lookup's inputs, and of its table, with gamma
  abbrev pub input_nodes : List Pair → ℕ
  input_nodes l = nodes_in item (inputs_of l) + list_nodes item (length (inputs_of l)) + 2

  abbrev pub table_nodes : List Pair → ℕ
  table_nodes l = nodes_in item (tables_of l) + list_nodes item (length (tables_of l)) + 2

  pub side_nodes : (user : ℕ) (es : List Expr) → weight item (side_of user es) ≡ nodes_in item es + list_nodes item (length es) + 2
  unfolding weight
  side_nodes user es = let p = list_size (Expr.challenge user) (challenge_size user) es in omega arith

  sides_nodes : (user : ℕ) (group : List (List Pair)) → nodes_in item (map (λ l. side_of user (inputs_of l)) group) ≡ total (map input_nodes group)
  unfolding nodes_in total
  sides_nodes user [] = refl
  sides_nodes user (l ∷ ls) = ap₂ ◌+◌ (side_nodes user (inputs_of l)) (sides_nodes user ls)

  -- the constraint of a group
  abbrev pub nodes_of : List (List Pair) → ℕ
  nodes_of group = group_nodes (length group) (total (map input_nodes group)) (table_nodes (get_or group 0 []))

  pub group_nodes_is : (v : CircuitParams) (groups : List (List (List Pair))) (j : ℕ) → weight item (lookup_tree_of v groups j) ≡ nodes_of (get_or groups j [])
  unfolding lookup_tree_of group_with
  group_nodes_is v groups j =
      let user : ℕ = v.num_challenges in
      let group : List (List Pair) = get_or groups j [] in
      group_weight item (number_of_m v j) (number_of_h v j) (map (λ l. side_of user (inputs_of l)) group) (side_of user (tables_of (get_or group 0 [])))
      ∙ ap₂ (λ (n m : ℕ). group_nodes n m (weight item (side_of user (tables_of (get_or group 0 []))))) (length-map group (λ l. side_of user (inputs_of l)))
      (sides_nodes user group)
      ∙ ap (group_nodes (length group) (total (map input_nodes group))) (side_nodes user (tables_of (get_or group 0 [])))

  -- ---- the permutation
  -- where there are no lists, Items do not matter
  abbrev Even : Expr → Type 0
  Even e = weight item e ≡ size e

  both_even : (a b : Expr) → Even a → Even b → Even (Expr.product a b)
  unfolding weight body
  both_even a b p q = ap₂ (λ (x y : ℕ). suc (x + y)) p q

  products_even : (f : ℕ → Expr) → ((i : ℕ) → Even (f i)) → (e : Expr) → Even e → (xs : List ℕ) → Even (product_from e (map f xs))
  unfolding product_from
  products_even f p e q [] = q
  products_even f p e q (x ∷ xs) = products_even f p (Expr.product e (f x)) (both_even e (f x) q (p x)) xs

  product_even : (f : ℕ → Expr) → ((i : ℕ) → Even (f i)) → (xs : List ℕ) → Even (product_of (map f xs))
  unfolding product_of weight body
  product_even f p [] = refl
  product_even f p (x ∷ xs) = products_even f p (f x) (p x) xs

  identity_even : (v : CircuitParams) (names : List ℕ) (i : ℕ) → Even (identity_tree v names i)
  unfolding identity_tree weight body
  identity_even v names i = refl

  permuted_even : (v : CircuitParams) (names : List ℕ) (i : ℕ) → Even (permutation_tree v names i)
  unfolding permutation_tree weight body
  permuted_even v names i = refl

  next_even : (v : CircuitParams) (i : ℕ) → Even (next_tree v i)
  unfolding next_tree weight body
  next_even v i = go (ltb (suc i) v.num_chunks)
    where
      go : (t : Bool) → Even (cond t (at (number_of_z v (suc i))) (Expr.poly (number_of_z v 0) (pos 1)))
      go true = refl
      go false = refl

  part_even : (v : CircuitParams) (names : List ℕ) (i : ℕ) → Even (part_tree v names i)
  unfolding part_tree weight body
  part_even v names i =
      let p = product_even (identity_tree v names) (identity_even v names) (chunk v i) in
      let q = product_even (permutation_tree v names) (permuted_even v names) (chunk v i) in
      let n = next_even v i in
      omega arith

  start_even : (v : CircuitParams) → Even (start_tree v)
  unfolding start_tree weight body
  start_even v = refl

  scaled_total : (a : ℕ → ℕ) (n : ℕ) → total (tabulate (λ i. a i * 18 + 4) n) ≡ total (tabulate a n) * 18 + n * 4
  unfolding tabulate total
  scaled_total a zero = refl
  scaled_total a (suc n) =
      let p = total_append (tabulate (λ i. a i * 18 + 4) n) ((a n * 18 + 4) ∷ []) in
      let q = total_append (tabulate a n) (a n ∷ []) in
      let r = scaled_total a n in
      omega arith

  -- the parts hold each copied column once
  parts_total : (v : CircuitParams) → Limits v → total (tabulate (λ i. length (chunk v i)) v.num_chunks) ≡ v.num_permutation_polys
  parts_total v l =
      let C : List (List ℕ) = cut v.chunk_size (range v.num_permutation_polys) in
      let n : v.num_chunks ≡ length C =
      l.parts_are
      ∙ ap (λ (n : ℕ). ceil_div n v.chunk_size) (sym (below_length v.num_permutation_polys))
      ∙ sym (cut_length v.chunk_size (range v.num_permutation_polys)) in
      ap (λ (m : ℕ). total (tabulate (λ i. length (get_or C i [])) m)) n
      ∙ ap total
      (sym (map_tabulate (λ (xs : List ℕ). length xs) (λ i. get_or C i []) (length C)) ∙ ap (map (λ (xs : List ℕ). length xs)) (tabulate_of C []))
      ∙ sym (concat_length C)
      ∙ ap length (concat_cut v.chunk_size (range v.num_permutation_polys) l.some_part)
      ∙ below_length v.num_permutation_polys

  pub permutation_nodes_is : (v : CircuitParams) (l : Limits v) (names : List ℕ)
      → nodes_in item (start_tree v ∷ tabulate (part_tree v names) v.num_chunks) ≡ 6 + v.num_permutation_polys * 18 + v.num_chunks * 4
  unfolding nodes_in
  permutation_nodes_is v l names =
      let p =
      nodes_column (part_tree v names) v.num_chunks
      ∙ ap total
      (tabulate_cong (λ i. weight item (part_tree v names i)) (λ i. length (chunk v i) * 18 + 4) v.num_chunks (λ i h. part_even v names i ∙ part_size_is v l i h names))
      ∙ scaled_total (λ i. length (chunk v i)) v.num_chunks in
      let q = parts_total v l in
      let s = start_even v ∙ start_size v in
      omega arith

  -- ---- all constraints
  some_nodes : (v : CircuitParams) (l : Limits v) (names : List ℕ) (t : Bool)
      → nodes_in item (cond t [] (start_tree v ∷ tabulate (part_tree v names) v.num_chunks)) ≡ cond t 0 (6 + v.num_permutation_polys * 18 + v.num_chunks * 4)
  unfolding nodes_in
  some_nodes v l names true = refl
  some_nodes v l names false = permutation_nodes_is v l names

  pub constraints_nodes : (v : CircuitParams) (l : Limits v) (names : List ℕ) (user : List Expr) (groups : List (List (List Pair)))
      → nodes_in item (constraint_trees v names user groups)
      ≡ nodes_in item user + nodes_in item (tabulate (lookup_tree_of v groups) v.num_groups)
      + permutation_nodes v
  unfolding constraint_trees permutation_trees permutation_nodes
  constraints_nodes v l names user groups =
      let P : List Expr = cond (eqb v.num_permutation_polys 0) [] (start_tree v ∷ tabulate (part_tree v names) v.num_chunks) in
      let a = nodes_append user (tabulate (lookup_tree_of v groups) v.num_groups ++ P) in
      let b = nodes_append (tabulate (lookup_tree_of v groups) v.num_groups) P in
      let c = some_nodes v l names (eqb v.num_permutation_polys 0) in
      omega arith

  -- user nodes, lookups, permutation, what the lists add, the product with EqXY(0), the h queries
  pub composed_nodes_is : (c : Circuit) → Limits (params_of c)
      → weight item (compose c)
      ≡ nodes_in item c.constraints + nodes_in item (tabulate (lookup_tree_of (params_of c) (groups_of c)) (num_groups c))
      + permutation_nodes (params_of c)
      + list_nodes item (length (composed_constraints c))
      + 2
      + num_groups c
      + list_nodes item (suc (num_groups c))
  unfolding params_of
  composed_nodes_is c l =
      let p = compose_size (params_of c) (composed_constraints c) in
      let r = constraints_nodes (params_of c) l (copied c) c.constraints (groups_of c) in
      omega arith
