-- The constraints of the words that the code is handed, by their numbers. Proved.
use mathlib.Core.Path.{◌≡◌, refl, sym, ap, ap₂, ◌∙◌}
use mathlib.Core.Bool.{Bool, true, false, cond}
use mathlib.Core.List.{List, [], ◌∷◌, ◌++◌, map}
use Prim.Native.Nat.{ℕ, suc, ◌+◌, ◌*◌, ◌/◌, ◌≤◌, ◌<◌}
use native.Mathlib.Nat.{le-div_iff_mul-le, add-zero}
use native.Mathlib.Omega.{arith}
use lib.Dec.{eqb}
use lib.ListN.{length, get_or, take, drop, length-append, length-map}
use borrow.Author.Tests.{eq-eqb, ne_eqb}
use Rattle.lists.specs.Lists.{tabulate, total, All}
use Rattle.lists.proofs.Lists.{get_left, get_past, get_map, split_length}
use Rattle.lists.proofs.Columns.{tabulate_length, get_tabulate, tabulate_cong, tabulate_of, map_tabulate}
use Rattle.lists.proofs.All.{all_get}
use Rattle.lists.proofs.Parts.{get_split, total_next, total_within}
use Rattle.lists.proofs.Runs.{part_tabulate, total_first}
use Rattle.expression.specs.Expr.{Expr, at, distribute_powers}
use Rattle.expression.specs.Nodes.{expr_of}
use Rattle.expression.specs.Flat.{size}
use Rattle.expression.specs.Walks.{weight}
use Rattle.expression.proofs.Visits.{size_is}
use Rattle.backend.specs.Circuit.{Pair, pair_at, pairs_of}
use Rattle.backend.specs.Constraints.{inputs_of, tables_of, side_of, group_tree, group_with}
use Rattle.preprocessor.specs.Compose.{number_of_m, number_of_h, start_tree, part_tree, lookup_tree_of, permutation_trees, constraint_trees, zero_tree, outer_trees, compose_tree}
use Rattle.preprocessor.specs.ComposeWords.{Words, GroupIn, IsNode, lookups_of, groups_from_words, side_exprs, side_tree, input_side, table_side, input_sides, group_from_words, constraints_from_words, num_constraints}
use Rattle.preprocessor.specs.declared.CircuitParams.{CircuitParams}
use Rattle.preprocessor.proofs.Lists.{nth}

-- ---- a lookup's pairs
module _ (nodes widths pairs : List ℕ) (enough : total widths * 2 ≤ length pairs) (j : ℕ) (h : j < length widths) where
  abbrev before : ℕ
  before = total (take j widths)

  abbrev width : ℕ
  width = get_or widths j 0

  pub pairs_end : before + width ≤ total widths
  pairs_end = omega (arith, total_next widths j h, total_first widths (suc j))

  pub words_end : before * 2 + width * 2 ≤ length pairs
  words_end = omega (arith, pairs_end)

  half : before + width ≤ length pairs / 2
  half = (le-div_iff_mul-le {k = 2} {x = before + width} {y = length pairs} (omega arith)).1 (omega (arith, pairs_end))

  lookup_pairs : get_or (lookups_of nodes widths pairs) j [] ≡ tabulate (λ i. pair_at nodes pairs (before + i)) width
  unfolding lookups_of
  lookup_pairs =
      get_split widths (tabulate (pair_at nodes pairs) (length pairs / 2)) j h
      ∙ part_tabulate (pair_at nodes pairs) before width (length pairs / 2) half

  pub inputs_are : inputs_of (get_or (lookups_of nodes widths pairs) j []) ≡ side_exprs nodes pairs (before * 2) width
  unfolding side_exprs
  inputs_are =
      ap inputs_of lookup_pairs ∙ map_tabulate (λ (p : Pair). p.input) (λ i. pair_at nodes pairs (before + i)) width
      ∙ tabulate_cong (λ i. expr_of nodes (get_or pairs ((before + i) * 2) 0)) (λ i. expr_of nodes (get_or pairs (before * 2 + i * 2) 0)) width
      (λ i l. ap (λ (n : ℕ). expr_of nodes (get_or pairs n 0)) (omega arith))

  pub tables_are : tables_of (get_or (lookups_of nodes widths pairs) j []) ≡ side_exprs nodes pairs (before * 2 + 1) width
  unfolding side_exprs
  tables_are =
      ap tables_of lookup_pairs ∙ map_tabulate (λ (p : Pair). p.table) (λ i. pair_at nodes pairs (before + i)) width
      ∙ tabulate_cong (λ i. expr_of nodes (get_or pairs ((before + i) * 2 + 1) 0)) (λ i. expr_of nodes (get_or pairs (before * 2 + 1 + i * 2) 0)) width
      (λ i l. ap (λ (n : ℕ). expr_of nodes (get_or pairs n 0)) (omega arith))

-- ---- a group's lookups
module _ (nodes sizes widths pairs : List ℕ) (enough : total widths * 2 ≤ length pairs) (members : total sizes ≡ length widths) (j : ℕ)
    (h : j < length sizes) (some : 0 < get_or sizes j 0) where
  abbrev first : ℕ
  first = total (take j sizes)

  abbrev count : ℕ
  count = get_or sizes j 0

  abbrev ls : List (List Pair)
  ls = lookups_of nodes widths pairs

  pub members_end : first + count ≤ length widths
  members_end = let q = total_within sizes j in omega arith

  lookups_length : length ls ≡ length widths
  unfolding lookups_of
  lookups_length = split_length widths (pairs_of nodes pairs)

  group_lookups : get_or (groups_from_words nodes sizes widths pairs) j [] ≡ tabulate (λ i. get_or ls (first + i) []) count
  unfolding groups_from_words
  group_lookups =
      get_split sizes ls j h ∙ ap (λ (xs : List (List Pair)). take count (drop first xs)) (sym (tabulate_of ls []))
      ∙ part_tabulate (λ i. get_or ls i []) first count (length ls) (let l = lookups_length in let q = members_end in omega arith)

  module _ (user : ℕ) where
    group_inputs_is : map (λ l. side_of user (inputs_of l)) (get_or (groups_from_words nodes sizes widths pairs) j [])
        ≡ input_sides nodes widths pairs user first count
    unfolding input_side side_tree
    group_inputs_is =
        ap (map (λ l. side_of user (inputs_of l))) group_lookups
        ∙ map_tabulate (λ l. side_of user (inputs_of l)) (λ i. get_or ls (first + i) []) count
        ∙ tabulate_cong (λ i. side_of user (inputs_of (get_or ls (first + i) []))) (λ i. input_side nodes widths pairs user (first + i)) count
        (λ i l. ap (side_of user) (inputs_are nodes widths pairs enough (first + i) (let q = members_end in omega arith)))

    group_table_is : side_of user (tables_of (get_or (get_or (groups_from_words nodes sizes widths pairs) j []) 0 [])) ≡ table_side nodes widths pairs user first
    unfolding table_side side_tree
    group_table_is =
        ap (λ (ls : List (List Pair)). side_of user (tables_of (get_or ls 0 []))) group_lookups
        ∙ ap (λ (l : List Pair). side_of user (tables_of l))
        (get_tabulate (λ i. get_or ls (first + i) []) count 0 [] some ∙ ap (λ (i : ℕ). get_or ls i []) (add-zero first))
        ∙ ap (side_of user) (tables_are nodes widths pairs enough first (let q = members_end in omega arith))

  pub group_tree_is : (v : CircuitParams) → lookup_tree_of v (groups_from_words nodes sizes widths pairs) j ≡ group_from_words v nodes widths pairs j first count
  unfolding lookup_tree_of group_with group_from_words
  group_tree_is v =
      ap₂ (λ (is : List Expr) (t : Expr). group_tree (at (number_of_m v j)) (at (number_of_h v j)) is t) (group_inputs_is v.num_challenges)
      (group_table_is v.num_challenges)

-- group j of the words, whose first lookup is s
pub group_in : (v : CircuitParams) (nodes roots sizes widths pairs : List ℕ) → Words v nodes roots sizes widths pairs → (j s n : ℕ)
    → j < v.num_groups
    → s ≡ total (take j sizes)
    → n ≡ get_or sizes j 0
    → GroupIn nodes widths pairs v.num_challenges s n × (n ≤ 8)
group_in v nodes roots sizes widths pairs w j s n h es en =
    let q = total_within sizes j in
    let m = w.all_members in
    let g = w.all_groups in
    let l = w.all_lookups in
    let f = w.limits.few_lookups in
    let p = all_get (λ n. 0 < n) sizes w.some_members j 0 (omega arith) in (
      record {
        few_user = w.limits.few_user;
        some = omega arith;
        all_members = omega arith;
        all_pairs = w.all_pairs;
        pairs_named = w.pairs_named;
      },
      omega arith,
    )

-- the sides of lookup i, whose first pair is s
module _ (nodes widths pairs : List ℕ) (user i s w : ℕ) (es : s ≡ total (take i widths)) (ew : w ≡ get_or widths i 0) where
  pub input_side_is : input_side nodes widths pairs user i ≡ side_tree nodes pairs user (s * 2) w
  unfolding input_side
  input_side_is = ap₂ (λ (s w : ℕ). side_tree nodes pairs user (s * 2) w) (sym es) (sym ew)

  pub table_side_is : table_side nodes widths pairs user i ≡ side_tree nodes pairs user (s * 2 + 1) w
  unfolding table_side
  table_side_is = ap₂ (λ (s w : ℕ). side_tree nodes pairs user (s * 2 + 1) w) (sym es) (sym ew)

-- a root that stands in a list of roots
pub root_node : (nodes roots : List ℕ) (i n : ℕ) → All (IsNode nodes) roots → i < length roots → n ≡ get_or roots i 0 → n * 4 + 4 ≤ length nodes
root_node nodes roots i n a h e = let q = all_get (IsNode nodes) roots a i 0 h in omega arith

-- ---- a side's expressions
module _ (nodes pairs : List ℕ) (s w : ℕ) where
  pub side_length : length (side_exprs nodes pairs s w) ≡ w
  unfolding side_exprs
  side_length = tabulate_length (λ i. expr_of nodes (get_or pairs (s + i * 2) 0)) w

  pub side_nth : (i n : ℕ) → i < w → n ≡ get_or pairs (s + i * 2) 0 → nth (side_exprs nodes pairs s w) i ≡ expr_of nodes n
  unfolding side_exprs
  side_nth i n h e =
      get_tabulate (λ i. expr_of nodes (get_or pairs (s + i * 2) 0)) w i (Expr.constant 0) h ∙ ap (expr_of nodes) (sym e)

-- ---- how many constraints
pub num_none : (own : ℕ) (v : CircuitParams) → v.num_permutation_polys ≡ 0 → num_constraints own v ≡ own + v.num_groups
unfolding num_constraints
num_none own v h =
    ap (λ (t : Bool). own + v.num_groups + cond t 0 (suc v.num_chunks)) (eq-eqb v.num_permutation_polys 0 h) ∙ add-zero (own + v.num_groups)

pub num_some : (own : ℕ) (v : CircuitParams) → (v.num_permutation_polys ≡ 0 → ⊥) → num_constraints own v ≡ own + v.num_groups + (1 + v.num_chunks)
unfolding num_constraints
num_some own v h =
    ap (λ (t : Bool). own + v.num_groups + cond t 0 (suc v.num_chunks)) (ne_eqb v.num_permutation_polys 0 h) ∙ omega arith

-- ---- the constraints by their numbers
module _ (v : CircuitParams) (names nodes roots sizes widths pairs : List ℕ) where
  abbrev es : List Expr
  es = constraints_from_words v names nodes roots sizes widths pairs

  abbrev user : List Expr
  user = map (expr_of nodes) roots

  abbrev lookup : ℕ → Expr
  lookup = lookup_tree_of v (groups_from_words nodes sizes widths pairs)

  abbrev some : List Expr
  some = start_tree v ∷ tabulate (part_tree v names) v.num_chunks

  some_length : (t : Bool) → length (cond t [] some) ≡ cond t 0 (suc v.num_chunks)
  some_length true = refl
  some_length false = ap suc (tabulate_length (part_tree v names) v.num_chunks)

  pub constraints_length : length es ≡ num_constraints (length roots) v
  unfolding constraint_trees permutation_trees num_constraints
  constraints_length =
      length-append user (tabulate lookup v.num_groups ++ cond (eqb v.num_permutation_polys 0) [] some)
      ∙ ap₂ ◌+◌ (length-map roots (expr_of nodes))
      (length-append (tabulate lookup v.num_groups) (cond (eqb v.num_permutation_polys 0) [] some)
      ∙ ap₂ ◌+◌ (tabulate_length lookup v.num_groups) (some_length (eqb v.num_permutation_polys 0)))
      ∙ omega arith

  pub own_nth : (i n : ℕ) → i < length roots → n ≡ get_or roots i 0 → nth es i ≡ expr_of nodes n
  unfolding constraint_trees permutation_trees
  own_nth i n h e =
      get_left user (tabulate lookup v.num_groups ++ cond (eqb v.num_permutation_polys 0) [] some) i (Expr.constant 0)
      (let e = length-map roots (expr_of nodes) in omega arith)
      ∙ get_map (expr_of nodes) roots i 0 (Expr.constant 0) h
      ∙ ap (expr_of nodes) (sym e)

  past_own : (i k : ℕ) → i ≡ length roots + k
      → nth es i ≡ nth (tabulate lookup v.num_groups ++ cond (eqb v.num_permutation_polys 0) [] some) k
  unfolding constraint_trees permutation_trees
  past_own i k e =
      get_past user (tabulate lookup v.num_groups ++ cond (eqb v.num_permutation_polys 0) [] some) i k (Expr.constant 0)
      (e ∙ ap (λ (n : ℕ). n + k) (sym (length-map roots (expr_of nodes))))

  pub lookup_nth : (i j s n : ℕ) → i ≡ length roots + j → j < v.num_groups → v.num_groups ≡ length sizes → All (λ n. 0 < n) sizes
      → total sizes ≡ length widths
      → total widths * 2 ≤ length pairs
      → s ≡ total (take j sizes)
      → n ≡ get_or sizes j 0
      → nth es i ≡ group_from_words v nodes widths pairs j s n
  lookup_nth i j s n e h all positive members enough es en =
      past_own i j e
      ∙ get_left (tabulate lookup v.num_groups) (cond (eqb v.num_permutation_polys 0) [] some) j (Expr.constant 0)
      (let l = tabulate_length lookup v.num_groups in omega arith)
      ∙ get_tabulate lookup v.num_groups j (Expr.constant 0) h
      ∙ group_tree_is nodes sizes widths pairs enough members j (omega arith) (all_get (λ n. 0 < n) sizes positive j 0 (omega arith)) v
      ∙ ap₂ (group_from_words v nodes widths pairs j) (sym es) (sym en)

  some_at : (t : Bool) (p : ℕ) → p < cond t 0 (suc v.num_chunks) → nth (cond t [] some) p ≡ nth some p
  some_at true p h = absurd (omega arith)
  some_at false p h = refl

  past_lookups : (i p : ℕ) → i ≡ length roots + (v.num_groups + p) → i < num_constraints (length roots) v → nth es i ≡ nth some p
  unfolding num_constraints
  past_lookups i p e h =
      past_own i (v.num_groups + p) e
      ∙ get_past (tabulate lookup v.num_groups) (cond (eqb v.num_permutation_polys 0) [] some) (v.num_groups + p) p (Expr.constant 0)
      (ap (λ (n : ℕ). n + p) (sym (tabulate_length lookup v.num_groups)))
      ∙ some_at (eqb v.num_permutation_polys 0) p (omega arith)

  pub start_nth : (i : ℕ) → i ≡ length roots + v.num_groups → i < num_constraints (length roots) v → nth es i ≡ start_tree v
  start_nth i e h = past_lookups i 0 (e ∙ ap (λ (n : ℕ). length roots + n) (sym (add-zero v.num_groups))) h

  few : (t : Bool) (p : ℕ) → suc p < cond t 0 (suc v.num_chunks) → p < v.num_chunks
  few true p h = absurd (omega arith)
  few false p h = omega arith

  pub part_below : (i p : ℕ) → i ≡ length roots + (v.num_groups + suc p) → i < num_constraints (length roots) v → p < v.num_chunks
  unfolding num_constraints
  part_below i p e h = few (eqb v.num_permutation_polys 0) p (omega arith)

  pub part_nth : (i p : ℕ) → i ≡ length roots + (v.num_groups + suc p) → i < num_constraints (length roots) v
      → nth es i ≡ part_tree v names p
  part_nth i p e h =
      past_lookups i (suc p) e h ∙ get_tabulate (part_tree v names) v.num_chunks p (Expr.constant 0) (part_below i p e h)

-- ---- the h queries and the zero check
module _ (v : CircuitParams) (es : List Expr) where
  pub outer_length : length (outer_trees v es) ≡ suc v.num_groups
  unfolding outer_trees
  outer_length =
      length-append (tabulate (λ j. at (number_of_h v j)) v.num_groups) (zero_tree v es ∷ [])
      ∙ ap (λ (n : ℕ). n + 1) (tabulate_length (λ j. at (number_of_h v j)) v.num_groups)
      ∙ omega arith

  pub query_nth : (i : ℕ) → i < v.num_groups → nth (outer_trees v es) i ≡ at (number_of_h v i)
  unfolding outer_trees
  query_nth i h =
      get_left (tabulate (λ j. at (number_of_h v j)) v.num_groups) (zero_tree v es ∷ []) i (Expr.constant 0)
      (let l = tabulate_length (λ j. at (number_of_h v j)) v.num_groups in omega arith)
      ∙ get_tabulate (λ j. at (number_of_h v j)) v.num_groups i (Expr.constant 0) h

  pub zero_nth : (i : ℕ) → i ≡ v.num_groups → nth (outer_trees v es) i ≡ zero_tree v es
  unfolding outer_trees
  zero_nth i h =
      get_past (tabulate (λ j. at (number_of_h v j)) v.num_groups) (zero_tree v es ∷ []) i 0 (Expr.constant 0)
      (let l = tabulate_length (λ j. at (number_of_h v j)) v.num_groups in omega arith)

-- the nodes of a sum with gamma, and of a product with a query
pub side_weight : (item : ℕ) (nodes pairs : List ℕ) (user s w : ℕ)
    → weight item (side_tree nodes pairs user s w) ≡ weight item (distribute_powers (side_exprs nodes pairs s w) (Expr.challenge user)) + 2
unfolding side_tree weight
side_weight item nodes pairs user s w = omega arith

pub side_size : (nodes pairs : List ℕ) (user s w : ℕ)
    → size (side_tree nodes pairs user s w) ≡ size (distribute_powers (side_exprs nodes pairs s w) (Expr.challenge user)) + 2
side_size nodes pairs user s w =
    sym (size_is (side_tree nodes pairs user s w)) ∙ side_weight 1 nodes pairs user s w
    ∙ ap (λ (n : ℕ). n + 2) (size_is (distribute_powers (side_exprs nodes pairs s w) (Expr.challenge user)))

pub zero_weight : (item : ℕ) (v : CircuitParams) (es : List Expr)
    → weight item (zero_tree v es) ≡ weight item (distribute_powers es (Expr.challenge (v.num_challenges + 2))) + 2
unfolding zero_tree weight
zero_weight item v es = omega arith

pub zero_size : (v : CircuitParams) (es : List Expr)
    → size (zero_tree v es) ≡ size (distribute_powers es (Expr.challenge (v.num_challenges + 2))) + 2
zero_size v es =
    sym (size_is (zero_tree v es)) ∙ zero_weight 1 v es
    ∙ ap (λ (n : ℕ). n + 2) (size_is (distribute_powers es (Expr.challenge (v.num_challenges + 2))))

-- with no group the composed expression is the zero check
pub compose_alone : (v : CircuitParams) (es : List Expr) → v.num_groups ≡ 0 → compose_tree v es ≡ zero_tree v es
unfolding compose_tree outer_trees distribute_powers tabulate
compose_alone v es h =
    ap (λ (n : ℕ). distribute_powers (tabulate (λ j. at (number_of_h v j)) n ++ (zero_tree v es ∷ [])) (Expr.challenge (v.num_challenges + 2))) h
