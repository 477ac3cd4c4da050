-- The words and the numbers that the code is handed: the constraints that they stand for, and what must hold of them.
use Rattle.std.specs.Prelude.{◌≡◌, cond, List, map, ℕ, suc, ◌+◌, ◌*◌, ◌≤◌, ◌<◌, length, get_or, take, drop, eqb}
use Rattle.lists.specs.Lists.{tabulate, ceil_div, split, total, write_window, All}
use Rattle.expression.specs.Expr.{Expr, Exprs, at, exprs_of}
use Rattle.expression.specs.Nodes.{expr_of}
use Rattle.backend.specs.Circuit.{Circuit, Pair, pairs_of, max_polys, copied, group_sizes, num_groups, groups_of}
use Rattle.backend.specs.Constraints.{side_of, group_tree}
use Rattle.preprocessor.specs.Compose.{params_of, number_of_m, number_of_h, constraint_trees, composed_words, composed_nodes}
use Rattle.preprocessor.specs.declared.CircuitParams.{CircuitParams}

-- "lookup pairs (input root, table root)", parted by the widths
unfoldable pub lookups_of : List ℕ → List ℕ → List ℕ → List (List Pair)
lookups_of nodes widths pairs = split widths (pairs_of nodes pairs)

-- those, in groups of these sizes
unfoldable pub groups_from_words : List ℕ → List ℕ → List ℕ → List ℕ → List (List (List Pair))
groups_from_words nodes sizes widths pairs = split sizes (lookups_of nodes widths pairs)

-- the expressions whose roots are every second word, w of them from s on
unfoldable pub side_exprs : List ℕ → List ℕ → ℕ → ℕ → List Expr
side_exprs nodes pairs s w = tabulate (λ i. expr_of nodes (get_or pairs (s + i * 2) 0)) w

-- those by powers of beta, and gamma
unfoldable pub side_tree : List ℕ → List ℕ → ℕ → ℕ → ℕ → Expr
side_tree nodes pairs user s w = side_of user (side_exprs nodes pairs s w)

-- the same of lookup i's inputs and tables, by the widths
unfoldable pub input_side : List ℕ → List ℕ → List ℕ → ℕ → ℕ → Expr
input_side nodes widths pairs user i = side_tree nodes pairs user (total (take i widths) * 2) (get_or widths i 0)

unfoldable pub table_side : List ℕ → List ℕ → List ℕ → ℕ → ℕ → Expr
table_side nodes widths pairs user i = side_tree nodes pairs user (total (take i widths) * 2 + 1) (get_or widths i 0)

-- the inputs of n lookups from lookup `first` on, and the constraint of group j that they make
abbrev pub input_sides : List ℕ → List ℕ → List ℕ → ℕ → ℕ → ℕ → List Expr
input_sides nodes widths pairs user first n = tabulate (λ i. input_side nodes widths pairs user (first + i)) n

unfoldable pub group_from_words : CircuitParams → List ℕ → List ℕ → List ℕ → ℕ → ℕ → ℕ → Expr
group_from_words params nodes widths pairs j first n =
    group_tree (at (number_of_m params j)) (at (number_of_h params j)) (input_sides nodes widths pairs params.num_challenges first n)
    (table_side nodes widths pairs params.num_challenges first)

-- the constraints of the words that the code is handed
abbrev pub constraints_from_words : CircuitParams → List ℕ → List ℕ → List ℕ → List ℕ → List ℕ → List ℕ → List Expr
constraints_from_words params names nodes roots sizes widths pairs =
    constraint_trees params names (map (expr_of nodes) roots) (groups_from_words nodes sizes widths pairs)

-- the expressions of a list from number i on
unfoldable pub exprs_from : List Expr → ℕ → Exprs
exprs_from es i = exprs_of (get_or es i (Expr.constant 0)) (drop (suc i) es)

-- a node of these words
abbrev pub IsNode : List ℕ → ℕ → Type 0
IsNode nodes r = r * 4 + 4 ≤ length nodes

-- n lookups from lookup `first` on, one or more, and their pairs, whose roots are nodes
pub record GroupIn (nodes widths pairs : List ℕ) (user first n : ℕ) : Type 0 where
  pub few_user : user ≤ 16
  pub some : 0 < n
  pub all_members : first + n ≤ length widths
  pub all_pairs : total widths * 2 ≤ length pairs
  pub pairs_named : All (IsNode nodes) pairs

-- numbers in the limits of documents 01 and 02; D is 2 or more
pub record Limits (params : CircuitParams) : Type 0 where
  pub few_polys : params.num_poly ≤ max_polys
  pub few_copied : params.num_permutation_polys ≤ max_polys
  pub few_lookups : params.num_lookups ≤ 8
  pub few_groups : params.num_groups ≤ params.num_lookups
  pub few_user : params.num_challenges ≤ 16
  pub few_rows : params.rows ≤ 1048576
  pub some_part : 0 < params.chunk_size
  pub parts_are : params.num_chunks ≡ ceil_div params.num_permutation_polys params.chunk_size

-- the words that go with them: every root is a node, and every lookup has a group
pub record Words (params : CircuitParams) (nodes roots sizes widths pairs : List ℕ) : Type 0 where
  pub limits : Limits params
  pub all_groups : params.num_groups ≡ length sizes
  pub some_members : All (λ n. 0 < n) sizes
  pub all_members : total sizes ≡ length widths
  pub all_lookups : params.num_lookups ≡ length widths
  pub all_pairs : total widths * 2 ≤ length pairs
  pub constraints_named : All (IsNode nodes) roots
  pub pairs_named : All (IsNode nodes) pairs

-- and the copied columns
pub record ComposeInput (params : CircuitParams) (names nodes roots sizes widths pairs : List ℕ) : Type 0 where
  pub words : Words params nodes roots sizes widths pairs
  pub all_copied : params.num_permutation_polys ≤ length names

-- how many constraints there are, with as many of the user's own
unfoldable pub num_constraints : ℕ → CircuitParams → ℕ
num_constraints own params = own + params.num_groups + cond (eqb params.num_permutation_polys 0) 0 (suc params.num_chunks)

-- the nodes of the permutation's constraints
unfoldable pub permutation_nodes : CircuitParams → ℕ
permutation_nodes params = cond (eqb params.num_permutation_polys 0) 0 (6 + params.num_permutation_polys * 18 + params.num_chunks * 4)

-- what the group numbers must tell: "first 0, each next the same or one more", one for each lookup
pub record GroupsValid (c : Circuit) : Type 0 where
  pub some : All (λ n. 0 < n) (group_sizes c.groups)
  pub all : total (group_sizes c.groups) ≡ length c.lookups
  pub few : num_groups c ≤ length c.lookups

-- the numbers and the words are those of a circuit
pub record DecodedFrom (c : Circuit) (params : CircuitParams) (names nodes roots sizes widths pairs : List ℕ) : Type 0 where
  pub params_are : params ≡ params_of c
  pub copied_are : names ≡ copied c
  pub constraints_are : map (expr_of nodes) roots ≡ c.constraints
  pub groups_are : groups_from_words nodes sizes widths pairs ≡ groups_of c

-- the composed nodes of a circuit stand from node 0 on, as far as they fall into the buffer, which stands for the words from `from` on
pub record Composed (from : ℕ) (c : Circuit) (before after : List ℕ) (next : ℕ) : Type 0 where
  pub number : next ≡ composed_nodes c
  pub buffer : after ≡ write_window from before 0 (composed_words c)
