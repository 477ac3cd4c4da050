-- Are two expressions one tree, by shape and words? Of question 18: "tables of one group differ in width or as trees".
use Rattle.std.specs.Prelude.{Bool, true, false, ◌&&◌, List, [], ◌∷◌, ℕ, eqb, ℤ, pos}
use Rattle.expression.specs.Expr.{Expr, Exprs, sameℤ}

-- a node with its kind, its number and its signed number, 0 where it has none, and the trees below it, in order
mutual
  pub data Tree : Type 0 where
    node : ℕ → ℕ → ℤ → Trees → Tree

  pub data Trees : Type 0 where
    none : Trees
    also : Tree → Trees → Trees

-- the kinds by document 01's numbers
unfoldable mutual
  pub tree_of : Expr → Tree
  tree_of (Expr.constant v) = Tree.node 1 v (pos 0) Trees.none
  tree_of Expr.identity = Tree.node 2 0 (pos 0) Trees.none
  tree_of (Expr.lagrange i) = Tree.node 3 0 i Trees.none
  tree_of (Expr.eq_xy i) = Tree.node 4 i (pos 0) Trees.none
  tree_of (Expr.poly q r) = Tree.node 5 q r Trees.none
  tree_of (Expr.challenge i) = Tree.node 6 i (pos 0) Trees.none
  tree_of (Expr.negated a) = Tree.node 7 0 (pos 0) (Trees.also (tree_of a) Trees.none)
  tree_of (Expr.sum a b) = Tree.node 8 0 (pos 0) (Trees.also (tree_of a) (Trees.also (tree_of b) Trees.none))
  tree_of (Expr.product a b) = Tree.node 9 0 (pos 0) (Trees.also (tree_of a) (Trees.also (tree_of b) Trees.none))
  tree_of (Expr.scaled a s) = Tree.node 10 s (pos 0) (Trees.also (tree_of a) Trees.none)
  tree_of (Expr.powers es b) = Tree.node 11 0 (pos 0) (Trees.also (tree_of b) (trees_of es))

  pub trees_of : Exprs → Trees
  trees_of (Exprs.last e) = Trees.also (tree_of e) Trees.none
  trees_of (Exprs.more e es) = Trees.also (tree_of e) (trees_of es)

unfoldable mutual
  pub same_tree : Tree → Tree → Bool
  same_tree (Tree.node k v i ts) (Tree.node l w j us) = eqb k l && (eqb v w && (sameℤ i j && same_trees ts us))

  pub same_trees : Trees → Trees → Bool
  same_trees Trees.none Trees.none = true
  same_trees Trees.none (Trees.also u us) = false
  same_trees (Trees.also t ts) Trees.none = false
  same_trees (Trees.also t ts) (Trees.also u us) = same_tree t u && same_trees ts us

unfoldable pub same_expr : Expr → Expr → Bool
same_expr a b = same_tree (tree_of a) (tree_of b)

unfoldable pub same_exprs : Exprs → Exprs → Bool
same_exprs es fs = same_trees (trees_of es) (trees_of fs)

-- as many, and each the same
unfoldable pub same_list : List Expr → List Expr → Bool
same_list [] [] = true
same_list [] (y ∷ ys) = false
same_list (x ∷ xs) [] = false
same_list (x ∷ xs) (y ∷ ys) = same_expr x y && same_list xs ys
