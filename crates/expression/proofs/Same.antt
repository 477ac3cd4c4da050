-- `same_expr` is equality of expressions, and `same_list` of their lists.
use mathlib.Core.Path.{◌≡◌, refl, sym, ap, ap₂, ◌∙◌, subst}
use mathlib.Core.Bool.{true}
use mathlib.Core.List.{List, [], ◌∷◌}
use mathlib.Core.Logic.{◌↔◌}
use Prim.Native.Nat.{ℕ}
use lib.Dec.{eqb}
use lib.IntN.{ℤ, pos, negsuc}
use lib.ListN.{get_or}
use borrow.Author.Tests.{eq-eqb, eqb-true}
use Rattle.lists.proofs.Tests.{and_left, and_right, and_both, false_true}
use Rattle.expression.specs.Expr.{Expr, Exprs, sameℤ, exprs_of}
use Rattle.expression.specs.Nodes.{Kind, kind_of, no_expr}
use Rattle.expression.specs.Same.{Tree, Trees, tree_of, trees_of, same_tree, same_trees, same_expr, same_list}

number_self : (i : ℤ) → sameℤ i i ≡ true
number_self (pos m) = eq-eqb m m refl
number_self (negsuc m) = eq-eqb m m refl

number_same : (i j : ℤ) → sameℤ i j ≡ true → i ≡ j
number_same (pos m) (pos n) h = ap pos (eqb-true m n h)
number_same (pos m) (negsuc n) h = false_true h
number_same (negsuc m) (pos n) h = false_true h
number_same (negsuc m) (negsuc n) h = ap negsuc (eqb-true m n h)

-- ---- trees
mutual
  unfolding same_tree

  tree_self : (t : Tree) → same_tree t t ≡ true
  tree_self (Tree.node k v i ts) =
      and_both (eqb k k) _ (eq-eqb k k refl)
      (and_both (eqb v v) _ (eq-eqb v v refl) (and_both (sameℤ i i) _ (number_self i) (trees_self ts)))

  trees_self : (ts : Trees) → same_trees ts ts ≡ true
  trees_self Trees.none = refl
  trees_self (Trees.also t ts) = and_both (same_tree t t) _ (tree_self t) (trees_self ts)

mutual
  unfolding same_tree

  tree_same : (t u : Tree) → same_tree t u ≡ true → t ≡ u
  tree_same (Tree.node k v i ts) (Tree.node l w j us) h =
      let g = and_right (eqb k l) _ h in
      let f = and_right (eqb v w) _ g in
      ap₂ (λ (x y : ℕ). Tree.node x y i ts) (eqb-true k l (and_left (eqb k l) _ h)) (eqb-true v w (and_left (eqb v w) _ g))
      ∙ ap₂ (Tree.node l w) (number_same i j (and_left (sameℤ i j) _ f)) (trees_same ts us (and_right (sameℤ i j) _ f))

  trees_same : (ts us : Trees) → same_trees ts us ≡ true → ts ≡ us
  trees_same Trees.none Trees.none h = refl
  trees_same Trees.none (Trees.also u us) h = false_true h
  trees_same (Trees.also t ts) Trees.none h = false_true h
  trees_same (Trees.also t ts) (Trees.also u us) h =
      ap₂ Trees.also (tree_same t u (and_left (same_tree t u) _ h)) (trees_same ts us (and_right (same_tree t u) _ h))

-- ---- an expression back from its tree
listed : List Expr → Exprs
listed [] = Exprs.last no_expr
listed (e ∷ es) = exprs_of e es

powered : List Expr → Expr
powered [] = no_expr
powered (b ∷ es) = Expr.powers (listed es) b

from : Kind → ℕ → ℤ → List Expr → Expr
from Kind.is_constant v i es = Expr.constant v
from Kind.is_identity v i es = Expr.identity
from Kind.is_lagrange v i es = Expr.lagrange i
from Kind.is_eq_xy v i es = Expr.eq_xy v
from Kind.is_polynomial v i es = Expr.poly v i
from Kind.is_challenge v i es = Expr.challenge v
from Kind.is_negated v i es = Expr.negated (get_or es 0 no_expr)
from Kind.is_sum v i es = Expr.sum (get_or es 0 no_expr) (get_or es 1 no_expr)
from Kind.is_product v i es = Expr.product (get_or es 0 no_expr) (get_or es 1 no_expr)
from Kind.is_scaled v i es = Expr.scaled (get_or es 0 no_expr) v
from Kind.is_powers v i es = powered es
from Kind.is_item v i es = no_expr
from Kind.is_none v i es = no_expr

mutual
  expr_from : Tree → Expr
  expr_from (Tree.node k v i ts) = from (kind_of k) v i (exprs_from ts)

  exprs_from : Trees → List Expr
  exprs_from Trees.none = []
  exprs_from (Trees.also t ts) = expr_from t ∷ exprs_from ts

-- a list of Items has one or more
one_more : (e : Expr) (es : Exprs) → exprs_of e (exprs_from (trees_of es)) ≡ Exprs.more e (listed (exprs_from (trees_of es)))
unfolding tree_of expr_from listed exprs_of
one_more e (Exprs.last f) = refl
one_more e (Exprs.more f es) = refl

mutual
  unfolding tree_of expr_from from kind_of powered listed exprs_of

  expr_back : (e : Expr) → expr_from (tree_of e) ≡ e
  expr_back (Expr.constant v) = refl
  expr_back Expr.identity = refl
  expr_back (Expr.lagrange i) = refl
  expr_back (Expr.eq_xy i) = refl
  expr_back (Expr.poly q r) = refl
  expr_back (Expr.challenge i) = refl
  expr_back (Expr.negated a) = ap Expr.negated (expr_back a)
  expr_back (Expr.sum a b) = ap₂ Expr.sum (expr_back a) (expr_back b)
  expr_back (Expr.product a b) = ap₂ Expr.product (expr_back a) (expr_back b)
  expr_back (Expr.scaled a s) = ap (λ (x : Expr). Expr.scaled x s) (expr_back a)
  expr_back (Expr.powers es b) = ap₂ Expr.powers (exprs_back es) (expr_back b)

  exprs_back : (es : Exprs) → listed (exprs_from (trees_of es)) ≡ es
  exprs_back (Exprs.last e) = ap Exprs.last (expr_back e)
  exprs_back (Exprs.more e es) = one_more (expr_from (tree_of e)) es ∙ ap₂ Exprs.more (expr_back e) (exprs_back es)

-- ---- the theorems
pub same_self : (a : Expr) → same_expr a a ≡ true
unfolding same_expr
same_self a = tree_self (tree_of a)

pub same_expr_is : (a b : Expr) → (same_expr a b ≡ true) ↔ (a ≡ b)
unfolding same_expr
same_expr_is a b = (
  λ h. sym (expr_back a) ∙ ap expr_from (tree_same (tree_of a) (tree_of b) h) ∙ expr_back b,
  λ p. subst (λ (x : Expr). same_expr a x ≡ true) p (same_self a),
)

pub same_list_is : (xs ys : List Expr) → (same_list xs ys ≡ true) ↔ (xs ≡ ys)
unfolding same_list
same_list_is xs ys = (there xs ys, λ p. subst (λ (zs : List Expr). same_list xs zs ≡ true) p (self xs))
  where
    self : (zs : List Expr) → same_list zs zs ≡ true
    self [] = refl
    self (z ∷ zs) = and_both (same_expr z z) _ (same_self z) (self zs)

    there : (us vs : List Expr) → same_list us vs ≡ true → us ≡ vs
    there [] [] h = refl
    there [] (v ∷ vs) h = false_true h
    there (u ∷ us) [] h = false_true h
    there (u ∷ us) (v ∷ vs) h =
        ap₂ ◌∷◌ ((same_expr_is u v).0 (and_left (same_expr u v) _ h)) (there us vs (and_right (same_expr u v) _ h))
