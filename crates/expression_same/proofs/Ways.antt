-- What each way through the code computes is `same_expr` and `same_exprs`: d and e are the nodes as read, and the other hypotheses are what
-- the calls ensure.
use mathlib.Core.Path.{◌≡◌, refl, sym, ap, ap₂, ◌∙◌, subst}
use mathlib.Core.Bool.{Bool, true, false, cond, ◌&&◌, and-true, and-false}
use mathlib.Core.List.{List}
use Prim.Native.Nat.{ℕ, zero, suc, ◌+◌, ◌-◌, ◌≤◌, ◌<◌}
use native.Mathlib.Omega.{arith}
use lib.Dec.{eqb, ltb}
use borrow.Author.Tests.{eq-eqb, lt-ltb, le-ltb}
use Rattle.lists.proofs.Tests.{by_test, false_true}
use Rattle.expression.specs.declared.node.Node.{Node}
use Rattle.expression.specs.Expr.{Expr, Exprs, sameℤ}
use Rattle.expression.specs.Nodes.{Kind, decode_signed, node_of, kind_of, guard, under, no_expr, no_exprs, expr_of, items_of}
use Rattle.expression.specs.Read.{node_at}
use Rattle.expression.specs.Same.{Tree, Trees, tree_of, trees_of, same_tree, same_trees, same_expr, same_exprs}
use Rattle.expression.proofs.Step.{under_no, by_kind, low, low_items, node_read, items_last, items_more}
use Rattle.expression.specs.declared.kind.Kind.TheVariants.{Constant}
use Rattle.expression.proofs.NumberedKinds.{none_word}
use Rattle.expression.proofs.Signed.{signed_same}
use Rattle.expression.proofs.Same.{same_expr_is}
use Rattle.expression_same.specs.Places.{placed, no_node, alone}

-- ---- places
before : (n : ℕ) → n ≡ suc n - 1
before n = omega arith

child : {A : Type 0} (d : A) (f : ℕ → A) (p a r : ℕ) → r ≡ cond (ltb a (p - 1)) (suc a) 0 → placed d f r ≡ under (p - 1) d f a
unfolding placed guard
child d f p a r h = ap (placed d f) h ∙ go (ltb a (p - 1))
  where
    go : (t : Bool) → placed d f (cond t (suc a) 0) ≡ guard t d f a
    go true = refl
    go false = refl

pub place_low : (p a b r : ℕ) → b ≡ a → b < p - 1 → r ≡ b + 1 → r ≡ cond (ltb a (p - 1)) (suc a) 0
place_low p a b r q h e =
    e ∙ (let z : b + 1 ≡ suc a = omega arith in z)
    ∙ sym (ap (λ (t : Bool). cond t (suc a) 0) (lt-ltb a (p - 1) (let z : a < p - 1 = omega arith in z)))

pub place_none : (p a b : ℕ) → b ≡ a → p - 1 ≤ b → 0 ≡ cond (ltb a (p - 1)) (suc a) 0
place_none p a b q h =
    sym (ap (λ (t : Bool). cond t (suc a) 0) (le-ltb a (p - 1) (let z : p - 1 ≤ a = omega arith in z)))

pub at_none : {A : Type 0} (d : A) (f : ℕ → A) (p : ℕ) → p ≡ 0 → d ≡ placed d f p
unfolding placed
at_none d f p h = sym (ap (placed d f) h)

pub at_node : {A : Type 0} (d : A) (f : ℕ → A) (p : ℕ) → (p ≡ 0 → ⊥) → f (p - 1) ≡ placed d f p
unfolding placed
at_node d f zero h = absurd (h refl)
at_node d f (suc n) h = ap f (sym (before n))

pub at_next : {A : Type 0} (d : A) (f : ℕ → A) (n : ℕ) → placed d f (n + 1) ≡ f n
unfolding placed
at_next d f n = ap (placed d f) (let z : n + 1 ≡ suc n = omega arith in z)

module _ (ws : List ℕ) (d : Node) where
  node_placed : (p : ℕ) → d ≡ placed no_node (node_at ws) p
      → placed no_expr (expr_of ws) p ≡ node_of (kind_of d.kind) (low ws (p - 1)) (low_items ws (p - 1)) d.first d.second d.value
  unfolding placed node_of kind_of
  node_placed zero read =
      sym (ap (λ (x : Node). node_of (kind_of x.kind) (low ws 0) (low_items ws 0) x.first x.second x.value) read)
  node_placed (suc n) read =
      node_read ws n d read
      ∙ ap (λ (m : ℕ). node_of (kind_of d.kind) (low ws m) (low_items ws m) d.first d.second d.value) (before n)

  last_placed : (p : ℕ) → d ≡ placed no_node (node_at ws) p → d.value ≡ 0
      → placed no_exprs (items_of ws) p ≡ Exprs.last (low ws (p - 1) d.first)
  unfolding placed
  last_placed zero read z = ap Exprs.last (sym (under_no 0 no_expr (expr_of ws) d.first (omega arith)))
  last_placed (suc n) read z = items_last ws n d read z ∙ ap (λ (m : ℕ). Exprs.last (low ws m d.first)) (before n)

  more_placed : (p : ℕ) → d ≡ placed no_node (node_at ws) p → (d.value ≡ 0 → ⊥)
      → placed no_exprs (items_of ws) p ≡ Exprs.more (low ws (p - 1) d.first) (low_items ws (p - 1) d.second)
  unfolding placed
  more_placed zero read z = absurd (z (ap (λ (x : Node). x.value) read))
  more_placed (suc n) read z =
      items_more ws n d read z ∙ ap (λ (m : ℕ). Exprs.more (low ws m d.first) (low_items ws m d.second)) (before n)

  -- a node that has what no node has stands at a place
  pub kind_placed : (p : ℕ) → d ≡ placed no_node (node_at ws) p → 0 < d.kind → 0 < p
  unfolding placed
  kind_placed zero read h = absurd (let z = ap (λ (x : Node). x.kind) read in omega arith)
  kind_placed (suc n) read h = omega arith

  pub value_placed : (p : ℕ) → d ≡ placed no_node (node_at ws) p → (d.value ≡ 0 → ⊥) → 0 < p
  unfolding placed
  value_placed zero read h = absurd (h (ap (λ (x : Node). x.value) read))
  value_placed (suc n) read h = omega arith

-- ---- tops
-- an expression with Constant 0 for all that is below its top
lone : Expr → Expr
lone (Expr.constant v) = Expr.constant v
lone Expr.identity = Expr.identity
lone (Expr.lagrange i) = Expr.lagrange i
lone (Expr.eq_xy i) = Expr.eq_xy i
lone (Expr.poly q r) = Expr.poly q r
lone (Expr.challenge i) = Expr.challenge i
lone (Expr.negated a) = Expr.negated no_expr
lone (Expr.sum a b) = Expr.sum no_expr no_expr
lone (Expr.product a b) = Expr.product no_expr no_expr
lone (Expr.scaled a v) = Expr.scaled no_expr v
lone (Expr.powers es b) = Expr.powers no_exprs no_expr

-- the kind's number and the number at the top
kind_in : Tree → ℕ
kind_in (Tree.node k v i ts) = k

number_in : Tree → ℕ
number_in (Tree.node k v i ts) = v

module _ (f : ℕ → Expr) (g : ℕ → Exprs) (a b v : ℕ) where
  lone_kind : (k : Kind) → lone (node_of k f g a b v) ≡ node_of k (λ c. no_expr) (λ c. no_exprs) a b v
  unfolding lone node_of
  lone_kind Kind.is_constant = refl
  lone_kind Kind.is_identity = refl
  lone_kind Kind.is_lagrange = refl
  lone_kind Kind.is_eq_xy = refl
  lone_kind Kind.is_polynomial = refl
  lone_kind Kind.is_challenge = refl
  lone_kind Kind.is_negated = refl
  lone_kind Kind.is_sum = refl
  lone_kind Kind.is_product = refl
  lone_kind Kind.is_scaled = refl
  lone_kind Kind.is_powers = refl
  lone_kind Kind.is_item = refl
  lone_kind Kind.is_none = refl

  -- a kind that has nothing below it
  lone_leaf : (k : ℕ) → (k ≡ 7 → ⊥) → (k ≡ 8 → ⊥) → (k ≡ 9 → ⊥) → (k ≡ 10 → ⊥) → (k ≡ 11 → ⊥)
      → node_of (kind_of k) f g a b v ≡ lone (node_of (kind_of k) f g a b v)
  unfolding lone
  lone_leaf k h7 h8 h9 h10 h11 =
      by_kind (λ (x : Expr). x ≡ lone x) f g a b v k (λ z. refl) (λ z. refl) (λ z. refl) (λ z. refl) (λ z. refl) (λ z. refl)
      (λ z. absurd (h7 z))
      (λ z. absurd (h8 z))
      (λ z. absurd (h9 z))
      (λ z. absurd (h10 z))
      (λ z. absurd (h11 z))
      refl

  kind_found : (k j : ℕ) → 1 < j → kind_in (tree_of (node_of (kind_of k) f g a b v)) ≡ j → k ≡ j
  unfolding kind_in tree_of
  kind_found k j l =
      by_kind (λ (x : Expr). kind_in (tree_of x) ≡ j → k ≡ j) f g a b v k (λ z e. z ∙ e) (λ z e. z ∙ e) (λ z e. z ∙ e) (λ z e. z ∙ e)
      (λ z e. z ∙ e)
      (λ z e. z ∙ e)
      (λ z e. z ∙ e)
      (λ z e. z ∙ e)
      (λ z e. z ∙ e)
      (λ z e. z ∙ e)
      (λ z e. z ∙ e)
      (λ e. absurd (omega arith))

  kind_is_is : (k : ℕ) → 1 ≤ k → k ≤ 11 → kind_in (tree_of (node_of (kind_of k) f g a b v)) ≡ k
  unfolding kind_in tree_of node_of kind_of
  kind_is_is zero l m = absurd (omega arith)
  kind_is_is (suc zero) l m = refl
  kind_is_is (suc (suc zero)) l m = refl
  kind_is_is (suc (suc (suc zero))) l m = refl
  kind_is_is (suc (suc (suc (suc zero)))) l m = refl
  kind_is_is (suc (suc (suc (suc (suc zero))))) l m = refl
  kind_is_is (suc (suc (suc (suc (suc (suc zero)))))) l m = refl
  kind_is_is (suc (suc (suc (suc (suc (suc (suc zero))))))) l m = refl
  kind_is_is (suc (suc (suc (suc (suc (suc (suc (suc zero)))))))) l m = refl
  kind_is_is (suc (suc (suc (suc (suc (suc (suc (suc (suc zero))))))))) l m = refl
  kind_is_is (suc (suc (suc (suc (suc (suc (suc (suc (suc (suc zero)))))))))) l m = refl
  kind_is_is (suc (suc (suc (suc (suc (suc (suc (suc (suc (suc (suc zero))))))))))) l m = refl
  kind_is_is (suc (suc (suc (suc (suc (suc (suc (suc (suc (suc (suc (suc k)))))))))))) l m = absurd (omega arith)

-- a node that is no expression's
none_of : Kind → Node → Type 0
none_of k d = no_expr ≡ node_of k (λ a. no_expr) (λ a. no_exprs) d.first d.second d.value

pub alone_item : (d : Node) → d.kind ≡ 12 → no_expr ≡ alone d
unfolding alone none_of node_of kind_of
alone_item d h = subst (λ (k : ℕ). none_of (kind_of k) d) (sym h) refl

pub alone_none : (d : Node) → kind_of d.kind ≡ Kind.is_none → no_expr ≡ alone d
unfolding alone none_of node_of
alone_none d h = subst (λ (k : Kind). none_of k d) (sym h) refl

-- two nodes, each as an expression's: x for d, y for e
module _ (d e x y : Node) (hx : (1 ≤ x.kind) × ((x.kind ≤ 11) × (alone x ≡ alone d))) (hy : (1 ≤ y.kind) × ((y.kind ≤ 11) × (alone y ≡ alone e))) where
  pub top_apart : (x.kind ≡ y.kind → ⊥) → false ≡ same_expr (alone d) (alone e)
  unfolding alone
  top_apart h =
      by_test (same_expr (alone d) (alone e))
      (λ t.
      absurd
      (h
      (sym (kind_is_is (λ a. no_expr) (λ a. no_exprs) x.first x.second x.value x.kind hx.0 hx.1.0)
      ∙ ap (λ (z : Expr). kind_in (tree_of z)) (hx.1.1 ∙ (same_expr_is (alone d) (alone e)).0 t ∙ sym hy.1.1)
      ∙ kind_is_is (λ a. no_expr) (λ a. no_exprs) y.first y.second y.value y.kind hy.0 hy.1.0)))
      sym

  module _ (s : x.kind ≡ y.kind) where
    of : ℕ → Bool
    of j =
        same_expr (node_of (kind_of j) (λ a. no_expr) (λ a. no_exprs) x.first x.second x.value)
        (node_of (kind_of j) (λ a. no_expr) (λ a. no_exprs) y.first y.second y.value)

    of_is : of x.kind ≡ same_expr (alone d) (alone e)
    unfolding of alone
    of_is =
        ap
        (λ (k : ℕ).
        same_expr (alone x) (node_of (kind_of k) (λ a. no_expr) (λ a. no_exprs) y.first y.second y.value))
        s
        ∙ ap₂ same_expr hx.1.1 hy.1.1

    at : (r : Bool) (j : ℕ) → x.kind ≡ j → r ≡ of j → r ≡ same_expr (alone d) (alone e)
    at r j k h = h ∙ ap of (sym k) ∙ of_is

    pub top_identity : x.kind ≡ 2 → true ≡ same_expr (alone d) (alone e)
    unfolding of same_expr same_tree tree_of node_of kind_of
    top_identity k = at true 2 k refl

    pub top_poly : (r : Bool) → r ≡ (eqb x.first y.first && eqb x.value y.value) → x.kind ≡ 5 → r ≡ same_expr (alone d) (alone e)
    unfolding of same_expr same_tree tree_of node_of kind_of
    top_poly r h k =
        at r 5 k
        (h
        ∙ ap (λ (t : Bool). eqb x.first y.first && t)
        (sym (and-true (sameℤ (decode_signed x.value) (decode_signed y.value)) ∙ signed_same x.value y.value)))

    pub top_challenge : x.kind ≡ 6 → eqb x.first y.first ≡ same_expr (alone d) (alone e)
    unfolding of same_expr same_tree tree_of node_of kind_of
    top_challenge k = at (eqb x.first y.first) 6 k (sym (and-true (eqb x.first y.first)))

    pub top_negated : x.kind ≡ 7 → true ≡ same_expr (alone d) (alone e)
    unfolding of same_expr same_tree tree_of node_of kind_of
    top_negated k = at true 7 k refl

    pub top_sum : x.kind ≡ 8 → true ≡ same_expr (alone d) (alone e)
    unfolding of same_expr same_tree tree_of node_of kind_of
    top_sum k = at true 8 k refl

    pub top_product : x.kind ≡ 9 → true ≡ same_expr (alone d) (alone e)
    unfolding of same_expr same_tree tree_of node_of kind_of
    top_product k = at true 9 k refl

    pub top_powers : x.kind ≡ 11 → true ≡ same_expr (alone d) (alone e)
    unfolding of same_expr same_tree tree_of node_of kind_of
    top_powers k = at true 11 k refl

    pub top_constant : x.kind ≡ 1 → eqb x.value y.value ≡ same_expr (alone d) (alone e)
    unfolding of same_expr same_tree tree_of node_of kind_of
    top_constant k = at (eqb x.value y.value) 1 k (sym (and-true (eqb x.value y.value)))

    pub top_lagrange : x.kind ≡ 3 → eqb x.value y.value ≡ same_expr (alone d) (alone e)
    unfolding of same_expr same_tree tree_of node_of kind_of
    top_lagrange k = at (eqb x.value y.value) 3 k (sym (and-true (sameℤ (decode_signed x.value) (decode_signed y.value)) ∙ signed_same x.value y.value))

    pub top_eq_xy : x.kind ≡ 4 → eqb x.value y.value ≡ same_expr (alone d) (alone e)
    unfolding of same_expr same_tree tree_of node_of kind_of
    top_eq_xy k = at (eqb x.value y.value) 4 k (sym (and-true (eqb x.value y.value)))

    pub top_scaled : x.kind ≡ 10 → eqb x.value y.value ≡ same_expr (alone d) (alone e)
    unfolding of same_expr same_tree tree_of node_of kind_of
    top_scaled k = at (eqb x.value y.value) 10 k (sym (and-true (eqb x.value y.value)))

    pub top_no_item : x.kind ≡ 12 → ⊥
    top_no_item k = let l = hx.1.0 in omega arith

    pub top_some : kind_of x.kind ≡ Kind.is_none → ⊥
    unfolding node_of tree_of kind_in
    top_some k =
        none_word k Constant
        (sym (kind_is_is (λ a. no_expr) (λ a. no_exprs) x.first x.second x.value x.kind hx.0 hx.1.0)
        ∙ ap (λ (j : Kind). kind_in (tree_of (node_of j (λ a. no_expr) (λ a. no_exprs) x.first x.second x.value))) k)

-- ---- two places: t tells whether the tops are the same
module _ (ws : List ℕ) (p q : ℕ) (d e : Node) (rd : d ≡ placed no_node (node_at ws) p) (re : e ≡ placed no_node (node_at ws) q) (t : Bool)
    (ht : t ≡ same_expr (alone d) (alone e)) where
  here : Expr
  here = node_of (kind_of d.kind) (low ws (p - 1)) (low_items ws (p - 1)) d.first d.second d.value

  there : Expr
  there = node_of (kind_of e.kind) (low ws (q - 1)) (low_items ws (q - 1)) e.first e.second e.value

  here_lone : lone here ≡ alone d
  unfolding here alone
  here_lone = lone_kind (low ws (p - 1)) (low_items ws (p - 1)) d.first d.second d.value (kind_of d.kind)

  there_lone : lone there ≡ alone e
  unfolding there alone
  there_lone = lone_kind (low ws (q - 1)) (low_items ws (q - 1)) e.first e.second e.value (kind_of e.kind)

  placed_same : same_expr here there ≡ same_expr (placed no_expr (expr_of ws) p) (placed no_expr (expr_of ws) q)
  unfolding here there
  placed_same = sym (ap₂ same_expr (node_placed ws d p rd) (node_placed ws e q re))

  pub same_apart : t ≡ false → false ≡ same_expr (placed no_expr (expr_of ws) p) (placed no_expr (expr_of ws) q)
  same_apart differ =
      by_test (same_expr here there)
      (λ h.
      false_true
      (sym differ ∙ ht
      ∙ (same_expr_is (alone d) (alone e)).1 (sym here_lone ∙ ap lone ((same_expr_is here there).0 h) ∙ there_lone)))
      sym
      ∙ placed_same

  module _ (agree : t ≡ true) where
    tops : alone d ≡ alone e
    tops = (same_expr_is (alone d) (alone e)).0 (sym ht ∙ agree)

    kinds : (j : ℕ) → 1 < j → j ≤ 11 → d.kind ≡ j → e.kind ≡ j
    unfolding alone
    kinds j l m k =
        kind_found (λ a. no_expr) (λ a. no_exprs) e.first e.second e.value e.kind j l
        (sym (ap (λ (x : Expr). kind_in (tree_of x)) tops)
        ∙ kind_is_is (λ a. no_expr) (λ a. no_exprs) d.first d.second d.value d.kind (omega arith) (omega arith)
        ∙ k)

    back : (j : ℕ) → 1 < j → j ≤ 11 → e.kind ≡ j → d.kind ≡ j
    unfolding alone
    back j l m k =
        kind_found (λ a. no_expr) (λ a. no_exprs) d.first d.second d.value d.kind j l
        (ap (λ (x : Expr). kind_in (tree_of x)) tops
        ∙ kind_is_is (λ a. no_expr) (λ a. no_exprs) e.first e.second e.value e.kind (omega arith) (omega arith)
        ∙ k)

    at_kind : (j : ℕ) → 1 < j → j ≤ 11 → d.kind ≡ j
        → same_expr (node_of (kind_of j) (low ws (p - 1)) (low_items ws (p - 1)) d.first d.second d.value)
        (node_of (kind_of j) (low ws (q - 1)) (low_items ws (q - 1)) e.first e.second e.value)
        ≡ same_expr (placed no_expr (expr_of ws) p) (placed no_expr (expr_of ws) q)
    unfolding here there
    at_kind j l m k =
        sym
        (ap₂
        (λ (i n : ℕ).
        same_expr (node_of (kind_of i) (low ws (p - 1)) (low_items ws (p - 1)) d.first d.second d.value)
        (node_of (kind_of n) (low ws (q - 1)) (low_items ws (q - 1)) e.first e.second e.value))
        k
        (kinds j l m k))
        ∙ placed_same

    scalars : d.kind ≡ 10 → d.value ≡ e.value
    unfolding alone number_in tree_of node_of kind_of
    scalars k =
        sym
        (ap
        (λ (j : ℕ).
        number_in (tree_of (node_of (kind_of j) (λ a. no_expr) (λ a. no_exprs) d.first d.second d.value)))
        k)
        ∙ ap (λ (x : Expr). number_in (tree_of x)) tops
        ∙ ap
        (λ (j : ℕ).
        number_in (tree_of (node_of (kind_of j) (λ a. no_expr) (λ a. no_exprs) e.first e.second e.value)))
        (kinds 10 (omega arith) (omega arith) k)

    pub same_leaf : (d.kind ≡ 7 → ⊥) → (d.kind ≡ 8 → ⊥) → (d.kind ≡ 9 → ⊥) → (d.kind ≡ 10 → ⊥) → (d.kind ≡ 11 → ⊥)
        → true ≡ same_expr (placed no_expr (expr_of ws) p) (placed no_expr (expr_of ws) q)
    unfolding here there
    same_leaf h7 h8 h9 h10 h11 =
        sym agree ∙ ht ∙ ap₂ same_expr (sym here_lone) (sym there_lone)
        ∙ sym
        (ap₂ same_expr
        (lone_leaf (low ws (p - 1)) (low_items ws (p - 1)) d.first d.second d.value d.kind h7 h8 h9 h10 h11)
        (lone_leaf (low ws (q - 1)) (low_items ws (q - 1)) e.first e.second e.value e.kind
        (λ z. h7 (back 7 (omega arith) (omega arith) z))
        (λ z. h8 (back 8 (omega arith) (omega arith) z))
        (λ z. h9 (back 9 (omega arith) (omega arith) z))
        (λ z. h10 (back 10 (omega arith) (omega arith) z))
        (λ z. h11 (back 11 (omega arith) (omega arith) z))))
        ∙ placed_same

    module _ (x : Bool) (hx : x ≡ same_expr (low ws (p - 1) d.first) (low ws (q - 1) e.first)) where
      pub same_negated : d.kind ≡ 7 → x ≡ same_expr (placed no_expr (expr_of ws) p) (placed no_expr (expr_of ws) q)
      unfolding same_expr same_tree tree_of node_of kind_of
      same_negated k = hx ∙ sym (and-true _) ∙ at_kind 7 (omega arith) (omega arith) k

      pub same_scaled : d.kind ≡ 10 → x ≡ same_expr (placed no_expr (expr_of ws) p) (placed no_expr (expr_of ws) q)
      unfolding same_expr same_tree tree_of node_of kind_of
      same_scaled k =
          hx ∙ sym (and-true _)
          ∙ sym
          (ap (λ (s : Bool). s && (same_expr (low ws (p - 1) d.first) (low ws (q - 1) e.first) && true))
          (eq-eqb d.value e.value (scalars k)))
          ∙ at_kind 10 (omega arith) (omega arith) k

      module _ (y r : Bool) (hr : r ≡ (x && y)) where
        pub same_sum : y ≡ same_expr (low ws (p - 1) d.second) (low ws (q - 1) e.second) → d.kind ≡ 8
            → r ≡ same_expr (placed no_expr (expr_of ws) p) (placed no_expr (expr_of ws) q)
        unfolding same_expr same_tree tree_of node_of kind_of
        same_sum hy k = hr ∙ ap₂ ◌&&◌ hx (hy ∙ sym (and-true _)) ∙ at_kind 8 (omega arith) (omega arith) k

        pub same_product : y ≡ same_expr (low ws (p - 1) d.second) (low ws (q - 1) e.second) → d.kind ≡ 9
            → r ≡ same_expr (placed no_expr (expr_of ws) p) (placed no_expr (expr_of ws) q)
        unfolding same_expr same_tree tree_of node_of kind_of
        same_product hy k = hr ∙ ap₂ ◌&&◌ hx (hy ∙ sym (and-true _)) ∙ at_kind 9 (omega arith) (omega arith) k

        pub same_powers : y ≡ same_exprs (low_items ws (p - 1) d.second) (low_items ws (q - 1) e.second) → d.kind ≡ 11
            → r ≡ same_expr (placed no_expr (expr_of ws) p) (placed no_expr (expr_of ws) q)
        unfolding same_expr same_exprs same_tree tree_of node_of kind_of
        same_powers hy k = hr ∙ ap₂ ◌&&◌ hx hy ∙ at_kind 11 (omega arith) (omega arith) k

-- ---- chains
-- a chain that ends, and one that goes on
trees_of_is : (es : Exprs) → (same_trees Trees.none (trees_of es) ≡ false) × (same_trees (trees_of es) Trees.none ≡ false)
unfolding same_tree tree_of
trees_of_is (Exprs.last e) = (refl, refl)
trees_of_is (Exprs.more e es) = (refl, refl)

module _ (ws : List ℕ) (p q : ℕ) (d e : Node) (rd : d ≡ placed no_node (node_at ws) p) (re : e ≡ placed no_node (node_at ws) q) where
  pub chain_last : (x : Bool) → x ≡ same_expr (low ws (p - 1) d.first) (low ws (q - 1) e.first) → d.value ≡ 0 → e.value ≡ 0
      → x ≡ same_exprs (placed no_exprs (items_of ws) p) (placed no_exprs (items_of ws) q)
  unfolding same_expr same_exprs same_tree tree_of
  chain_last x hx zd ze = hx ∙ sym (and-true _) ∙ sym (ap₂ same_exprs (last_placed ws d p rd zd) (last_placed ws e q re ze))

  pub chain_shorter : d.value ≡ 0 → (e.value ≡ 0 → ⊥) → false ≡ same_exprs (placed no_exprs (items_of ws) p) (placed no_exprs (items_of ws) q)
  unfolding same_exprs same_tree tree_of
  chain_shorter zd ze =
      sym (and-false (same_tree (tree_of (low ws (p - 1) d.first)) (tree_of (low ws (q - 1) e.first))))
      ∙ ap (λ (s : Bool). same_tree (tree_of (low ws (p - 1) d.first)) (tree_of (low ws (q - 1) e.first)) && s)
      (sym (trees_of_is (low_items ws (q - 1) e.second)).0)
      ∙ sym (ap₂ same_exprs (last_placed ws d p rd zd) (more_placed ws e q re ze))

  pub chain_longer : (d.value ≡ 0 → ⊥) → e.value ≡ 0 → false ≡ same_exprs (placed no_exprs (items_of ws) p) (placed no_exprs (items_of ws) q)
  unfolding same_exprs same_tree tree_of
  chain_longer zd ze =
      sym (and-false (same_tree (tree_of (low ws (p - 1) d.first)) (tree_of (low ws (q - 1) e.first))))
      ∙ ap (λ (s : Bool). same_tree (tree_of (low ws (p - 1) d.first)) (tree_of (low ws (q - 1) e.first)) && s)
      (sym (trees_of_is (low_items ws (p - 1) d.second)).1)
      ∙ sym (ap₂ same_exprs (more_placed ws d p rd zd) (last_placed ws e q re ze))

  pub chain_more : (x y r : Bool) → r ≡ (x && y) → x ≡ same_expr (low ws (p - 1) d.first) (low ws (q - 1) e.first)
      → y ≡ same_exprs (low_items ws (p - 1) d.second) (low_items ws (q - 1) e.second)
      → (d.value ≡ 0 → ⊥)
      → (e.value ≡ 0 → ⊥)
      → r ≡ same_exprs (placed no_exprs (items_of ws) p) (placed no_exprs (items_of ws) q)
  unfolding same_expr same_exprs same_tree tree_of
  chain_more x y r hr hx hy zd ze =
      hr ∙ ap₂ ◌&&◌ hx hy ∙ sym (ap₂ same_exprs (more_placed ws d p rd zd) (more_placed ws e q re ze))

-- ---- what two nodes name
pub lower_same : {A : Type 0} (none : A) (f : ℕ → A) (test : A → A → Bool) (p q a b x y : ℕ) (r : Bool) → x ≡ cond (ltb a (p - 1)) (suc a) 0
    → y ≡ cond (ltb b (q - 1)) (suc b) 0
    → r ≡ test (placed none f x) (placed none f y)
    → r ≡ test (under (p - 1) none f a) (under (q - 1) none f b)
lower_same none f test p q a b x y r hx hy h = h ∙ ap₂ test (child none f p a x hx) (child none f q b y hy)
