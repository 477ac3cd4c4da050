-- Expressions that name only what they may: lists, products and those read from node words.
use mathlib.Core.Bool.{Bool, true, false}
use mathlib.Core.List.{List, [], ◌∷◌}
use Prim.Native.Nat.{ℕ, zero, suc, ◌<◌}
use native.Mathlib.Omega.{arith}
use lib.Dec.{T, ltb, eqb, ltb→lt}
use Rattle.lists.specs.Lists.{All}
use Rattle.expression.specs.Expr.{Expr, Exprs, exprs_of, distribute_powers, product_from, product_of}
use Rattle.expression.specs.Within.{Scope, Within, WithinAll}
use Rattle.expression.specs.Nodes.{
  word_of,
  decode_signed,
  Kind,
  kind_of,
  no_expr,
  no_exprs,
  node_of,
  item_of,
  guard,
  expr_at,
  items_at,
  expr_of,
}

-- anything
abbrev pub anything : Scope
anything = record { lagrange = λ i. Unit {0}; eq_xy = λ i. Unit {0}; poly = λ q r. Unit {0}; challenge = λ i. Unit {0} }

module _ (S : Scope) where
  -- ---- lists of expressions
  exprs_within : (e : Expr) (es : List Expr) → Within S e → All (Within S) es → WithinAll S (exprs_of e es)
  unfolding exprs_of
  exprs_within e [] a b = a
  exprs_within e (f ∷ es) a b = (a, exprs_within f es b.0 b.1)

  pub powers_within : (es : List Expr) (base : Expr) → All (Within S) es → Within S base → Within S (distribute_powers es base)
  unfolding distribute_powers
  powers_within [] base a b = tt
  powers_within (e ∷ []) base a b = a.0
  powers_within (e ∷ (f ∷ es)) base a b = (exprs_within e (f ∷ es) a.0 a.1, b)

  pub from_within : (e : Expr) (es : List Expr) → Within S e → All (Within S) es → Within S (product_from e es)
  unfolding product_from
  from_within e [] a b = a
  from_within e (f ∷ es) a b = from_within (Expr.product e f) es (a, b.0) b.1

  pub product_within : (es : List Expr) → All (Within S) es → Within S (product_of es)
  unfolding product_of
  product_within [] a = tt
  product_within (e ∷ es) a = from_within e es a.0 a.1

  -- ---- expressions read from node words
  -- what a node's own words name
  abbrev pub NodeWithin : Kind → ℕ → ℕ → ℕ → Type 0
  NodeWithin Kind.is_constant a b v = Unit {0}
  NodeWithin Kind.is_identity a b v = Unit {0}
  NodeWithin Kind.is_lagrange a b v = S.lagrange (decode_signed v)
  NodeWithin Kind.is_eq_xy a b v = S.eq_xy v
  NodeWithin Kind.is_polynomial a b v = S.poly a (decode_signed v)
  NodeWithin Kind.is_challenge a b v = S.challenge a
  NodeWithin Kind.is_negated a b v = Unit {0}
  NodeWithin Kind.is_sum a b v = Unit {0}
  NodeWithin Kind.is_product a b v = Unit {0}
  NodeWithin Kind.is_scaled a b v = Unit {0}
  NodeWithin Kind.is_powers a b v = Unit {0}
  NodeWithin Kind.is_item a b v = Unit {0}
  NodeWithin Kind.is_none a b v = Unit {0}

  node_within : (k : Kind) (e : ℕ → Expr) (i : ℕ → Exprs) (a b v : ℕ) → NodeWithin k a b v → ((c : ℕ) → Within S (e c))
      → ((c : ℕ) → WithinAll S (i c))
      → Within S (node_of k e i a b v)
  unfolding node_of
  node_within Kind.is_constant e i a b v w p q = tt
  node_within Kind.is_identity e i a b v w p q = tt
  node_within Kind.is_lagrange e i a b v w p q = w
  node_within Kind.is_eq_xy e i a b v w p q = w
  node_within Kind.is_polynomial e i a b v w p q = w
  node_within Kind.is_challenge e i a b v w p q = w
  node_within Kind.is_negated e i a b v w p q = p a
  node_within Kind.is_sum e i a b v w p q = (p a, p b)
  node_within Kind.is_product e i a b v w p q = (p a, p b)
  node_within Kind.is_scaled e i a b v w p q = p a
  node_within Kind.is_powers e i a b v w p q = (q b, p a)
  node_within Kind.is_item e i a b v w p q = tt
  node_within Kind.is_none e i a b v w p q = tt

  item_within : (t : Bool) (e : ℕ → Expr) (i : ℕ → Exprs) (a b : ℕ) → ((c : ℕ) → Within S (e c)) → ((c : ℕ) → WithinAll S (i c))
      → WithinAll S (item_of t e i a b)
  unfolding item_of
  item_within true e i a b p q = p a
  item_within false e i a b p q = (p a, q b)

  guard_within : {A : Type 0} (Q : A → Type 0) (n m : ℕ) (d : A) (f : ℕ → A) (c : ℕ) → m < n → Q d → ((u : ℕ) → u < n → Q (f u))
      → Q (guard (ltb c m) d f c)
  unfolding guard
  guard_within Q n m d f c l p q = go (ltb c m) (λ t. ltb→lt c m t)
    where
      go : (t : Bool) → (T t → c < m) → Q (guard t d f c)
      go true h = q c (let w = h tt in omega arith)
      go false h = p

  -- the first n nodes name what they may
  module _ (ws : List ℕ) (n : ℕ)
      (ok : (i : ℕ) → i < n → NodeWithin (kind_of (word_of ws i 0)) (word_of ws i 1) (word_of ws i 2) (word_of ws i 3)) where
    mutual
      unfolding expr_at

      at_within : (fuel i : ℕ) → i < n → Within S (expr_at fuel ws i)
      at_within zero i l = tt
      at_within (suc fuel) i l =
          node_within (kind_of (word_of ws i 0)) _ _ (word_of ws i 1) (word_of ws i 2) (word_of ws i 3) (ok i l)
          (λ c. guard_within (Within S) n i no_expr (λ u. expr_at fuel ws u) c l tt (λ u m. at_within fuel u m))
          (λ c. guard_within (WithinAll S) n i no_exprs (λ u. items_at fuel ws u) c l tt (λ u m. items_within fuel u m))

      items_within : (fuel i : ℕ) → i < n → WithinAll S (items_at fuel ws i)
      items_within zero i l = tt
      items_within (suc fuel) i l =
          item_within (eqb (word_of ws i 3) 0) _ _ (word_of ws i 1) (word_of ws i 2)
          (λ c. guard_within (Within S) n i no_expr (λ u. expr_at fuel ws u) c l tt (λ u m. at_within fuel u m))
          (λ c. guard_within (WithinAll S) n i no_exprs (λ u. items_at fuel ws u) c l tt (λ u m. items_within fuel u m))

    pub read_within : (i : ℕ) → i < n → Within S (expr_of ws i)
    unfolding expr_of
    read_within i l = at_within (suc i) i l

mutual
  pub within_anything : (e : Expr) → Within anything e
  within_anything (Expr.constant v) = tt
  within_anything Expr.identity = tt
  within_anything (Expr.lagrange i) = tt
  within_anything (Expr.eq_xy i) = tt
  within_anything (Expr.poly q r) = tt
  within_anything (Expr.challenge i) = tt
  within_anything (Expr.negated a) = within_anything a
  within_anything (Expr.sum a b) = (within_anything a, within_anything b)
  within_anything (Expr.product a b) = (within_anything a, within_anything b)
  within_anything (Expr.scaled a v) = within_anything a
  within_anything (Expr.powers es b) = (all_anything es, within_anything b)

  all_anything : (es : Exprs) → WithinAll anything es
  all_anything (Exprs.last e) = within_anything e
  all_anything (Exprs.more e es) = (within_anything e, all_anything es)
