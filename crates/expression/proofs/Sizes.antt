-- What each way through the code computes is the size, an Item counted as `item`, capped: d is the node as read, and the other hypotheses
-- are what the calls ensure.
use mathlib.Core.Path.{◌≡◌, refl, sym, ap, ◌∙◌}
use mathlib.Core.List.{List}
use Prim.Native.Nat.{ℕ, ◌+◌, ◌≤◌, ◌<◌, min}
use native.Mathlib.Omega.{arith}
use Rattle.expression.specs.declared.node.Node.{Node}
use Rattle.expression.specs.declared.kind.Kind as Numbered
use Rattle.expression.specs.declared.kind.Kind.TheVariants.{Constant, Identity, Lagrange, EqXy, Polynomial, Challenge, Negated, Sum, Product, Scaled, DistributePowers, Item}
use Rattle.expression.specs.Expr.{Expr, Exprs}
use Rattle.expression.specs.Kinds as kinds
use Rattle.expression.specs.Nodes.{Kind, node_of, kind_of, under, no_expr, no_exprs, expr_of, items_of}
use Rattle.expression.specs.Read.{node_at}
use Rattle.expression.specs.Flat.{largest_size}
use Rattle.expression.specs.Walks.{weight, weights}
use Rattle.expression.proofs.Step.{under_yes, under_no, low, low_items, node_read, of_kind, items_last, items_more, by_kind}

abbrev cap : ℕ → ℕ
cap x = min largest_size x

-- a node or an Item and what it names, one or two, with every sum capped; w is the whole
with_one : (i x u w r : ℕ) → x ≡ cap u → r ≡ cap (i + x) → w ≡ i + u → r ≡ cap w
with_one i x u w r hx h e = omega arith

with_two : (i x u y v t w r : ℕ) → x ≡ cap u → y ≡ cap v → t ≡ cap (x + y) → r ≡ cap (i + t) → w ≡ i + (u + v) → r ≡ cap w
with_two i x u y v t w r hx hy ht h e = omega arith

module _ (item : ℕ) (ws : List ℕ) (n a b : ℕ) where
  pub size_lower : (r : ℕ) → b ≡ a → b < n → r ≡ cap (weight item (expr_of ws b)) → r ≡ cap (weight item (under n no_expr (expr_of ws) a))
  size_lower r q h e =
      e ∙ sym (ap (λ (x : Expr). cap (weight item x)) (under_yes n no_expr (expr_of ws) b h))
      ∙ ap (λ (x : ℕ). cap (weight item (low ws n x))) q

  pub size_not_lower : b ≡ a → n ≤ b → 1 ≡ cap (weight item (under n no_expr (expr_of ws) a))
  unfolding weight
  size_not_lower q h =
      sym (ap (λ (x : Expr). cap (weight item x)) (under_no n no_expr (expr_of ws) b h)) ∙ ap (λ (x : ℕ). cap (weight item (low ws n x))) q

  pub listed_lower : (r : ℕ) → b ≡ a → b < n → r ≡ cap (weights item (items_of ws b))
      → r ≡ cap (weights item (under n no_exprs (items_of ws) a))
  listed_lower r q h e =
      e ∙ sym (ap (λ (x : Exprs). cap (weights item x)) (under_yes n no_exprs (items_of ws) b h))
      ∙ ap (λ (x : ℕ). cap (weights item (low_items ws n x))) q

  pub listed_not_lower : (r : ℕ) → b ≡ a → n ≤ b → r ≡ cap (item + 1) → r ≡ cap (weights item (under n no_exprs (items_of ws) a))
  unfolding weight
  listed_not_lower r q h e =
      e ∙ sym (ap (λ (x : Exprs). cap (weights item x)) (under_no n no_exprs (items_of ws) b h))
      ∙ ap (λ (x : ℕ). cap (weights item (low_items ws n x))) q

module _ (item : ℕ) (ws : List ℕ) (n : ℕ) (d : Node) (read : d ≡ node_at ws n) where
  of_read : (j : Kind) → kind_of d.kind ≡ j
      → 1 ≡ cap (weight item (node_of j (low ws n) (low_items ws n) d.first d.second d.value))
      → 1 ≡ cap (weight item (expr_of ws n))
  of_read j k h =
      h
      ∙ sym
      (ap (λ (e : Expr). cap (weight item e))
      (node_read ws n d read ∙ ap (λ (x : Kind). node_of x (low ws n) (low_items ws n) d.first d.second d.value) k))

  -- a node that names none
  pub size_leaf : {kind : Numbered.Kind} → (kinds.number kind ≡ d.kind) × (kind_of d.kind ≡ kinds.read_as kind) → (kind ≡ Negated → ⊥)
      → (kind ≡ Sum → ⊥)
      → (kind ≡ Product → ⊥)
      → (kind ≡ Scaled → ⊥)
      → (kind ≡ DistributePowers → ⊥)
      → 1 ≡ cap (weight item (expr_of ws n))
  unfolding node_of weight
  size_leaf {kind = Constant} e h7 h8 h9 h10 h11 = of_read Kind.is_constant e.1 refl
  size_leaf {kind = Identity} e h7 h8 h9 h10 h11 = of_read Kind.is_identity e.1 refl
  size_leaf {kind = Lagrange} e h7 h8 h9 h10 h11 = of_read Kind.is_lagrange e.1 refl
  size_leaf {kind = EqXy} e h7 h8 h9 h10 h11 = of_read Kind.is_eq_xy e.1 refl
  size_leaf {kind = Polynomial} e h7 h8 h9 h10 h11 = of_read Kind.is_polynomial e.1 refl
  size_leaf {kind = Challenge} e h7 h8 h9 h10 h11 = of_read Kind.is_challenge e.1 refl
  size_leaf {kind = Negated} e h7 h8 h9 h10 h11 = absurd (h7 refl)
  size_leaf {kind = Sum} e h7 h8 h9 h10 h11 = absurd (h8 refl)
  size_leaf {kind = Product} e h7 h8 h9 h10 h11 = absurd (h9 refl)
  size_leaf {kind = Scaled} e h7 h8 h9 h10 h11 = absurd (h10 refl)
  size_leaf {kind = DistributePowers} e h7 h8 h9 h10 h11 = absurd (h11 refl)
  size_leaf {kind = Item} e h7 h8 h9 h10 h11 = of_read Kind.is_item e.1 refl

  -- a node of another kind than those that name nodes, by its word
  pub size_other : (d.kind ≡ 7 → ⊥) → (d.kind ≡ 8 → ⊥) → (d.kind ≡ 9 → ⊥) → (d.kind ≡ 10 → ⊥) → (d.kind ≡ 11 → ⊥)
      → 1 ≡ cap (weight item (expr_of ws n))
  unfolding weight
  size_other h7 h8 h9 h10 h11 =
      by_kind (λ (e : Expr). 1 ≡ cap (weight item e)) (low ws n) (low_items ws n) d.first d.second d.value d.kind (λ z. refl)
      (λ z. refl)
      (λ z. refl)
      (λ z. refl)
      (λ z. refl)
      (λ z. refl)
      (λ z. absurd (h7 z))
      (λ z. absurd (h8 z))
      (λ z. absurd (h9 z))
      (λ z. absurd (h10 z))
      (λ z. absurd (h11 z))
      refl
      ∙ sym (ap (λ (e : Expr). cap (weight item e)) (node_read ws n d read))

  pub size_none : kind_of d.kind ≡ Kind.is_none → 1 ≡ cap (weight item (expr_of ws n))
  unfolding node_of weight
  size_none k = of_read Kind.is_none k refl

  module _ (x : ℕ) (hx : x ≡ cap (weight item (low ws n d.first))) where
    module _ (r : ℕ) (hr : r ≡ cap (1 + x)) where
      pub size_negated : d.kind ≡ 7 → r ≡ cap (weight item (expr_of ws n))
      unfolding node_of kind_of weight
      size_negated k =
          with_one 1 x (weight item (low ws n d.first)) _ r hx hr (omega arith)
          ∙ sym (ap (λ (e : Expr). cap (weight item e)) (of_kind ws n d read 7 k))

      pub size_scaled : d.kind ≡ 10 → r ≡ cap (weight item (expr_of ws n))
      unfolding node_of kind_of weight
      size_scaled k =
          with_one 1 x (weight item (low ws n d.first)) _ r hx hr (omega arith)
          ∙ sym (ap (λ (e : Expr). cap (weight item e)) (of_kind ws n d read 10 k))

    module _ (r : ℕ) (hr : r ≡ cap (item + x)) where
      pub listed_last : d.value ≡ 0 → r ≡ cap (weights item (items_of ws n))
      unfolding weight
      listed_last z =
          with_one item x (weight item (low ws n d.first)) _ r hx hr refl
          ∙ sym (ap (λ (es : Exprs). cap (weights item es)) (items_last ws n d read z))

    module _ (y : ℕ) (hy : y ≡ cap (weight item (low ws n d.second))) (t : ℕ) (ht : t ≡ cap (x + y)) (r : ℕ) (hr : r ≡ cap (1 + t)) where
      pub size_sum : d.kind ≡ 8 → r ≡ cap (weight item (expr_of ws n))
      unfolding node_of kind_of weight
      size_sum k =
          with_two 1 x (weight item (low ws n d.first)) y (weight item (low ws n d.second)) t _ r hx hy ht hr (omega arith)
          ∙ sym (ap (λ (e : Expr). cap (weight item e)) (of_kind ws n d read 8 k))

      pub size_product : d.kind ≡ 9 → r ≡ cap (weight item (expr_of ws n))
      unfolding node_of kind_of weight
      size_product k =
          with_two 1 x (weight item (low ws n d.first)) y (weight item (low ws n d.second)) t _ r hx hy ht hr (omega arith)
          ∙ sym (ap (λ (e : Expr). cap (weight item e)) (of_kind ws n d read 9 k))

    module _ (y : ℕ) (hy : y ≡ cap (weights item (low_items ws n d.second))) (t : ℕ) where
      pub size_powers : t ≡ cap (y + x) → (r : ℕ) → r ≡ cap (1 + t) → d.kind ≡ 11 → r ≡ cap (weight item (expr_of ws n))
      unfolding node_of kind_of weight
      size_powers ht r hr k =
          with_two 1 y (weights item (low_items ws n d.second)) x (weight item (low ws n d.first)) t _ r hy hx ht hr (omega arith)
          ∙ sym (ap (λ (e : Expr). cap (weight item e)) (of_kind ws n d read 11 k))

      pub listed_more : t ≡ cap (x + y) → (r : ℕ) → r ≡ cap (item + t) → (d.value ≡ 0 → ⊥) → r ≡ cap (weights item (items_of ws n))
      unfolding weight
      listed_more ht r hr z =
          with_two item x (weight item (low ws n d.first)) y (weights item (low_items ws n d.second)) t _ r hx hy ht hr refl
          ∙ sym (ap (λ (es : Exprs). cap (weights item es)) (items_more ws n d read z))
