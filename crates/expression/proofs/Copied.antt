-- The tree at a node, by the node's kind, as the copy takes it. Proved.
use mathlib.Core.Path.{◌≡◌, refl, sym, ap, ◌∙◌, subst}
use mathlib.Core.Bool.{Bool, true, false}
use mathlib.Core.List.{List}
use Prim.Native.Nat.{ℕ, ◌+◌, ◌-◌, ◌≤◌, ◌<◌}
use native.Mathlib.Omega.{arith}
use lib.Dec.{eqb}
use borrow.Author.Tests.{eqb-true, eqb-false}
use Rattle.expression.specs.declared.node.Node.{Node}
use Rattle.expression.specs.Expr.{Expr, Exprs}
use Rattle.expression.specs.Nodes.{Kind, kind_of, node_of, no_expr, no_exprs, expr_of, items_of}
use Rattle.expression.specs.Read.{node_at}
use Rattle.expression.specs.Flat.{body, sizes, extra, size}
use Rattle.expression.specs.Written.{Pushed, ExprWritten, WrittenOne, WrittenPair, WrittenBase, WrittenList}
use Rattle.expression.proofs.Signed.{kept_signed}
use Rattle.expression.proofs.Step.{under_yes, under_no, low, low_items, node_read, of_kind, items_last, items_more}
use Rattle.expression.proofs.Written.{
  written_as,
  written_constant,
  written_identity,
  written_lagrange,
  written_eq_xy,
  written_poly,
  written_challenge,
  one_negated,
  one_scaled,
  pair_sum,
  pair_product,
  list_last,
  list_more,
}

module _ (ws : List ℕ) (n : ℕ) (d : Node) (read : d ≡ node_at ws n) {from at next : ℕ} {b a : List ℕ} where
  -- ---- leaves
  pub constant_copied : d.kind ≡ 1 → Pushed from at 1 0 0 d.value b a next → ExprWritten from (expr_of ws n) at b a next
  unfolding kind_of node_of
  constant_copied k p = written_as (of_kind ws n d read 1 k) (written_constant p)

  pub identity_copied : d.kind ≡ 2 → Pushed from at 2 0 0 0 b a next → ExprWritten from (expr_of ws n) at b a next
  unfolding kind_of node_of
  identity_copied k p = written_as (of_kind ws n d read 2 k) (written_identity p)

  pub lagrange_copied : d.kind ≡ 3 → Pushed from at 3 0 0 d.value b a next → ExprWritten from (expr_of ws n) at b a next
  unfolding kind_of node_of
  lagrange_copied k p =
      written_as (of_kind ws n d read 3 k)
      (written_lagrange (subst (λ (v : ℕ). Pushed from at 3 0 0 v b a next) (sym (kept_signed d.value)) p))

  pub eq_xy_copied : d.kind ≡ 4 → Pushed from at 4 0 0 d.value b a next → ExprWritten from (expr_of ws n) at b a next
  unfolding kind_of node_of
  eq_xy_copied k p = written_as (of_kind ws n d read 4 k) (written_eq_xy p)

  pub poly_copied : d.kind ≡ 5 → Pushed from at 5 d.first 0 d.value b a next → ExprWritten from (expr_of ws n) at b a next
  unfolding kind_of node_of
  poly_copied k p =
      written_as (of_kind ws n d read 5 k)
      (written_poly (subst (λ (v : ℕ). Pushed from at 5 d.first 0 v b a next) (sym (kept_signed d.value)) p))

  pub challenge_copied : d.kind ≡ 6 → Pushed from at 6 d.first 0 0 b a next → ExprWritten from (expr_of ws n) at b a next
  unfolding kind_of node_of
  challenge_copied k p = written_as (of_kind ws n d read 6 k) (written_challenge p)

  -- an Item, and a node of no kind: Constant 0
  pub item_copied : d.kind ≡ 12 → Pushed from at 1 0 0 0 b a next → ExprWritten from (expr_of ws n) at b a next
  unfolding kind_of node_of
  item_copied k p = written_as (of_kind ws n d read 12 k) (written_constant p)

  pub no_kind_copied : kind_of d.kind ≡ Kind.is_none → Pushed from at 1 0 0 0 b a next → ExprWritten from (expr_of ws n) at b a next
  unfolding node_of
  no_kind_copied k p =
      written_as
      (node_read ws n d read ∙ ap (λ (x : Kind). node_of x (low ws n) (low_items ws n) d.first d.second d.value) k)
      (written_constant p)

  -- ---- parts
  pub negated_copied : d.kind ≡ 7 → WrittenOne from 7 (low ws n d.first) 0 at b a next → ExprWritten from (expr_of ws n) at b a next
  unfolding kind_of node_of
  negated_copied k w =
      written_as (of_kind ws n d read 7 k) (one_negated w)

  pub sum_copied : d.kind ≡ 8 → WrittenPair from 8 (low ws n d.first) (low ws n d.second) at b a next
      → ExprWritten from (expr_of ws n) at b a next
  unfolding kind_of node_of
  sum_copied k w =
      written_as (of_kind ws n d read 8 k) (pair_sum w)

  pub product_copied : d.kind ≡ 9 → WrittenPair from 9 (low ws n d.first) (low ws n d.second) at b a next
      → ExprWritten from (expr_of ws n) at b a next
  unfolding kind_of node_of
  product_copied k w =
      written_as (of_kind ws n d read 9 k)
      (pair_product w)

  pub scaled_copied : d.kind ≡ 10 → WrittenOne from 10 (low ws n d.first) d.value at b a next
      → ExprWritten from (expr_of ws n) at b a next
  unfolding kind_of node_of
  scaled_copied k w =
      written_as (of_kind ws n d read 10 k) (one_scaled w)

  pub powers_copied : d.kind ≡ 11 → ExprWritten from (Expr.powers (low_items ws n d.second) (low ws n d.first)) at b a next
      → ExprWritten from (expr_of ws n) at b a next
  unfolding kind_of node_of
  powers_copied k w =
      written_as (of_kind ws n d read 11 k) w

-- ---- the nodes that it takes
module _ (ws : List ℕ) (n : ℕ) (d : Node) (read : d ≡ node_at ws n) where
  pub negated_size : d.kind ≡ 7 → size (expr_of ws n) ≡ size (low ws n d.first) + 1
  unfolding kind_of node_of body
  negated_size k = let e = ap size (of_kind ws n d read 7 k) in omega arith

  pub sum_size : d.kind ≡ 8 → size (expr_of ws n) ≡ size (low ws n d.first) + size (low ws n d.second) + 1
  unfolding kind_of node_of body
  sum_size k = let e = ap size (of_kind ws n d read 8 k) in omega arith

  pub product_size : d.kind ≡ 9 → size (expr_of ws n) ≡ size (low ws n d.first) + size (low ws n d.second) + 1
  unfolding kind_of node_of body
  product_size k = let e = ap size (of_kind ws n d read 9 k) in omega arith

  pub scaled_size : d.kind ≡ 10 → size (expr_of ws n) ≡ size (low ws n d.first) + 1
  unfolding kind_of node_of body
  scaled_size k = let e = ap size (of_kind ws n d read 10 k) in omega arith

  pub powers_size : d.kind ≡ 11
      → size (expr_of ws n)
      ≡ sizes (low_items ws n d.second) + size (low ws n d.first) + extra (low_items ws n d.second) + 2
  unfolding kind_of node_of body
  powers_size k = let e = ap size (of_kind ws n d read 11 k) in omega arith

-- ---- a lower node, by its number c
module _ (ws : List ℕ) (n a c : ℕ) (same : c ≡ a) where
  low_is : c < n → low ws n a ≡ expr_of ws c
  low_is h = ap (low ws n) (sym same) ∙ under_yes n no_expr (expr_of ws) c h

  pub low_size : c < n → size (low ws n a) ≡ size (expr_of ws c)
  low_size h = ap size (low_is h)

  pub low_copied : {from at next : ℕ} {d d1 : List ℕ} → c < n → ExprWritten from (expr_of ws c) at d d1 next → ExprWritten from (low ws n a) at d d1 next
  low_copied {from} {at} {next} {d} {d1} h w = written_as (low_is h) w

  pub none_copied : {from at next : ℕ} {d d1 : List ℕ} → n ≤ c → Pushed from at 1 0 0 0 d d1 next → ExprWritten from (low ws n a) at d d1 next
  none_copied {from} {at} {next} {d} {d1} h p =
      written_as (ap (low ws n) (sym same) ∙ under_no n no_expr (expr_of ws) c h) (written_constant p)

-- ---- the list at an Item, by its number i
module _ (ws : List ℕ) (bound item i : ℕ) (same : i ≡ item) where
  no_items : bound ≤ i → low_items ws bound item ≡ no_exprs
  no_items h = ap (low_items ws bound) (sym same) ∙ under_no bound no_exprs (items_of ws) i h

  pub none_size : bound ≤ i → (sizes (low_items ws bound item) ≡ 1) × (extra (low_items ws bound item) ≡ 0)
  unfolding body
  none_size h = (ap sizes (no_items h), ap extra (no_items h))

  pub list_none_copied : {b : Expr} {from at x next base : ℕ} {d d1 d2 : List ℕ} → bound ≤ i → Pushed from at 1 0 0 0 d d1 x
      → WrittenBase from b x d1 d2 next base
      → WrittenList from (low_items ws bound item) b at d d2 next base
  list_none_copied {b} {from} {at} {x} {next} {base} {d} {d1} {d2} h p w =
      subst (λ (es : Exprs). WrittenList from es b at d d2 next base) (sym (no_items h)) (list_last (written_constant p) w)

  module _ (d : Node) (read : d ≡ node_at ws i) (h : i < bound) where
    here : low_items ws bound item ≡ items_of ws i
    here = ap (low_items ws bound) (sym same) ∙ under_yes bound no_exprs (items_of ws) i h

    pub last_size : d.value ≡ 0 → (sizes (low_items ws bound item) ≡ size (low ws i d.first)) × (extra (low_items ws bound item) ≡ 0)
    unfolding body
    last_size z =
        let e = here ∙ items_last ws i d read z in
        (ap sizes e, ap extra e)

    pub more_size : (d.value ≡ 0 → ⊥)
        → (sizes (low_items ws bound item) ≡ size (low ws i d.first) + sizes (low_items ws i d.second))
        × (extra (low_items ws bound item) ≡ extra (low_items ws i d.second) + 1)
    unfolding body
    more_size z =
        let e = here ∙ items_more ws i d read z in
        (ap sizes e, ap extra e ∙ omega arith)

    pub first_size : size (low ws i d.first) ≤ sizes (low_items ws bound item)
    first_size = by (eqb d.value 0) refl
      where
        by : (t : Bool) → eqb d.value 0 ≡ t → size (low ws i d.first) ≤ sizes (low_items ws bound item)
        by true z = omega (arith, (last_size (eqb-true d.value 0 z)).0)
        by false z = omega (arith, (more_size (eqb-false d.value 0 z)).0)

    pub list_last_copied : {b : Expr} {from at x next base : ℕ} {u v w : List ℕ} → d.value ≡ 0
        → ExprWritten from (low ws i d.first) at u v x
        → WrittenBase from b x v w next base
        → WrittenList from (low_items ws bound item) b at u w next base
    list_last_copied {b} {from} {at} {x} {next} {base} {u} {v} {w} z p q =
        subst (λ (es : Exprs). WrittenList from es b at u w next base) (sym (here ∙ items_last ws i d read z)) (list_last p q)

    pub list_more_copied : {b : Expr} {from at x y next base : ℕ} {s u v w : List ℕ} → (d.value ≡ 0 → ⊥)
        → ExprWritten from (low ws i d.first) at s u x
        → WrittenList from (low_items ws i d.second) b x u v y base
        → Pushed from y 12 (x - 1) (y - 1) 1 v w next
        → WrittenList from (low_items ws bound item) b at s w next base
    list_more_copied {b} {from} {at} {x} {y} {next} {base} {s} {u} {v} {w} z p q r =
        subst (λ (es : Exprs). WrittenList from es b at s w next base) (sym (here ∙ items_more ws i d read z)) (list_more p q r)
