-- A node as it is read, one node at a time: d holds its words.
use mathlib.Core.Path.{◌≡◌, refl, sym, ap, ◌∙◌}
use mathlib.Core.Bool.{Bool}
use mathlib.Core.List.{List}
use Prim.Native.Nat.{ℕ, zero, suc, ◌≤◌, ◌<◌}
use lib.Dec.{eqb}
use borrow.Author.Tests.{lt-ltb, le-ltb, eq-eqb, ne_eqb}
use Rattle.expression.specs.declared.node.Node.{Node}
use Rattle.expression.specs.Expr.{Expr, Exprs}
use Rattle.expression.specs.Read.{node_at}
use Rattle.expression.specs.Nodes.{decode_signed, kind_of, node_of, item_of, guard, under, no_expr, no_exprs, expr_of, items_of}
use Rattle.expression.proofs.Fuel.{expr_step, items_step}

pub under_yes : {A : Type 0} (n : ℕ) (d : A) (f : ℕ → A) (a : ℕ) → a < n → under n d f a ≡ f a
unfolding guard
under_yes n d f a h = ap (λ (t : Bool). guard t d f a) (lt-ltb a n h)

pub under_no : {A : Type 0} (n : ℕ) (d : A) (f : ℕ → A) (a : ℕ) → n ≤ a → under n d f a ≡ d
unfolding guard
under_no n d f a h = ap (λ (t : Bool). guard t d f a) (le-ltb a n h)

-- a node, by its kind's number
module _ (P : Expr → Type 0) (e : ℕ → Expr) (i : ℕ → Exprs) (a b v : ℕ) where
  pub by_kind : (k : ℕ)
      → (k ≡ 1 → P (Expr.constant v))
      → (k ≡ 2 → P (Expr.identity))
      → (k ≡ 3 → P (Expr.lagrange (decode_signed v)))
      → (k ≡ 4 → P (Expr.eq_xy v))
      → (k ≡ 5 → P (Expr.poly a (decode_signed v)))
      → (k ≡ 6 → P (Expr.challenge a))
      → (k ≡ 7 → P (Expr.negated (e a)))
      → (k ≡ 8 → P (Expr.sum (e a) (e b)))
      → (k ≡ 9 → P (Expr.product (e a) (e b)))
      → (k ≡ 10 → P (Expr.scaled (e a) v))
      → (k ≡ 11 → P (Expr.powers (i b) (e a)))
      → P no_expr
      → P (node_of (kind_of k) e i a b v)
  unfolding node_of kind_of
  by_kind zero h1 h2 h3 h4 h5 h6 h7 h8 h9 h10 h11 h = h
  by_kind (suc zero) h1 h2 h3 h4 h5 h6 h7 h8 h9 h10 h11 h = h1 refl
  by_kind (suc (suc zero)) h1 h2 h3 h4 h5 h6 h7 h8 h9 h10 h11 h = h2 refl
  by_kind (suc (suc (suc zero))) h1 h2 h3 h4 h5 h6 h7 h8 h9 h10 h11 h = h3 refl
  by_kind (suc (suc (suc (suc zero)))) h1 h2 h3 h4 h5 h6 h7 h8 h9 h10 h11 h = h4 refl
  by_kind (suc (suc (suc (suc (suc zero))))) h1 h2 h3 h4 h5 h6 h7 h8 h9 h10 h11 h = h5 refl
  by_kind (suc (suc (suc (suc (suc (suc zero)))))) h1 h2 h3 h4 h5 h6 h7 h8 h9 h10 h11 h = h6 refl
  by_kind (suc (suc (suc (suc (suc (suc (suc zero))))))) h1 h2 h3 h4 h5 h6 h7 h8 h9 h10 h11 h = h7 refl
  by_kind (suc (suc (suc (suc (suc (suc (suc (suc zero)))))))) h1 h2 h3 h4 h5 h6 h7 h8 h9 h10 h11 h = h8 refl
  by_kind (suc (suc (suc (suc (suc (suc (suc (suc (suc zero))))))))) h1 h2 h3 h4 h5 h6 h7 h8 h9 h10 h11 h = h9 refl
  by_kind (suc (suc (suc (suc (suc (suc (suc (suc (suc (suc zero)))))))))) h1 h2 h3 h4 h5 h6 h7 h8 h9 h10 h11 h = h10 refl
  by_kind (suc (suc (suc (suc (suc (suc (suc (suc (suc (suc (suc zero))))))))))) h1 h2 h3 h4 h5 h6 h7 h8 h9 h10 h11 h = h11 refl
  by_kind (suc (suc (suc (suc (suc (suc (suc (suc (suc (suc (suc (suc zero)))))))))))) h1 h2 h3 h4 h5 h6 h7 h8 h9 h10 h11 h = h
  by_kind (suc (suc (suc (suc (suc (suc (suc (suc (suc (suc (suc (suc (suc k))))))))))))) h1 h2 h3 h4 h5 h6 h7 h8 h9 h10 h11 h = h

-- the lower nodes, as node n reads them
abbrev pub low : List ℕ → ℕ → ℕ → Expr
low ws n = under n no_expr (expr_of ws)

abbrev pub low_items : List ℕ → ℕ → ℕ → Exprs
low_items ws n = under n no_exprs (items_of ws)

module _ (ws : List ℕ) (n : ℕ) (d : Node) (read : d ≡ node_at ws n) where
  pub node_read : expr_of ws n ≡ node_of (kind_of d.kind) (low ws n) (low_items ws n) d.first d.second d.value
  node_read =
      expr_step ws n
      ∙ sym (ap (λ (x : Node). node_of (kind_of x.kind) (low ws n) (low_items ws n) x.first x.second x.value) read)

  pub of_kind : (j : ℕ) → d.kind ≡ j → expr_of ws n ≡ node_of (kind_of j) (low ws n) (low_items ws n) d.first d.second d.value
  of_kind j h =
      node_read ∙ ap (λ (x : ℕ). node_of (kind_of x) (low ws n) (low_items ws n) d.first d.second d.value) h

  items_read : items_of ws n ≡ item_of (eqb d.value 0) (low ws n) (low_items ws n) d.first d.second
  items_read =
      items_step ws n ∙ sym (ap (λ (x : Node). item_of (eqb x.value 0) (low ws n) (low_items ws n) x.first x.second) read)

  pub items_last : d.value ≡ 0 → items_of ws n ≡ Exprs.last (low ws n d.first)
  unfolding item_of
  items_last h =
      items_read ∙ ap (λ (t : Bool). item_of t (low ws n) (low_items ws n) d.first d.second) (eq-eqb d.value 0 h)

  pub items_more : (d.value ≡ 0 → ⊥) → items_of ws n ≡ Exprs.more (low ws n d.first) (low_items ws n d.second)
  unfolding item_of
  items_more h =
      items_read ∙ ap (λ (t : Bool). item_of t (low ws n) (low_items ws n) d.first d.second) (ne_eqb d.value 0 h)
