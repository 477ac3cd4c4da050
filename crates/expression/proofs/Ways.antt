-- What each way through the code computes is the fold, for any operations: d is the node as read, and the other hypotheses are what
-- the calls ensure. The walk (crate expression_walk) cites these.
use mathlib.Core.Path.{◌≡◌, sym, ap, ap₂, ◌∙◌}
use mathlib.Core.List.{List}
use Prim.Native.Nat.{ℕ, ◌≤◌, ◌<◌}
use Rattle.expression.specs.declared.node.Node.{Node}
use Rattle.expression.specs.Expr.{Expr, Ops, evaluate, powers_first, values, running, powers_rest}
use Rattle.expression.specs.Nodes.{Kind, decode_signed, node_of, kind_of, under, no_expr, no_exprs, expr_of, items_of}
use Rattle.expression.specs.Read.{node_at}
use Rattle.expression.proofs.Step.{under_yes, under_no, by_kind, low, low_items, node_read, of_kind, items_last, items_more}

module _ {T : Type 0} (o : Ops T) (ws : List ℕ) (n : ℕ) where
  pub met_lower : (a b : ℕ) (r : T) → b ≡ a → b < n → r ≡ evaluate o (expr_of ws b) → r ≡ evaluate o (under n no_expr (expr_of ws) a)
  met_lower a b r q h e =
      e ∙ sym (ap (evaluate o) (under_yes n no_expr (expr_of ws) b h)) ∙ ap (λ (x : ℕ). evaluate o (low ws n x)) q

  pub met_not_lower : (a b : ℕ) → b ≡ a → n ≤ b → o.constant_op 0 ≡ evaluate o (under n no_expr (expr_of ws) a)
  unfolding evaluate
  met_not_lower a b q h =
      sym (ap (evaluate o) (under_no n no_expr (expr_of ws) b h)) ∙ ap (λ (x : ℕ). evaluate o (low ws n x)) q

module _ {T : Type 0} (o : Ops T) (ws : List ℕ) (n : ℕ) (d : Node) (read : d ≡ node_at ws n) where
  pub met_constant : d.kind ≡ 1 → o.constant_op d.value ≡ evaluate o (expr_of ws n)
  unfolding node_of kind_of evaluate
  met_constant k = sym (ap (evaluate o) (of_kind ws n d read 1 k))

  pub met_identity : d.kind ≡ 2 → o.identity_op ≡ evaluate o (expr_of ws n)
  unfolding node_of kind_of evaluate
  met_identity k = sym (ap (evaluate o) (of_kind ws n d read 2 k))

  pub met_lagrange : d.kind ≡ 3 → o.lagrange_op (decode_signed d.value) ≡ evaluate o (expr_of ws n)
  unfolding node_of kind_of evaluate
  met_lagrange k = sym (ap (evaluate o) (of_kind ws n d read 3 k))

  pub met_eq_xy : d.kind ≡ 4 → o.eq_xy_op d.value ≡ evaluate o (expr_of ws n)
  unfolding node_of kind_of evaluate
  met_eq_xy k = sym (ap (evaluate o) (of_kind ws n d read 4 k))

  pub met_poly : d.kind ≡ 5 → o.poly_op d.first (decode_signed d.value) ≡ evaluate o (expr_of ws n)
  unfolding node_of kind_of evaluate
  met_poly k = sym (ap (evaluate o) (of_kind ws n d read 5 k))

  pub met_challenge : d.kind ≡ 6 → o.challenge_op d.first ≡ evaluate o (expr_of ws n)
  unfolding node_of kind_of evaluate
  met_challenge k = sym (ap (evaluate o) (of_kind ws n d read 6 k))

  module _ (x : T) (hx : x ≡ evaluate o (low ws n d.first)) where
    pub met_negated : d.kind ≡ 7 → o.negated_op x ≡ evaluate o (expr_of ws n)
    unfolding node_of kind_of evaluate
    met_negated k = ap o.negated_op hx ∙ sym (ap (evaluate o) (of_kind ws n d read 7 k))

    pub met_sum : (y : T) → y ≡ evaluate o (low ws n d.second) → d.kind ≡ 8 → o.sum_op x y ≡ evaluate o (expr_of ws n)
    unfolding node_of kind_of evaluate
    met_sum y hy k = ap₂ o.sum_op hx hy ∙ sym (ap (evaluate o) (of_kind ws n d read 8 k))

    pub met_product : (y : T) → y ≡ evaluate o (low ws n d.second) → d.kind ≡ 9
        → o.product_op x y ≡ evaluate o (expr_of ws n)
    unfolding node_of kind_of evaluate
    met_product y hy k = ap₂ o.product_op hx hy ∙ sym (ap (evaluate o) (of_kind ws n d read 9 k))

    pub met_scaled : d.kind ≡ 10 → o.scaled_op x d.value ≡ evaluate o (expr_of ws n)
    unfolding node_of kind_of evaluate
    met_scaled k = ap (λ (z : T). o.scaled_op z d.value) hx ∙ sym (ap (evaluate o) (of_kind ws n d read 10 k))

  powers_is : d.kind ≡ 11 → evaluate o (expr_of ws n) ≡ powers_first o (evaluate o (low ws n d.first)) (low_items ws n d.second)
  unfolding node_of kind_of evaluate
  powers_is k = ap (evaluate o) (of_kind ws n d read 11 k)

  -- the Item that the node names is b
  module _ (b : ℕ) (q : b ≡ d.second) where
    pub met_powers : (x : T) → x ≡ evaluate o (low ws n d.first) → (y : T) → d.kind ≡ 11 → b < n
        → y ≡ powers_first o x (items_of ws b)
        → y ≡ evaluate o (expr_of ws n)
    met_powers x hx y k lt hy =
        hy ∙ ap₂ (powers_first o) hx (sym (under_yes n no_exprs (items_of ws) b lt) ∙ ap (low_items ws n) q) ∙ sym (powers_is k)

    pub met_no_powers : d.kind ≡ 11 → n ≤ b → o.constant_op 0 ≡ evaluate o (expr_of ws n)
    unfolding evaluate
    met_no_powers k le =
        sym (ap (powers_first o (evaluate o (low ws n d.first))) (under_no n no_exprs (items_of ws) b le))
        ∙ ap (λ (c : ℕ). powers_first o (evaluate o (low ws n d.first)) (low_items ws n c)) q
        ∙ sym (powers_is k)

  module _ (base x : T) (hx : x ≡ evaluate o (low ws n d.first)) where
    pub met_last : d.value ≡ 0 → x ≡ powers_first o base (items_of ws n)
    unfolding powers_first
    met_last z = hx ∙ sym (ap (powers_first o base) (items_last ws n d read z))

    module _ (z : d.value ≡ 0 → ⊥) (b : ℕ) (q : b ≡ d.second) where
      more_is : powers_first o base (items_of ws n) ≡ powers_rest o base base x (low_items ws n d.second)
      unfolding powers_first
      more_is =
          ap (powers_first o base) (items_more ws n d read z)
          ∙ ap (λ (a : T). powers_rest o base base a (low_items ws n d.second)) (sym hx)

      pub met_more : (y : T) → b < n → y ≡ powers_rest o base base x (items_of ws b) → y ≡ powers_first o base (items_of ws n)
      met_more y lt hy =
          hy ∙ ap (powers_rest o base base x) (sym (under_yes n no_exprs (items_of ws) b lt) ∙ ap (low_items ws n) q) ∙ sym more_is

      pub met_no_more : n ≤ b → o.sum_op x (o.product_op base (o.constant_op 0)) ≡ powers_first o base (items_of ws n)
      unfolding values running evaluate
      met_no_more le =
          sym (ap (powers_rest o base base x) (under_no n no_exprs (items_of ws) b le))
          ∙ ap (λ (c : ℕ). powers_rest o base base x (low_items ws n c)) q
          ∙ sym more_is

  module _ (base power acc x u : T) (hx : x ≡ evaluate o (low ws n d.first)) (hu : u ≡ o.sum_op acc (o.product_op power x)) where
    so_far : o.sum_op acc (o.product_op power (evaluate o (low ws n d.first))) ≡ u
    so_far = ap (λ (a : T). o.sum_op acc (o.product_op power a)) (sym hx) ∙ sym hu

    pub met_rest_last : d.value ≡ 0 → u ≡ powers_rest o base power acc (items_of ws n)
    unfolding values running
    met_rest_last z = sym (ap (powers_rest o base power acc) (items_last ws n d read z) ∙ so_far)

    module _ (z : d.value ≡ 0 → ⊥) (b : ℕ) (q : b ≡ d.second) (p : T) (hp : p ≡ o.product_op power base) where
      rest_is : powers_rest o base power acc (items_of ws n) ≡ powers_rest o base p u (low_items ws n d.second)
      unfolding values running
      rest_is =
          ap (powers_rest o base power acc) (items_more ws n d read z)
          ∙ ap₂ (λ (a e : T). running o base a e (values o (low_items ws n d.second))) (sym hp) so_far

      pub met_rest_more : (y : T) → b < n → y ≡ powers_rest o base p u (items_of ws b) → y ≡ powers_rest o base power acc (items_of ws n)
      met_rest_more y lt hy =
          hy ∙ ap (powers_rest o base p u) (sym (under_yes n no_exprs (items_of ws) b lt) ∙ ap (low_items ws n) q) ∙ sym rest_is

      pub met_rest_none : n ≤ b → o.sum_op u (o.product_op p (o.constant_op 0)) ≡ powers_rest o base power acc (items_of ws n)
      unfolding values running evaluate
      met_rest_none le =
          sym (ap (powers_rest o base p u) (under_no n no_exprs (items_of ws) b le))
          ∙ ap (λ (c : ℕ). powers_rest o base p u (low_items ws n c)) q
          ∙ sym rest_is

  -- a node of another kind has no expression
  pub met_other : (r : T) → (d.kind ≡ 1 → ⊥)
      → (d.kind ≡ 2 → ⊥)
      → (d.kind ≡ 3 → ⊥)
      → (d.kind ≡ 4 → ⊥)
      → (d.kind ≡ 5 → ⊥)
      → (d.kind ≡ 6 → ⊥)
      → (d.kind ≡ 7 → ⊥)
      → (d.kind ≡ 8 → ⊥)
      → (d.kind ≡ 9 → ⊥)
      → (d.kind ≡ 10 → ⊥)
      → (d.kind ≡ 11 → ⊥)
      → r ≡ o.constant_op 0
      → r ≡ evaluate o (expr_of ws n)
  unfolding evaluate
  met_other r h1 h2 h3 h4 h5 h6 h7 h8 h9 h10 h11 h =
      by_kind (λ (e : Expr). r ≡ evaluate o e) (low ws n) (low_items ws n) d.first d.second d.value d.kind
      (λ z. absurd (h1 z))
      (λ z. absurd (h2 z))
      (λ z. absurd (h3 z))
      (λ z. absurd (h4 z))
      (λ z. absurd (h5 z))
      (λ z. absurd (h6 z))
      (λ z. absurd (h7 z))
      (λ z. absurd (h8 z))
      (λ z. absurd (h9 z))
      (λ z. absurd (h10 z))
      (λ z. absurd (h11 z))
      h
      ∙ sym (ap (evaluate o) (node_read ws n d read))

  -- an Item, and a node of no kind, are no expression
  pub met_item : d.kind ≡ 12 → o.constant_op 0 ≡ evaluate o (expr_of ws n)
  unfolding node_of kind_of evaluate
  met_item k = sym (ap (evaluate o) (of_kind ws n d read 12 k))

  pub met_none : kind_of d.kind ≡ Kind.is_none → o.constant_op 0 ≡ evaluate o (expr_of ws n)
  unfolding node_of evaluate
  met_none k =
      sym
      (ap (evaluate o)
      (node_read ws n d read ∙ ap (λ (x : Kind). node_of x (low ws n) (low_items ws n) d.first d.second d.value) k))
