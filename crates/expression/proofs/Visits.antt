-- The counted evaluation has the value of `evaluate`; it visits every node that is written but the Items.
use mathlib.Core.Path.{◌≡◌, refl, sym, ap, ap₂, ◌∙◌}
use mathlib.Core.List.{List, [], ◌∷◌, ◌++◌, append_assoc, append-nil}
use Prim.Native.Nat.{ℕ, suc, ◌+◌, ◌≤◌}
use native.Mathlib.Nat.{zero-add}
use native.Mathlib.Omega.{arith}
use Rattle.expression.specs.Expr.{Expr, Exprs, Ops, running, evaluate, powers_first, values}
use Rattle.expression.specs.Flat.{body, sizes, size, root, words, flat, flats, chain}
use Rattle.expression.specs.Visits.{visited, visited_first, visited_all, unit_ops, visits, not_items}
use Rattle.expression.specs.Walks.{listed, weight, weights}

module _ {T : Type 0} (o : Ops T) where
  mutual
    unfolding visited evaluate

    pub visited_value : (e : Expr) → (visited o e).value ≡ evaluate o e
    visited_value (Expr.constant v) = refl
    visited_value Expr.identity = refl
    visited_value (Expr.lagrange i) = refl
    visited_value (Expr.eq_xy i) = refl
    visited_value (Expr.poly q r) = refl
    visited_value (Expr.challenge i) = refl
    visited_value (Expr.negated a) = ap o.negated_op (visited_value a)
    visited_value (Expr.sum a b) = ap₂ o.sum_op (visited_value a) (visited_value b)
    visited_value (Expr.product a b) = ap₂ o.product_op (visited_value a) (visited_value b)
    visited_value (Expr.scaled a s) = ap (λ (x : T). o.scaled_op x s) (visited_value a)
    visited_value (Expr.powers es b) = ap (λ (x : T). visited_first o x es) (visited_value b) ∙ first_is (evaluate o b) es

    first_is : (base : T) (es : Exprs) → visited_first o base es ≡ powers_first o base es
    first_is base (Exprs.last e) = visited_value e
    first_is base (Exprs.more e es) = ap₂ (running o base base) (visited_value e) (all_is es)

    all_is : (es : Exprs) → (visited_all o es).value ≡ values o es
    all_is (Exprs.last e) = ap (λ (x : T). x ∷ []) (visited_value e)
    all_is (Exprs.more e es) = ap₂ (λ (x : T) (xs : List T). x ∷ xs) (visited_value e) (all_is es)

  mutual
    unfolding visited weight

    visits_weigh : (e : Expr) → (visited o e).visits ≡ weight 0 e
    visits_weigh (Expr.constant v) = refl
    visits_weigh Expr.identity = refl
    visits_weigh (Expr.lagrange i) = refl
    visits_weigh (Expr.eq_xy i) = refl
    visits_weigh (Expr.poly q r) = refl
    visits_weigh (Expr.challenge i) = refl
    visits_weigh (Expr.negated a) = ap suc (visits_weigh a)
    visits_weigh (Expr.sum a b) = ap₂ (λ (x y : ℕ). suc (x + y)) (visits_weigh a) (visits_weigh b)
    visits_weigh (Expr.product a b) = ap₂ (λ (x y : ℕ). suc (x + y)) (visits_weigh a) (visits_weigh b)
    visits_weigh (Expr.scaled a s) = ap suc (visits_weigh a)
    visits_weigh (Expr.powers es b) = ap₂ (λ (x y : ℕ). suc (x + y)) (all_weigh es) (visits_weigh b)

    all_weigh : (es : Exprs) → (visited_all o es).visits ≡ weights 0 es
    all_weigh (Exprs.last e) = let x = visits_weigh e in omega arith
    all_weigh (Exprs.more e es) = let x = visits_weigh e in let y = all_weigh es in omega arith

-- without its Items
pub visits_are : (e : Expr) → visits e ≡ weight 0 e
unfolding visits
visits_are e = visits_weigh unit_ops e

-- the visits are the same for all values
pub visits_same : {T : Type 0} (o : Ops T) (e : Expr) → (visited o e).visits ≡ visits e
visits_same o e = visits_weigh o e ∙ sym (visits_are e)

-- with its Items
mutual
  unfolding weight body

  pub size_is : (e : Expr) → weight 1 e ≡ size e
  size_is (Expr.constant v) = refl
  size_is Expr.identity = refl
  size_is (Expr.lagrange i) = refl
  size_is (Expr.eq_xy i) = refl
  size_is (Expr.poly q r) = refl
  size_is (Expr.challenge i) = refl
  size_is (Expr.negated a) = ap suc (size_is a)
  size_is (Expr.sum a b) = ap₂ (λ (x y : ℕ). suc (x + y)) (size_is a) (size_is b)
  size_is (Expr.product a b) = ap₂ (λ (x y : ℕ). suc (x + y)) (size_is a) (size_is b)
  size_is (Expr.scaled a s) = ap suc (size_is a)
  size_is (Expr.powers es b) = let x = listed_is es in let y = size_is b in omega arith

  listed_is : (es : Exprs) → weights 1 es ≡ listed es
  listed_is (Exprs.last e) = let x = size_is e in omega arith
  listed_is (Exprs.more e es) = let x = size_is e in let y = listed_is es in omega arith

-- no more nodes are visited than written
mutual
  unfolding weight

  pub lighter : (e : Expr) → weight 0 e ≤ weight 1 e
  lighter (Expr.constant v) = omega arith
  lighter Expr.identity = omega arith
  lighter (Expr.lagrange i) = omega arith
  lighter (Expr.eq_xy i) = omega arith
  lighter (Expr.poly q r) = omega arith
  lighter (Expr.challenge i) = omega arith
  lighter (Expr.negated a) = let x = lighter a in omega arith
  lighter (Expr.sum a b) = let x = lighter a in let y = lighter b in omega arith
  lighter (Expr.product a b) = let x = lighter a in let y = lighter b in omega arith
  lighter (Expr.scaled a s) = let x = lighter a in omega arith
  lighter (Expr.powers es b) = let x = all_lighter es in let y = lighter b in omega arith

  all_lighter : (es : Exprs) → weights 0 es ≤ weights 1 es
  all_lighter (Exprs.last e) = let x = lighter e in omega arith
  all_lighter (Exprs.more e es) = let x = lighter e in let y = all_lighter es in omega arith

pub visits_most : (e : Expr) → visits e ≤ size e
visits_most e = let a = visits_are e in let b = lighter e in let c = size_is e in omega arith

-- ---- in the words that are written
mutual
  unfolding weight flat not_items

  rest_visited : (e : Expr) (n : ℕ) (ws : List ℕ) → not_items (flat e n ++ ws) ≡ weight 0 e + not_items ws
  rest_visited (Expr.constant v) n ws = refl
  rest_visited Expr.identity n ws = refl
  rest_visited (Expr.lagrange i) n ws = refl
  rest_visited (Expr.eq_xy i) n ws = refl
  rest_visited (Expr.poly q r) n ws = refl
  rest_visited (Expr.challenge i) n ws = refl
  rest_visited (Expr.negated a) n ws =
      ap not_items (append_assoc (flat a n) (words 7 (root n a) 0 0) ws) ∙ rest_visited a n _ ∙ omega arith
  rest_visited (Expr.sum a b) n ws =
      ap not_items (append_assoc (flat a n) _ ws) ∙ rest_visited a n _
      ∙ ap (λ (m : ℕ). weight 0 a + m) (ap not_items (append_assoc (flat b (n + size a)) _ ws) ∙ rest_visited b (n + size a) _)
      ∙ omega arith
  rest_visited (Expr.product a b) n ws =
      ap not_items (append_assoc (flat a n) _ ws) ∙ rest_visited a n _
      ∙ ap (λ (m : ℕ). weight 0 a + m) (ap not_items (append_assoc (flat b (n + size a)) _ ws) ∙ rest_visited b (n + size a) _)
      ∙ omega arith
  rest_visited (Expr.scaled a v) n ws =
      ap not_items (append_assoc (flat a n) (words 10 (root n a) 0 v) ws) ∙ rest_visited a n _ ∙ omega arith
  rest_visited (Expr.powers es b) n ws =
      ap not_items (append_assoc (flats es n) _ ws) ∙ all_visited es n _
      ∙ ap (λ (m : ℕ). weights 0 es + m)
      (ap not_items (append_assoc (flat b (n + sizes es)) _ ws) ∙ rest_visited b (n + sizes es) _
      ∙ ap (λ (m : ℕ). weight 0 b + m)
      (ap not_items (append_assoc (chain es n (n + sizes es + size b)) _ ws) ∙ chain_passed es n (n + sizes es + size b) _))
      ∙ omega arith

  all_visited : (es : Exprs) (n : ℕ) (ws : List ℕ) → not_items (flats es n ++ ws) ≡ weights 0 es + not_items ws
  all_visited (Exprs.last e) n ws = rest_visited e n ws ∙ omega arith
  all_visited (Exprs.more e es) n ws =
      ap not_items (append_assoc (flat e n) _ ws) ∙ rest_visited e n _
      ∙ ap (λ (m : ℕ). weight 0 e + m) (all_visited es (n + size e) ws)
      ∙ omega arith

  chain_passed : (es : Exprs) (n m : ℕ) (ws : List ℕ) → not_items (chain es n m ++ ws) ≡ not_items ws
  chain_passed (Exprs.last e) n m ws = zero-add (not_items ws)
  chain_passed (Exprs.more e es) n m ws =
      ap not_items (append_assoc (chain es (n + size e) m) _ ws) ∙ chain_passed es (n + size e) m _
      ∙ zero-add (not_items ws)

-- the nodes that are no Item
pub visits_written : (e : Expr) (n : ℕ) → not_items (flat e n) ≡ visits e
unfolding not_items
visits_written e n = ap not_items (sym (append-nil (flat e n))) ∙ rest_visited e n [] ∙ omega (arith, visits_are e)
