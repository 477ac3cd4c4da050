-- The value of an expression and the nodes that its evaluation visits, together. Item 1 of document 02: "node visits in one evaluation of
-- it … The visits equal a count in the evaluation's definition, every node once but Items not at all."
use Rattle.std.specs.Prelude.{cond, List, [], ◌∷◌, ℕ, suc, ◌+◌, eqb}
use Rattle.expression.specs.Expr.{Expr, Exprs, Ops, running}

pub record Visited (T : Type 0) : Type 0 where
  pub value : T
  pub visits : ℕ

-- each clause is that of `evaluate`, and one visit more
unfoldable mutual
  pub visited : {T : Type 0} → Ops T → Expr → Visited T
  visited o (Expr.constant v) = record { value = o.constant_op v; visits = 1 }
  visited o Expr.identity = record { value = o.identity_op; visits = 1 }
  visited o (Expr.lagrange i) = record { value = o.lagrange_op i; visits = 1 }
  visited o (Expr.eq_xy i) = record { value = o.eq_xy_op i; visits = 1 }
  visited o (Expr.poly q r) = record { value = o.poly_op q r; visits = 1 }
  visited o (Expr.challenge i) = record { value = o.challenge_op i; visits = 1 }
  visited o (Expr.negated a) = record { value = o.negated_op (visited o a).value; visits = suc (visited o a).visits }
  visited o (Expr.sum a b) =
      record {
        value = o.sum_op (visited o a).value (visited o b).value;
        visits = suc ((visited o a).visits + (visited o b).visits);
      }
  visited o (Expr.product a b) =
      record {
        value = o.product_op (visited o a).value (visited o b).value;
        visits = suc ((visited o a).visits + (visited o b).visits);
      }
  visited o (Expr.scaled a s) = record { value = o.scaled_op (visited o a).value s; visits = suc (visited o a).visits }
  -- the list's own node, each of its expressions and the base, each once; its Items are not visited
  visited o (Expr.powers es b) =
      record {
        value = visited_first o (visited o b).value es;
        visits = suc ((visited_all o es).visits + (visited o b).visits);
      }

  pub visited_first : {T : Type 0} → Ops T → T → Exprs → T
  visited_first o base (Exprs.last e) = (visited o e).value
  visited_first o base (Exprs.more e es) = running o base base (visited o e).value (visited_all o es).value

  pub visited_all : {T : Type 0} → Ops T → Exprs → Visited (List T)
  visited_all o (Exprs.last e) = record { value = (visited o e).value ∷ []; visits = (visited o e).visits }
  visited_all o (Exprs.more e es) =
      record { value = (visited o e).value ∷ (visited_all o es).value; visits = (visited o e).visits + (visited_all o es).visits }

-- with one value only, so that nothing is left but the count
unfoldable pub unit_ops : Ops (Unit {0})
unit_ops =
    record {
      constant_op = λ v. tt;
      identity_op = tt;
      lagrange_op = λ i. tt;
      eq_xy_op = λ i. tt;
      poly_op = λ q r. tt;
      challenge_op = λ i. tt;
      negated_op = λ a. tt;
      sum_op = λ a b. tt;
      product_op = λ a b. tt;
      scaled_op = λ a s. tt;
    }

-- the nodes that an evaluation visits, whatever the values are
unfoldable pub visits : Expr → ℕ
visits e = (visited unit_ops e).visits

-- the nodes of node words, four words each, whose kind word is not 12 (Item)
unfoldable pub not_items : List ℕ → ℕ
not_items [] = 0
not_items (kind ∷ []) = 0
not_items (kind ∷ (first ∷ [])) = 0
not_items (kind ∷ (first ∷ (second ∷ []))) = 0
not_items (kind ∷ (first ∷ (second ∷ (value ∷ ws)))) = cond (eqb kind 12) 0 1 + not_items ws
