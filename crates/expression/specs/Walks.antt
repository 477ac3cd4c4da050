-- The folds that the walks over node words compute; their laws are in proofs/.
use Rattle.std.specs.Prelude.{Bool, false, ◌||◌, ℕ, suc, ◌+◌, min, max}
use Rattle.expression.specs.Expr.{Expr, Exprs, Ops, Query, same_query}
use Rattle.expression.specs.Flat.{sizes, extra}

-- the degree, with every degree above 1025 taken for 1025
unfoldable pub cap_sum : ℕ → ℕ → ℕ
cap_sum a b = min 1025 (a + b)

unfoldable pub cap_ops : Ops ℕ
cap_ops =
    record {
      constant_op = λ v. 0;
      identity_op = 1;
      lagrange_op = λ i. 1;
      eq_xy_op = λ i. 1;
      poly_op = λ q r. 1;
      challenge_op = λ i. 0;
      negated_op = λ a. a;
      sum_op = max;
      product_op = cap_sum;
      scaled_op = λ a s. a;
    }

-- the nodes that a list's expressions and its Items take
abbrev pub listed : Exprs → ℕ
listed es = sizes es + suc (extra es)

-- the nodes of an expression, an Item counted as `item`: with 1 all that are written, with 0 those that an evaluation visits
unfoldable mutual
  pub weight : ℕ → Expr → ℕ
  weight item (Expr.constant v) = 1
  weight item Expr.identity = 1
  weight item (Expr.lagrange i) = 1
  weight item (Expr.eq_xy i) = 1
  weight item (Expr.poly q r) = 1
  weight item (Expr.challenge i) = 1
  weight item (Expr.negated a) = suc (weight item a)
  weight item (Expr.sum a b) = suc (weight item a + weight item b)
  weight item (Expr.product a b) = suc (weight item a + weight item b)
  weight item (Expr.scaled a s) = suc (weight item a)
  weight item (Expr.powers es b) = suc (weights item es + weight item b)

  -- of a list's expressions and its Items
  pub weights : ℕ → Exprs → ℕ
  weights item (Exprs.last e) = item + weight item e
  weights item (Exprs.more e es) = item + (weight item e + weights item es)

-- is a query come by?
unfoldable pub used_ops : Query → Ops Bool
used_ops q =
    record {
      constant_op = λ v. false;
      identity_op = false;
      lagrange_op = λ i. false;
      eq_xy_op = λ i. false;
      poly_op = λ p r. same_query q (record { polynomial = p; rotation = r });
      challenge_op = λ i. false;
      negated_op = λ a. a;
      sum_op = ◌||◌;
      product_op = ◌||◌;
      scaled_op = λ a s. a;
    }
