-- What an expression may name, and the expressions all of whose Lagrange numbers, EqXYs, queries and challenges it allows. Assumes
-- nothing.
use Rattle.std.specs.Prelude.{ℕ, ℤ}
use Rattle.expression.specs.Expr.{Expr, Exprs}

-- what an expression may name
pub record Scope : Type 1 where
  pub lagrange : ℤ → Type 0
  pub eq_xy : ℕ → Type 0
  pub poly : ℕ → ℤ → Type 0
  pub challenge : ℕ → Type 0

module _ (S : Scope) where
  abbrev mutual
    pub Within : Expr → Type 0
    Within (Expr.constant v) = Unit {0}
    Within Expr.identity = Unit {0}
    Within (Expr.lagrange i) = S.lagrange i
    Within (Expr.eq_xy i) = S.eq_xy i
    Within (Expr.poly q r) = S.poly q r
    Within (Expr.challenge i) = S.challenge i
    Within (Expr.negated a) = Within a
    Within (Expr.sum a b) = Within a × Within b
    Within (Expr.product a b) = Within a × Within b
    Within (Expr.scaled a v) = Within a
    Within (Expr.powers es b) = WithinAll es × Within b

    pub WithinAll : Exprs → Type 0
    WithinAll (Exprs.last e) = Within e
    WithinAll (Exprs.more e es) = Within e × WithinAll es
