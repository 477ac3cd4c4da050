-- The folds that the walks compute are the degree, capped, and whether a query is used.
use mathlib.Core.Path.{◌≡◌, refl, sym}
use mathlib.Core.Bool.{or-false}
use Prim.Native.Nat.{min}
use native.Mathlib.Omega.{arith}
use Rattle.lists.specs.Lists.{any_of}
use Rattle.lists.proofs.Tests.{any_append}
use Rattle.expression.specs.Expr.{Expr, Query, same_query, evaluate, degree_ops, degree, query_ops, used_query}
use Rattle.expression.specs.Walks.{cap_sum, cap_ops, used_ops}
use Rattle.expression.proofs.Evaluate.{Hom, evaluate_hom}

pub cap : Hom degree_ops cap_ops (min 1025)
unfolding degree_ops cap_ops cap_sum
cap =
    record {
      constants = λ v. refl;
      identities = refl;
      lagranges = λ i. refl;
      eq_xys = λ i. refl;
      polys = λ i r. refl;
      challenges = λ i. refl;
      negations = λ a. refl;
      sums = λ a b. omega arith;
      products = λ a b. omega arith;
      scalings = λ a v. refl;
    }

pub capped : (e : Expr) → evaluate cap_ops e ≡ min 1025 (degree e)
unfolding degree
capped e = evaluate_hom degree_ops cap_ops (min 1025) cap e

pub uses : (q : Query) → Hom query_ops (used_ops q) (any_of (same_query q))
unfolding query_ops used_ops any_of
uses q =
    record {
      constants = λ v. refl;
      identities = refl;
      lagranges = λ i. refl;
      eq_xys = λ i. refl;
      polys = λ i r. sym (or-false _);
      challenges = λ i. refl;
      negations = λ a. refl;
      sums = λ a b. sym (any_append (same_query q) a b);
      products = λ a b. sym (any_append (same_query q) a b);
      scalings = λ a v. refl;
    }

pub used : (q : Query) (e : Expr) → evaluate (used_ops q) e ≡ used_query e q
unfolding used_query
used q e = evaluate_hom query_ops (used_ops q) (any_of (same_query q)) (uses q) e
