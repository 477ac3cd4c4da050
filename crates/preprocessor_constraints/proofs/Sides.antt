-- The two sides of a part's constraint: how many nodes they take.
use Prim.Native.Nat.{ℕ, ◌+◌}
use Rattle.expression.specs.Expr.{Expr, at}
use Rattle.expression.specs.Flat.{body, size}
use Rattle.expression.specs.Written.{ExprWritten}
use Rattle.preprocessor.proofs.Parts as parts
use Rattle.preprocessor.specs.Compose.{identity_tree, permutation_tree}
use Rattle.preprocessor_constraints.specs.Copied.{label_tree, factor_nodes, factor_tree, z_tree}
use Rattle.preprocessor_constraints.specs.declared.factors.Copied.{Copied}
use Rattle.preprocessor_constraints.specs.declared.factors.Side.{Side}
use Rattle.preprocessor_constraints.specs.declared.factors.Side.TheVariants.{Identity, Permutation}
use lib.ListN.{get_or}
use mathlib.Core.List.{List}
use mathlib.Core.Path.{◌≡◌, refl}
use native.Mathlib.Omega.{arith}

pub label_size : (side : Side) (w : Copied) (i : ℕ) → size (label_tree side w i) + 7 ≡ factor_nodes side
unfolding body
label_size Identity w i = refl
label_size Permutation w i = refl

pub factor_size : (side : Side) (w : Copied) (i : ℕ) → size (factor_tree side w i) + 1 ≡ factor_nodes side
factor_size Identity w i = omega (arith, parts.identity_size w.numbers.params w.copied.now i)
factor_size Permutation w i = omega (arith, parts.permutation_size w.numbers.params w.copied.now i)

pub z_size : (side : Side) (w : Copied) (i : ℕ) → size (z_tree side w i) ≡ 1
unfolding body
z_size Identity w i = refl
z_size Permutation w i = parts.next_size w.numbers.params i

module _ (side : Side) (w : Copied) (i : ℕ) {from n next : ℕ} {d d1 : List ℕ} where
  pub factor_written : ExprWritten from (Expr.sum (Expr.sum (at (get_or w.copied.now i 0)) (Expr.product (Expr.challenge w.numbers.params.num_challenges) (label_tree side w i))) (Expr.challenge (w.numbers.params.num_challenges + 1))) n d d1 next
      → ExprWritten from (factor_tree side w i) n d d1 next
  unfolding identity_tree permutation_tree
  factor_written h = elim side as (λ s. ExprWritten from (Expr.sum (Expr.sum (at (get_or w.copied.now i 0)) (Expr.product (Expr.challenge w.numbers.params.num_challenges) (label_tree s w i))) (Expr.challenge (w.numbers.params.num_challenges + 1))) n d d1 next → ExprWritten from (factor_tree s w i) n d d1 next) [ Identity ↦ λ x. x | Permutation ↦ λ x. x ] h
