use Prim.Native.Nat.{ℕ, ◌+◌, ◌≤◌}
use Rattle.expression.specs.Expr.{Expr, product_from}
use Rattle.expression.specs.Flat.{size}
use Rattle.expression.specs.Written.{ExprWritten}
use Rattle.lists.specs.Lists.{tabulate}
use Rattle.preprocessor.specs.ComposeWords.{input_side}
use lib.IntN.{pos}
use lib.ListN.{length}
use mathlib.Core.List.{List}
use mathlib.Core.Path.{◌≡◌}
use Rattle.preprocessor_constraints.proofs.group.Group.inputs_product.Given as goal

abbrev pub invariant-loop-i : goal.invariant-loop-i
invariant-loop-i l = (l.i ≤ l.self.members.count) × ((l.x ≡ l.at + size (product_from (Expr.poly l.q (pos 0)) (tabulate (λ i. input_side l.self.lookups.user.now l.self.lookups.widths.now l.self.lookups.pairs.now l.self.lookups.beta (l.self.members.first + i)) l.i))) × ((length l.out ≡ length l.initial.out) × ((d : List ℕ)
    → ExprWritten l.from (Expr.poly l.q (pos 0)) l.at d l.initial.out l.initial.x
    → ExprWritten l.from (product_from (Expr.poly l.q (pos 0)) (tabulate (λ i. input_side l.self.lookups.user.now l.self.lookups.widths.now l.self.lookups.pairs.now l.self.lookups.beta (l.self.members.first + i)) l.i)) l.at d l.out l.x)))
