use Prim.Native.Nat.{ℕ, ◌+◌, ◌≤◌}
use Rattle.expression.specs.Expr.{product_of}
use Rattle.expression.specs.Flat.{size}
use Rattle.expression.specs.Written.{ExprWritten}
use Rattle.lists.specs.Lists.{tabulate}
use Rattle.preprocessor.proofs.GroupWritten as groups
use Rattle.preprocessor.specs.ComposeWords.{input_side}
use lib.ListN.{length}
use mathlib.Core.List.{List}
use mathlib.Core.Path.{◌≡◌}
use Rattle.preprocessor_constraints.proofs.group.Group.product_besides.Given as goal

abbrev pub invariant-loop-i : goal.invariant-loop-i
invariant-loop-i l = (1 ≤ l.i) × ((l.i + 1 ≤ l.self.members.count) × ((l.x ≡ l.at + size (product_of (tabulate (λ i. input_side l.self.lookups.user.now l.self.lookups.widths.now l.self.lookups.pairs.now l.self.lookups.beta (l.self.members.first + groups.besides l.omit i)) l.i))) × ((length l.out ≡ length l.initial.out) × ((d : List ℕ)
    → ExprWritten l.from (product_of (tabulate (λ i. input_side l.self.lookups.user.now l.self.lookups.widths.now l.self.lookups.pairs.now l.self.lookups.beta (l.self.members.first + groups.besides l.omit i)) 1)) l.at d l.initial.out l.initial.x
    → ExprWritten l.from (product_of (tabulate (λ i. input_side l.self.lookups.user.now l.self.lookups.widths.now l.self.lookups.pairs.now l.self.lookups.beta (l.self.members.first + groups.besides l.omit i)) l.i)) l.at d l.out l.x))))
