use Prim.Native.Nat.{ℕ, ◌+◌, ◌≤◌}
use Rattle.backend.specs.Constraints.{omit_one, sum_of}
use Rattle.expression.specs.Expr.{Expr, product_of}
use Rattle.expression.specs.Flat.{size}
use Rattle.expression.specs.Written.{ExprWritten}
use Rattle.lists.specs.Lists.{tabulate}
use Rattle.preprocessor.specs.ComposeWords.{input_sides}
use lib.ListN.{length, get_or}
use mathlib.Core.List.{List, []}
use mathlib.Core.Path.{◌≡◌}
use Rattle.preprocessor_constraints.proofs.group.Group.products_sum.Given as goal

abbrev pub but : List ℕ → List ℕ → List ℕ → ℕ → ℕ → ℕ → ℕ → Expr
but user widths pairs beta first n k = product_of (get_or (omit_one (input_sides user widths pairs beta first n)) k [])

abbrev pub invariant-loop-k : goal.invariant-loop-k
invariant-loop-k l = (1 ≤ l.k) × ((l.k ≤ l.self.members.count) × ((l.x ≡ l.at + size (sum_of (tabulate (but l.self.lookups.user.now l.self.lookups.widths.now l.self.lookups.pairs.now l.self.lookups.beta l.self.members.first l.self.members.count) l.k))) × ((length l.out ≡ length l.initial.out) × ((d : List ℕ)
    → ExprWritten l.from (sum_of (tabulate (but l.self.lookups.user.now l.self.lookups.widths.now l.self.lookups.pairs.now l.self.lookups.beta l.self.members.first l.self.members.count) 1)) l.at d l.initial.out l.initial.x
    → ExprWritten l.from (sum_of (tabulate (but l.self.lookups.user.now l.self.lookups.widths.now l.self.lookups.pairs.now l.self.lookups.beta l.self.members.first l.self.members.count) l.k)) l.at d l.out l.x))))
