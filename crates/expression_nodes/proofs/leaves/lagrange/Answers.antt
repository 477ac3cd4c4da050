-- `lagrange` meets its contract: the place that the word names.
use mathlib.Core.Path.{refl, subst⁻¹}
use Prim.Native.Nat.{ℕ, ◌≤◌}
use lib.Pow.{pow_pos}
use Rattle.expression.proofs.Signed.{one_shifted}
use Rattle.expression.proofs.Leaves.{lagrange_one, lagrange_zero}
use Rattle.expression_nodes.proofs.leaves.lagrange.Goals as goal

pub overflow_sub-point : goal.overflow_sub-point
overflow_sub-point c =
    let p = c.args.point.now in
    subst⁻¹ (λ (x : ℕ). 1 ≤ x) (one_shifted p.k c.requires.small) (pow_pos p.k)

pub returns-then-word-point : goal.returns-then-word-point
returns-then-word-point c =
    let p = c.args.point.now in
    let q = c.requires in
    lagrange_one p.k q.positive q.small p.row p.place c.args.word q.inside q.placed
    _
    refl
    c.if-word-point.true

pub returns : goal.returns
returns c =
    let p = c.args.point.now in
    let q = c.requires in
    lagrange_zero p.k q.positive q.small p.row p.place c.args.word q.inside q.placed
    _
    refl
    c.if-word-point.false
