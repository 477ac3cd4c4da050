-- `eq_at` meets its contract: the product over the bits passed, and the bits left.
use mathlib.Core.Path.{◌≡◌, ap, ◌∙◌}
use Prim.Native.Nat.{ℕ}
use native.Mathlib.Omega.{arith}
use Rattle.field.specs.Field.{𝔾, el_one}
use Rattle.field.specs.Element.{elem}
use Rattle.multilinear.proofs.Rows.{row, row_start, half, row_set, row_unset}
use Rattle.multilinear.proofs.eq_at.Goals as goal
use Rattle.multilinear.proofs.eq_at.Goals.{then-left-eq1, else-left-eq1}

pub loop-i-init : goal.loop-i-init
loop-i-init c = (omega arith, el_one ∙ row_start c.args.y.now c.args.b)

pub loop-i-preserved : goal.loop-i-preserved
loop-i-preserved c =
    let s = c.args in
    let l = c.loop-i in
    let v = c.at-v in
    let other = c.sub-other in
    let times = 𝔾.mul (elem l.acc) in (
      half s.y.now s.b l.left l.i l.invariant.0,
      c.mul-acc.ensures
          ∙ (elim c.if-left-eq1.branch [
            | then-left-eq1 w ↦ ap times (ap elem w.f-is) ∙ row_set s.y.now s.b l.left l.i _ _ l.invariant.0 l.invariant.1 v.ensures w.if-left-eq1.true
            | else-left-eq1 w ↦ ap times (ap elem w.f-is ∙ other.ensures)
                ∙ row_unset s.y.now s.b l.left l.i _ _ l.invariant.0 l.invariant.1 v.ensures w.if-left-eq1.false _ el_one
          ]),
    )

pub returns : goal.returns
returns c =
    let s = c.args in
    let l = c.loop-i in
    let e : l.i ≡ s.k = omega arith in
    l.invariant.1 ∙ ap (λ (n : ℕ). row s.y.now n s.b) e
