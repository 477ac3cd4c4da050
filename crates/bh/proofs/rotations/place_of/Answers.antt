use Rattle.bh.proofs.Place.{place_zero, place_start, place_here, place_step, place_end}
use Rattle.bh.proofs.Words.{shifted}
use mathlib.Core.Path.{◌≡◌, ap, ◌∙◌, sym, subst⁻¹}
use Prim.Native.Nat.{ℕ, ◌+◌, ◌-◌, ◌*◌, ◌%◌, ◌^◌, ◌≤◌}
use native.Mathlib.Omega.{arith}
use lib.Pow.{pow_pos, pow-lt}
use Rattle.bh.specs.Rows.{seek}
use Rattle.bh.proofs.rotations.place_of.Goals as goal

pub returns-then-row-eq0 : goal.returns-then-row-eq0
returns-then-row-eq0 c = place_zero c.args.k c.args.row c.if-row-eq0.true

pub loop-place-init : goal.loop-place-init
loop-place-init c =
    let k = c.args.k in
    let r = c.args.row in
    let e = shifted k c.requires.1 in
    let o = pow-lt {i = 0} {j = k} c.requires.0 in (
      e,
      omega arith,
      subst⁻¹ (λ (x : ℕ). 1 ≤ x) e (pow_pos k),
      o,
      place_start k r c.if-row-eq0.false ∙ ap (λ (x : ℕ). 1 + seek k (x - 1) 1 r) (sym e),
    )

pub returns-then-at-row : goal.returns-then-at-row
returns-then-at-row c =
    let k = c.args.k in
    let r = c.args.row in
    let l = c.loop-place in
    place_here k l.place (1 * 2 ^ k % 18446744073709551616 - l.place) l.at r c.if-at-row.true l.invariant.4

pub next-at-requires : goal.next-at-requires
next-at-requires c = (c.requires.1, c.loop-place.invariant.3)

pub loop-place-preserved : goal.loop-place-preserved
loop-place-preserved c =
    let k = c.args.k in
    let r = c.args.row in
    let l = c.loop-place in (
      l.invariant.0,
      omega arith,
      omega (arith, c.loop-place-test.true),
      c.next-at.ensures.1,
      place_step k (1 * 2 ^ k % 18446744073709551616) l.place l.at c.next-at.result r c.if-at-row.false c.loop-place-test.true c.next-at.ensures.0 l.invariant.4,
    )

pub returns : goal.returns
returns c =
    let k = c.args.k in
    let r = c.args.row in
    let l = c.loop-place in
    let e : 1 * 2 ^ k % 18446744073709551616 ≡ l.place = omega arith in
    e ∙ place_end k (1 * 2 ^ k % 18446744073709551616) l.place l.at r (omega arith) l.invariant.4
