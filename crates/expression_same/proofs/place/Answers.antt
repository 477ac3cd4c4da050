use mathlib.Core.Path.{refl}
use native.Mathlib.Omega.{arith}
use Rattle.expression_same.proofs.Ways.{place_low, place_none}
use Rattle.expression_same.proofs.place.Goals as goal

pub returns-then-p-eq0 : goal.returns-then-p-eq0
returns-then-p-eq0 c =
    let a = c.args in
    let h = c.if-p-eq0.true in
    (place_none a.p a.a a.a (omega arith) (omega arith), omega arith)

pub returns-then-b-p : goal.returns-then-b-p
returns-then-b-p c =
    let a = c.args in
    let h = c.if-b-p.true in
    (place_low a.p a.a a.a _ refl h (omega arith), omega arith)

pub returns : goal.returns
returns c =
    let a = c.args in
    (place_none a.p a.a a.a refl c.if-b-p.false, omega arith)
