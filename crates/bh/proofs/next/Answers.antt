use mathlib.Core.Path.{ap, ◌∙◌, subst⁻¹}
use Prim.Native.Nat.{ℕ, ◌*◌, ◌/◌, ◌%◌, ◌^◌, ◌<◌}
use lib.Bits.{bit_xor}
use Rattle.bh.proofs.Words.{next_code}
use Rattle.bh.proofs.Order.{next_lt}
use Rattle.bh.proofs.next.Goals as goal

pub returns : goal.returns
returns c =
    let k = c.args.k in
    let b = c.args.b in
    let e = ap (λ (x : ℕ). bit_xor (b * 2 % 18446744073709551616) (b * 2 % 18446744073709551616 / 2 ^ k * x)) c.primitive.ensures
    ∙ next_code k c.requires.0 b c.requires.1 in
    (e, subst⁻¹ (λ (x : ℕ). x < 2 ^ k) e (next_lt k c.requires.0 b c.requires.1))
