use mathlib.Core.Path.{ap, ◌∙◌, subst⁻¹}
use Prim.Native.Nat.{ℕ, ◌*◌, ◌/◌, ◌^◌, ◌<◌}
use lib.Bits.{bit_xor, bit_and}
use Rattle.bh.proofs.Words.{prev_code}
use Rattle.bh.proofs.Order.{prev_lt}
use Rattle.bh.proofs.prev.Goals as goal

pub returns : goal.returns
returns c =
    let k = c.args.k in
    let b = c.args.b in
    let e = ap (λ (x : ℕ). bit_xor (b / 2) (bit_and b 1 * x)) c.x_inv.ensures ∙ prev_code k c.requires.0 b c.requires.1 in
    (e, subst⁻¹ (λ (x : ℕ). x < 2 ^ k) e (prev_lt k c.requires.0 b c.requires.1))
