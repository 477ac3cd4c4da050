use mathlib.Core.Path.{◌≡◌, refl, sym, ap, ◌∙◌}
use Prim.Native.Nat.{ℕ, ◌^◌, ◌<◌}
use native.Mathlib.Nat.{lt_of_lt_of_le, le-pred_of_lt}
use lib.Pow.{pow_mono}
use Rattle.bh.specs.Rows.{rotated, iter}
use Rattle.expression.specs.Nodes.{decode_signed}
use Rattle.expression_nodes.proofs.leaves.rotated_row.Goals as goal

stays : (k b : ℕ) → b ≡ rotated k b (decode_signed 2147483648)
unfolding rotated iter
stays k b = refl

small : (k r : ℕ) → k < 21 → r < 2 ^ k → r < 1048576
small k r hk hr = lt_of_lt_of_le hr (pow_mono {i = k} {j = 20} (le-pred_of_lt hk))

pub returns-then-rotation-eq-SIGNED_OFFSET : goal.returns-then-rotation-eq-SIGNED_OFFSET
returns-then-rotation-eq-SIGNED_OFFSET c =
    let p = c.args.point.now in (
      stays p.k p.row ∙ ap (λ (w : ℕ). rotated p.k p.row (decode_signed w)) (sym c.if-rotation-eq-SIGNED_OFFSET.true),
      small p.k p.row c.requires.small c.requires.inside,
    )

pub returns : goal.returns
returns c =
    let p = c.args.point.now in (
      c.rotate.ensures.0 ∙ c.rotation_of.ensures.leads p.row c.requires.inside,
      small p.k _ c.requires.small c.rotate.ensures.1,
    )
