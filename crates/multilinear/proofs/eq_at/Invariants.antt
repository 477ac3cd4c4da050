use Rattle.std.proofs.Common.{◌≡◌, ◌/◌, ◌^◌}
use Rattle.field.specs.Element.{elem}
use Rattle.multilinear.proofs.Rows.{row}
use Rattle.multilinear.proofs.eq_at.Given as goal

abbrev pub invariant-loop-i : goal.invariant-loop-i
invariant-loop-i l = (l.left ≡ l.b / 2 ^ l.i) × (elem l.acc ≡ row l.y l.i l.b)
