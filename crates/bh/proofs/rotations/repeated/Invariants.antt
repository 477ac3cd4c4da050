use Rattle.std.proofs.Common.{◌≡◌, ◌^◌, ◌<◌}
use Rattle.bh.specs.Rows.{iter}
use Rattle.bh.proofs.rotations.repeated.Given as goal

abbrev pub invariant-loop : goal.invariant-loop
invariant-loop g l = (l.row ≡ iter g.f l.counter l.b) × (l.row < 2 ^ l.k)
