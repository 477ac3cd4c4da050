use mathlib.Core.Path.{◌≡◌}
use Prim.Native.Nat.{◌+◌, ◌-◌, ◌^◌, ◌≤◌, ◌<◌}
use Rattle.bh.specs.Rows.{place_of, seek}
use Rattle.bh.proofs.rotations.place_of.Given as goal

abbrev pub invariant-loop-place : goal.invariant-loop-place
invariant-loop-place l = (l.n ≡ 2 ^ l.k) × (1 ≤ l.place) × (l.place ≤ l.n) × (l.at < 2 ^ l.k) × (place_of l.k l.row ≡ l.place + seek l.k (l.n - l.place) l.at l.row)
