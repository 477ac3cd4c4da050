-- `compressed_pair` meets its contract: the table's column behind the input's.
use mathlib.Core.Path.{ap}
use Prim.Native.Nat.{ℕ, ◌+◌}
use Rattle.prover.proofs.PowerSums.{pair_end}
use Rattle.prover_compressed.proofs.Lent.compressed_pair.Goals as goal

pub returns : goal.returns
returns c =
    let a = c.args in
    let pre = c.requires in
    pair_end a.polys.k a.polys.small.1 _ a.polys.given _ _ _ _ _ _ _ _ _ _ _ _ _ pre.1 a.polys.before pre.0
    (ap (λ (x : ℕ). a.polys.to + x) c.rows_of.ensures) c.lookup_compressed_poly.ensures c.lookup_compressed_poly-2.ensures
