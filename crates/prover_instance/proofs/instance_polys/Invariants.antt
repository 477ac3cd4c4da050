use mathlib.Core.Path.{◌≡◌}
use Prim.Native.Nat.{◌*◌, ◌^◌}
use lib.ListN.{take}
use Rattle.lists.specs.Lists.{write_at, total}
use Rattle.prover.specs.Words.{words_of}
use Rattle.prover.proofs.Instance.{polys}
use Rattle.prover_instance.proofs.instance_polys.Given as goal

abbrev pub invariant-loop-count : goal.invariant-loop-count
invariant-loop-count l = (l.from ≡ total (take l.count-index l.lengths)) × (l.at ≡ l.count-index * 2 ^ l.k)
    × (l.columns ≡ write_at l.initial.columns 0 (words_of (2 ^ l.k) (polys l.k (take l.count-index l.lengths) l.instance)))
