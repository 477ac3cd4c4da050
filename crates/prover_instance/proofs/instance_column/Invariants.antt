use mathlib.Core.Path.{◌≡◌}
use mathlib.Core.List.{List}
use Prim.Native.Nat.{ℕ, suc, ◌+◌, ◌^◌, ◌≤◌, ◌<◌}
use lib.ListN.{length, replicate}
use Rattle.bh.specs.Rows.{row_at}
use Rattle.lists.specs.Lists.{tabulate, write_at}
use Rattle.prover.proofs.Instance.{placed}
use Rattle.prover_instance.proofs.instance_column.Given as goal

abbrev pub invariant-loop-value : goal.invariant-loop-value
invariant-loop-value l = (l.row ≡ row_at l.k (suc l.value-index)) × (l.row < 2 ^ l.k)
    × ((d : List ℕ) → l.at + 2 ^ l.k ≤ length d → l.initial.columns ≡ write_at d l.at (replicate (2 ^ l.k) 0)
    → l.columns ≡ write_at d l.at (tabulate (placed l.k l.values l.value-index) (2 ^ l.k)))
