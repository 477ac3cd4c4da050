use mathlib.Core.Path.{◌≡◌}
use mathlib.Core.List.{List}
use Prim.Native.Nat.{ℕ, ◌+◌, ◌^◌, ◌≤◌}
use lib.ListN.{length, set}
use Rattle.field.specs.Field.{el, val}
use Rattle.field.specs.Element.{elem}
use Rattle.lists.specs.Lists.{tabulate, write_at}
use Rattle.multilinear.proofs.Rows.{points}
use Rattle.multilinear.proofs.Doubling.{word, Doubled}
use Rattle.multilinear.proofs.eq_xy.Given as goal

-- there is room for both halves, and the rows so far are doubled
abbrev pub invariant-loop-b : goal.invariant-loop-b
invariant-loop-b l = (l.size + l.size ≤ length l.out)
    × ((d : List ℕ) → l.size ≡ 2 ^ l.i → elem l.v ≡ points l.y l.i → 2 ^ l.i + 2 ^ l.i ≤ length d → l.initial.out ≡ write_at d 0 (tabulate (word l.y l.i) (2 ^ l.i))
    → Doubled l.y d l.i l.out l.b)

abbrev pub invariant-loop-i : goal.invariant-loop-i
invariant-loop-i l = (l.size ≡ 2 ^ l.i)
    × ((d : List ℕ) → 2 ^ l.k ≤ length d → l.initial.out ≡ set d 0 (val (el 1)) → l.out ≡ write_at d 0 (tabulate (word l.y l.i) (2 ^ l.i)))
