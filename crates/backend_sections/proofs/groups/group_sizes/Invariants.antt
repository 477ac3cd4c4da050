use mathlib.Core.Path.{◌≡◌}
use lib.ListN.{take}
use Rattle.backend_sections.proofs.groups.Sized.{Sized}
use Rattle.backend_sections.proofs.groups.group_sizes.Given as goal

abbrev pub invariant-loop-number : goal.invariant-loop-number
invariant-loop-number l = Sized l.groups l.counts l.count l.number-index

abbrev pub invariant-loop-size : goal.invariant-loop-size
invariant-loop-size l = l.sizes.items ≡ take l.size-index l.size-items
