use Rattle.std.proofs.Common.{true, IfSome}
use Rattle.cli_search.proofs.found.search.Given as goal

abbrev pub invariant-loop-place : goal.invariant-loop-place
invariant-loop-place g l =
    (goal.iterator-loop-place g).can_next l.place-iterator × (goal.iterator-loop-place g).is_finite l.place-iterator
    × IfSome l.found (λ f. goal.F-post g l.is_such f.first true)
