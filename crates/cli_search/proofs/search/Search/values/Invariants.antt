use Rattle.std.proofs.Common.{◌≡◌, ◌+◌, length}
use Rattle.cli_search.proofs.search.Search.values.Given as goal

abbrev pub invariant-loop-i : goal.invariant-loop-i
invariant-loop-i l = l.first + length l.values.items ≡ l.i
