use mathlib.Core.Path.{◌≡◌}
use lib.ListN.{get_or}
use Rattle.prover.specs.Words.{elements}
use Rattle.prover.proofs.Search.{found_row}
use Rattle.prover_lookup.proofs.m.Added.{Added, row_for}
use Rattle.prover_lookup.proofs.m.count_inputs.Given as goal

abbrev pub invariant-loop-j : goal.invariant-loop-j
invariant-loop-j l = found_row (λ r. get_or l.table r 0) l.v l.rows ≡ found_row (λ r. get_or l.table r 0) l.v l.j

abbrev pub invariant-loop-i : goal.invariant-loop-i
invariant-loop-i l = Added l.rows (row_for l.rows (elements l.input) (elements l.table)) l.initial.m l.m l.i
