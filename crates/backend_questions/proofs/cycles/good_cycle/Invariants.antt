use mathlib.Core.Path.{◌≡◌}
use Prim.Native.Nat.{◌+◌}
use Rattle.backend_questions.proofs.cycles.Turns.{Cycled}
use Rattle.backend_questions.proofs.cycles.good_cycle.Given as goal

abbrev pub invariant-loop : goal.invariant-loop
invariant-loop l = record {
  cells : l.linked.cells.now ≡ l.fn.linked.cells.now;
  count : l.linked.count ≡ l.start + l.counter;
  cycled : Cycled l.polys l.rows l.fn.linked.cells.now l.start l.n l.linked.count;
}
