-- The cycles passed are good, and their cells linked.
use mathlib.Core.Path.{sym, ap, subst, ◌∙◌}
use mathlib.Core.Bool.{not}
use mathlib.Core.List.{List}
use Prim.Native.Nat.{ℕ, ◌+◌}
use native.Mathlib.Omega.{arith}
use lib.ListN.{length, get_or}
use Rattle.backend.specs.Cycles.{cells_from}
use Rattle.backend.specs.Questions.{good_cycle}
use Rattle.backend_questions.proofs.cycles.Turns.{Before, room, before_next, bad_cycle, no_cycle_left}
use Rattle.backend_questions.proofs.cycles.cycles_good.Goals as goal

pub good_cycle-requires : goal.good_cycle-requires
good_cycle-requires c =
    let a = c.args in
    let l = room a.polys a.rows a.lengths.now a.cells.now c.loop-n.linked.count c.loop-n.n-index c.loop-n.invariant.before c.loop-n-test.true in
    let e = ap length c.loop-n.invariant.cells in
    let m = c.requires.1 in
    (omega arith, omega arith)

pub returns-then-not-good_cycle : goal.returns-then-not-good_cycle
returns-then-not-good_cycle c =
    let a = c.args in
    bad_cycle a.polys a.rows a.lengths.now a.cells.now c.loop-n.linked.count c.loop-n.n-index c.loop-n.invariant.before c.loop-n-test.true c.good_cycle.result
    (c.good_cycle.ensures.value ∙ ap (λ (xs : List ℕ). good_cycle a.polys a.rows (cells_from xs c.loop-n.linked.count (get_or a.lengths.now c.loop-n.n-index 0))) c.loop-n.invariant.cells)
    (ap not c.if-not-good_cycle.true)

pub loop-n-preserved : goal.loop-n-preserved
loop-n-preserved c =
    let a = c.args in
    record {
      cells = c.good_cycle.ensures.cells ∙ c.loop-n.invariant.cells;
      before = subst (λ (s : ℕ). Before a.polys a.rows a.lengths.now a.cells.now s (c.loop-n.n-index + 1)) (sym (c.good_cycle.ensures.count c.if-not-good_cycle.false))
          (before_next a.polys a.rows a.lengths.now a.cells.now c.loop-n.linked.count c.loop-n.n-index c.loop-n.invariant.before c.loop-n-test.true c.good_cycle.result
          (c.good_cycle.ensures.value ∙ ap (λ (xs : List ℕ). good_cycle a.polys a.rows (cells_from xs c.loop-n.linked.count (get_or a.lengths.now c.loop-n.n-index 0))) c.loop-n.invariant.cells)
          (ap not c.if-not-good_cycle.false));
    }

pub returns : goal.returns
returns c =
    let a = c.args in
    no_cycle_left a.polys a.rows a.lengths.now a.cells.now c.loop-n.linked.count c.loop-n.n-index c.loop-n.invariant.before c.loop-n-test.false
