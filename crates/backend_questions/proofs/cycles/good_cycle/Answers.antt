-- The cells passed are good, and linked.
use mathlib.Core.Path.{refl, sym, ap, subst, ◌∙◌}
use mathlib.Core.List.{List}
use Prim.Native.Nat.{ℕ, ◌-◌}
use native.Mathlib.Omega.{arith}
use Rattle.backend.specs.Circuit.{cell_at}
use Rattle.backend.specs.Cycles.{cells_from, good_at}
use Rattle.backend_questions.proofs.cycles.Turns.{Cycled, no_cell_is, cycled_none, cycled_more, cycled_fails, cycled_all}
use Rattle.backend_questions.proofs.cycles.good_cycle.Goals as goal

pub returns-then-n-eq0-clause-value : goal.returns-then-n-eq0-clause-value
returns-then-n-eq0-clause-value c =
    let a = c.args in
    no_cell_is a.polys a.rows a.linked.now.cells.now a.linked.now.count a.n c.if-n-eq0.true

pub loop-init : goal.loop-init
loop-init c =
    let a = c.args in
    record { cells = refl; count = omega arith; cycled = cycled_none a.polys a.rows a.linked.now.cells.now a.linked.now.count a.n }

pub returns-then-not-good_cell-clause-value : goal.returns-then-not-good_cell-clause-value
returns-then-not-good_cell-clause-value c =
    let a = c.args in
    let s = a.linked.now in
    let at = c.loop.linked.count in
    cycled_fails a.polys a.rows s.cells.now s.count a.n at c.loop.invariant.cycled c.good_cell.result
    (c.good_cell.ensures ∙ ap (λ (xs : List ℕ). good_at a.polys a.rows (cell_at xs at) (cells_from xs s.count (at - s.count))) c.loop.invariant.cells)
    (let e = c.loop.invariant.count in let l = c.loop-test.true in omega arith)
    c.if-not-good_cell.true

pub loop-preserved : goal.loop-preserved
loop-preserved c =
    let a = c.args in
    let s = a.linked.now in
    let at = c.loop.linked.count in
    record {
      cells = c.link.ensures.cells ∙ c.loop.invariant.cells;
      count = (let e = c.loop.invariant.count in let g = c.link.ensures.count in omega arith);
      cycled = subst (Cycled a.polys a.rows s.cells.now s.count a.n) (sym c.link.ensures.count)
          (cycled_more a.polys a.rows s.cells.now s.count a.n at c.loop.invariant.cycled c.good_cell.result
          (c.good_cell.ensures ∙ ap (λ (xs : List ℕ). good_at a.polys a.rows (cell_at xs at) (cells_from xs s.count (at - s.count))) c.loop.invariant.cells)
          (let e = c.loop.invariant.count in let l = c.loop-test.true in omega arith)
          c.if-not-good_cell.false);
    }

pub returns-clause-value : goal.returns-clause-value
returns-clause-value c =
    let a = c.args in
    let s = a.linked.now in
    cycled_all a.polys a.rows s.cells.now s.count a.n c.loop.linked.count c.loop.invariant.cycled c.if-n-eq0.false (let e = c.loop.invariant.count in let l = c.loop-test.false in omega arith)
