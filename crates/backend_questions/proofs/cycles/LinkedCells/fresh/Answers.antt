-- Down the cell's chain: none of the cells from j on is the same.
use native.Mathlib.Omega.{arith}
use Rattle.backend_questions.proofs.cycles.Chains.{down_first, down_less, down_next, down_end, down_met}
use Rattle.backend_questions.proofs.cycles.LinkedCells.fresh.Goals as goal

pub loop-j-init : goal.loop-j-init
loop-j-init c = let s = c.args.self.now in down_first s.cells.now s.count s.heads s.earlier s.linked

pub returns-then-polynomial-self : goal.returns-then-polynomial-self
returns-then-polynomial-self c =
    let s = c.args.self.now in
    down_met s.cells.now c.args.start s.count c.loop-j.j c.loop-j.invariant c.loop-j-test.true c.if-polynomial-self.true

pub loop-j-smaller : goal.loop-j-smaller
loop-j-smaller c =
    let s = c.args.self.now in
    down_less s.cells.now s.count s.heads s.earlier s.linked c.loop-j.j c.loop-j.invariant (let l = c.loop-j-test.true in omega arith)

pub loop-j-preserved : goal.loop-j-preserved
loop-j-preserved c =
    let s = c.args.self.now in
    down_next s.cells.now s.count s.heads s.earlier s.linked c.loop-j.j c.loop-j.invariant (let l = c.loop-j-test.true in omega arith) c.if-polynomial-self.false

pub returns : goal.returns
returns c = let s = c.args.self.now in down_end s.cells.now c.args.start s.count c.loop-j.j c.loop-j.invariant c.loop-j-test.false
