-- The cells left to walk, with the label at hand, give what all of them gave at first.
use Rattle.std.proofs.Common.{length, ◌-◌, arith, get_or, ap, sym, ◌∙◌, ℕ}
use Rattle.preprocessor_permutation.specs.Cells.{cell_of}
use Rattle.preprocessor_permutation.proofs.records.Laws as cycle
use Rattle.preprocessor_permutation.proofs.records.walk.Goals as goal

pub cell_label-label-requires : goal.cell_label-label-requires
cell_label-label-requires g c =
    cycle.cell c.args.starts.now (g.C.Cycle.cells c.args.cycle) (c.count-count.result - 1) (omega (arith, c.requires.nonzero, c.count-count.ensures)) (cell_of c.cell-last.result)
    (c.cell-last.ensures cycle.none)
    (length c.args.columns.now)
    c.requires.all

pub exchange-label-requires : goal.exchange-label-requires
exchange-label-requires g c =
    cycle.fits c.args.starts.now (g.C.Cycle.cells c.args.cycle) c.loop-i.i (omega (arith, c.count-count.ensures)) (cell_of c.cell-next.result)
    (c.cell-next.ensures cycle.none)
    c.args.columns.now
    c.cell_label-label.result
    c.loop-i.columns
    c.loop-i.label
    c.loop-i.invariant
    c.requires.all

pub loop-i-preserved : goal.loop-i-preserved
loop-i-preserved g c =
    cycle.next c.args.starts.now (g.C.Cycle.cells c.args.cycle) c.loop-i.i (omega (arith, c.count-count.ensures)) (cell_of c.cell-next.result)
    (c.cell-next.ensures cycle.none)
    c.args.columns.now
    c.cell_label-label.result
    c.loop-i.columns
    c.loop-i.label
    c.exchange-label.result
    c.exchange-label.new.columns
    c.loop-i.invariant
    c.exchange-label.ensures.value
    c.exchange-label.ensures.columns_after

pub returns : goal.returns
returns g c =
    cycle.end c.args.starts.now (g.C.Cycle.cells c.args.cycle) (cell_of c.cell-last.result)
    (ap (λ (n : ℕ). get_or (g.C.Cycle.cells c.args.cycle) (n - 1) cycle.none) (sym c.count-count.ensures) ∙ c.cell-last.ensures cycle.none)
    c.args.columns.now
    c.cell_label-label.result
    c.loop-i.columns
    c.loop-i.label
    c.loop-i.i
    c.requires.nonzero
    c.requires.cycle_in
    c.requires.all
    c.cell_label-label.ensures
    c.loop-i.invariant
    (omega (arith, c.count-count.ensures))
