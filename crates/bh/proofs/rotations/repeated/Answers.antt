-- The step so far, and once more.
use Rattle.std.proofs.Common.{sym, ap, ◌∙◌}
use Rattle.bh.proofs.Iter.{iter_zero, iter_next}
use Rattle.bh.proofs.rotations.repeated.Goals as goal

pub loop-init : goal.loop-init
loop-init g c = (sym (iter_zero g.f c.args.b), c.requires.1.1.1)

pub step-row-requires : goal.step-row-requires
step-row-requires g c = c.requires.1.0 _ c.loop.invariant.1

pub loop-preserved : goal.loop-preserved
loop-preserved g c =
    let went = c.requires.1.1.0 _ _ c.loop.invariant.1 c.step-row.ensures in
    (went.0 ∙ ap g.f c.loop.invariant.0 ∙ sym (iter_next g.f c.loop.counter c.args.b), went.1)
