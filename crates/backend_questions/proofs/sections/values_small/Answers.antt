use Rattle.lists.proofs.Walks.{walk_none, walk_more, walk_fails}
use Rattle.backend.proofs.Numbers.{value_large, value_small}
use Rattle.backend_questions.proofs.sections.values_small.Goals as goal

pub loop-i-init : goal.loop-i-init
loop-i-init c = walk_none _ _ _

pub returns-then-bad : goal.returns-then-bad
returns-then-bad c =
    walk_fails _ _ _ c.loop-i.i c.loop-i-test.true
    (value_large c.args.nodes.now c.loop-i.i _ c.is_element.ensures.below c.if-bad.true)

pub loop-i-preserved : goal.loop-i-preserved
loop-i-preserved c =
    walk_more _ _ _ c.loop-i.i c.loop-i.invariant c.loop-i-test.true
    (value_small c.args.nodes.now c.loop-i.i _ c.is_element.ensures.below c.if-bad.false)
