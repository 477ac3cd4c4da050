use Rattle.lists.proofs.Walks.{sum_none, sum_more, sum_past}
use Rattle.backend_sections.proofs.words.total_to.Goals as goal

pub loop-i-init : goal.loop-i-init
loop-i-init c = sum_none _ _ _

pub returns-then-limit-sum : goal.returns-then-limit-sum
returns-then-limit-sum c = sum_past _ _ _ c.loop-i.sum c.loop-i.i c.loop-i.invariant c.loop-i-test.true c.if-limit-sum.true

pub loop-i-preserved : goal.loop-i-preserved
loop-i-preserved c = sum_more _ _ _ c.loop-i.sum c.loop-i.i c.loop-i.invariant c.loop-i-test.true c.if-limit-sum.false
