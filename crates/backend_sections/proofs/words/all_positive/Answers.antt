use Rattle.lists.proofs.Walks.{walk_none, walk_more, walk_fails, is_nought, not_nought}
use Rattle.backend_sections.proofs.words.all_positive.Goals as goal

pub loop-i-init : goal.loop-i-init
loop-i-init c = walk_none _ _ _

pub returns-then-words-i-eq0 : goal.returns-then-words-i-eq0
returns-then-words-i-eq0 c = walk_fails _ _ _ c.loop-i.i c.loop-i-test.true (is_nought _ c.if-words-i-eq0.true)

pub loop-i-preserved : goal.loop-i-preserved
loop-i-preserved c = walk_more _ _ _ c.loop-i.i c.loop-i.invariant c.loop-i-test.true (not_nought _ c.if-words-i-eq0.false)
