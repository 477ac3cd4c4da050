use Rattle.backend.proofs.Sections.{too_short, elsewhere, overrun, following_more, followed}
use Rattle.backend_questions.proofs.contents.question_4.Goals as goal

pub returns-then-len-at : goal.returns-then-len-at
returns-then-len-at c = too_short _ c.if-len-at.true

pub returns-then-start-at : goal.returns-then-start-at
returns-then-start-at c = elsewhere c.args.circuit.now c.loop-s.at c.loop-s.s _ _ _ _ c.loop-s.invariant c.loop-s-test.true c.word_at-k.ensures c.word_at-start.ensures c.word_at-count.ensures c.words_in-words.ensures c.if-start-at.true

pub returns-then-len-at-2 : goal.returns-then-len-at-2
returns-then-len-at-2 c = overrun c.args.circuit.now c.loop-s.at c.loop-s.s _ _ _ _ c.loop-s.invariant c.loop-s-test.true c.word_at-k.ensures c.word_at-start.ensures c.word_at-count.ensures c.words_in-words.ensures c.if-len-at-2.true

pub loop-s-preserved : goal.loop-s-preserved
loop-s-preserved c = following_more c.args.circuit.now c.loop-s.at c.loop-s.s _ _ _ _ c.loop-s.invariant c.loop-s-test.true c.word_at-k.ensures c.word_at-start.ensures c.word_at-count.ensures c.words_in-words.ensures c.if-start-at.false c.if-len-at-2.false

pub returns : goal.returns
returns c = followed _ _ _ _ _ c.loop-s.invariant c.loop-s-test.false c.word_at-groups.ensures c.word_at-widths.ensures
