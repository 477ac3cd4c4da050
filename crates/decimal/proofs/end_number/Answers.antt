-- `end_number`: the number begun is kept, or there is no room.
use Rattle.decimal.proofs.Steps.{full, keeps}
use Rattle.decimal.proofs.end_number.Goals as goal

pub returns-then-count-words : goal.returns-then-count-words
returns-then-count-words c = full c.args.scan c.stop.result c.args.words.now c.args.stands c.args.line c.in-Number.value c.in-Number.is c.if-count-words.true c.stop.ensures.stopped

pub returns-else-count-words : goal.returns-else-count-words
returns-else-count-words c = keeps c.args.scan c.args.words.now c.args.stands c.args.line c.in-Number.value c.in-Number.is c.if-count-words.false
