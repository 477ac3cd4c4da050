-- `start`: nothing is taken, so that all the text is ahead.
use Rattle.decimal.proofs.Steps.{from_start}
use Rattle.decimal.proofs.start.Goals as goal

pub returns : goal.returns
returns c = from_start
