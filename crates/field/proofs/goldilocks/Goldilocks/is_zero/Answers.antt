-- Zero has the number 0.
use Rattle.field.proofs.goldilocks.Zero.{zero_word}
use Rattle.field.proofs.goldilocks.Goldilocks.is_zero.Goals as goal

pub returns : goal.returns
returns c = zero_word _ _ c.from.ensures
