use Rattle.preprocessor.proofs.Composed.{composed_written}
use Rattle.preprocessor_compose.proofs.compose.Goals as goal

pub returns : goal.returns
returns c k p = composed_written p c.outer.ensures
