-- `clear` meets its contract: the words of the part are 0, and the others as they were.
use Rattle.prover_instance.proofs.Filled.{part_filled}
use Rattle.prover_instance.proofs.blank_column.clear.Goals as goal

pub returns : goal.returns
returns c = part_filled _ _ _ 0 _ c.requires (c.fill.ensures.after (λ y e. e))
