-- The sum of the first word of each round.
use Rattle.backend.proofs.Numbers.{witness_sum}
use Rattle.backend_sections.proofs.reader.Laid.witness_to.Goals as goal

pub returns : goal.returns
returns c = witness_sum _ c.args.self.contents _ c.rounds-rounds.ensures _ _ c.total_to.ensures
