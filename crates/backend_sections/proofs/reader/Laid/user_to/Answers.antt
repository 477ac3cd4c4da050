-- The sum of the second word of each round.
use Rattle.backend.proofs.Numbers.{user_sum}
use Rattle.backend_sections.proofs.reader.Laid.user_to.Goals as goal

pub returns : goal.returns
returns c = user_sum _ c.args.self.contents _ c.rounds-rounds.ensures _ _ c.total_to.ensures
