-- There is a round, and the tests of the two words of each are the definition's.
use Rattle.backend.proofs.Numbers.{some_rounds, rounds_tested}
use Rattle.backend_questions.proofs.sections.rounds_good.Goals as goal

pub overflow_sub-count : goal.overflow_sub-count
overflow_sub-count c = some_rounds _ c.args.laid.contents _ c.rounds-rounds.ensures

pub returns : goal.returns
returns c = rounds_tested _ c.args.laid.contents _ c.rounds-rounds.ensures _ _ c.all_positive-witness.ensures c.all_positive-user.ensures
