-- The sum of the words, each an entry of its own.
use mathlib.Core.Path.{refl}
use Rattle.backend.proofs.Numbers.{single_sum}
use Rattle.backend_questions.proofs.bodies.sum_to.Goals as goal

pub returns : goal.returns
returns c = single_sum c.args.words.now _ refl _ _ c.total_to.ensures
