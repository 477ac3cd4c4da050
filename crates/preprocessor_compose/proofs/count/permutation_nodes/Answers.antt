use Rattle.preprocessor.proofs.Counts as counts
use mathlib.Core.Path.{sym}
use Rattle.preprocessor_compose.proofs.count.permutation_nodes.Goals as goal

pub returns-then-params-eq0 : goal.returns-then-params-eq0
returns-then-params-eq0 c = sym (counts.permutation_none c.args.numbers.params c.if-params-eq0.true)

pub returns : goal.returns
returns c = sym (counts.permutation_some c.args.numbers.params c.if-params-eq0.false)
