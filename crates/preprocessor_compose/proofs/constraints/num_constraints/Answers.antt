use Rattle.preprocessor.proofs.ComposeWords as trees
use mathlib.Core.Path.{sym}
use Rattle.preprocessor_compose.proofs.constraints.num_constraints.Goals as goal

pub returns-then-params-eq0 : goal.returns-then-params-eq0
returns-then-params-eq0 c =
    sym (trees.num_none c.args.own c.args.numbers.params c.if-params-eq0.true)

pub returns : goal.returns
returns c =
    sym (trees.num_some c.args.own c.args.numbers.params c.if-params-eq0.false)
