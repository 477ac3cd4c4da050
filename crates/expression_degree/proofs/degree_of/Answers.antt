use mathlib.Core.Path.{◌∙◌}
use Rattle.expression.proofs.Folds.{capped}
use Rattle.expression_degree.proofs.degree_of.Goals as goal

pub returns : goal.returns
returns c = c.node.ensures ∙ capped _
