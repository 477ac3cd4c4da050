-- The columns passed have their first words.
use borrow.Author.Rules.{rules}
use Rattle.preprocessor.proofs.Walks.{begun_end}
use Rattle.preprocessor_permutation.proofs.column_starts.Goals as goal

pub returns : goal.returns
returns c = begun_end _ _ _ _ _ c.loop-i.invariant (search rules)
