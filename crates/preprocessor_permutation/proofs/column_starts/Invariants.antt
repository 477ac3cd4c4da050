use Rattle.preprocessor.proofs.Walks.{Begun}
use Rattle.preprocessor_permutation.proofs.column_starts.Given as goal

abbrev pub invariant-loop-i : goal.invariant-loop-i
invariant-loop-i l = Begun l.copied l.rows l.at l.starts l.i
