use Rattle.preprocessor.proofs.Walks.{First}
use Rattle.preprocessor_permutation.proofs.first_labels.Given as goal

abbrev pub invariant-loop-j : goal.invariant-loop-j
invariant-loop-j l = First l.initial.columns l.at l.count l.columns l.j
