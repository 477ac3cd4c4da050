use Rattle.preprocessor.proofs.Walks.{Turning}
use Rattle.preprocessor_permutation.proofs.permutation_polys.Given as goal

abbrev pub invariant-loop-count : goal.invariant-loop-count
invariant-loop-count l = Turning l.rows l.copied l.lengths l.cells l.initial.columns l.at l.columns l.start l.count-index
