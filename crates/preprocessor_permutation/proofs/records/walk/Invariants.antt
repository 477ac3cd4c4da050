use Rattle.preprocessor.proofs.Walks.{Along}
use Rattle.preprocessor_permutation.proofs.records.walk.Given as goal

abbrev pub invariant-loop-i : goal.invariant-loop-i
invariant-loop-i g l = Along l.starts (g.C.Cycle.cells l.cycle) l.initial.columns l.initial.label l.columns l.label l.i
