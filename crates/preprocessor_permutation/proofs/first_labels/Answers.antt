-- The first j words are 0, 1, …, j - 1.
use native.Mathlib.Omega.{arith}
use Rattle.preprocessor.proofs.Walks.{first_start, first_next}
use Rattle.preprocessor_permutation.proofs.first_labels.Goals as goal

pub loop-j-init : goal.loop-j-init
loop-j-init c = first_start _ _ _

pub loop-j-preserved : goal.loop-j-preserved
loop-j-preserved c = first_next _ _ _ _ _ c.requires c.loop-j.invariant (omega arith)
