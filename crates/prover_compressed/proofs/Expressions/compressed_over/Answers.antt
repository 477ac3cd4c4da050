-- `compressed_over` meets its contract: a running power and a running sum.
use native.Mathlib.Omega.{arith}
use Rattle.prover.proofs.PowerSums.{sum_start, sum_more, sum_end}
use Rattle.prover_compressed.proofs.Expressions.compressed_over.Goals as goal

pub loop-i-init : goal.loop-i-init
loop-i-init c = (omega arith, sum_start _ _)

pub loop-i-preserved : goal.loop-i-preserved
loop-i-preserved c = (
  omega (arith, c.loop-i-test.true),
  sum_more _ _ _ _ _ _ _ _ _ c.loop-i.invariant.1 c.value_of_root-x.ensures c.mul.ensures c.add-sum.ensures c.mul-power.ensures,
)

pub returns : goal.returns
returns c = sum_end _ _ _ _ _ _ _ _ _ c.loop-i.invariant.1 (omega (arith, c.loop-i-test.false, c.loop-i.invariant.0))
