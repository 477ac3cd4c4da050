use Prim.Native.Nat.{◌+◌}
use Rattle.expression_walk.proofs.+walk.Given as goal

abbrev pub decreases-chain : goal.decreases-chain
decreases-chain g l = l.n + l.n + 1

abbrev pub decreases-items : goal.decreases-items
decreases-items g l = l.n + l.n + 1

abbrev pub decreases-lower : goal.decreases-lower
decreases-lower g l = l.n + l.n

abbrev pub decreases-inner : goal.decreases-inner
decreases-inner g l = l.n + l.n + 1
