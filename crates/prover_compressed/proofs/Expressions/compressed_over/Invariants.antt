use Prim.Native.Nat.{◌≤◌}
use Rattle.field.specs.Element.{elem}
use Rattle.expression_evaluate.specs.Environment.{environment}
use Rattle.prover.proofs.PowerSums.{Summed, root_value}
use Rattle.prover_compressed.proofs.Expressions.compressed_over.Given as goal

abbrev pub invariant-loop-i : goal.invariant-loop-i
invariant-loop-i l = (l.i ≤ l.self.roots.width)
    × Summed (elem l.beta)
    (root_value (environment l.over) (elem l.beta) l.self.nodes.now l.self.pairs.now l.self.roots l.over.point.row)
    (elem l.sum)
    (elem l.power)
    l.i
