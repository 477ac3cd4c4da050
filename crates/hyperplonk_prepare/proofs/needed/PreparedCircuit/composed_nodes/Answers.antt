-- `composed_nodes` meets its contract: the count is not cut short.
use mathlib.Core.Path.{◌∙◌}
use native.Mathlib.Omega.{arith}
use Rattle.hyperplonk_prepare.proofs.Bound.{composed_most, nodes_exact}
use Rattle.hyperplonk_prepare.proofs.needed.PreparedCircuit.composed_nodes.Goals as goal

pub returns : goal.returns
returns c =
    let e = c.composed_count.ensures ∙ nodes_exact c.args.self.now.circuit.words.now c.args.self.now.circuit.accepted in
    record { nodes = e; few = omega (arith, e, composed_most c.args.self.now.circuit.words.now c.args.self.now.circuit.accepted) }
