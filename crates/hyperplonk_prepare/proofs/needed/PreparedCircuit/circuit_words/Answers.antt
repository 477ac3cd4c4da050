-- `circuit_words` meets its contract.
use Rattle.hyperplonk_prepare.proofs.Computed.{words_from, decoded_from}
use Rattle.hyperplonk_prepare.proofs.needed.PreparedCircuit.circuit_words.Goals as goal

pub invariant_of-result : goal.invariant_of-result
invariant_of-result c =
    record {
      fits = words_from c.args.self.now.circuit.words.now c.args.self.now.circuit.accepted _ _ _ _ _ (rw (c.laid-laid.ensures, c.circuit.ensures) at c.nodes-user.ensures) (rw (c.laid-laid.ensures, c.circuit.ensures) at c.constraints-roots.ensures)
          c.group_sizes-sizes.ensures (rw (c.laid-laid.ensures, c.circuit.ensures) at c.widths-widths.ensures) (rw (c.laid-laid.ensures, c.circuit.ensures) at c.pairs-pairs.ensures) _ c.args.self.now.params_are;
    }

pub returns : goal.returns
returns c =
    decoded_from c.args.self.now.circuit.words.now c.args.self.now.circuit.accepted _ _ _ _ _ (rw (c.laid-laid.ensures, c.circuit.ensures) at c.nodes-user.ensures) (rw (c.laid-laid.ensures, c.circuit.ensures) at c.constraints-roots.ensures)
    c.group_sizes-sizes.ensures (rw (c.laid-laid.ensures, c.circuit.ensures) at c.widths-widths.ensures) (rw (c.laid-laid.ensures, c.circuit.ensures) at c.pairs-pairs.ensures) _ c.args.self.now.params_are
