-- `compressed_from` meets its contract.
use Rattle.hyperplonk_columns.proofs.stages.Stages.{compressed_asks, compressed_written}
use Rattle.hyperplonk_columns.proofs.stages.compressed_from.Goals as goal

pub invariant_of-lent : goal.invariant_of-lent
invariant_of-lent c =
    let q = compressed_asks c.args.circuit.now.words.now c.args.circuit.now.accepted _ _ _ (rw (c.laid-laid.ensures, c.circuit.ensures) at c.nodes-nodes.ensures) (rw (c.laid-laid.ensures, c.circuit.ensures) at c.widths-widths.ensures) (rw (c.laid-laid.ensures, c.circuit.ensures) at c.pairs-pairs.ensures) in
    record { whole = q.0; paired = q.1 }

pub lookup_compressed_polys-requires : goal.lookup_compressed_polys-requires
lookup_compressed_polys-requires c =
    let q = compressed_asks c.args.circuit.now.words.now c.args.circuit.now.accepted _ _ _ (rw (c.laid-laid.ensures, c.circuit.ensures) at c.nodes-nodes.ensures) (rw (c.laid-laid.ensures, c.circuit.ensures) at c.widths-widths.ensures) (rw (c.laid-laid.ensures, c.circuit.ensures) at c.pairs-pairs.ensures) in
    rw q.2 c.requires

pub returns : goal.returns
returns c =
    compressed_written c.args.circuit.now.words.now c.args.circuit.now.accepted _ _ _ _ _ _ _ _ _ _ _ (rw (c.laid-laid.ensures, c.circuit.ensures) at c.nodes-nodes.ensures) (rw (c.laid-laid.ensures, c.circuit.ensures) at c.widths-widths.ensures) (rw (c.laid-laid.ensures, c.circuit.ensures) at c.pairs-pairs.ensures) c.lookup_compressed_polys.ensures
