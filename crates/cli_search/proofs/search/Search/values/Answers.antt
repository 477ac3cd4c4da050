-- `values` reads the pairs of a lookup of an accepted circuit, whose roots are nodes.
use Rattle.std.proofs.Common.{arith}
use Rattle.cli_search.proofs.Asked.{pairs_asks}
use Rattle.cli_search.proofs.search.Search.values.Goals as goal

pub sum_before-first-requires : goal.sum_before-first-requires
sum_before-first-requires c =
    let q = pairs_asks c.args.self.now c.args.lookup c.requires.0 _ _ _ (rw (c.laid-laid.ensures, c.circuit.ensures) at c.nodes-nodes.ensures) (rw (c.laid-laid.ensures, c.circuit.ensures) at c.widths-widths.ensures) (rw (c.laid-laid.ensures, c.circuit.ensures) at c.pairs-pairs.ensures) in
    (omega arith, omega arith)

pub bounds-widths-lookup : goal.bounds-widths-lookup
bounds-widths-lookup c =
    let q = pairs_asks c.args.self.now c.args.lookup c.requires.0 _ _ _ (rw (c.laid-laid.ensures, c.circuit.ensures) at c.nodes-nodes.ensures) (rw (c.laid-laid.ensures, c.circuit.ensures) at c.widths-widths.ensures) (rw (c.laid-laid.ensures, c.circuit.ensures) at c.pairs-pairs.ensures) in
    omega arith

pub overflow_add-i-end : goal.overflow_add-i-end
overflow_add-i-end c =
    let q = pairs_asks c.args.self.now c.args.lookup c.requires.0 _ _ _ (rw (c.laid-laid.ensures, c.circuit.ensures) at c.nodes-nodes.ensures) (rw (c.laid-laid.ensures, c.circuit.ensures) at c.widths-widths.ensures) (rw (c.laid-laid.ensures, c.circuit.ensures) at c.pairs-pairs.ensures) in
    omega arith

pub overflow_mul-i : goal.overflow_mul-i
overflow_mul-i c =
    let q = pairs_asks c.args.self.now c.args.lookup c.requires.0 _ _ _ (rw (c.laid-laid.ensures, c.circuit.ensures) at c.nodes-nodes.ensures) (rw (c.laid-laid.ensures, c.circuit.ensures) at c.widths-widths.ensures) (rw (c.laid-laid.ensures, c.circuit.ensures) at c.pairs-pairs.ensures) in
    omega arith

pub offset_bounds-pairs-i : goal.offset_bounds-pairs-i
offset_bounds-pairs-i c =
    let q = pairs_asks c.args.self.now c.args.lookup c.requires.0 _ _ _ (rw (c.laid-laid.ensures, c.circuit.ensures) at c.nodes-nodes.ensures) (rw (c.laid-laid.ensures, c.circuit.ensures) at c.widths-widths.ensures) (rw (c.laid-laid.ensures, c.circuit.ensures) at c.pairs-pairs.ensures) in
    omega arith

pub bounds-pairs-i : goal.bounds-pairs-i
bounds-pairs-i c =
    let q = pairs_asks c.args.self.now c.args.lookup c.requires.0 _ _ _ (rw (c.laid-laid.ensures, c.circuit.ensures) at c.nodes-nodes.ensures) (rw (c.laid-laid.ensures, c.circuit.ensures) at c.widths-widths.ensures) (rw (c.laid-laid.ensures, c.circuit.ensures) at c.pairs-pairs.ensures) in
    omega arith

pub value-value-requires : goal.value-value-requires
value-value-requires c =
    let q = pairs_asks c.args.self.now c.args.lookup c.requires.0 _ _ _ (rw (c.laid-laid.ensures, c.circuit.ensures) at c.nodes-nodes.ensures) (rw (c.laid-laid.ensures, c.circuit.ensures) at c.widths-widths.ensures) (rw (c.laid-laid.ensures, c.circuit.ensures) at c.pairs-pairs.ensures) in
    q.4 _ (omega arith)

pub push-requires : goal.push-requires
push-requires c =
    let q = pairs_asks c.args.self.now c.args.lookup c.requires.0 _ _ _ (rw (c.laid-laid.ensures, c.circuit.ensures) at c.nodes-nodes.ensures) (rw (c.laid-laid.ensures, c.circuit.ensures) at c.widths-widths.ensures) (rw (c.laid-laid.ensures, c.circuit.ensures) at c.pairs-pairs.ensures) in
    omega arith
