-- `poly_at` meets its contract, by where the polynomial stands.
use Rattle.expression.proofs.Reader.{reads_instance, reads_preprocess, reads_witness, reads_permutation, reads_rest, reads_none}
use Rattle.expression_nodes.proofs.poly.poly_at.Goals as goal

pub returns-then-at-instances : goal.returns-then-at-instances
returns-then-at-instances c =
    let a = c.args in
    reads_instance a.layout.now a.circuit.now a.witness.now a.columns.now a.row a.q c.cell.result c.if-at-instances.true c.cell.ensures

pub returns-then-at1-preprocess : goal.returns-then-at1-preprocess
returns-then-at1-preprocess c =
    let a = c.args in
    reads_preprocess a.layout.now a.circuit.now a.witness.now a.columns.now a.row a.q c.cell-then-at1-preprocess.result c.if-at-instances.false c.if-at1-preprocess.true c.cell-then-at1-preprocess.ensures

pub returns-then-at2-witnesses : goal.returns-then-at2-witnesses
returns-then-at2-witnesses c =
    let a = c.args in
    reads_witness a.layout.now a.circuit.now a.witness.now a.columns.now a.row a.q c.cell-then-at2-witnesses.result c.if-at-instances.false c.if-at1-preprocess.false c.if-at2-witnesses.true c.cell-then-at2-witnesses.ensures

pub returns-then-at3-permutations : goal.returns-then-at3-permutations
returns-then-at3-permutations c =
    let a = c.args in
    reads_permutation a.layout.now a.circuit.now a.witness.now a.columns.now a.row a.q c.cell-then-at3-permutations.result c.if-at-instances.false c.if-at1-preprocess.false c.if-at2-witnesses.false c.if-at3-permutations.true c.cell-then-at3-permutations.ensures

pub returns-then-at4-rest : goal.returns-then-at4-rest
returns-then-at4-rest c =
    let a = c.args in
    reads_rest a.layout.now a.circuit.now a.witness.now a.columns.now a.row a.q c.cell-then-at4-rest.result c.if-at-instances.false c.if-at1-preprocess.false c.if-at2-witnesses.false c.if-at3-permutations.false c.if-at4-rest.true c.cell-then-at4-rest.ensures

pub returns : goal.returns
returns c =
    let a = c.args in
    reads_none a.layout.now a.circuit.now a.witness.now a.columns.now a.row a.q 0 c.if-at-instances.false c.if-at1-preprocess.false c.if-at2-witnesses.false c.if-at3-permutations.false c.if-at4-rest.false
