-- `question_16` meets its contract: node words of another length are not those that building writes.
use Rattle.backend.specs.Circuit.{circuit_of}
use Rattle.hyperplonk_row_sum.proofs.Sixteen.{lengths_no, nodes_no, rest_is, nodes_many}
use Rattle.hyperplonk_row_sum.proofs.Lent.question_16.Goals as goal

pub returns-then-not-lengths_right : goal.returns-then-not-lengths_right
returns-then-not-lengths_right c =
    let a = c.args in
    lengths_no (circuit_of a.prepared.now.circuit.words.now) a.self.now.witness.now a.self.now.columns.now a.self.now.nodes.now a.self.now.challenges.now a.self.now.y.now _ c.lengths_right.ensures (mathlib.Core.Path.ap mathlib.Core.Bool.not c.if-not-lengths_right.true)

pub same_nodes-requires : goal.same_nodes-requires
same_nodes-requires c =
    let a = c.args in
    nodes_many (circuit_of a.prepared.now.circuit.words.now) a.self.now.witness.now a.self.now.columns.now a.self.now.nodes.now a.self.now.challenges.now a.self.now.y.now _ c.lengths_right.ensures (mathlib.Core.Path.ap mathlib.Core.Bool.not c.if-not-lengths_right.false)

pub returns-then-not-same_nodes : goal.returns-then-not-same_nodes
returns-then-not-same_nodes c =
    let a = c.args in
    nodes_no (circuit_of a.prepared.now.circuit.words.now) a.self.now.witness.now a.self.now.columns.now a.self.now.nodes.now a.self.now.challenges.now a.self.now.y.now _ c.same_nodes.ensures (mathlib.Core.Path.ap mathlib.Core.Bool.not c.if-not-same_nodes.true)

pub returns : goal.returns
returns c =
    let a = c.args in
    rest_is (circuit_of a.prepared.now.circuit.words.now) a.self.now.witness.now a.self.now.columns.now a.self.now.nodes.now a.self.now.challenges.now a.self.now.y.now _ _ _ c.lengths_right.ensures (mathlib.Core.Path.ap mathlib.Core.Bool.not c.if-not-lengths_right.false) c.same_nodes.ensures
    (mathlib.Core.Path.ap mathlib.Core.Bool.not c.if-not-same_nodes.false)
    c.values_small.ensures
