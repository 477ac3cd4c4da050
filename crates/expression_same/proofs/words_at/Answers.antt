use mathlib.Core.Path.{◌∙◌}
use Rattle.expression.specs.Read.{node_at}
use Rattle.expression_same.specs.Places.{no_node}
use Rattle.expression_same.proofs.Ways.{at_none, at_node}
use Rattle.expression_same.proofs.words_at.Goals as goal

pub returns-then-p-eq0 : goal.returns-then-p-eq0
returns-then-p-eq0 c =
    let a = c.args in
    at_none no_node (node_at a.ws.now) a.p c.if-p-eq0.true

pub returns : goal.returns
returns c =
    let a = c.args in
    c.read_node.ensures ∙ at_node no_node (node_at a.ws.now) a.p c.if-p-eq0.false
