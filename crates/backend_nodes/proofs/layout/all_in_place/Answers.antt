use mathlib.Core.Path.{sym, ◌∙◌}
use Rattle.lists.proofs.Walks.{walk_none, walk_more, walk_fails}
use Rattle.backend.specs.Layout.{node_count, in_place}
use Rattle.backend_nodes.proofs.layout.all_in_place.Goals as goal

pub loop-n-init : goal.loop-n-init
loop-n-init c = let a = c.args in walk_none (in_place a.nodes.now) (λ i. i) (node_count a.nodes.now)

pub returns-then-not-in_place : goal.returns-then-not-in_place
returns-then-not-in_place c =
    let a = c.args in
    walk_fails (in_place a.nodes.now) (λ i. i) (node_count a.nodes.now) c.loop-n.n c.loop-n-test.true (sym c.in_place.ensures ∙ c.if-not-in_place.true)

pub loop-n-preserved : goal.loop-n-preserved
loop-n-preserved c =
    let a = c.args in
    walk_more (in_place a.nodes.now) (λ i. i) (node_count a.nodes.now) c.loop-n.n c.loop-n.invariant c.loop-n-test.true
    (sym c.in_place.ensures ∙ c.if-not-in_place.false)
