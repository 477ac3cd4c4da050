use mathlib.Core.Path.{sym, ◌∙◌}
use Rattle.lists.proofs.Walks.{walk_none, walk_more, walk_done, walk_fails}
use Rattle.backend.specs.Layout.{node_count, by_words, in_range, nodes_in_range}
use Rattle.backend_nodes.proofs.layout.nodes_in_range.Goals as goal

pub loop-n-init : goal.loop-n-init
loop-n-init c = let a = c.args in walk_none (by_words (in_range a.polys a.user a.k) a.nodes.now) (λ i. i) (node_count a.nodes.now)

pub returns-then-not-in_range : goal.returns-then-not-in_range
unfolding nodes_in_range
returns-then-not-in_range c =
    let a = c.args in
    walk_fails (by_words (in_range a.polys a.user a.k) a.nodes.now) (λ i. i) (node_count a.nodes.now) c.loop-n.n c.loop-n-test.true (sym c.in_range.ensures ∙ c.if-not-in_range.true)

pub loop-n-preserved : goal.loop-n-preserved
loop-n-preserved c =
    let a = c.args in
    walk_more (by_words (in_range a.polys a.user a.k) a.nodes.now) (λ i. i) (node_count a.nodes.now) c.loop-n.n c.loop-n.invariant c.loop-n-test.true
    (sym c.in_range.ensures ∙ c.if-not-in_range.false)

pub returns : goal.returns
unfolding nodes_in_range
returns c =
    let a = c.args in
    walk_done (by_words (in_range a.polys a.user a.k) a.nodes.now) (λ i. i) (node_count a.nodes.now) c.loop-n.n c.loop-n.invariant c.loop-n-test.false
