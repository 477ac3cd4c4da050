-- Each place has the number of its node's names, and the places passed have 1.
use mathlib.Core.Path.{refl, sym, ap, ◌∙◌}
use mathlib.Core.List.{◌++◌}
use Prim.Native.Nat.{ℕ}
use native.Mathlib.Omega.{arith}
use borrow.Author.Rules.{rules}
use borrow.Author.Tests.{eq-eqb, ne_eqb}
use lib.Dec.{eqb}
use lib.ListN.{get_or}
use Rattle.lists.proofs.Walks.{walk_none, walk_more, walk_fails}
use Rattle.backend.specs.Layout.{node_count, once}
use Rattle.backend_nodes.proofs.layout.Counts.{room_nodes, room_first, room_second, all_counted}
use Rattle.backend_nodes.proofs.layout.named_once.Goals as goal

pub count_nodes-requires : goal.count_nodes-requires
count_nodes-requires c = room_nodes c.args.nodes.now c.args.constraints.now c.args.pairs.now c.requires (((omega arith))) _ refl

pub count_roots-requires : goal.count_roots-requires
count_roots-requires c =
    room_first c.args.nodes.now c.args.constraints.now c.args.pairs.now c.requires (omega arith) _ refl c.count_nodes.new.counts c.count_nodes.ensures

pub count_roots-requires-2 : goal.count_roots-requires-2
count_roots-requires-2 c =
    room_second c.args.nodes.now c.args.constraints.now c.args.pairs.now c.requires (omega arith) _ refl c.count_nodes.new.counts c.count_nodes.ensures c.count_roots.new.counts c.count_roots.ensures

pub loop-n-init : goal.loop-n-init
loop-n-init c =
    let a = c.args in
    walk_none (once a.nodes.now (a.constraints.now ++ a.pairs.now)) (λ i. i) (node_count a.nodes.now)

pub returns-then-counts-n-ne1 : goal.returns-then-counts-n-ne1
returns-then-counts-n-ne1 c =
    let a = c.args in
    walk_fails (once a.nodes.now (a.constraints.now ++ a.pairs.now)) (λ i. i) (node_count a.nodes.now) c.loop-n.n c.loop-n-test.true
    (ap (λ (t : ℕ). eqb t 1) (sym ((all_counted c.args.nodes.now c.args.constraints.now c.args.pairs.now c.requires (omega arith) _ refl c.count_nodes.new.counts c.count_nodes.ensures c.count_roots.new.counts c.count_roots.ensures c.count_roots-2.new.counts c.count_roots-2.ensures) c.loop-n.n ((search rules)))) ∙ ne_eqb (get_or c.count_roots-2.new.counts c.loop-n.n 0) 1 c.if-counts-n-ne1.true)

pub loop-n-preserved : goal.loop-n-preserved
loop-n-preserved c =
    let a = c.args in
    walk_more (once a.nodes.now (a.constraints.now ++ a.pairs.now)) (λ i. i) (node_count a.nodes.now) c.loop-n.n c.loop-n.invariant c.loop-n-test.true
    (ap (λ (t : ℕ). eqb t 1) (sym ((all_counted c.args.nodes.now c.args.constraints.now c.args.pairs.now c.requires (omega arith) _ refl c.count_nodes.new.counts c.count_nodes.ensures c.count_roots.new.counts c.count_roots.ensures c.count_roots-2.new.counts c.count_roots-2.ensures) c.loop-n.n ((search rules)))) ∙ eq-eqb (get_or c.count_roots-2.new.counts c.loop-n.n 0) 1 c.if-counts-n-ne1.false)
