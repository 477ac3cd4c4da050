use mathlib.Core.Path.{◌∙◌}
use Prim.Native.Nat.{ℕ, ◌+◌}
use native.Mathlib.Nat.{min-eq_left, min-eq_right}
use native.Mathlib.Decide.{dec_lt}
use native.Mathlib.Omega.{arith}
use Rattle.backend.proofs.Degree.{added_none, added_room, added_more, sides_low, sides_high}
use Rattle.lists.proofs.Parts.{total_within}
use Rattle.backend_nodes.proofs.lookups.Lookups.group_degree.Goals as goal

pub side_degree-table-requires : goal.side_degree-table-requires
side_degree-table-requires c = (let q = total_within c.args.self.widths.now c.args.first in let p = c.args.self.all_pairs in let s = c.requires.1.1.1 in omega arith, omega arith)

pub loop-i-init : goal.loop-i-init
loop-i-init c = added_none c.args.self.nodes.now c.args.self.widths.now c.args.self.pairs.now c.args.first c.args.n c.args.start c.requires.1.1.1

pub side_degree-sum-requires : goal.side_degree-sum-requires
side_degree-sum-requires c = (added_room c.args.self.nodes.now c.args.self.widths.now c.args.self.pairs.now c.args.first c.args.n c.args.self.all_pairs c.requires.0 _ _ _ c.loop-i.invariant c.loop-i-test.true, omega arith)

pub overflow_add-next : goal.overflow_add-next
overflow_add-next c = let q = added_room c.args.self.nodes.now c.args.self.widths.now c.args.self.pairs.now c.args.first c.args.n c.args.self.all_pairs c.requires.0 _ _ _ c.loop-i.invariant c.loop-i-test.true in let g = c.side_degree-sum.type_inv in omega arith

pub loop-i-preserved : goal.loop-i-preserved
loop-i-preserved c = added_more c.args.self.nodes.now c.args.self.widths.now c.args.self.pairs.now c.args.first c.args.n c.requires.0 _ _ _ _ c.loop-i.invariant c.loop-i-test.true c.side_degree-sum.ensures

pub returns : goal.returns
returns c =
    let a = c.args in
    let d : ℕ = 1 + c.loop-i.sum + c.side_degree-table.result in
    let low = sides_low a.self.nodes.now a.self.widths.now a.self.pairs.now a.first a.n c.requires.1.0 _ _ _ _ a.start c.loop-i.invariant c.loop-i-test.false c.requires.1.1.1 c.side_degree-table.ensures in
    let high = sides_high a.self.nodes.now a.self.widths.now a.self.pairs.now a.first a.n c.requires.1.0 _ _ _ _ a.start c.loop-i.invariant c.loop-i-test.false c.requires.1.1.1 c.side_degree-table.ensures in
    c.min.ensures ∙ elim (dec_lt d 1025) [ yes l ↦ min-eq_left (omega arith) ∙ low l | no m ↦ min-eq_right (omega arith) ∙ high (omega arith) ]
