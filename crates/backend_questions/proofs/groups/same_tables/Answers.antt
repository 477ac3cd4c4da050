use mathlib.Core.Path.{sym, ◌∙◌}
use native.Mathlib.Omega.{arith}
use Rattle.lists.proofs.Walks.{walk_none, walk_more, walk_done, walk_fails}
use Rattle.backend.proofs.Degree.{root_in}
use Rattle.backend.proofs.Alike.{tables_same, tables_unlike, place_fits, same_at}
use Rattle.backend_questions.proofs.groups.same_tables.Goals as goal

pub returns-then-width-other : goal.returns-then-width-other
returns-then-width-other c = tables_unlike c.args.lookups.nodes.now c.args.lookups.widths.now c.args.lookups.pairs.now c.args.i c.args.f c.if-width-other.true

pub loop-t-init : goal.loop-t-init
loop-t-init c = walk_none _ _ _

pub overflow_add-a : goal.overflow_add-a
overflow_add-a c = let q = place_fits c.args.lookups.nodes.now c.args.lookups.widths.now c.args.lookups.pairs.now c.args.lookups.all_pairs c.args.i c.loop-t.t _ c.sum_before-first.ensures c.loop-t-test.true in let g = c.well_formed in omega arith

pub overflow_mul-a : goal.overflow_mul-a
overflow_mul-a c = let q = place_fits c.args.lookups.nodes.now c.args.lookups.widths.now c.args.lookups.pairs.now c.args.lookups.all_pairs c.args.i c.loop-t.t _ c.sum_before-first.ensures c.loop-t-test.true in let g = c.well_formed in omega arith

pub overflow_add-a-in-loop-t : goal.overflow_add-a-in-loop-t
overflow_add-a-in-loop-t c = let q = place_fits c.args.lookups.nodes.now c.args.lookups.widths.now c.args.lookups.pairs.now c.args.lookups.all_pairs c.args.i c.loop-t.t _ c.sum_before-first.ensures c.loop-t-test.true in let g = c.well_formed in omega arith

pub offset_bounds-lookups-first : goal.offset_bounds-lookups-first
offset_bounds-lookups-first c = let q = place_fits c.args.lookups.nodes.now c.args.lookups.widths.now c.args.lookups.pairs.now c.args.lookups.all_pairs c.args.i c.loop-t.t _ c.sum_before-first.ensures c.loop-t-test.true in let g = c.well_formed in omega arith

pub bounds-lookups-first : goal.bounds-lookups-first
bounds-lookups-first c = place_fits c.args.lookups.nodes.now c.args.lookups.widths.now c.args.lookups.pairs.now c.args.lookups.all_pairs c.args.i c.loop-t.t _ c.sum_before-first.ensures c.loop-t-test.true

pub overflow_add-b : goal.overflow_add-b
overflow_add-b c = let q = place_fits c.args.lookups.nodes.now c.args.lookups.widths.now c.args.lookups.pairs.now c.args.lookups.all_pairs c.args.f c.loop-t.t _ c.sum_before-second.ensures (let l = c.loop-t-test.true in let e = c.if-width-other.false in omega arith) in let g = c.well_formed in omega arith

pub overflow_mul-b : goal.overflow_mul-b
overflow_mul-b c = let q = place_fits c.args.lookups.nodes.now c.args.lookups.widths.now c.args.lookups.pairs.now c.args.lookups.all_pairs c.args.f c.loop-t.t _ c.sum_before-second.ensures (let l = c.loop-t-test.true in let e = c.if-width-other.false in omega arith) in let g = c.well_formed in omega arith

pub overflow_add-b-in-loop-t : goal.overflow_add-b-in-loop-t
overflow_add-b-in-loop-t c = let q = place_fits c.args.lookups.nodes.now c.args.lookups.widths.now c.args.lookups.pairs.now c.args.lookups.all_pairs c.args.f c.loop-t.t _ c.sum_before-second.ensures (let l = c.loop-t-test.true in let e = c.if-width-other.false in omega arith) in let g = c.well_formed in omega arith

pub offset_bounds-lookups-second : goal.offset_bounds-lookups-second
offset_bounds-lookups-second c = let q = place_fits c.args.lookups.nodes.now c.args.lookups.widths.now c.args.lookups.pairs.now c.args.lookups.all_pairs c.args.f c.loop-t.t _ c.sum_before-second.ensures (let l = c.loop-t-test.true in let e = c.if-width-other.false in omega arith) in let g = c.well_formed in omega arith

pub bounds-lookups-second : goal.bounds-lookups-second
bounds-lookups-second c = place_fits c.args.lookups.nodes.now c.args.lookups.widths.now c.args.lookups.pairs.now c.args.lookups.all_pairs c.args.f c.loop-t.t _ c.sum_before-second.ensures (let l = c.loop-t-test.true in let e = c.if-width-other.false in omega arith)

pub same_tree-requires : goal.same_tree-requires
same_tree-requires c = (root_in c.args.lookups.nodes.now c.args.lookups.pairs.now c.args.lookups.roots _ (place_fits c.args.lookups.nodes.now c.args.lookups.widths.now c.args.lookups.pairs.now c.args.lookups.all_pairs c.args.i c.loop-t.t _ c.sum_before-first.ensures c.loop-t-test.true), root_in c.args.lookups.nodes.now c.args.lookups.pairs.now c.args.lookups.roots _ (place_fits c.args.lookups.nodes.now c.args.lookups.widths.now c.args.lookups.pairs.now c.args.lookups.all_pairs c.args.f c.loop-t.t _ c.sum_before-second.ensures (let l = c.loop-t-test.true in let e = c.if-width-other.false in omega arith)))

pub returns-then-not-same_tree : goal.returns-then-not-same_tree
returns-then-not-same_tree c = walk_fails _ _ _ _ c.loop-t-test.true (sym (same_at c.args.lookups.nodes.now c.args.lookups.widths.now c.args.lookups.pairs.now c.args.i c.args.f c.loop-t.t _ _ _ c.sum_before-first.ensures c.sum_before-second.ensures c.same_tree.ensures) ∙ c.if-not-same_tree.true) ∙ tables_same c.args.lookups.nodes.now c.args.lookups.widths.now c.args.lookups.pairs.now c.args.i c.args.f c.if-width-other.false

pub loop-t-preserved : goal.loop-t-preserved
loop-t-preserved c = walk_more _ _ _ _ c.loop-t.invariant c.loop-t-test.true (sym (same_at c.args.lookups.nodes.now c.args.lookups.widths.now c.args.lookups.pairs.now c.args.i c.args.f c.loop-t.t _ _ _ c.sum_before-first.ensures c.sum_before-second.ensures c.same_tree.ensures) ∙ c.if-not-same_tree.false)

pub returns : goal.returns
returns c = walk_done _ _ _ _ c.loop-t.invariant c.loop-t-test.false ∙ tables_same c.args.lookups.nodes.now c.args.lookups.widths.now c.args.lookups.pairs.now c.args.i c.args.f c.if-width-other.false
