use mathlib.Core.Path.{refl, subst}
use Prim.Native.Nat.{ℕ, ◌<◌}
use native.Mathlib.Omega.{arith}
use Rattle.lists.proofs.All.{all_get}
use Rattle.backend.proofs.Degree.{Grouped, grouped_none, grouped_fits, grouped_more, grouped_all}
use Rattle.backend_nodes.proofs.lookups.Lookups.groups_degree.Goals as goal

pub loop-j-init : goal.loop-j-init
loop-j-init c =
    let a = c.args in
    let g = grouped_none a.self.nodes.now a.self.widths.now a.self.pairs.now a.sizes.now in
    subst (λ (s : ℕ). Grouped a.self.nodes.now a.self.widths.now a.self.pairs.now a.sizes.now 0 0 s 0) g.start_is g

pub group_degree-requires : goal.group_degree-requires
group_degree-requires c = (grouped_fits c.args.self.nodes.now c.args.self.widths.now c.args.self.pairs.now c.args.sizes.now c.args.self.all_pairs c.requires.0 _ _ _ _ c.loop-j.invariant, (all_get (λ n. 0 < n) c.args.sizes.now c.requires.1.1 c.loop-j.j 0 c.loop-j-test.true, (let q = grouped_fits c.args.self.nodes.now c.args.self.widths.now c.args.self.pairs.now c.args.sizes.now c.args.self.all_pairs c.requires.0 _ _ _ _ c.loop-j.invariant in let w = c.requires.1.0 in omega arith, c.sum_before-start.ensures)))

pub sum_before-start-requires : goal.sum_before-start-requires
sum_before-start-requires c = let q = grouped_fits c.args.self.nodes.now c.args.self.widths.now c.args.self.pairs.now c.args.sizes.now c.args.self.all_pairs c.requires.0 _ _ _ _ c.loop-j.invariant in let p = c.args.self.all_pairs in let g = c.type_inv in (omega arith, omega arith)

pub overflow_add-first : goal.overflow_add-first
overflow_add-first c = let q = grouped_fits c.args.self.nodes.now c.args.self.widths.now c.args.self.pairs.now c.args.sizes.now c.args.self.all_pairs c.requires.0 _ _ _ _ c.loop-j.invariant in let w = c.requires.1.0 in omega arith

pub loop-j-preserved : goal.loop-j-preserved
loop-j-preserved c = grouped_more c.args.self.nodes.now c.args.self.widths.now c.args.self.pairs.now c.args.sizes.now _ _ _ _ _ _ _ c.loop-j.invariant c.loop-j-test.true c.group_degree.ensures c.max-degree.ensures refl

pub returns : goal.returns
returns c = grouped_all c.args.self.nodes.now c.args.self.widths.now c.args.self.pairs.now c.args.sizes.now c.args.self.all_pairs c.requires.0 _ _ _ _ c.loop-j.invariant c.loop-j-test.false
