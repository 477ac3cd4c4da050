use mathlib.Core.Path.{◌≡◌, refl, ap, ◌∙◌}
use native.Mathlib.Omega.{arith}
use lib.ListN.{length, take, replicate, length-take}
use lib.Seq.{take_all}
use Rattle.backend.specs.Circuit.{num_groups_in}
use Rattle.backend.proofs.Groups.{sizes_length}
use Rattle.backend_sections.proofs.groups.Sized.{sized_none, number_low, sized_low, sized_more, sized_all}
use Rattle.backend_sections.proofs.groups.group_sizes.Goals as goal

pub loop-number-init : goal.loop-number-init
loop-number-init c = sized_none _ (replicate 8 0) refl

pub offset_bounds-counts-g : goal.offset_bounds-counts-g
offset_bounds-counts-g c = let q = number_low _ c.requires.0 c.requires.1 c.loop-number.number-index c.loop-number-test.true in omega arith

pub bounds-counts-g : goal.bounds-counts-g
bounds-counts-g c = number_low _ c.requires.0 c.requires.1 c.loop-number.number-index c.loop-number-test.true

pub overflow_add-counts : goal.overflow_add-counts
overflow_add-counts c = let q = sized_low _ c.requires.0 c.requires.1 _ _ _ c.loop-number.invariant c.loop-number-test.true in omega arith

pub bounds-counts-g-in-loop-number : goal.bounds-counts-g-in-loop-number
bounds-counts-g-in-loop-number c = number_low _ c.requires.0 c.requires.1 c.loop-number.number-index c.loop-number-test.true

pub overflow_add-g : goal.overflow_add-g
overflow_add-g c = let q = number_low _ c.requires.0 c.requires.1 c.loop-number.number-index c.loop-number-test.true in omega arith

pub loop-number-preserved : goal.loop-number-preserved
loop-number-preserved c = sized_more _ c.requires.0 c.requires.1 _ _ _ c.loop-number.invariant c.loop-number-test.true _ c.max-count.ensures

pub slice_bounds-counts-end : goal.slice_bounds-counts-end
slice_bounds-counts-end c = let s = sized_all _ c.requires.0 c.requires.1 _ _ _ c.loop-number.invariant c.loop-number-test.false in let p = s.0 in let q = s.1 in omega arith

pub slice_bounds-size-items-end : goal.slice_bounds-size-items-end
slice_bounds-size-items-end c = let s = sized_all _ c.requires.0 c.requires.1 _ _ _ c.loop-number.invariant c.loop-number-test.false in let p = s.0 in let q = s.1 in let r = length-take c.loop-number.count c.loop-number.counts in omega arith

pub returns : goal.returns
returns c =
    let s = sized_all _ c.requires.0 c.requires.1 _ _ _ c.loop-number.invariant c.loop-number-test.false in
    let e : c.loop-size.sizes.items ≡ take c.loop-number.count c.loop-number.counts =
    c.loop-size.invariant ∙ take_all c.loop-size.size-index (take c.loop-number.count c.loop-number.counts) c.loop-size-test.false in
    let l : length c.loop-size.sizes.items ≡ num_groups_in c.args.groups.now = ap length (e ∙ s.3) ∙ sizes_length c.args.groups.now in
    let p = s.0 in
    let q = s.2 in
    record {
      sizes = e ∙ s.3;
      count = l;
      few = omega arith;
    }
