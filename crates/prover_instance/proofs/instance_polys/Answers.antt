-- `instance_polys` meets its contract: after i turns the columns of the first i lengths stand at the front.
use mathlib.Core.Path.{◌≡◌, refl, sym, ap, ap₂, ◌∙◌}
use mathlib.Core.List.{List}
use Prim.Native.Nat.{ℕ, ◌+◌, ◌-◌, ◌*◌, ◌^◌}
use native.Mathlib.Nat.{zero-mul, suc-mul}
use native.Mathlib.Numerals.{add-one}
use native.Mathlib.Omega.{arith}
use lib.ListN.{length, get_or, take}
use Rattle.lists.specs.Lists.{total}
use Rattle.prover.proofs.Instance.{instance_start, instance_more, words_there}
use Rattle.lists.proofs.Parts.{total_more, part_there}
use Rattle.prover_instance.proofs.instance_polys.Goals as goal

none : (ns : List ℕ) → 0 ≡ total (take 0 ns)
unfolding total
none ns = refl

pub loop-count-init : goal.loop-count-init
loop-count-init c =
    let s = c.args in
    (none s.lengths.now, sym (zero-mul (2 ^ s.k)), instance_start s.k s.instance.now s.columns.now)

pub overflow_add-end : goal.overflow_add-end
overflow_add-end c = omega (arith, part_there c.args.lengths.now c.loop-count.count-index c.loop-count-test.true c.loop-count.from (length c.args.instance.now) c.loop-count.invariant.0 (omega (arith, c.requires.3)))

pub offset_bounds-instance-from : goal.offset_bounds-instance-from
offset_bounds-instance-from c = omega (arith, part_there c.args.lengths.now c.loop-count.count-index c.loop-count-test.true c.loop-count.from (length c.args.instance.now) c.loop-count.invariant.0 (omega (arith, c.requires.3)))

pub slice_bounds-instance_column-end : goal.slice_bounds-instance_column-end
slice_bounds-instance_column-end c = part_there c.args.lengths.now c.loop-count.count-index c.loop-count-test.true c.loop-count.from (length c.args.instance.now) c.loop-count.invariant.0 (omega (arith, c.requires.3))

pub loop-count-preserved : goal.loop-count-preserved
loop-count-preserved c =
    let a = c.args in
    let l = c.loop-count in
    let lt = c.loop-count-test.true in
    let count : ℕ = get_or a.lengths.now l.count-index 0 in
    let part : l.from + count - l.from ≡ count = omega arith in (
      ap (λ (x : ℕ). x + count) l.invariant.0 ∙ total_more a.lengths.now l.count-index lt,
      ap₂ ◌+◌ l.invariant.1 c.rows_of-rows.ensures ∙ sym (suc-mul l.count-index (2 ^ a.k)) ∙ ap (λ (x : ℕ). x * 2 ^ a.k) (sym (add-one l.count-index)),
      instance_more a.k a.lengths.now a.instance.now l.count-index lt a.columns.now l.columns _ l.from l.at l.invariant.0 l.invariant.1
          (omega (arith, words_there l.count-index _ _ l.at _ lt l.invariant.1 c.requires.4)) l.invariant.2 (rw part at c.instance_column.ensures),
    )
