-- `count_inputs` meets its contract: the search from the last row down finds the last equal row, and each input found is counted.
use mathlib.Core.Path.{◌≡◌, refl, sym, ◌∙◌}
use Prim.Native.Nat.{◌-◌}
use native.Mathlib.Omega.{arith}
use lib.ListN.{get_or}
use Rattle.field.specs.Field.{𝔾}
use Rattle.prover.proofs.Search.{found_row, row_below, search_miss, search_hit, search_none}
use Rattle.prover.proofs.Answers.{found_at, found_nothing}
use Rattle.prover_lookup.proofs.m.Added.{added_start, added_le, added_more, added_cleared, added_true, added_false}
use Rattle.prover_lookup.proofs.m.count_inputs.Goals as goal
use Rattle.prover_lookup.proofs.m.count_inputs.Goals.{then-loop-j-test+then-table-j, else-loop-j-test}

pub loop-i-init : goal.loop-i-init
loop-i-init c = added_start _ _ _ c.requires.2

pub loop-j-init : goal.loop-j-init
loop-j-init c = refl

pub loop-j-preserved : goal.loop-j-preserved
loop-j-preserved c =
    search_miss _ _ _ _ c.loop-j.invariant c.loop-j-test.true (c.requires.4 (c.loop-j.j - 1) (omega arith)) (c.requires.3 c.loop-i.i c.loop-i-test.true)
    c.if-table-j.false

pub returns-in_default : goal.returns-in_default
returns-in_default c =
    let left = c.loop-j.invariant in
    let answer : c.loop-j-test.found ≡ found_row (λ r. get_or c.args.table.now r 0) (get_or c.args.input.now c.loop-i.i 0) c.args.rows =
    elim c.loop-j-test.branch [
      | then-loop-j-test+then-table-j w ↦ search_hit _ _ _ _ left w.loop-j-test.true w.if-table-j.true _ w.found-is
      | else-loop-j-test w ↦ search_none _ _ _ _ left w.loop-j-test.false _ w.found-is
    ] in
    added_false _ _ _ _ _ c.loop-i.i c.loop-i-test.true (found_nothing 𝔾 _ _ _ (sym answer ∙ c.in_default.is))
    (added_cleared _ _ _ c.requires.2 _ _ c.loop-i.invariant _ c.clear.ensures)

pub overflow_add-m : goal.overflow_add-m
overflow_add-m c =
    let left = c.loop-j.invariant in
    let answer : c.loop-j-test.found ≡ found_row (λ r. get_or c.args.table.now r 0) (get_or c.args.input.now c.loop-i.i 0) c.args.rows =
    elim c.loop-j-test.branch [
      | then-loop-j-test+then-table-j w ↦ search_hit _ _ _ _ left w.loop-j-test.true w.if-table-j.true _ w.found-is
      | else-loop-j-test w ↦ search_none _ _ _ _ left w.loop-j-test.false _ w.found-is
    ] in
    let at = found_at 𝔾 _ _ _ _ (sym answer ∙ c.in-Some.is) in
    let below = row_below _ _ _ _ at in
    omega (arith, added_le _ _ _ c.requires.2 _ _ c.loop-i.invariant _ below, c.requires.5 _ below)

pub loop-i-preserved : goal.loop-i-preserved
loop-i-preserved c =
    let left = c.loop-j.invariant in
    let answer : c.loop-j-test.found ≡ found_row (λ r. get_or c.args.table.now r 0) (get_or c.args.input.now c.loop-i.i 0) c.args.rows =
    elim c.loop-j-test.branch [
      | then-loop-j-test+then-table-j w ↦ search_hit _ _ _ _ left w.loop-j-test.true w.if-table-j.true _ w.found-is
      | else-loop-j-test w ↦ search_none _ _ _ _ left w.loop-j-test.false _ w.found-is
    ] in
    let at = found_at 𝔾 _ _ _ _ (sym answer ∙ c.in-Some.is) in
    added_more _ _ _ c.requires.2 _ _ c.loop-i.invariant _ (row_below _ _ _ _ at) c.loop-i-test.true at

pub returns : goal.returns
returns c = added_true _ _ _ _ _ _ c.loop-i.invariant c.loop-i-test.false
