use mathlib.Core.Path.{◌≡◌, sym, ap, subst, ◌∙◌}
use Prim.Native.Nat.{◌<◌}
use native.Mathlib.Omega.{arith}
use lib.ListN.{length}
use Rattle.lists.specs.Lists.{All, total}
use Rattle.backend.specs.Circuit.{Section, body_of, group_sizes}
use Rattle.backend.proofs.Answers.{numbers_many, numbers_few}
use Rattle.backend.proofs.Groups.{sizes_total, sizes_some}
use Rattle.backend_questions.proofs.groups.Eighteen.{rule_broken, rule_kept, tables_told}
use Rattle.backend_questions.proofs.groups.question_18.Goals as goal

pub returns-then-not-good : goal.returns-then-not-good
returns-then-not-good c = rule_broken _ _ (rw c.laid.ensures at c.groups-numbers.ensures) _ c.numbers_good-good.ensures (c.if-not-good.true)

pub group_sizes-sizes-requires : goal.group_sizes-sizes-requires
group_sizes-sizes-requires c = (sym c.numbers_good-good.ensures ∙ c.if-not-good.false, let q = ap length (rw c.laid.ensures at c.groups-numbers.ensures) in let r = numbers_few _ c.args.circuit.contents in omega arith)

pub groups_alike-requires : goal.groups_alike-requires
groups_alike-requires c =
    let ws = c.args.circuit.words.now in
    let a = c.args.circuit.contents in
    let g = rw c.laid.ensures at c.groups-numbers.ensures in
    let good = rule_kept ws _ g _ c.numbers_good-good.ensures (c.if-not-good.false) in
    let s : c.as_slice.result.now ≡ group_sizes (body_of ws Section.groups) =
    c.as_slice.ensures.value ∙ c.group_sizes-sizes.ensures.sizes ∙ ap group_sizes g in
    let w : length c.new-lookups.result.widths.now ≡ length (body_of ws Section.widths) = ap length c.new-lookups.ensures.widths in
    (ap total s ∙ sizes_total (body_of ws Section.groups) ∙ numbers_many ws a ∙ sym w, subst (All (λ n. 0 < n)) (sym s) (sizes_some (body_of ws Section.groups) good))

pub returns : goal.returns
returns c =
    let ws = c.args.circuit.words.now in
    let g = rw c.laid.ensures at c.groups-numbers.ensures in
    let kept = rule_kept ws _ g _ c.numbers_good-good.ensures (c.if-not-good.false) in
    tables_told ws _ _ _ _ c.args.circuit.contents kept (c.as_slice.ensures.value ∙ c.group_sizes-sizes.ensures.sizes ∙ ap group_sizes g) c.new-lookups.ensures.nodes c.new-lookups.ensures.widths c.new-lookups.ensures.pairs _ c.groups_alike.ensures
