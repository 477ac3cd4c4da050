-- `asked` meets its contract: a yes to 16 tells what the sum requires.
use mathlib.Core.Path.{sym, ap, subst, ◌∙◌}
use mathlib.Core.Bool.{not}
use mathlib.Core.List.{List}
use Prim.Native.Nat.{ℕ}
use Rattle.field.specs.Field.{val}
use Rattle.hyperplonk_spec.specs.RowSum.{row_sum_of, lent_sum}
use Rattle.hyperplonk_prepare.specs.Answer.{IsAnswer}
use Rattle.hyperplonk_row_sum.proofs.Answer.{refused_early, refused_late, answered_sum, passed_on}
use Rattle.hyperplonk_row_sum.proofs.asked.Goals as goal

pub returns-in_err-accepted : goal.returns-in_err-accepted
returns-in_err-accepted c =
    let number = c.in_err-accepted.field-0.0 in
    let no = subst (λ a. IsAnswer c.args.circuit.now a) c.in_err-accepted.was c.new.ensures in
    passed_on c.from_residual.result number c.from_residual.ensures.1
    ∙ refused_early c.args.circuit.now c.args.lent.now.witness.now c.args.lent.now.columns.now c.args.lent.now.nodes.now c.args.lent.now.challenges.now c.args.lent.now.y.now number (sym no.1) no.0

pub returns-then-not-question_16 : goal.returns-then-not-question_16
returns-then-not-question_16 c =
    refused_late c.new-prepared.result.circuit.words.now c.args.lent.now.witness.now c.args.lent.now.columns.now c.args.lent.now.nodes.now c.args.lent.now.challenges.now c.args.lent.now.y.now c.new-prepared.result.circuit.accepted _ c.question_16.ensures (ap not c.if-not-question_16.true)
    ∙ ap (λ (ws : List ℕ). row_sum_of (lent_sum ws c.args.lent.now.witness.now c.args.lent.now.columns.now c.args.lent.now.nodes.now c.args.lent.now.challenges.now c.args.lent.now.y.now)) (c.new-prepared.ensures ∙ c.in_ok-accepted.ensures)

pub sum_rows-sum-requires : goal.sum_rows-sum-requires
sum_rows-sum-requires c = sym c.question_16.ensures ∙ c.if-not-question_16.false

pub returns : goal.returns
returns c =
    answered_sum c.new-prepared.result.circuit.words.now c.args.lent.now.witness.now c.args.lent.now.columns.now c.args.lent.now.nodes.now c.args.lent.now.challenges.now c.args.lent.now.y.now c.new-prepared.result.circuit.accepted (sym c.question_16.ensures ∙ c.if-not-question_16.false) _ (c.from.ensures ∙ ap val c.sum_rows-sum.ensures)
    ∙ ap (λ (ws : List ℕ). row_sum_of (lent_sum ws c.args.lent.now.witness.now c.args.lent.now.columns.now c.args.lent.now.nodes.now c.args.lent.now.challenges.now c.args.lent.now.y.now)) (c.new-prepared.ensures ∙ c.in_ok-accepted.ensures)
