-- `asked` meets its contract: the first no gives its number.
use mathlib.Core.Path.{refl, sym, ap, subst, ◌∙◌}
use mathlib.Core.List.{List}
use Prim.Native.Nat.{ℕ}
use Rattle.backend.specs.Circuit.{circuit_of}
use Rattle.hyperplonk_spec.specs.Build.{log_of, q14, build_log, build_of, lent_build}
use Rattle.hyperplonk_prepare.specs.Answer.{IsAnswer}
use Rattle.hyperplonk_prepare.proofs.Asked.{circuit_refused, no_none}
use Rattle.hyperplonk_build.proofs.Built.{refuses, refused_12, refused_13, refused_14, checked, passed_on}
use Rattle.hyperplonk_build.proofs.asked.Goals as goal

pub returns-in_err-accepted : goal.returns-in_err-accepted
returns-in_err-accepted c =
    let number = c.in_err-accepted.field-0.0 in
    let no = subst (λ a. IsAnswer c.args.circuit.now a) c.in_err-accepted.was c.new.ensures in
    refuses c.args.circuit.now c.args.inputs.instance.now c.args.inputs.witness.now c.args.inputs.challenges.now c.args.columns.now c.args.nodes.now _ number (passed_on c.from_residual.result _ c.from_residual.ensures.1) no.0
    (circuit_refused c.args.circuit.now c.args.inputs.instance.now c.args.inputs.witness.now c.args.inputs.challenges.now c.args.columns.now c.args.nodes.now number (sym no.1) no.0)

pub returns-then-not-question_12 : goal.returns-then-not-question_12
returns-then-not-question_12 c =
    refused_12 c.in_ok-accepted.accepted.words.now c.args.inputs.instance.now c.args.inputs.witness.now c.args.inputs.challenges.now c.args.columns.now c.args.nodes.now c.in_ok-accepted.accepted.accepted (sym c.question_12.ensures ∙ c.if-not-question_12.true)
    ∙ ap (λ (ws : List ℕ). build_of (lent_build ws c.args.inputs.instance.now c.args.inputs.witness.now c.args.inputs.challenges.now c.args.columns.now c.args.nodes.now)) c.in_ok-accepted.ensures

pub returns-then-not-question_13 : goal.returns-then-not-question_13
returns-then-not-question_13 c =
    refused_13 c.in_ok-accepted.accepted.words.now c.args.inputs.instance.now c.args.inputs.witness.now c.args.inputs.challenges.now c.args.columns.now c.args.nodes.now c.in_ok-accepted.accepted.accepted (sym c.question_12.ensures ∙ c.if-not-question_12.false) (sym c.question_13.ensures ∙ c.if-not-question_13.true)
    ∙ ap (λ (ws : List ℕ). build_of (lent_build ws c.args.inputs.instance.now c.args.inputs.witness.now c.args.inputs.challenges.now c.args.columns.now c.args.nodes.now)) c.in_ok-accepted.ensures

pub returns-then-not-question_14 : goal.returns-then-not-question_14
returns-then-not-question_14 c =
    refused_14 c.in_ok-accepted.accepted.words.now c.args.inputs.instance.now c.args.inputs.witness.now c.args.inputs.challenges.now c.args.columns.now c.args.nodes.now c.in_ok-accepted.accepted.accepted (sym c.question_12.ensures ∙ c.if-not-question_12.false) (sym c.question_13.ensures ∙ c.if-not-question_13.false)
    (ap (λ (ws : List ℕ). q14 (circuit_of ws) c.args.columns.now c.args.nodes.now) (sym c.new-prepared.ensures) ∙ sym (c.question_14.ensures c.args.columns.now c.args.nodes.now refl refl) ∙ c.if-not-question_14.true)
    ∙ ap (λ (ws : List ℕ). build_of (lent_build ws c.args.inputs.instance.now c.args.inputs.witness.now c.args.inputs.challenges.now c.args.columns.now c.args.nodes.now)) c.in_ok-accepted.ensures

pub returns : goal.returns
returns c =
    c.build_checked.ensures
    ∙ ap (λ (ws : List ℕ). build_log (log_of ws c.args.inputs.instance.now c.args.inputs.witness.now c.args.inputs.challenges.now) c.args.columns.now c.args.nodes.now) c.new-prepared.ensures
    ∙ sym
    (checked c.in_ok-accepted.accepted.words.now c.args.inputs.instance.now c.args.inputs.witness.now c.args.inputs.challenges.now c.args.columns.now c.args.nodes.now
    (no_none c.in_ok-accepted.accepted.words.now c.args.inputs.instance.now c.args.inputs.witness.now c.args.inputs.challenges.now c.args.columns.now c.args.nodes.now c.in_ok-accepted.accepted.accepted (sym c.question_12.ensures ∙ c.if-not-question_12.false) (sym c.question_13.ensures ∙ c.if-not-question_13.false)
    (ap (λ (ws : List ℕ). q14 (circuit_of ws) c.args.columns.now c.args.nodes.now) (sym c.new-prepared.ensures) ∙ sym (c.question_14.ensures c.args.columns.now c.args.nodes.now refl refl) ∙ c.if-not-question_14.false)))
    ∙ ap (λ (ws : List ℕ). build_of (lent_build ws c.args.inputs.instance.now c.args.inputs.witness.now c.args.inputs.challenges.now c.args.columns.now c.args.nodes.now)) c.in_ok-accepted.ensures
