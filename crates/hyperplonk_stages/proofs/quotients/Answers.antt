use mathlib.Core.Path.{ap, ◌∙◌, sym}
use Prim.Native.Nat.{◌^◌}
use native.Mathlib.Omega.{arith}
use borrow.Author.Tests.{leb-true}
use Rattle.field.specs.Field.{𝔾}
use Rattle.prover.specs.Answers.{outcome_number}
use Rattle.hyperplonk_spec.specs.Stages.{h_of}
use Rattle.hyperplonk_stages.proofs.Answers.{no_2, no_12, no_13, no_14, all_yes, k_le, three_exact, three_small, three_columns, divided, h_done, zero_passed}
use Rattle.hyperplonk_stages.proofs.quotients.Goals as goal

pub returns-in_err-asked : goal.returns-in_err-asked
unfolding h_of
returns-in_err-asked c =
    no_2 _ _ _ _ _ _ _ c.from_residual.ensures.1 c.in_err-asked.ensures.no.0 (sym c.good_k.ensures ∙ c.in_err-asked.ensures.no.1)

pub rows_of-rows-requires : goal.rows_of-rows-requires
rows_of-rows-requires c = omega (arith, k_le c.args.k (sym c.good_k.ensures ∙ c.in_ok-asked.ensures.yes))

pub returns-in_err-asked-2 : goal.returns-in_err-asked-2
unfolding h_of
returns-in_err-asked-2 c =
    let a = c.args in
    no_12 _ _ _ _ _ _ _ c.from_residual-in_err-asked-2.ensures.1 (sym c.good_k.ensures ∙ c.in_ok-asked.ensures.yes) c.in_err-asked-2.ensures.no.0 (sym (three_exact _ _ a.input.now a.table.now a.m.now c.rows_of-rows.ensures) ∙ c.in_err-asked-2.ensures.no.1)

pub returns-in_err-asked-3 : goal.returns-in_err-asked-3
unfolding h_of
returns-in_err-asked-3 c =
    let a = c.args in
    no_13 _ _ _ _ _ _ _ c.from_residual-in_err-asked-3.ensures.1 (sym c.good_k.ensures ∙ c.in_ok-asked.ensures.yes) (sym (three_exact _ _ a.input.now a.table.now a.m.now c.rows_of-rows.ensures) ∙ c.in_ok-asked-2.ensures.yes) c.in_err-asked-3.ensures.no.0
    (sym (three_small _ _ _ _ _ _ _ _ c.all_elements.ensures.below c.all_elements-2.ensures.below c.all_elements-3.ensures.below c.is_element.ensures.below) ∙ c.in_err-asked-3.ensures.no.1)

pub returns-in_err-asked-4 : goal.returns-in_err-asked-4
unfolding h_of
returns-in_err-asked-4 c =
    let a = c.args in
    no_14 _ _ _ _ _ _ _ c.from_residual-in_err-asked-4.ensures.1 (sym c.good_k.ensures ∙ c.in_ok-asked.ensures.yes) (sym (three_exact _ _ a.input.now a.table.now a.m.now c.rows_of-rows.ensures) ∙ c.in_ok-asked-2.ensures.yes) (sym (three_small _ _ _ _ _ _ _ _ c.all_elements.ensures.below c.all_elements-2.ensures.below c.all_elements-3.ensures.below c.is_element.ensures.below) ∙ c.in_ok-asked-3.ensures.yes)
    _ c.rows_of-rows.ensures c.in_err-asked-4.ensures.no.0 c.in_err-asked-4.ensures.no.1

pub h_column-requires : goal.h_column-requires
h_column-requires c =
    let a = c.args in
    three_columns _ _ c.rows_of-rows.ensures a.input.now a.table.now a.m.now a.h.now (sym (three_exact _ _ a.input.now a.table.now a.m.now c.rows_of-rows.ensures) ∙ c.in_ok-asked-2.ensures.yes) (leb-true _ _ c.in_ok-asked-4.ensures.yes)

pub returns-in_err-h_column : goal.returns-in_err-h_column
unfolding h_of
returns-in_err-h_column c =
    let column = c.h_column in
    let a = c.args in
    h_done _ a.input.now a.table.now a.m.now a.h.now _ _ _ _ _ c.rows_of-rows.ensures (zero_passed _ _ _ c.from_residual-in_err-h_column.ensures.1 c.in_err-h_column.was) column.ensures.0 column.ensures.1
    ∙ ap (λ (γ : 𝔾.F). divided γ a.input.now a.table.now a.m.now a.h.now (2 ^ a.k)) c.from.ensures
    ∙ all_yes _ _ _ _ _ (sym c.good_k.ensures ∙ c.in_ok-asked.ensures.yes) (sym (three_exact _ _ a.input.now a.table.now a.m.now c.rows_of-rows.ensures) ∙ c.in_ok-asked-2.ensures.yes) (sym (three_small _ _ _ _ _ _ _ _ c.all_elements.ensures.below c.all_elements-2.ensures.below c.all_elements-3.ensures.below c.is_element.ensures.below) ∙ c.in_ok-asked-3.ensures.yes) _ c.rows_of-rows.ensures c.in_ok-asked-4.ensures.yes

pub returns : goal.returns
unfolding h_of
returns c =
    let column = c.h_column in
    let a = c.args in
    h_done _ a.input.now a.table.now a.m.now a.h.now _ _ _ _ _ c.rows_of-rows.ensures (sym (ap outcome_number c.in_ok-h_column.was)) column.ensures.0 column.ensures.1
    ∙ ap (λ (γ : 𝔾.F). divided γ a.input.now a.table.now a.m.now a.h.now (2 ^ a.k)) c.from.ensures
    ∙ all_yes _ _ _ _ _ (sym c.good_k.ensures ∙ c.in_ok-asked.ensures.yes) (sym (three_exact _ _ a.input.now a.table.now a.m.now c.rows_of-rows.ensures) ∙ c.in_ok-asked-2.ensures.yes) (sym (three_small _ _ _ _ _ _ _ _ c.all_elements.ensures.below c.all_elements-2.ensures.below c.all_elements-3.ensures.below c.is_element.ensures.below) ∙ c.in_ok-asked-3.ensures.yes) _ c.rows_of-rows.ensures c.in_ok-asked-4.ensures.yes
