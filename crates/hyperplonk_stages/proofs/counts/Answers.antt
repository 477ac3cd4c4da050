use mathlib.Core.Path.{◌∙◌, sym, ap}
use mathlib.Core.Bool.{not}
use native.Mathlib.Omega.{arith}
use borrow.Author.Tests.{leb-true}
use Rattle.backend.proofs.Answers.{says_no, says_yes}
use Rattle.hyperplonk_spec.specs.Stages.{m_of}
use Rattle.hyperplonk_stages.proofs.Answers.{no_2, no_12, no_13, no_14, all_yes, k_le, two_exact, two_small, two_columns, counted, uncovered}
use Rattle.hyperplonk_stages.proofs.counts.Goals as goal

pub returns-in_err-asked : goal.returns-in_err-asked
unfolding m_of
returns-in_err-asked c =
    no_2 _ _ _ _ _ _ _ c.from_residual.ensures.1 c.in_err-asked.ensures.no.0 (sym c.good_k.ensures ∙ c.in_err-asked.ensures.no.1)

pub rows_of-rows-requires : goal.rows_of-rows-requires
rows_of-rows-requires c = omega (arith, k_le c.args.k (sym c.good_k.ensures ∙ c.in_ok-asked.ensures.yes))

pub returns-in_err-asked-2 : goal.returns-in_err-asked-2
unfolding m_of
returns-in_err-asked-2 c =
    let a = c.args in
    no_12 _ _ _ _ _ _ _ c.from_residual-in_err-asked-2.ensures.1 (sym c.good_k.ensures ∙ c.in_ok-asked.ensures.yes) c.in_err-asked-2.ensures.no.0 (sym (two_exact _ _ a.input.now a.table.now c.rows_of-rows.ensures) ∙ c.in_err-asked-2.ensures.no.1)

pub returns-in_err-asked-3 : goal.returns-in_err-asked-3
unfolding m_of
returns-in_err-asked-3 c =
    let a = c.args in
    no_13 _ _ _ _ _ _ _ c.from_residual-in_err-asked-3.ensures.1 (sym c.good_k.ensures ∙ c.in_ok-asked.ensures.yes) (sym (two_exact _ _ a.input.now a.table.now c.rows_of-rows.ensures) ∙ c.in_ok-asked-2.ensures.yes) c.in_err-asked-3.ensures.no.0
    (sym (two_small _ _ _ _ c.all_elements.ensures.below c.all_elements-2.ensures.below) ∙ c.in_err-asked-3.ensures.no.1)

pub returns-in_err-asked-4 : goal.returns-in_err-asked-4
unfolding m_of
returns-in_err-asked-4 c =
    let a = c.args in
    no_14 _ _ _ _ _ _ _ c.from_residual-in_err-asked-4.ensures.1 (sym c.good_k.ensures ∙ c.in_ok-asked.ensures.yes) (sym (two_exact _ _ a.input.now a.table.now c.rows_of-rows.ensures) ∙ c.in_ok-asked-2.ensures.yes) (sym (two_small _ _ _ _ c.all_elements.ensures.below c.all_elements-2.ensures.below) ∙ c.in_ok-asked-3.ensures.yes)
    _ c.rows_of-rows.ensures c.in_err-asked-4.ensures.no.0 c.in_err-asked-4.ensures.no.1

pub m_column-requires : goal.m_column-requires
m_column-requires c =
    let a = c.args in
    two_columns _ _ c.rows_of-rows.ensures a.input.now a.table.now a.m.now (sym (two_exact _ _ a.input.now a.table.now c.rows_of-rows.ensures) ∙ c.in_ok-asked-2.ensures.yes) (sym (two_small _ _ _ _ c.all_elements.ensures.below c.all_elements-2.ensures.below) ∙ c.in_ok-asked-3.ensures.yes) (leb-true _ _ c.in_ok-asked-4.ensures.yes)

pub returns-then-not-m_column : goal.returns-then-not-m_column
unfolding m_of
returns-then-not-m_column c =
    let a = c.args in
    uncovered a.input.now a.table.now a.m.now _ _ c.rows_of-rows.ensures _ c.m_column.ensures.counts.1 (says_no _ _ c.m_column.ensures.counts.0 (ap not c.if-not-m_column.true))
    ∙ all_yes _ _ _ _ _ (sym c.good_k.ensures ∙ c.in_ok-asked.ensures.yes) (sym (two_exact _ _ a.input.now a.table.now c.rows_of-rows.ensures) ∙ c.in_ok-asked-2.ensures.yes) (sym (two_small _ _ _ _ c.all_elements.ensures.below c.all_elements-2.ensures.below) ∙ c.in_ok-asked-3.ensures.yes) _ c.rows_of-rows.ensures c.in_ok-asked-4.ensures.yes

pub returns : goal.returns
unfolding m_of
returns c =
    let a = c.args in
    counted a.input.now a.table.now a.m.now _ _ c.rows_of-rows.ensures _ c.m_column.ensures.counts.1 (says_yes _ _ c.m_column.ensures.counts.0 (ap not c.if-not-m_column.false))
    ∙ all_yes _ _ _ _ _ (sym c.good_k.ensures ∙ c.in_ok-asked.ensures.yes) (sym (two_exact _ _ a.input.now a.table.now c.rows_of-rows.ensures) ∙ c.in_ok-asked-2.ensures.yes) (sym (two_small _ _ _ _ c.all_elements.ensures.below c.all_elements-2.ensures.below) ∙ c.in_ok-asked-3.ensures.yes) _ c.rows_of-rows.ensures c.in_ok-asked-4.ensures.yes
