use mathlib.Core.Path.{refl, ◌∙◌, sym}
use native.Mathlib.Omega.{arith}
use borrow.Author.Tests.{leb-true, eqb-true}
use Rattle.hyperplonk_spec.specs.Stages.{eq_of}
use Rattle.hyperplonk_stages.proofs.Answers.{no_2, no_12, no_13, no_14, all_yes, k_le, column_done}
use Rattle.hyperplonk_stages.proofs.eq_table.Goals as goal

pub returns-in_err-asked : goal.returns-in_err-asked
unfolding eq_of
returns-in_err-asked c =
    no_2 _ _ _ _ _ _ _ c.from_residual.ensures.1 c.in_err-asked.ensures.no.0 (sym c.good_k.ensures ∙ c.in_err-asked.ensures.no.1)

pub rows_of-requires : goal.rows_of-requires
rows_of-requires c = omega (arith, k_le c.args.k (sym c.good_k.ensures ∙ c.in_ok-asked.ensures.yes))

pub returns-in_err-asked-2 : goal.returns-in_err-asked-2
unfolding eq_of
returns-in_err-asked-2 c =
    no_12 _ _ _ _ _ _ _ c.from_residual-in_err-asked-2.ensures.1 (sym c.good_k.ensures ∙ c.in_ok-asked.ensures.yes) c.in_err-asked-2.ensures.no.0 c.in_err-asked-2.ensures.no.1

pub returns-in_err-asked-3 : goal.returns-in_err-asked-3
unfolding eq_of
returns-in_err-asked-3 c =
    no_13 _ _ _ _ _ _ _ c.from_residual-in_err-asked-3.ensures.1 (sym c.good_k.ensures ∙ c.in_ok-asked.ensures.yes) c.in_ok-asked-2.ensures.yes c.in_err-asked-3.ensures.no.0
    (sym c.all_elements.ensures.below ∙ c.in_err-asked-3.ensures.no.1)

pub returns-in_err-asked-4 : goal.returns-in_err-asked-4
unfolding eq_of
returns-in_err-asked-4 c =
    no_14 _ _ _ _ _ _ _ c.from_residual-in_err-asked-4.ensures.1 (sym c.good_k.ensures ∙ c.in_ok-asked.ensures.yes) c.in_ok-asked-2.ensures.yes (sym c.all_elements.ensures.below ∙ c.in_ok-asked-3.ensures.yes)
    _ c.rows_of.ensures c.in_err-asked-4.ensures.no.0 c.in_err-asked-4.ensures.no.1

pub eq_xy-requires : goal.eq_xy-requires
eq_xy-requires c = (
  omega (arith, k_le c.args.k (sym c.good_k.ensures ∙ c.in_ok-asked.ensures.yes)),
  omega (arith, eqb-true _ _ c.in_ok-asked-2.ensures.yes),
  omega (arith, leb-true _ _ c.in_ok-asked-4.ensures.yes, c.rows_of.ensures),
)

pub returns : goal.returns
unfolding eq_of
returns c =
    column_done _ _ _ _ _ refl c.eq_xy.ensures
    ∙ all_yes _ _ _ _ _ (sym c.good_k.ensures ∙ c.in_ok-asked.ensures.yes) c.in_ok-asked-2.ensures.yes (sym c.all_elements.ensures.below ∙ c.in_ok-asked-3.ensures.yes) _ c.rows_of.ensures c.in_ok-asked-4.ensures.yes
