-- `m_column` meets its contract: the counts of the input added to zeros; and by the answers of the search.
use native.Mathlib.Omega.{arith}
use Rattle.prover.specs.Words.{elements}
use Rattle.prover.proofs.Answers.{by_search}
use Rattle.prover_lookup.proofs.m.Added.{zero_word, added_to_zeros}
use Rattle.prover_lookup.proofs.m.m_column.Goals as goal

pub count_inputs-requires : goal.count_inputs-requires
count_inputs-requires c =
    let a = c.args in (
      c.requires.0,
      c.requires.1,
      omega (arith, c.requires.2, c.clear.auto.columns),
      c.requires.3,
      c.requires.4,
      λ b l. omega (arith, zero_word _ (elements a.input.now) (elements a.table.now) _ c.requires.2 _ c.clear.ensures b l),
    )

pub returns-clause-counts : goal.returns-clause-counts
returns-clause-counts c = (c.count_inputs.ensures.0, added_to_zeros _ _ _ _ c.requires.2 _ c.clear.ensures _ c.count_inputs.ensures.1)

pub returns-clause-found : goal.returns-clause-found
returns-clause-found c = (by_search _ (elements c.args.input.now) (elements c.args.table.now) _ _ _ _ (returns-clause-counts c)).1
