-- What `write_columns` answers, with the papers' number and words for each case, and what the stages behind the counts leave.
use Rattle.std.specs.Prelude.{◌≡◌, cond, List, ℕ, drop, replicate, Result, Ok, Err}
use Rattle.field.specs.Field.{𝔾}
use Rattle.lists.specs.Lists.{write_at}
use Rattle.backend.specs.Circuit.{rows_of}
use Rattle.prover.specs.Log.{Log}
use Rattle.prover.specs.Columns.{all_covered, written_polys}
use Rattle.prover.specs.Denominators.{zero_denominator}
use Rattle.prover.specs.Answers.{Outcome, outcome_of}
use Rattle.prover.specs.Words.{words_of}
use Rattle.hyperplonk_spec.specs.Build.{column_words}
use Rattle.hyperplonk_prepare.specs.Prepared.{h_offset}
use Rattle.hyperplonk_columns.specs.Kinds.{polys_after_m}
use Rattle.hyperplonk_columns.specs.declared.Refused.{Refused}

-- `Ok` where the columns are written, else why they are not
abbrev pub ColumnsOutcome : Type 0
ColumnsOutcome = Result (Unit {0}) Refused

-- question 15, and then 17: "Number 17, asked after 15"
abbrev pub columns_outcome : Log 𝔾 → ColumnsOutcome
columns_outcome g =
    cond (all_covered 𝔾 g) (cond (zero_denominator 𝔾 g) (Err Refused.ZeroDenominator) (Ok tt)) (Err Refused.Uncovered)

-- the numbers of the refusals
abbrev pub refused_number : Refused → ℕ
refused_number Refused.Uncovered = 15
refused_number Refused.ZeroDenominator = 17

-- and of what is answered: "0 is success"
abbrev pub columns_number : ColumnsOutcome → ℕ
columns_number (Ok written) = 0
columns_number (Err refused) = refused_number refused

-- the words: the columns; with 15 "the column words needed become 0", and 17 "zeroes the column words as 15 does"
abbrev pub columns_left : Log 𝔾 → ColumnsOutcome → List ℕ
columns_left g (Ok written) = words_of (rows_of g.circuit) (written_polys 𝔾 g)
columns_left g (Err Refused.Uncovered) = replicate (column_words g.circuit) 0
columns_left g (Err Refused.ZeroDenominator) = replicate (column_words g.circuit) 0

-- the answer of `columns_after_m` on the buffer d, and the buffer e after: h and z stand behind the counts if no denominator is zero, and no
-- words past those needed change in any case
pub record AfterM (g : Log 𝔾) (d : List ℕ) (answer : Outcome) (e : List ℕ) : Type 0 where
  pub is : answer ≡ outcome_of (zero_denominator 𝔾 g)
  pub written : answer ≡ Ok tt → e ≡ write_at d (h_offset g.circuit) (words_of (rows_of g.circuit) (polys_after_m 𝔾 g))
  pub back : drop (column_words g.circuit) e ≡ drop (column_words g.circuit) d
