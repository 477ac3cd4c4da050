-- The building call and the row sum of what it wrote, as one call.
use Rattle.std.specs.Prelude.{cond, List, ℕ, ◌-◌, ◌*◌, length, get_or, take, eqb}
use Rattle.hyperplonk_spec.specs.Build.{Lent, Output, build_of, lent_build}
use Rattle.hyperplonk_spec.specs.RowSum.{row_sum_of, lent_sum}
use Rattle.hyperplonk_spec.specs.declared.Built.{Built}
use Rattle.hyperplonk_spec.specs.declared.RowSum.{RowSum}
use Rattle.hyperplonk_spec.specs.declared.Summed.{Summed}

-- the challenges are the row sum's, "challenges with α": α is the last, and those before it are the build's, "the user's, then β, γ"
unfoldable pub before_alpha : List ℕ → List ℕ
before_alpha challenges = take (length challenges - 1) challenges

unfoldable pub alpha_word : List ℕ → ℕ
alpha_word challenges = get_or challenges (length challenges - 1) 0

-- what the call returns, and what both buffers hold then
pub record Left : Type 0 where
  pub answer : Summed
  pub columns : List ℕ
  pub nodes : List ℕ

-- the build's sizes, with a number and a sum
abbrev pub sized : Built → RowSum → Summed
sized b s =
    record {
      number = s.number;
      column_words = b.column_words;
      nodes = b.nodes;
      z_columns = b.z_columns;
      sum = s.sum;
    }

-- "The row sum is given that build's circuit words, witness and challenges, any α and any k values y of the field, and the column and
-- node words as written"
unfoldable pub sum_of_built : List ℕ → List ℕ → List ℕ → List ℕ → Output → RowSum
sum_of_built ws witness challenges y built =
    row_sum_of (lent_sum ws witness (take built.answer.column_words built.columns) (take (built.answer.nodes * 4) built.nodes)
    challenges
    y)

-- what the build is lent: all challenges but α
abbrev pub before_sum : Lent → Lent
before_sum l =
    lent_build l.circuit l.instances l.witness (before_alpha l.challenges) l.columns l.nodes

-- the call: the build's number and a sum of 0 if the build is refused, else the row sum's number and sum; the sizes and the buffers are the
-- build's, since the row sum "writes nothing"
unfoldable pub build_and_sum_of : Lent → List ℕ → Left
build_and_sum_of l y =
    let built : Output = build_of (before_sum l) in
    let summed : RowSum = sum_of_built l.circuit l.witness l.challenges y built in
    let refused : RowSum = record { number = built.answer.number; sum = 0 } in
    record {
      answer = sized built.answer (cond (eqb built.answer.number 0) summed refused);
      columns = built.columns;
      nodes = built.nodes;
    }
