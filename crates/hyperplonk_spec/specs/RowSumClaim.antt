-- What demand 3 says of the row sum, of the answer itself.
use Rattle.std.specs.Prelude.{◌≡◌, ◌≢◌, List, [], ◌∷◌, ◌++◌, ℕ, ◌*◌, ◌<◌, length, take}
use Rattle.field.specs.Prime.{P}
use Rattle.field.specs.Field.{𝔾, val}
use Rattle.expression.specs.Value.{value_at}
use Rattle.backend.specs.Circuit.{circuit_of, rows_of}
use Rattle.preprocessor.specs.Compose.{compose, composed_nodes}
use Rattle.prover.specs.Lookup.{sum_rows}
use Rattle.hyperplonk_spec.specs.Build.{log_of, column_words, check_build, build_of, lent_build}
use Rattle.hyperplonk_spec.specs.RowSum.{LentSum, row_sum_environment}
use Rattle.hyperplonk_spec.specs.Meaning.{Each, Premises}
use Rattle.hyperplonk_spec.specs.declared.RowSum.{RowSum}

-- "The row sum is given that build's circuit words, witness and challenges, any α and any k values y of the field, and the column
-- and node words as written": a build whose questions 1 to 14 are yes, that gives neither 15 nor 17 and meets the premises of demand 3
pub record OfBuild (l : LentSum) : Type 0 where
  pub instances : List ℕ
  pub lent : List ℕ
  pub α : ℕ
  pub columns_lent : List ℕ
  pub nodes_lent : List ℕ
  pub asked : check_build (lent_build l.circuit instances l.witness lent columns_lent nodes_lent) ≡ 0
  pub premises : Premises 𝔾 (log_of l.circuit instances l.witness lent)
  pub not_15 : (build_of (lent_build l.circuit instances l.witness lent columns_lent nodes_lent)).answer.number ≢ 15
  pub not_17 : (build_of (lent_build l.circuit instances l.witness lent columns_lent nodes_lent)).answer.number ≢ 17
  pub columns_are : l.columns ≡ take (column_words (circuit_of l.circuit)) (build_of (lent_build l.circuit instances l.witness lent columns_lent nodes_lent)).columns
  pub nodes_are : l.nodes ≡ take (composed_nodes (circuit_of l.circuit) * 4) (build_of (lent_build l.circuit instances l.witness lent columns_lent nodes_lent)).nodes
  pub challenges_are : l.challenges ≡ lent ++ (α ∷ [])
  pub α-small : α < P
  pub y_length : length l.y ≡ (circuit_of l.circuit).k
  pub y_small : Each 0 l.y (λ v. v < P)

pub record RowSumClaim (l : LentSum) (r : RowSum) : Type 0 where
  -- "On any log, when the row sum's number is 0, its sum is this sum for the words it was lent": over all rows, the value that
  -- `compose` gives
  pub summed : r.number ≡ 0
      → r.sum
      ≡ val (sum_rows 𝔾 (rows_of (circuit_of l.circuit)) (value_at 𝔾 (row_sum_environment l.circuit l.witness l.columns l.challenges l.y) (compose (circuit_of l.circuit))))
  -- "its number and its sum are both 0"
  pub zero : OfBuild l → r ≡ record { number = 0; sum = 0 }
