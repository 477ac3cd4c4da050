-- `sizes`, the building call and the row sum as C and Rust call them: the number comes back, and the other words returned stand in one
-- more buffer.
use Rattle.std.specs.Prelude.{cond, List, [], ◌∷◌, ℕ, length, leb}
use Rattle.lists.specs.Lists.{write_prefix}
use Rattle.hyperplonk_spec.specs.Build.{Output}
use Rattle.hyperplonk_spec.specs.declared.RowSum.{RowSum}
use Rattle.hyperplonk_spec.specs.declared.Sizes.{Sizes}

-- words written over the first of a buffer; a shorter one is left as it is
unfoldable pub answered : List ℕ → List ℕ → List ℕ
answered ws buffer = cond (leb (length ws) (length buffer)) (write_prefix ws buffer) buffer

-- what `hyperplonk_build` returns and leaves: column words, nodes and z columns stand in the answer
pub record BuildEntry : Type 0 where
  pub number : ℕ
  pub columns : List ℕ
  pub nodes : List ℕ
  pub answer : List ℕ

unfoldable pub build_entry : Output → List ℕ → BuildEntry
build_entry o answer =
    record {
      number = o.answer.number;
      columns = o.columns;
      nodes = o.nodes;
      answer = answered (o.answer.column_words ∷ o.answer.nodes ∷ o.answer.z_columns ∷ []) answer;
    }

-- what a call without other buffers returns and leaves
pub record Entry : Type 0 where
  pub number : ℕ
  pub answer : List ℕ

-- `hyperplonk_sizes`: column words, nodes and visits stand in the answer
unfoldable pub sizes_entry : Sizes → List ℕ → Entry
sizes_entry s answer = record { number = s.number; answer = answered (s.column_words ∷ s.nodes ∷ s.visits ∷ []) answer }

-- `hyperplonk_row_sum`: the sum stands in the answer
unfoldable pub sum_entry : RowSum → List ℕ → Entry
sum_entry r answer = record { number = r.number; answer = answered (r.sum ∷ []) answer }
