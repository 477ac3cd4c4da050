-- The row sum: question 16, and the sum of the composed expression over the rows.
use Rattle.std.specs.Prelude.{Bool, cond, ◌&&◌, List, [], ◌∷◌, ◌++◌, map, ℕ, ◌+◌, ◌-◌, ◌*◌, length, get_or, eqb}
use Rattle.field.specs.Field.{𝔾, el, val}
use Rattle.lists.specs.Lists.{tabulate, all_of, same_words, Question, question, question_of, first_no}
use Rattle.expression.specs.Nodes.{expr_of}
use Rattle.expression.specs.Value.{Environment, value_at}
use Rattle.multilinear.specs.EqXY.{eq_at}
use Rattle.backend.specs.Circuit.{Circuit, circuit_of, rows_of, num_instance, num_witness, num_challenges, num_copied, num_lookups, num_groups}
use Rattle.backend.specs.Questions.{circuit_questions, small}
use Rattle.preprocessor.specs.Compose.{num_z, composed_words, composed_nodes}
use Rattle.prover.specs.Lookup.{sum_rows}
use Rattle.prover.specs.Columns.{preprocess_polys, witness_polys}
use Rattle.hyperplonk_spec.specs.Build.{log_of, column_words}
use Rattle.hyperplonk_spec.specs.declared.RowSum.{RowSum}

-- "Are witness, columns, nodes, challenges with α, and y (k values) of the exact length, the node words those that building
-- writes, and all other values below p?"
unfoldable pub q16 : Circuit → List ℕ → List ℕ → List ℕ → List ℕ → List ℕ → Bool
q16 c witness columns nodes challenges y =
    eqb (length witness) (num_witness c * rows_of c) && eqb (length columns) (column_words c)
    && eqb (length challenges) (num_challenges c + 3)
    && eqb (length y) c.k
    && same_words nodes (composed_words c)
    && all_of small witness
    && all_of small columns
    && all_of small challenges
    && all_of small y

-- column i of the column words
abbrev pub lent_column : Circuit → List ℕ → ℕ → ℕ → 𝔾.F
lent_column c columns i b = el (get_or columns (i * rows_of c + b) 0)

-- "Polynomial numbers run instance, preprocess, witness, permutation, m, h, z"; the compressed columns are passed over
unfoldable pub lent_polys : List ℕ → List ℕ → List ℕ → List (ℕ → 𝔾.F)
lent_polys ws witness columns =
    let c : Circuit = circuit_of ws in
    tabulate (lent_column c columns) (num_instance c)
    ++ (preprocess_polys 𝔾 (log_of ws [] witness [])
    ++ (witness_polys 𝔾 (log_of ws [] witness [])
    ++ (tabulate (λ i. lent_column c columns (num_instance c + i)) (num_copied c)
    ++ tabulate (λ i. lent_column c columns (num_instance c + num_copied c + num_lookups c * 2 + i)) (num_groups c * 2 + num_z c))))

unfoldable pub row_sum_environment : List ℕ → List ℕ → List ℕ → List ℕ → List ℕ → Environment 𝔾
row_sum_environment ws witness columns challenges y =
    record {
      k = (circuit_of ws).k;
      el = el;
      polys = lent_polys ws witness columns;
      challenges = map el challenges;
      eq = eq_at 𝔾 (circuit_of ws).k (λ i. el (get_or y i 0));
    }

-- what the row sum is lent
pub record LentSum : Type 0 where
  pub circuit : List ℕ
  pub witness : List ℕ
  pub columns : List ℕ
  pub nodes : List ℕ
  pub challenges : List ℕ
  pub y : List ℕ

abbrev pub lent_sum : List ℕ → List ℕ → List ℕ → List ℕ → List ℕ → List ℕ → LentSum
lent_sum circuit witness columns nodes challenges y =
    record { circuit = circuit; witness = witness; columns = columns; nodes = nodes; challenges = challenges; y = y }

-- "adds the value of the nodes written over all rows": that of the last node, which is the root
unfoldable pub sum_of : LentSum → 𝔾.F
sum_of l =
    sum_rows 𝔾 (rows_of (circuit_of l.circuit))
    (value_at 𝔾 (row_sum_environment l.circuit l.witness l.columns l.challenges l.y)
    (expr_of l.nodes (composed_nodes (circuit_of l.circuit) - 1)))

-- "The row sum meets 1 to 11, then 16"
unfoldable pub sum_questions : List (Question LentSum)
sum_questions =
    map (question_of (λ (l : LentSum). l.circuit)) circuit_questions
    ++ (question 16
    (λ (l : LentSum). q16 (circuit_of l.circuit) l.witness l.columns l.nodes l.challenges l.y)
    ∷ [])

unfoldable pub check_sum : LentSum → ℕ
check_sum l = first_no sum_questions l

-- "it returns the number and the sum, 0 when refused, and writes nothing"
unfoldable pub row_sum_of : LentSum → RowSum
row_sum_of l =
    let number : ℕ = check_sum l in
    let summed : RowSum = record { number = 0; sum = val (sum_of l) } in
    cond (eqb number 0) summed (record { number = number; sum = 0 })
