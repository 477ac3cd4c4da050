-- The polynomials of the row sum's layout are those that the row sum is defined over.
use mathlib.Core.Path.{◌≡◌, refl, sym, ap, ◌∙◌, subst}
use mathlib.Core.List.{List, []}
use Prim.Native.Nat.{ℕ, ◌+◌, ◌*◌, ◌^◌, ◌<◌}
use native.Mathlib.Omega.{arith}
use lib.ListN.{get_or, length-map}
use Rattle.field.specs.Field.{𝔾, el}
use Rattle.bh.specs.Rows.{rotated}
use Rattle.bh.proofs.Turn.{rotated_lt}
use Rattle.lists.specs.Lists.{tabulate}
use Rattle.lists.proofs.Columns.{tabulate_length}
use Rattle.lists.proofs.Lists.{get_map}
use Rattle.expression.specs.Expr.{Expr}
use Rattle.expression.specs.Value.{poly_of, value_at}
use Rattle.expression.specs.Reader.{polys_of}
use Rattle.expression.specs.Point.{environment_of}
use Rattle.expression.specs.declared.value.Point.{Point}
use Rattle.expression.proofs.Within.{anything, within_anything}
use Rattle.expression.proofs.Agree.{agree_value}
use Rattle.multilinear.specs.EqXY.{eq_at}
use Rattle.backend.specs.Circuit.{Section, circuit_of, word_k, entries, start_of, num_instance, num_preprocess, num_witness, num_copied, num_lookups, num_groups}
use Rattle.preprocessor.specs.Compose.{num_z}
use Rattle.prover.specs.Columns.{preprocess_polys, witness_polys}
use Rattle.prover.proofs.Lent.{preprocess_word}
use Rattle.hyperplonk_spec.specs.Build.{log_of}
use Rattle.hyperplonk_spec.specs.RowSum.{lent_polys, row_sum_environment}
use Rattle.expression.proofs.SameRows.{Same, same_refl, same_append, same_column, same_at}
use Rattle.hyperplonk_prepare.specs.Prepared.{Accepted}
use Rattle.hyperplonk_prepare.proofs.Accepted.{instances_entries}
use Rattle.hyperplonk_row_sum.specs.Sum.{sum_layout}

module _ (ws witness columns : List ℕ) (accepted : Accepted ws) where
  abbrev rows : ℕ
  rows = 2 ^ word_k ws

  abbrev instances_are : entries ws Section.instances ≡ num_instance (circuit_of ws)
  instances_are = instances_entries ws accepted

  preprocess_count : num_preprocess (circuit_of ws) ≡ entries ws Section.preprocess
  unfolding circuit_of
  preprocess_count = tabulate_length _ (entries ws Section.preprocess)

  same : (ps qs : List (ℕ → 𝔾.F)) → ps ≡ qs → Same 𝔾 rows ps qs
  same ps qs e = subst (λ (xs : List (ℕ → 𝔾.F)). Same 𝔾 rows ps xs) e (same_refl 𝔾 rows ps)

  -- column i of the column words
  abbrev column_at : ℕ → ℕ → 𝔾.F
  column_at i b = el (get_or columns (i * rows + b) 0)

  preprocess_same : Same 𝔾 rows
      (tabulate (λ i b. el (get_or ws (start_of ws Section.preprocess + i * rows + b) 0)) (entries ws Section.preprocess))
      (preprocess_polys 𝔾 (log_of ws [] witness []))
  unfolding preprocess_polys log_of
  preprocess_same =
      same_column 𝔾 rows _ (entries ws Section.preprocess) _ (sym (length-map (circuit_of ws).preprocess _ ∙ preprocess_count))
      (λ i l b m.
      ap el (sym (preprocess_word ws i b l m))
      ∙ sym
      (ap (λ (p : ℕ → 𝔾.F). p b)
      (get_map {B = ℕ → 𝔾.F} (λ vs b. el (get_or vs b 0)) (circuit_of ws).preprocess i [] (λ r. 𝔾.zero)
      (let e = preprocess_count in omega arith))))

  abbrev n : ℕ
  n = num_instance (circuit_of ws)

  instance_same : tabulate column_at (entries ws Section.instances) ≡ tabulate (λ i b. el (get_or columns (i * 2 ^ (circuit_of ws).k + b) 0)) n
  unfolding circuit_of
  instance_same = ap (tabulate column_at) instances_are

  witness_same : tabulate (λ i b. el (get_or witness (i * rows + b) 0)) (num_witness (circuit_of ws)) ≡ witness_polys 𝔾 (log_of ws [] witness [])
  unfolding circuit_of witness_polys log_of
  witness_same = refl

  permutation_same : tabulate (λ i. column_at (entries ws Section.instances + i)) (num_copied (circuit_of ws))
      ≡ tabulate (λ i b. el (get_or columns ((n + i) * 2 ^ (circuit_of ws).k + b) 0)) (num_copied (circuit_of ws))
  unfolding circuit_of
  permutation_same = ap (λ (m : ℕ). tabulate (λ i. column_at (m + i)) (num_copied (circuit_of ws))) instances_are

  rest_same : tabulate (λ i. column_at (entries ws Section.instances + num_copied (circuit_of ws) + num_lookups (circuit_of ws) * 2 + i)) (num_groups (circuit_of ws) * 2 + num_z (circuit_of ws))
      ≡ tabulate (λ i b. el (get_or columns ((n + num_copied (circuit_of ws) + num_lookups (circuit_of ws) * 2 + i) * 2 ^ (circuit_of ws).k + b) 0)) (num_groups (circuit_of ws) * 2 + num_z (circuit_of ws))
  unfolding circuit_of
  rest_same = ap (λ (m : ℕ). tabulate (λ i. column_at (m + num_copied (circuit_of ws) + num_lookups (circuit_of ws) * 2 + i)) (num_groups (circuit_of ws) * 2 + num_z (circuit_of ws))) instances_are

  pub sum_polys : Same 𝔾 rows (polys_of (sum_layout ws) ws witness columns) (lent_polys ws witness columns)
  unfolding polys_of sum_layout lent_polys
  sum_polys =
      same_append 𝔾 rows _ _ _ _ (same _ _ instance_same)
      (same_append 𝔾 rows _ _ _ _ preprocess_same
      (same_append 𝔾 rows _ _ _ _ (same _ _ witness_same)
      (same_append 𝔾 rows _ _ _ _ (same _ _ permutation_same) (same _ _ rest_same))))

-- at a point whose EqXY is that of its row, an expression has the value of that row
module _ (ws witness columns challenges y : List ℕ) (accepted : Accepted ws) (p : Point) (k_is : p.k ≡ (circuit_of ws).k) (small : p.k < 21)
    (inside : p.row < 2 ^ p.k) (eq_is : el p.eq ≡ eq_at 𝔾 p.k (λ i. el (get_or y i 0)) p.row) where
  same_rows : 2 ^ word_k ws ≡ 2 ^ p.k
  unfolding circuit_of
  same_rows = ap (λ (n : ℕ). 2 ^ n) (sym k_is)

  pub point_value : (e : Expr)
      → value_at 𝔾 (environment_of ws witness columns challenges (sum_layout ws) p) e p.row
      ≡ value_at 𝔾 (row_sum_environment ws witness columns challenges y) e p.row
  unfolding environment_of row_sum_environment
  point_value e =
      agree_value 𝔾 anything _ _ p.row
      (record {
        same_k = k_is;
        same_el = refl;
        same_eq = λ i u. eq_is ∙ ap (λ (k : ℕ). eq_at 𝔾 k (λ i. el (get_or y i 0)) p.row) k_is;
        same_poly = λ q r u.
            same_at 𝔾 (2 ^ word_k ws) _ _ (sum_polys ws witness columns accepted) q (rotated p.k p.row r)
            (let w = rotated_lt p.k (omega arith) p.row r inside in let s = same_rows in omega arith)
            ∙ ap (λ (k : ℕ). poly_of 𝔾 (lent_polys ws witness columns) q (rotated k p.row r)) k_is;
        same_challenge = λ i u. refl;
      })
      e
      (within_anything e)
