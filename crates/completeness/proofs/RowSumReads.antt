-- The row sum reads from the words what building wrote: its environment agrees on every row with that of the log.
use mathlib.Core.Path.{◌≡◌, refl, sym, ap, ap₂, ◌∙◌, subst}
use mathlib.Core.List.{List, [], ◌∷◌, ◌++◌, map, append_assoc, map-append}
use Prim.Native.Nat.{ℕ, suc, ◌+◌, ◌*◌, ◌^◌, ◌<◌}
use native.Mathlib.Omega.{arith}
use lib.ListN.{length, get_or, take, length-append, drop_of_length-le}
use lib.Seq.{split_at, drop-cons}
use Rattle.field.specs.Field.{𝔾, el, el_val}
use Rattle.lists.specs.Lists.{tabulate}
use Rattle.lists.proofs.Lists.{get_left, get_past}
use Rattle.expression.specs.Expr.{Expr}
use Rattle.expression.specs.Value.{poly_of, value_at}
use Rattle.expression.proofs.SameRows.{Same, same_refl, same_append, same_column, same_at, values_agree}
use Rattle.backend.specs.Circuit.{circuit_of, rows_of, num_instance, num_challenges, num_copied, num_lookups, num_groups}
use Rattle.multilinear.specs.EqXY.{eq_at}
use Rattle.preprocessor.specs.Compose.{num_z}
use Rattle.prover.specs.Log.{Log}
use Rattle.prover.specs.Columns.{instance_polys, preprocess_polys, witness_polys, given_polys, permutation_polys, compressed_polys, m_polys, h_polys, z_polys, all_polys, written_polys, composed_environment}
use Rattle.prover.proofs.Words.{words_get}
use Rattle.prover.proofs.Lengths.{instances_length, permutations_length, compressed_length, m_length, h_length, z_length, written_length}
use Rattle.hyperplonk_spec.specs.Build.{log_of, words_of}
use Rattle.hyperplonk_spec.specs.RowSum.{lent_column, lent_polys, row_sum_environment}

module _ (g : Log 𝔾) where
  abbrev rest : List (ℕ → 𝔾.F)
  rest = m_polys 𝔾 g ++ (h_polys 𝔾 g ++ z_polys 𝔾 g)

  rest_length : length rest ≡ num_groups g.circuit * 2 + num_z g.circuit
  rest_length =
      length-append (m_polys 𝔾 g) (h_polys 𝔾 g ++ z_polys 𝔾 g)
      ∙ (let a = length-append (h_polys 𝔾 g) (z_polys 𝔾 g) in
      let b = m_length 𝔾 g in
      let c = h_length 𝔾 g in
      let d = z_length 𝔾 g in
      omega arith)

  abbrev columns : List ℕ
  columns = words_of (rows_of g.circuit) (written_polys 𝔾 g)

  -- column i of the words
  lent_at : (i b : ℕ) → i < length (written_polys 𝔾 g) → b < rows_of g.circuit → lent_column g.circuit columns i b ≡ poly_of 𝔾 (written_polys 𝔾 g) i b
  lent_at i b l m = ap el (words_get (rows_of g.circuit) (written_polys 𝔾 g) i b l m) ∙ el_val (poly_of 𝔾 (written_polys 𝔾 g) i b)

  same_instances : Same 𝔾 (rows_of g.circuit) (tabulate (lent_column g.circuit columns) (num_instance g.circuit)) (instance_polys 𝔾 g)
  unfolding written_polys
  same_instances =
      same_column 𝔾 (rows_of g.circuit) (lent_column g.circuit columns) (num_instance g.circuit) (instance_polys 𝔾 g) (sym (instances_length 𝔾 g))
      (λ i l b m.
      lent_at i b (let w = written_length 𝔾 g in omega arith) m
      ∙ ap (λ (p : ℕ → 𝔾.F). p b) (get_left (instance_polys 𝔾 g) _ i (λ r. 𝔾.zero) (let q = instances_length 𝔾 g in omega arith)))

  same_permutations : Same 𝔾 (rows_of g.circuit) (tabulate (λ i. lent_column g.circuit columns (num_instance g.circuit + i)) (num_copied g.circuit)) (permutation_polys 𝔾 g)
  unfolding written_polys
  same_permutations =
      same_column 𝔾 (rows_of g.circuit) (λ i. lent_column g.circuit columns (num_instance g.circuit + i)) (num_copied g.circuit) (permutation_polys 𝔾 g)
      (sym (permutations_length 𝔾 g))
      (λ i l b m.
      lent_at (num_instance g.circuit + i) b (let w = written_length 𝔾 g in omega arith) m
      ∙ ap (λ (p : ℕ → 𝔾.F). p b)
      (get_past (instance_polys 𝔾 g) _ (num_instance g.circuit + i) i (λ r. 𝔾.zero) (let q = instances_length 𝔾 g in omega arith)
      ∙ get_left (permutation_polys 𝔾 g) _ i (λ r. 𝔾.zero) (let q = permutations_length 𝔾 g in omega arith)))

  same_rest : Same 𝔾 (rows_of g.circuit)
      (tabulate (λ i. lent_column g.circuit columns (num_instance g.circuit + num_copied g.circuit + num_lookups g.circuit * 2 + i))
      (num_groups g.circuit * 2 + num_z g.circuit))
      rest
  unfolding written_polys
  same_rest =
      same_column 𝔾 (rows_of g.circuit)
      (λ i. lent_column g.circuit columns (num_instance g.circuit + num_copied g.circuit + num_lookups g.circuit * 2 + i))
      (num_groups g.circuit * 2 + num_z g.circuit)
      rest
      (sym rest_length)
      (λ i l b m.
      lent_at (num_instance g.circuit + num_copied g.circuit + num_lookups g.circuit * 2 + i) b (let w = written_length 𝔾 g in omega arith) m
      ∙ ap (λ (p : ℕ → 𝔾.F). p b)
      (get_past (instance_polys 𝔾 g) _ (num_instance g.circuit + num_copied g.circuit + num_lookups g.circuit * 2 + i)
      (num_copied g.circuit + (num_lookups g.circuit * 2 + i))
      (λ r. 𝔾.zero)
      (let q = instances_length 𝔾 g in omega arith)
      ∙ get_past (permutation_polys 𝔾 g) _ (num_copied g.circuit + (num_lookups g.circuit * 2 + i)) (num_lookups g.circuit * 2 + i) (λ r. 𝔾.zero)
      (let q = permutations_length 𝔾 g in omega arith)
      ∙ get_past (compressed_polys 𝔾 g) _ (num_lookups g.circuit * 2 + i) i (λ r. 𝔾.zero) (let q = compressed_length 𝔾 g in omega arith)))

  all_grouped : all_polys 𝔾 g ≡ instance_polys 𝔾 g ++ (preprocess_polys 𝔾 g ++ (witness_polys 𝔾 g ++ (permutation_polys 𝔾 g ++ rest)))
  unfolding all_polys given_polys
  all_grouped =
      append_assoc (instance_polys 𝔾 g) (preprocess_polys 𝔾 g ++ witness_polys 𝔾 g) (permutation_polys 𝔾 g ++ rest)
      ∙ ap (λ (l : List (ℕ → 𝔾.F)). instance_polys 𝔾 g ++ l) (append_assoc (preprocess_polys 𝔾 g) (witness_polys 𝔾 g) (permutation_polys 𝔾 g ++ rest))

module _ (ws instances witness challenges : List ℕ) where
  abbrev log : Log 𝔾
  log = log_of ws instances witness challenges

  abbrev lent : List ℕ
  lent = words_of (rows_of (circuit_of ws)) (written_polys 𝔾 log)

  pub same_polys : Same 𝔾 (2 ^ (circuit_of ws).k) (lent_polys ws witness lent) (all_polys 𝔾 log)
  unfolding log_of lent_polys preprocess_polys witness_polys
  same_polys =
      subst (λ (l : List (ℕ → 𝔾.F)). Same 𝔾 (2 ^ (circuit_of ws).k) (lent_polys ws witness lent) l) (sym (all_grouped log))
      (same_append 𝔾 (2 ^ (circuit_of ws).k) _ (instance_polys 𝔾 log) _ _ (same_instances log)
      (same_append 𝔾 (2 ^ (circuit_of ws).k) (preprocess_polys 𝔾 log) (preprocess_polys 𝔾 log) _ _ (same_refl 𝔾 (2 ^ (circuit_of ws).k) (preprocess_polys 𝔾 log))
      (same_append 𝔾 (2 ^ (circuit_of ws).k) (witness_polys 𝔾 log) (witness_polys 𝔾 log) _ _ (same_refl 𝔾 (2 ^ (circuit_of ws).k) (witness_polys 𝔾 log))
      (same_append 𝔾 (2 ^ (circuit_of ws).k) _ (permutation_polys 𝔾 log) _ (rest log) (same_permutations log) (same_rest log)))))

  -- the user's challenges, then β and γ, then α
  same_challenges : length challenges ≡ num_challenges (circuit_of ws) + 2 → (α : ℕ)
      → map el (challenges ++ (α ∷ [])) ≡ log.user ++ (log.β ∷ log.γ ∷ el α ∷ [])
  unfolding log_of
  same_challenges e α =
      ap (λ (l : List ℕ). map el (l ++ (α ∷ []))) whole
      ∙ ap (map el) (append_assoc (take n challenges) (get_or challenges n 0 ∷ get_or challenges (n + 1) 0 ∷ []) (α ∷ []))
      ∙ map-append el (take n challenges) (get_or challenges n 0 ∷ get_or challenges (n + 1) 0 ∷ α ∷ [])
    where
      n : ℕ
      n = num_challenges (circuit_of ws)

      next : suc n ≡ n + 1
      next = omega arith

      whole : challenges ≡ take n challenges ++ (get_or challenges n 0 ∷ get_or challenges (n + 1) 0 ∷ [])
      whole =
          split_at challenges n 0 (omega arith)
          ∙ ap (λ (l : List ℕ). take n challenges ++ (get_or challenges n 0 ∷ l))
          (drop-cons challenges (suc n) 0 (omega arith)
          ∙ ap₂ (λ (w : ℕ) (l : List ℕ). w ∷ l) (ap (λ (i : ℕ). get_or challenges i 0) next)
          (drop_of_length-le challenges {i = suc (suc n)} (omega arith)))

  pub lent_value : length challenges ≡ num_challenges (circuit_of ws) + 2 → (circuit_of ws).k < 32 → (α : ℕ) (y : List ℕ) (e : Expr) (b : ℕ) → b < rows_of (circuit_of ws)
      → value_at 𝔾 (row_sum_environment ws witness lent (challenges ++ (α ∷ [])) y) e b
      ≡ value_at 𝔾 (composed_environment 𝔾 log (el α) (λ i. el (get_or y i 0))) e b
  unfolding log_of row_sum_environment composed_environment
  lent_value h s α y e b l =
      values_agree 𝔾 (row_sum_environment ws witness lent (challenges ++ (α ∷ [])) y)
      (record { k = (circuit_of ws).k; el = el; polys = all_polys 𝔾 log; challenges = map el (challenges ++ (α ∷ [])); eq = eq_at 𝔾 (circuit_of ws).k (λ i. el (get_or y i 0)) })
      refl
      refl
      refl
      refl
      s
      (same_at 𝔾 (2 ^ (circuit_of ws).k) (lent_polys ws witness lent) (all_polys 𝔾 log) same_polys)
      e
      b
      l
      ∙ ap
      (λ (cs : List 𝔾.F).
      value_at 𝔾 (record { k = (circuit_of ws).k; el = el; polys = all_polys 𝔾 log; challenges = cs; eq = eq_at 𝔾 (circuit_of ws).k (λ i. el (get_or y i 0)) }) e b)
      (same_challenges h α)
