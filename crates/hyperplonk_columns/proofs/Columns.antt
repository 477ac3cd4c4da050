-- The columns of a log in the column buffer, stage by stage.
use mathlib.Core.Path.{◌≡◌, refl, sym, ap, ap₂, ◌∙◌}
use mathlib.Core.List.{List, [], ◌++◌, append_assoc, append-nil}
use Prim.Native.Nat.{ℕ, ◌+◌, ◌*◌, ◌≤◌, ◌<◌}
use native.Mathlib.Nat.{mul-le-mul, zero-add, zero-mul, add-mul}
use native.Mathlib.Omega.{arith}
use lib.ListN.{length, get_or, take, length-append}
use Rattle.field.specs.Field.{𝔾, el, el_val}
use Rattle.lists.specs.Lists.{write_at, write_prefix}
use Rattle.lists.proofs.Columns.{get_tabulate, map_below}
use Rattle.lists.proofs.Turns.{grid_lt}
use Rattle.lists.proofs.Over.{write_at_write_prefix}
use Rattle.expression.specs.Value.{poly_of}
use Rattle.backend.specs.Circuit.{Circuit, Section, circuit_of, entries, rows_of, num_instance, num_challenges, num_copied, num_lookups, num_groups}
use Rattle.preprocessor.specs.Compose.{num_z}
use Rattle.prover.specs.Log.{Log}
use Rattle.prover.specs.Denominators.{factor_denominators}
use Rattle.prover.specs.Columns.{permutation_at, permutation_factor_at, instance_polys, permutation_polys, compressed_polys, m_polys, h_polys, z_polys, written_polys}
use Rattle.prover.specs.Words.{words_of}
use Rattle.prover.specs.Lent.{Given, environment_from_words, compressed_polys_in}
use Rattle.prover.proofs.Words.{words_get, over_columns}
use Rattle.prover.proofs.Lengths.{instances_length, permutations_length, compressed_length, m_length, h_length}
use Rattle.prover.proofs.Lent.{Reads, compressed_agree}
use Rattle.prover.proofs.Z.{z_agree}
use Rattle.hyperplonk_spec.specs.Build.{log_of, column_words}
use Rattle.hyperplonk_prepare.specs.Prepared.{layout_from_words, permutation_offset, compressed_offset, m_offset, h_offset, z_offset}
use Rattle.hyperplonk_columns.specs.Stages.{z_words, z_denominators}
use Rattle.hyperplonk_columns.specs.Kinds.{polys_before_m, polys_through_m, polys_after_m}
use Rattle.hyperplonk_columns.proofs.Divided.{denominators_agree}
use Rattle.hyperplonk_columns.proofs.Fronts.{over_take, take_write_at, front_get}

module _ (g : Log 𝔾) where
  abbrev c : Circuit
  c = g.circuit

  abbrev R : ℕ
  R = rows_of g.circuit

  -- ---- how many of each kind

  named_length : length (instance_polys 𝔾 g ++ permutation_polys 𝔾 g) ≡ num_instance c + num_copied c
  named_length =
      length-append (instance_polys 𝔾 g) (permutation_polys 𝔾 g) ∙ ap₂ ◌+◌ (instances_length 𝔾 g) (permutations_length 𝔾 g)

  pub before_m_length : length (polys_before_m 𝔾 g) ≡ num_instance c + num_copied c + num_lookups c * 2
  before_m_length =
      length-append (instance_polys 𝔾 g ++ permutation_polys 𝔾 g) (compressed_polys 𝔾 g) ∙ ap₂ ◌+◌ named_length (compressed_length 𝔾 g)

  counted_length : length (polys_through_m 𝔾 g) ≡ num_instance c + num_copied c + num_lookups c * 2 + num_groups c
  counted_length =
      length-append (polys_before_m 𝔾 g) (m_polys 𝔾 g)
      ∙ (let a = before_m_length in let b = m_length 𝔾 g in omega arith)

  -- where each begins
  permutations_at : permutation_offset c ≡ length (instance_polys 𝔾 g) * R
  permutations_at = ap (λ (n : ℕ). n * R) (sym (instances_length 𝔾 g))

  compressed_at_is : compressed_offset c ≡ length (instance_polys 𝔾 g ++ permutation_polys 𝔾 g) * R
  compressed_at_is = ap (λ (n : ℕ). n * R) (sym named_length)

  pub counts_at : m_offset c ≡ length (polys_before_m 𝔾 g) * R
  counts_at = ap (λ (n : ℕ). n * R) (sym before_m_length)

  pub hs_at : h_offset c ≡ length (polys_through_m 𝔾 g) * R
  hs_at = ap (λ (n : ℕ). n * R) (sym counted_length)

  zs_at : z_offset c ≡ h_offset c + length (h_polys 𝔾 g) * R
  zs_at =
      let n : num_instance c + num_copied c + num_lookups c * 2 + num_groups c * 2 ≡ num_instance c + num_copied c + num_lookups c * 2 + num_groups c + length (h_polys 𝔾 g) =
      let e = h_length 𝔾 g in omega arith in
      ap (λ (m : ℕ). m * R) n ∙ add-mul (num_instance c + num_copied c + num_lookups c * 2 + num_groups c) (length (h_polys 𝔾 g)) R

  -- ---- room

  abbrev Room : List ℕ → Type 0
  Room d = column_words c ≤ length d

  room_of : (d : List ℕ) (n : ℕ) → n ≤ num_instance c + num_copied c + num_lookups c * 2 + num_groups c * 2 + num_z c → Room d → n * R ≤ length d
  unfolding column_words
  room_of d n h r =
      let w : n * R ≤ (num_instance c + num_copied c + num_lookups c * 2 + num_groups c * 2 + num_z c) * R = mul-le-mul {m₁ = R} {m₂ = R} h (omega arith) in
      omega arith

  -- ---- one kind behind another

  -- the permutation columns behind the instance columns
  named_more : (d : List ℕ) → Room d
      → write_at (write_at d 0 (words_of R (instance_polys 𝔾 g))) (permutation_offset c) (words_of R (permutation_polys 𝔾 g))
      ≡ write_at d 0 (words_of R (instance_polys 𝔾 g ++ permutation_polys 𝔾 g))
  named_more d r =
      over_columns R d 0 (instance_polys 𝔾 g) (permutation_polys 𝔾 g) (permutation_offset c)
      (permutations_at ∙ sym (zero-add (length (instance_polys 𝔾 g) * R)))
      (room_of d (num_instance c) (omega arith) r)

  -- the compressed columns behind both
  before_m_more : (d : List ℕ) → Room d
      → write_at (write_at d 0 (words_of R (instance_polys 𝔾 g ++ permutation_polys 𝔾 g))) (compressed_offset c) (words_of R (compressed_polys 𝔾 g))
      ≡ write_at d 0 (words_of R (polys_before_m 𝔾 g))
  before_m_more d r =
      over_columns R d 0 (instance_polys 𝔾 g ++ permutation_polys 𝔾 g) (compressed_polys 𝔾 g) (compressed_offset c)
      (compressed_at_is ∙ sym (zero-add (length (instance_polys 𝔾 g ++ permutation_polys 𝔾 g) * R)))
      (room_of d (num_instance c + num_copied c) (omega arith) r)

  -- m behind these
  pub through_m_more : (d : List ℕ) → Room d
      → write_at (write_at d 0 (words_of R (polys_before_m 𝔾 g))) (m_offset c) (words_of R (m_polys 𝔾 g))
      ≡ write_at d 0 (words_of R (polys_through_m 𝔾 g))
  through_m_more d r =
      over_columns R d 0 (polys_before_m 𝔾 g) (m_polys 𝔾 g) (m_offset c)
      (counts_at ∙ sym (zero-add (length (polys_before_m 𝔾 g) * R)))
      (room_of d (num_instance c + num_copied c + num_lookups c * 2) (omega arith) r)

  -- z behind h
  last_more : (d : List ℕ) → Room d
      → write_at (write_at d (h_offset c) (words_of R (h_polys 𝔾 g))) (z_offset c) (words_of R (z_polys 𝔾 g))
      ≡ write_at d (h_offset c) (words_of R (polys_after_m 𝔾 g))
  last_more d r =
      over_columns R d (h_offset c) (h_polys 𝔾 g) (z_polys 𝔾 g) (z_offset c) zs_at
      (room_of d (num_instance c + num_copied c + num_lookups c * 2 + num_groups c * 2) (omega arith) r)

  -- all of them
  written_grouped : polys_through_m 𝔾 g ++ polys_after_m 𝔾 g ≡ written_polys 𝔾 g
  unfolding written_polys
  written_grouped = simp append_assoc

  pub written_more : (d : List ℕ) → Room d
      → write_at (write_at d 0 (words_of R (polys_through_m 𝔾 g))) (h_offset c) (words_of R (polys_after_m 𝔾 g))
      ≡ write_prefix (words_of R (written_polys 𝔾 g)) d
  written_more d r =
      over_columns R d 0 (polys_through_m 𝔾 g) (polys_after_m 𝔾 g) (h_offset c)
      (hs_at ∙ sym (zero-add (length (polys_through_m 𝔾 g) * R)))
      (room_of d (num_instance c + num_copied c + num_lookups c * 2 + num_groups c) (omega arith) r)
      ∙ ap (λ (ps : List (ℕ → 𝔾.F)). write_at d 0 (words_of R ps)) written_grouped
      ∙ sym (write_at_write_prefix (words_of R (written_polys 𝔾 g)) d)

  -- ---- what a buffer with columns at its front reads as

  -- the instance columns
  instances_read : (e d : List ℕ) (rs all : List (ℕ → 𝔾.F)) → all ≡ instance_polys 𝔾 g ++ rs → d ≡ write_at e 0 (words_of R all)
      → (j : ℕ) → j < num_instance c * R → get_or d j 0 ≡ get_or (words_of R (instance_polys 𝔾 g)) j 0
  instances_read e d rs all parts front j l =
      ap (λ (n : ℕ). get_or d n 0) (sym (zero-add j))
      ∙ front_get R e d [] (instance_polys 𝔾 g) rs all parts front 0 (sym (zero-mul R)) j
      (let q = permutations_at in omega arith)

  -- the label of a copied column
  labels_read : (e d : List ℕ) (rs all : List (ℕ → 𝔾.F)) → all ≡ (instance_polys 𝔾 g ++ permutation_polys 𝔾 g) ++ rs
      → d ≡ write_at e 0 (words_of R all)
      → (i b : ℕ) → i < num_copied c → b < R → el (get_or d ((num_instance c + i) * R + b) 0) ≡ permutation_at 𝔾 g i b
  unfolding permutation_polys
  labels_read e d rs all parts front i b hi hb =
      let n : (num_instance c + i) * R + b ≡ permutation_offset c + (i * R + b) =
      let q = add-mul (num_instance c) i R in omega arith in
      let inside : i * R + b < length (permutation_polys 𝔾 g) * R =
      grid_lt (length (permutation_polys 𝔾 g)) R i b (let q = permutations_length 𝔾 g in omega arith) hb in
      ap el
      (ap (λ (m : ℕ). get_or d m 0) n
      ∙ front_get R e d (instance_polys 𝔾 g) (permutation_polys 𝔾 g) rs all parts front (permutation_offset c) permutations_at (i * R + b) inside
      ∙ words_get R (permutation_polys 𝔾 g) i b (let q = permutations_length 𝔾 g in omega arith) hb)
      ∙ el_val (poly_of 𝔾 (permutation_polys 𝔾 g) i b)
      ∙ ap (λ (ps : List (ℕ → 𝔾.F)). poly_of 𝔾 ps i b) (map_below (permutation_at 𝔾 g) (num_copied c))
      ∙ ap (λ (p : ℕ → 𝔾.F). p b) (get_tabulate (permutation_at 𝔾 g) (num_copied c) i (λ r. 𝔾.zero) hi)

  -- the compressed columns, before and after the counts
  compressed_read : (e d : List ℕ) (rs all : List (ℕ → 𝔾.F)) → all ≡ polys_before_m 𝔾 g ++ rs → d ≡ write_at e 0 (words_of R all)
      → (j : ℕ) → j < num_lookups c * 2 * R → get_or d (compressed_offset c + j) 0 ≡ get_or (words_of R (compressed_polys 𝔾 g)) j 0
  compressed_read e d rs all parts front j l =
      front_get R e d (instance_polys 𝔾 g ++ permutation_polys 𝔾 g) (compressed_polys 𝔾 g) rs all parts front (compressed_offset c) compressed_at_is j
      (let q : length (compressed_polys 𝔾 g) * R ≡ num_lookups c * 2 * R = ap (λ (n : ℕ). n * R) (compressed_length 𝔾 g) in omega arith)

  pub compressed_before_m : (d : List ℕ) (j : ℕ) → j < num_lookups c * 2 * R
      → get_or (write_at d 0 (words_of R (polys_before_m 𝔾 g))) (compressed_offset c + j) 0 ≡ get_or (words_of R (compressed_polys 𝔾 g)) j 0
  compressed_before_m d =
      compressed_read d (write_at d 0 (words_of R (polys_before_m 𝔾 g))) [] (polys_before_m 𝔾 g) (sym (append-nil (polys_before_m 𝔾 g))) refl

  -- a buffer that has the columns to the counts at its front
  module _ (d : List ℕ) (front : take (h_offset c) d ≡ words_of R (polys_through_m 𝔾 g)) where
    counted_front : d ≡ write_at d 0 (words_of R (polys_through_m 𝔾 g))
    counted_front = take_write_at R d (polys_through_m 𝔾 g) (h_offset c) hs_at front

    pub compressed_counted : (j : ℕ) → j < num_lookups c * 2 * R → get_or d (compressed_offset c + j) 0 ≡ get_or (words_of R (compressed_polys 𝔾 g)) j 0
    compressed_counted = compressed_read d d (m_polys 𝔾 g) (polys_through_m 𝔾 g) refl counted_front

    pub counts_counted : (j : ℕ) → j < num_groups c * R → get_or d (m_offset c + j) 0 ≡ get_or (words_of R (m_polys 𝔾 g)) j 0
    counts_counted j l =
        front_get R d d (polys_before_m 𝔾 g) (m_polys 𝔾 g) [] (polys_through_m 𝔾 g) (sym (append-nil (polys_through_m 𝔾 g))) counted_front (m_offset c)
        counts_at j
        (let q : length (m_polys 𝔾 g) * R ≡ num_groups c * R = ap (λ (n : ℕ). n * R) (m_length 𝔾 g) in omega arith)

  -- which it has when m is written
  pub counted_taken : (d : List ℕ) → take (h_offset c) (write_at d 0 (words_of R (polys_through_m 𝔾 g))) ≡ words_of R (polys_through_m 𝔾 g)
  counted_taken d =
      ap (λ (n : ℕ). take n (write_at d 0 (words_of R (polys_through_m 𝔾 g)))) hs_at ∙ over_take R d (polys_through_m 𝔾 g)

-- ---- the log of the words

module _ (ws instances witness challenges : List ℕ) (positive : 0 < (circuit_of ws).k) (small : (circuit_of ws).k < 21)
    (given : Given (circuit_of ws).k (layout_from_words ws)) (all-instances : entries ws Section.instances ≡ num_instance (circuit_of ws)) where
  abbrev log : Log 𝔾
  log = log_of ws instances witness challenges

  abbrev rows : ℕ
  rows = rows_of (circuit_of ws)

  -- instance columns at the front are those that a user expression reads
  reads : (e d : List ℕ) (rs all : List (ℕ → 𝔾.F)) → all ≡ instance_polys 𝔾 log ++ rs → d ≡ write_at e 0 (words_of rows all)
      → Reads log (layout_from_words ws) ws witness d (take (num_challenges (circuit_of ws)) challenges)
  unfolding log_of layout_from_words
  reads e d rs all parts front =
      record {
        circuit_is = refl;
        el_is = refl;
        witness_is = refl;
        user_is = refl;
        small = small;
        given = given;
        instances = all-instances;
        preprocess = refl;
        start = refl;
        witnesses = refl;
        columns_are = λ j l.
            instances_read log e d rs all parts front j
            (let q : entries ws Section.instances * rows ≡ num_instance (circuit_of ws) * rows = ap (λ (n : ℕ). n * rows) all-instances in omega arith);
      }

  module _ (d₀ d₁ d₂ d₃ : List ℕ) (room : column_words (circuit_of ws) ≤ length d₀)
      (first : d₁ ≡ write_at d₀ 0 (words_of rows (instance_polys 𝔾 log)))
      (second : d₂ ≡ write_at d₁ (permutation_offset (circuit_of ws)) (words_of rows (permutation_polys 𝔾 log)))
      (third : d₃
      ≡ write_at d₂ (compressed_offset (circuit_of ws))
      (words_of rows
      (compressed_polys_in 𝔾
      (environment_from_words ws witness d₂ (take (num_challenges (circuit_of ws)) challenges) (layout_from_words ws) (circuit_of ws).k)
      (el (get_or challenges (num_challenges (circuit_of ws)) 0))
      (circuit_of ws).lookups))) where
    named_front : d₂ ≡ write_at d₀ 0 (words_of rows (instance_polys 𝔾 log ++ permutation_polys 𝔾 log))
    unfolding log_of
    named_front =
        second
        ∙ ap (λ (d : List ℕ). write_at d (permutation_offset (circuit_of ws)) (words_of rows (permutation_polys 𝔾 log))) first
        ∙ named_more log d₀ room

    -- the columns before the counts are the log's
    pub before_m_written : d₃ ≡ write_at d₀ 0 (words_of rows (polys_before_m 𝔾 log))
    unfolding log_of
    before_m_written =
        third
        ∙ ap (write_at d₂ (compressed_offset (circuit_of ws)))
        (compressed_agree log (layout_from_words ws) ws witness d₂ (take (num_challenges (circuit_of ws)) challenges)
        (reads d₀ d₂ (permutation_polys 𝔾 log) (instance_polys 𝔾 log ++ permutation_polys 𝔾 log) refl named_front)
        (get_or challenges (num_challenges (circuit_of ws)) 0) refl)
        ∙ ap (λ (d : List ℕ). write_at d (compressed_offset (circuit_of ws)) (words_of rows (compressed_polys 𝔾 log))) named_front
        ∙ before_m_more log d₀ room

  module _ (d₄ d₅ : List ℕ) (room : column_words (circuit_of ws) ≤ length d₄)
      (front : take (h_offset (circuit_of ws)) d₄ ≡ words_of rows (polys_through_m 𝔾 log))
      (fifth : d₅ ≡ write_at d₄ (h_offset (circuit_of ws)) (words_of rows (h_polys 𝔾 log))) where
    fronted : d₅ ≡ write_at d₄ 0 (words_of rows (polys_through_m 𝔾 log ++ h_polys 𝔾 log))
    unfolding log_of
    fronted =
        fifth
        ∙ ap (λ (d : List ℕ). write_at d (h_offset (circuit_of ws)) (words_of rows (h_polys 𝔾 log))) (counted_front log d₄ front)
        ∙ over_columns rows d₄ 0 (polys_through_m 𝔾 log) (h_polys 𝔾 log) (h_offset (circuit_of ws))
        (hs_at log ∙ sym (zero-add (length (polys_through_m 𝔾 log) * rows)))
        (room_of log d₄ (num_instance (circuit_of ws) + num_copied (circuit_of ws) + num_lookups (circuit_of ws) * 2 + num_groups (circuit_of ws)) (omega arith) room)

    labels : (i b : ℕ) → i < num_copied (circuit_of ws) → b < rows
        → el (get_or d₅ (((layout_from_words ws).instances + i) * rows + b) 0) ≡ permutation_at 𝔾 log i b
    unfolding log_of layout_from_words
    labels i b hi hb =
        ap (λ (n : ℕ). el (get_or d₅ ((n + i) * rows + b) 0)) all-instances
        ∙ labels_read log d₄ d₅ (compressed_polys 𝔾 log ++ (m_polys 𝔾 log ++ h_polys 𝔾 log)) (polys_through_m 𝔾 log ++ h_polys 𝔾 log)
        (simp append_assoc) fronted i b hi hb

    read_after : Reads log (layout_from_words ws) ws witness d₅ (take (num_challenges (circuit_of ws)) challenges)
    unfolding log_of
    read_after =
        reads d₄ d₅ (permutation_polys 𝔾 log ++ (compressed_polys 𝔾 log ++ (m_polys 𝔾 log ++ h_polys 𝔾 log)))
        (polys_through_m 𝔾 log ++ h_polys 𝔾 log) (simp append_assoc) fronted

    -- the denominators of z are the log's
    pub divided_by : z_denominators ws witness d₅ challenges ≡ factor_denominators 𝔾 rows (num_copied (circuit_of ws)) (permutation_factor_at 𝔾 log)
    unfolding log_of
    divided_by =
        denominators_agree log (layout_from_words ws) ws witness d₅ (take (num_challenges (circuit_of ws)) challenges) read_after
        (get_or challenges (num_challenges (circuit_of ws)) 0)
        (get_or challenges (num_challenges (circuit_of ws) + 1) 0)
        refl
        refl
        labels

    -- h and z behind the counts are the log's
    pub last_written : (d₆ : List ℕ) → d₆ ≡ write_at d₅ (z_offset (circuit_of ws)) (z_words ws witness d₅ challenges)
        → d₆ ≡ write_at d₄ (h_offset (circuit_of ws)) (words_of rows (polys_after_m 𝔾 log))
    unfolding log_of layout_from_words
    last_written d₆ sixth =
        sixth
        ∙ ap (write_at d₅ (z_offset (circuit_of ws)))
        (z_agree log (layout_from_words ws) ws witness d₅ (take (num_challenges (circuit_of ws)) challenges) read_after positive
        (get_or challenges (num_challenges (circuit_of ws)) 0)
        (get_or challenges (num_challenges (circuit_of ws) + 1) 0)
        refl
        refl
        labels)
        ∙ ap (λ (d : List ℕ). write_at d (z_offset (circuit_of ws)) (words_of rows (z_polys 𝔾 log))) fifth
        ∙ last_more log d₄ room
