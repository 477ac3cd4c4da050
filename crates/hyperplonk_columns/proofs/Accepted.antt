-- The stages on accepted circuit words: what each asks for, and what all of them write.
use mathlib.Core.Path.{◌≡◌, refl, sym, ap, ap₂, ◌∙◌, subst}
use mathlib.Core.Bool.{Bool, true, false, cond, ◌&&◌, ◌||◌}
use mathlib.Core.List.{List}
use Prim.Native.Nat.{ℕ, ◌+◌, ◌*◌, ◌≤◌, ◌<◌}
use native.Mathlib.Nat.{add-mul, mul-le-mul}
use native.Mathlib.Omega.{arith}
use lib.ListN.{length, get_or, take, drop, replicate}
use lib.Dec.{eqb}
use borrow.Author.Tests.{eqb-true}
use Rattle.std.specs.Prelude.{Ok, Err}
use Rattle.field.specs.Prime.{P}
use Rattle.field.specs.Field.{𝔾, el}
use Rattle.lists.specs.Lists.{All, write_at, total, write_prefix, any_of}
use Rattle.lists.proofs.Tests.{and_left, and_right}
use Rattle.lists.proofs.Columns.{tabulate_length}
use Rattle.lists.proofs.Over.{drop_more, drop_past}
use Rattle.backend.specs.Circuit.{Circuit, Section, body_of, circuit_of, rows_of, num_instance, num_witness, num_challenges, num_copied, num_lookups, num_groups, group_sizes, groups_of}
use Rattle.preprocessor.specs.Compose.{num_z, params_of}
use Rattle.preprocessor.specs.declared.CircuitParams.{CircuitParams}
use Rattle.prover.specs.Log.{Log}
use Rattle.prover.specs.Columns.{permutation_at, permutation_factor_at, group_inputs, group_table, instance_polys, permutation_polys, compressed_polys, m_polys, h_polys, all_covered}
use Rattle.prover.specs.Denominators.{some_zero, group_denominators, factor_denominators, zero_denominator}
use Rattle.prover.specs.Answers.{Outcome, outcome_of, outcome_words}
use Rattle.prover.proofs.Answers.{written_none, zero_some}
use Rattle.prover.proofs.NoneZero.{zero_parts}
use Rattle.prover.specs.Words.{words_of, Small}
use Rattle.prover.specs.Lent.{Given}
use Rattle.prover.proofs.Words.{words_length}
use Rattle.hyperplonk_spec.specs.Build.{log_of, column_words, q12}
use Rattle.hyperplonk_prepare.specs.Prepared.{Accepted, layout_from_words, permutation_offset, compressed_offset, m_offset, h_offset, z_offset}
use Rattle.hyperplonk_prepare.proofs.Accepted.{k_pos, k_few, rows_few, rows_is, few_user, few_lookups, given, instances_entries, sizes_are, sizes_pos, sizes_sum}
use Rattle.hyperplonk_prepare.proofs.Computed.{columns_low}
use Rattle.prover_lookup.specs.Lookups.{covered_from, counts_from, zero_from, hs_from, CountsWritten, HsWritten}
use Rattle.prover_lookup.proofs.Log.{lookups_small, all_covered_is, zero_lookups_is, counts_are, hs_are}
use Rattle.hyperplonk_columns.specs.Stages.{instance_words, permutation_words, compressed_words, z_words, z_denominators}
use Rattle.hyperplonk_columns.specs.Kinds.{polys_before_m, polys_through_m, polys_after_m}
use Rattle.hyperplonk_columns.specs.Outcome.{ColumnsOutcome, columns_outcome, columns_left, AfterM}
use Rattle.hyperplonk_columns.specs.declared.Refused.{Refused}
use Rattle.hyperplonk_columns.proofs.Divided.{never, first_zero, first_none, past_z}
use Rattle.hyperplonk_columns.proofs.Fronts.{cleared}
use Rattle.hyperplonk_columns.proofs.Columns.{counts_at, hs_at, through_m_more, compressed_before_m, compressed_counted, counts_counted, counted_taken, written_more, before_m_written, divided_by, last_written}

-- ---- each kind begins where the one before ends

pub record Placed (c : Circuit) : Type 0 where
  pub permutations : permutation_offset c + num_copied c * rows_of c ≡ compressed_offset c
  pub compressed : compressed_offset c + num_lookups c * 2 * rows_of c ≡ m_offset c
  pub counts : m_offset c + num_groups c * rows_of c ≡ h_offset c
  pub hs : h_offset c + num_groups c * rows_of c ≡ z_offset c
  pub zs : z_offset c + num_z c * rows_of c ≡ column_words c

pub placed : (c : Circuit) → Placed c
unfolding column_words
placed c =
    let R : ℕ = rows_of c in
    let I : ℕ = num_instance c in
    let n : ℕ = num_copied c in
    let L : ℕ = num_lookups c in
    let G : ℕ = num_groups c in
    record {
      permutations = sym (add-mul I n R);
      compressed = sym (add-mul (I + n) (L * 2) R);
      counts = sym (add-mul (I + n + L * 2) G R);
      hs = sym (add-mul (I + n + L * 2 + G) G R) ∙ ap (λ (m : ℕ). m * R) (let q : I + n + L * 2 + G + G ≡ I + n + L * 2 + G * 2 = omega arith in q);
      zs = sym (add-mul (I + n + L * 2 + G * 2) (num_z c) R);
    }

-- ---- question 12

module _ (c : Circuit) (instances witness challenges : List ℕ) (yes : q12 c instances witness challenges ≡ true) where
  abbrev first : Bool
  first = eqb (length instances) (total c.instances)

  abbrev second : Bool
  second = eqb (length witness) (num_witness c * rows_of c)

  abbrev third : Bool
  third = eqb (length challenges) (num_challenges c + 2)

  pub exact_instances : length instances ≡ total c.instances
  unfolding q12
  exact_instances = eqb-true (length instances) (total c.instances) (and_left first second (and_left (first && second) third yes))

  pub exact_challenges : length challenges ≡ num_challenges c + 2
  unfolding q12
  exact_challenges = eqb-true (length challenges) (num_challenges c + 2) (and_right (first && second) third yes)

-- ---- the words that the stages write

-- what is answered by the tests of questions 15 and 17
abbrev by_tests : Bool → Bool → ColumnsOutcome
by_tests t z = cond t (cond z (Err Refused.ZeroDenominator) (Ok tt)) (Err Refused.Uncovered)

module _ (ws instances witness challenges : List ℕ) (a : Accepted ws) where
  abbrev log : Log 𝔾
  log = log_of ws instances witness challenges

  abbrev c : Circuit
  c = circuit_of ws

  abbrev rows : ℕ
  rows = rows_of (circuit_of ws)

  given_here : Given (circuit_of ws).k (layout_from_words ws)
  unfolding circuit_of
  given_here = given ws a

  pos_here : 0 < (circuit_of ws).k
  unfolding circuit_of
  pos_here = k_pos ws a

  small_here : (circuit_of ws).k < 21
  unfolding circuit_of
  small_here = let h = k_few ws a in omega arith

  -- the columns before the counts
  pub before_m_end : (d₀ d₁ d₂ d₃ : List ℕ) → column_words c ≤ length d₀
      → d₁ ≡ write_at d₀ 0 (instance_words ws instances)
      → d₂ ≡ write_at d₁ (permutation_offset c) (permutation_words ws)
      → d₃ ≡ write_at d₂ (compressed_offset c) (compressed_words ws witness d₂ challenges)
      → d₃ ≡ write_at d₀ 0 (words_of rows (polys_before_m 𝔾 log))
  unfolding log_of instance_polys permutation_polys permutation_at
  before_m_end d₀ d₁ d₂ d₃ room first second third =
      before_m_written ws instances witness challenges pos_here small_here given_here (instances_entries ws a) d₀ d₁ d₂ d₃ room first second third

  -- h and z behind the counts, of a buffer that has the columns to the counts at its front
  module _ (d₄ : List ℕ) (room : column_words c ≤ length d₄) (front : take (h_offset c) d₄ ≡ words_of rows (polys_through_m 𝔾 log)) where
    abbrev in_lookups : Bool
    in_lookups = any_of (λ gr. some_zero 𝔾 (group_denominators 𝔾 rows log.γ (group_inputs 𝔾 log gr) (group_table 𝔾 log gr))) (groups_of c)

    abbrev in_factors : Bool
    in_factors = some_zero 𝔾 (factor_denominators 𝔾 rows (num_copied c) (permutation_factor_at 𝔾 log))

    parts : zero_denominator 𝔾 log ≡ (in_lookups || in_factors)
    unfolding log_of
    parts = zero_parts 𝔾 log

    -- a group has a denominator that is zero
    pub h_stopped : (d₅ : List ℕ) → ◌≡◌ {A = Outcome} (Err (record {})) (outcome_of in_lookups)
        → drop (h_offset c + num_groups c * rows) d₅ ≡ drop (h_offset c + num_groups c * rows) d₄
        → AfterM log d₄ (Err (record {})) d₅
    unfolding log_of
    h_stopped d₅ is back =
        let p = placed c in
        record {
          is = first_zero in_lookups in_factors (zero_denominator 𝔾 log) parts (zero_some in_lookups (sym is));
          written = λ e. never e;
          back = drop_more (h_offset c + num_groups c * rows) (column_words c) d₅ d₄ (omega arith) back;
        }

    -- none has: then z decides
    pub z_decides : (d₅ d₆ : List ℕ) (r : Outcome) → ◌≡◌ {A = Outcome} (Ok tt) (outcome_of in_lookups)
        → drop (h_offset c + num_groups c * rows) d₅ ≡ drop (h_offset c + num_groups c * rows) d₄
        → d₅ ≡ write_at d₄ (h_offset c) (words_of rows (h_polys 𝔾 log))
        → length d₅ ≡ length d₄
        → (r ≡ outcome_of (some_zero 𝔾 (z_denominators ws witness d₅ challenges)))
        × (d₆ ≡ write_at d₅ (z_offset c) (outcome_words r (z_words ws witness d₅ challenges)))
        → AfterM log d₄ r d₆
    unfolding log_of
    z_decides d₅ d₆ r is back fifth size z =
        let p = placed c in
        record {
          is =
              first_none in_lookups in_factors (zero_denominator 𝔾 log) r parts (written_none in_lookups (sym is))
              (z.0 ∙ ap (λ (xs : List 𝔾.F). outcome_of (some_zero 𝔾 xs))
              (divided_by ws instances witness challenges pos_here small_here given_here (instances_entries ws a) d₄ d₅ room front fifth));
          written = λ e.
              last_written ws instances witness challenges pos_here small_here given_here (instances_entries ws a) d₄ d₅ room front fifth d₆
              (z.1 ∙ ap (λ (o : Outcome). write_at d₅ (z_offset c) (outcome_words o (z_words ws witness d₅ challenges))) e);
          back =
              past_z d₅ d₆ (z_offset c) (column_words c) (num_z c * rows) r (z_words ws witness d₅ challenges) z_size_is p.zs
              (omega arith)
              z.1
              ∙ drop_more (h_offset c + num_groups c * rows) (column_words c) d₅ d₄ (omega arith) back;
        }
      where
        z_size_is : length (z_words ws witness d₅ challenges) ≡ num_z c * rows
        z_size_is = words_length rows _ ∙ ap (λ (n : ℕ). n * rows) (tabulate_length _ (num_z c))

  module _ (d₀ d₃ : List ℕ) (room : column_words c ≤ length d₀) (before : d₃ ≡ write_at d₀ 0 (words_of rows (polys_before_m 𝔾 log))) where
    -- m behind them
    counted : (d₄ : List ℕ) → d₄ ≡ write_at d₃ (m_offset c) (words_of rows (m_polys 𝔾 log)) → d₄ ≡ write_at d₀ 0 (words_of rows (polys_through_m 𝔾 log))
    unfolding log_of
    counted d₄ fourth =
        fourth ∙ ap (λ (d : List ℕ). write_at d (m_offset c) (words_of rows (m_polys 𝔾 log))) before ∙ through_m_more log d₀ room

    -- all of them, or that a denominator is zero
    module _ (d₄ d₆ : List ℕ) (r : Outcome) (fourth : d₄ ≡ write_at d₃ (m_offset c) (words_of rows (m_polys 𝔾 log)))
        (yes : true ≡ all_covered 𝔾 log)
        (last : take (h_offset c) d₄ ≡ words_of rows (polys_through_m 𝔾 log) → AfterM log d₄ r d₆) where
      after : AfterM log d₄ r d₆
      unfolding log_of
      after = last (ap (take (h_offset c)) (counted d₄ fourth) ∙ counted_taken log d₀)

      pub all_end : r ≡ Ok tt
          → (◌≡◌ {A = ColumnsOutcome} (Ok tt) (columns_outcome log)) × (d₆ ≡ write_prefix (columns_left log (Ok tt)) d₀)
      unfolding log_of
      all_end e = (
        sym (ap₂ (λ (t z : Bool). by_tests t z) (sym yes)
            (written_none (zero_denominator 𝔾 log) (sym after.is ∙ e))),
        after.written e
            ∙ ap (λ (d : List ℕ). write_at d (h_offset c) (words_of rows (polys_after_m 𝔾 log))) (counted d₄ fourth)
            ∙ written_more log d₀ room,
      )

      -- question 17: "zeroes the column words as 15 does"
      pub zero_end : (d₇ : List ℕ) (words : ℕ) → r ≡ Err (record {}) → words ≡ column_words c → d₇ ≡ write_at d₆ 0 (replicate words 0)
          → (◌≡◌ {A = ColumnsOutcome} (Err Refused.ZeroDenominator) (columns_outcome log)) × (d₇ ≡ write_prefix (columns_left log (Err Refused.ZeroDenominator)) d₀)
      unfolding log_of
      zero_end d₇ words e q zeros = (
        sym (ap₂ (λ (t z : Bool). by_tests t z) (sym yes)
            (zero_some (zero_denominator 𝔾 log) (sym after.is ∙ e))),
        zeros
            ∙ ap (λ (n : ℕ). write_at d₆ 0 (replicate n 0)) q
            ∙ cleared (column_words c) d₀ d₆
            (after.back ∙ ap (drop (column_words c)) (counted d₄ fourth)
            ∙ drop_past d₀ 0 (words_of rows (polys_through_m 𝔾 log)) (column_words c) (omega arith)
            (let p = placed c in let e = words_length rows (polys_through_m 𝔾 log) in let q = hs_at log in omega arith)),
      )

    -- question 15: "the column words needed become 0"
    pub none_end : (d₄ d₆ : List ℕ) (words : ℕ) → false ≡ all_covered 𝔾 log
        → drop (m_offset c + num_groups c * rows) d₄ ≡ drop (m_offset c + num_groups c * rows) d₃
        → words ≡ column_words c
        → d₆ ≡ write_at d₄ 0 (replicate words 0)
        → (◌≡◌ {A = ColumnsOutcome} (Err Refused.Uncovered) (columns_outcome log)) × (d₆ ≡ write_prefix (columns_left log (Err Refused.Uncovered)) d₀)
    unfolding log_of
    none_end d₄ d₆ words un behind q zeros =
        let p = placed c in (
          ap (λ (t : Bool). by_tests t (zero_denominator 𝔾 log)) un,
          zeros
              ∙ ap (λ (n : ℕ). write_at d₄ 0 (replicate n 0)) q
              ∙ cleared (column_words c) d₀ d₄
              (drop_more (m_offset c + num_groups c * rows) (column_words c) d₄ d₃ (omega arith) behind
              ∙ ap (drop (column_words c)) before
              ∙ drop_past d₀ 0 (words_of rows (polys_before_m 𝔾 log)) (column_words c) (omega arith)
              (let e = words_length rows (polys_before_m 𝔾 log) in let q = counts_at log in omega arith)),
        )

-- ---- the numbers of accepted circuit words

product_fit : (n rows : ℕ) → n ≤ 184 → rows ≤ 1024 → n * rows ≤ 188416
product_fit n rows h l = mul-le-mul h l

module _ (ws : List ℕ) (a : Accepted ws) (v : CircuitParams) (e : v ≡ params_of (circuit_of ws)) where
  pub groups_are : v.num_groups ≡ num_groups (circuit_of ws)
  unfolding params_of
  groups_are = ap (λ (v : CircuitParams). v.num_groups) e

  rows_are : v.rows ≡ rows_of (circuit_of ws)
  unfolding params_of
  rows_are = ap (λ (v : CircuitParams). v.rows) e

  pub parts_are : v.num_chunks ≡ num_z (circuit_of ws)
  unfolding params_of
  parts_are = ap (λ (v : CircuitParams). v.num_chunks) e

  pub user_is : v.num_challenges ≡ num_challenges (circuit_of ws)
  unfolding params_of
  user_is = ap (λ (v : CircuitParams). v.num_challenges) e

  pub user_few : v.num_challenges ≤ 16
  user_few = let h = few_user ws a in let q = user_is in omega arith

  -- the words of n columns fit
  pub words_fit : (n : ℕ) → n ≤ get_or ws 3 0 + v.num_permutation_polys + v.num_lookups * 2 + v.num_groups * 2 + v.num_chunks → n * v.rows ≤ 188416
  words_fit n h =
      let q = columns_low ws a v e in
      product_fit n v.rows (let w = q.0 in omega arith) q.1

  pub places_from : ((get_or ws 3 0 + v.num_permutation_polys) * v.rows ≡ compressed_offset (circuit_of ws))
      × ((get_or ws 3 0 + v.num_permutation_polys + v.num_lookups * 2) * v.rows ≡ m_offset (circuit_of ws))
      × ((get_or ws 3 0 + v.num_permutation_polys + v.num_lookups * 2 + v.num_groups) * v.rows ≡ h_offset (circuit_of ws))
  unfolding params_of
  places_from =
      let c : Circuit = circuit_of ws in
      let i = instances_entries ws a in (
        ap (λ (v : CircuitParams). (get_or ws 3 0 + v.num_permutation_polys) * v.rows) e ∙ ap (λ (i : ℕ). (i + num_copied c) * rows_of c) i,
        ap (λ (v : CircuitParams). (get_or ws 3 0 + v.num_permutation_polys + v.num_lookups * 2) * v.rows) e
            ∙ ap (λ (i : ℕ). (i + num_copied c + num_lookups c * 2) * rows_of c) i,
        ap (λ (v : CircuitParams). (get_or ws 3 0 + v.num_permutation_polys + v.num_lookups * 2 + v.num_groups) * v.rows) e
            ∙ ap (λ (i : ℕ). (i + num_copied c + num_lookups c * 2 + num_groups c) * rows_of c) i,
      )

-- ---- what the stages ask for

module _ (ws instances witness challenges : List ℕ) (q : q12 (circuit_of ws) instances witness challenges ≡ true) (n : ℕ) (room : column_words (circuit_of ws) ≤ n) where
  abbrev circuit : Circuit
  circuit = circuit_of ws

  pub instance_asked : (total (body_of ws Section.instances) ≡ length instances)
      × (num_instance circuit * rows_of circuit ≤ n)
  unfolding circuit_of
  instance_asked =
      let p = placed circuit in (sym (exact_instances circuit instances witness challenges q), omega arith)

module _ (ws : List ℕ) (a : Accepted ws) (v : CircuitParams) (e : v ≡ params_of (circuit_of ws)) (sizes : List ℕ)
    (s-is : sizes ≡ group_sizes (circuit_of ws).groups) (x y : ℕ) (x-is : x ≡ compressed_offset (circuit_of ws))
    (y-is : y ≡ m_offset (circuit_of ws)) (n : ℕ) (room : column_words (circuit_of ws) ≤ n) where
  sizes_many : length sizes ≡ num_groups (circuit_of ws)
  sizes_many = ap length s-is ∙ sizes_are ws a

  sizes_all : total sizes ≡ num_lookups (circuit_of ws)
  sizes_all = ap total s-is ∙ sizes_sum ws a

  sizes_some : All (λ s. 0 < s) sizes
  sizes_some = subst (All (λ s. 0 < s)) (sym s-is) (sizes_pos ws a)

  lookup_words : total sizes * 2 * v.rows ≡ num_lookups (circuit_of ws) * 2 * rows_of (circuit_of ws)
  lookup_words = ap₂ (λ (l r : ℕ). l * 2 * r) sizes_all (rows_are ws a v e)

  count_words_is : length sizes * v.rows ≡ num_groups (circuit_of ws) * rows_of (circuit_of ws)
  count_words_is = ap₂ (λ (l r : ℕ). l * r) sizes_many (rows_are ws a v e)

  pub counts_asked : (instances witness challenges d₀ d : List ℕ)
      → d ≡ write_at d₀ 0 (words_of (rows_of (circuit_of ws)) (polys_before_m 𝔾 (log_of ws instances witness challenges)))
      → length d ≡ n
      → All (λ s. 0 < s) sizes
      × (x + total sizes * 2 * v.rows ≤ y)
      × (y + length sizes * v.rows ≤ length d)
      × Small (total sizes * 2 * v.rows) (λ b. get_or d (x + b) 0)
  unfolding log_of
  counts_asked instances witness challenges d₀ d before l =
      let p = placed (circuit_of ws) in
      let w = lookup_words in
      let w' = count_words_is in
      let r : total sizes * 2 * v.rows ≡ total sizes * 2 * rows_of (circuit_of ws) = ap (λ (r : ℕ). total sizes * 2 * r) (rows_are ws a v e) in (
        sizes_some,
        omega arith,
        omega arith,
        λ b h.
            subst (λ (z : ℕ). z < P)
            (ap₂ (λ (d : List ℕ) (i : ℕ). get_or d (i + b) 0) (sym before) (sym x-is))
            (lookups_small (log_of ws instances witness challenges) sizes s-is sizes_all sizes_some
            (write_at d₀ 0 (words_of (rows_of (circuit_of ws)) (polys_before_m 𝔾 (log_of ws instances witness challenges))))
            (compressed_offset (circuit_of ws))
            (compressed_before_m (log_of ws instances witness challenges) d₀)
            b
            (omega arith)),
      )

  module _ (z : ℕ) (z_is : z ≡ h_offset (circuit_of ws)) where
    pub hs_asked : (m : ℕ) → m ≡ n
        → All (λ s. 0 < s) sizes
        × (x + total sizes * 2 * v.rows ≤ z)
        × (y + length sizes * v.rows ≤ z)
        × (z + length sizes * v.rows ≤ m)
    hs_asked m l =
        let p = placed (circuit_of ws) in
        let w = lookup_words in
        let w' = count_words_is in
        (sizes_some, omega arith, omega arith, omega arith)

    module _ (γ : 𝔾.F) (instances witness challenges d d' : List ℕ) (answer : Outcome) (γ-is : γ ≡ el (get_or challenges (v.num_challenges + 1) 0))
        (front : take (h_offset (circuit_of ws)) d ≡ words_of (rows_of (circuit_of ws)) (polys_through_m 𝔾 (log_of ws instances witness challenges)))
        (w : HsWritten d sizes x y z v.rows γ answer d') where
      abbrev log' : Log 𝔾
      log' = log_of ws instances witness challenges

      abbrev R : ℕ
      R = rows_of (circuit_of ws)

      abbrev G : ℕ
      G = num_groups (circuit_of ws)

      γ-same : log'.γ ≡ γ
      unfolding log_of
      γ-same = sym (γ-is ∙ ap (λ (u : ℕ). el (get_or challenges (u + 1) 0)) (user_is ws a v e))

      pub hs_answer : answer
          ≡ outcome_of (any_of (λ gr. some_zero 𝔾 (group_denominators 𝔾 R log'.γ (group_inputs 𝔾 log' gr) (group_table 𝔾 log' gr))) (groups_of (circuit_of ws)))
      unfolding log_of
      hs_answer =
          w.is
          ∙ ap (λ (t : Bool). outcome_of t)
          (ap₂ (λ (r x : ℕ). zero_from d x r sizes γ) (rows_are ws a v e) x-is
          ∙ zero_lookups_is log' sizes s-is sizes_all sizes_some d (compressed_offset (circuit_of ws)) (compressed_counted log' d front) γ γ-same)

      pub hs_written : answer ≡ Ok tt → d' ≡ write_at d (h_offset (circuit_of ws)) (words_of R (h_polys 𝔾 log'))
      unfolding log_of
      hs_written t =
          w.hs t
          ∙ ap (λ (r : ℕ). write_at d z (hs_from d x r sizes γ y)) (rows_are ws a v e)
          ∙ ap₂ (λ (x y : ℕ). write_at d z (hs_from d x R sizes γ y)) x-is y-is
          ∙ ap (λ (z : ℕ). write_at d z (hs_from d (compressed_offset (circuit_of ws)) R sizes γ (m_offset (circuit_of ws)))) z_is
          ∙ ap (write_at d (h_offset (circuit_of ws)))
          (hs_are log' sizes s-is sizes_all sizes_some d (compressed_offset (circuit_of ws)) (compressed_counted log' d front) (m_offset (circuit_of ws))
          (λ j l. counts_counted log' d front j (let q : length sizes * R ≡ G * R = ap (λ (n : ℕ). n * R) sizes_many in omega arith))
          γ γ-same)

      pub hs_behind : drop (h_offset (circuit_of ws) + G * R) d' ≡ drop (h_offset (circuit_of ws) + G * R) d
      hs_behind =
          let q : z + length sizes * v.rows ≡ h_offset (circuit_of ws) + G * R = ap₂ ◌+◌ z_is count_words_is in
          ap (λ (n : ℕ). drop n d') (sym q) ∙ w.back ∙ ap (λ (n : ℕ). drop n d) q

  -- ---- the counts, and question 15
  module _ (instances witness challenges d₀ d d' : List ℕ) (answer : Bool)
      (before : d ≡ write_at d₀ 0 (words_of (rows_of (circuit_of ws)) (polys_before_m 𝔾 (log_of ws instances witness challenges))))
      (w : CountsWritten d sizes x y v.rows answer d') where
    abbrev here : Log 𝔾
    here = log_of ws instances witness challenges

    compressed_there : (j : ℕ) → j < num_lookups (circuit_of ws) * 2 * rows_of (circuit_of ws)
        → get_or d (compressed_offset (circuit_of ws) + j) 0 ≡ get_or (words_of (rows_of (circuit_of ws)) (compressed_polys 𝔾 here)) j 0
    unfolding log_of
    compressed_there j l =
        ap (λ (d : List ℕ). get_or d (compressed_offset (circuit_of ws) + j) 0) before ∙ compressed_before_m here d₀ j l

    pub answer_is : answer ≡ all_covered 𝔾 here
    unfolding log_of
    answer_is =
        w.is
        ∙ ap₂ (λ (r x : ℕ). covered_from d x r sizes) (rows_are ws a v e) x-is
        ∙ all_covered_is here sizes s-is sizes_all sizes_some d (compressed_offset (circuit_of ws)) compressed_there

    pub counts_written : answer ≡ true → d' ≡ write_at d (m_offset (circuit_of ws)) (words_of (rows_of (circuit_of ws)) (m_polys 𝔾 here))
    unfolding log_of
    counts_written t =
        w.counts t
        ∙ ap (λ (r : ℕ). write_at d y (counts_from d x r sizes)) (rows_are ws a v e)
        ∙ ap₂ (λ (x y : ℕ). write_at d y (counts_from d x (rows_of (circuit_of ws)) sizes)) x-is y-is
        ∙ ap (write_at d (m_offset (circuit_of ws)))
        (counts_are here sizes s-is sizes_all sizes_some d (compressed_offset (circuit_of ws)) compressed_there refl (few_lookups ws a)
        (let r = rows_few ws a in let t = rows_is ws a in omega arith))

    pub counts_behind : drop (m_offset (circuit_of ws) + num_groups (circuit_of ws) * rows_of (circuit_of ws)) d'
        ≡ drop (m_offset (circuit_of ws) + num_groups (circuit_of ws) * rows_of (circuit_of ws)) d
    counts_behind =
        let q : y + length sizes * v.rows ≡ m_offset (circuit_of ws) + num_groups (circuit_of ws) * rows_of (circuit_of ws) =
        ap₂ ◌+◌ y-is count_words_is in
        ap (λ (n : ℕ). drop n d') (sym q) ∙ w.back ∙ ap (λ (n : ℕ). drop n d) q

-- z behind h
pub z_room : (ws : List ℕ) → (n : ℕ) → column_words (circuit_of ws) ≤ n → z_offset (circuit_of ws) + num_z (circuit_of ws) * rows_of (circuit_of ws) ≤ n
z_room ws n room = let p = placed (circuit_of ws) in omega arith
