-- What the building call returns and leaves, from what its parts do.
use mathlib.Core.Path.{◌≡◌, refl, sym, ap, ap₂, ◌∙◌}
use mathlib.Core.Bool.{Bool, true, false, cond}
use mathlib.Core.List.{List}
use Prim.Native.Nat.{ℕ, suc, ◌-◌, ◌*◌, ◌≤◌}
use native.Mathlib.Omega.{arith}
use lib.ListN.{length}
use lib.Dec.{leb}
use borrow.Author.Tests.{leb-true}
use Rattle.std.specs.Prelude.{Ok, Err}
use Rattle.field.specs.Field.{𝔾}
use Rattle.lists.specs.Lists.{write_prefix}
use Rattle.lists.proofs.Tests.{and_left, and_right}
use Rattle.lists.proofs.Over.{write_at_write_prefix}
use Rattle.backend.specs.Circuit.{circuit_of, rows_of}
use Rattle.preprocessor.specs.Compose.{num_z, composed_words, composed_nodes}
use Rattle.preprocessor.specs.ComposeWords.{Composed}
use Rattle.preprocessor.proofs.Composed.{composed_over}
use Rattle.prover.specs.Log.{Log}
use Rattle.prover.specs.Columns.{all_covered, written_polys}
use Rattle.prover.specs.Denominators.{zero_denominator}
use Rattle.prover.specs.Words.{words_of}
use Rattle.std.specs.Prelude.{Result, Ok, Err, IsErrAnd}
use Rattle.hyperplonk_spec.specs.Build.{Output, log_of, column_words, q12, q13, q14, check_build, refused, made, zeroed, build_log, build_of, lent_build}
use Rattle.hyperplonk_spec.specs.declared.Built.{Built}
use Rattle.hyperplonk_spec.proofs.Building.{refused_by}
use Rattle.hyperplonk_prepare.specs.Prepared.{Accepted}
use Rattle.hyperplonk_prepare.proofs.Asked.{no_12, no_13, no_14}
use Rattle.hyperplonk_columns.specs.Outcome.{ColumnsOutcome, columns_outcome, columns_number, refused_number, columns_left}
use Rattle.hyperplonk_columns.specs.declared.Refused.{Refused}
use Rattle.hyperplonk_build.specs.Answer.{answered}

module _ (ws instances witness challenges columns nodes : List ℕ) where
  -- a refusal by questions 1 to 14
  pub refuses : (r : Built) (n : ℕ) → r ≡ refused n → (n ≡ 0 → ⊥) → check_build (lent_build ws instances witness challenges columns nodes) ≡ n
      → ◌≡◌ {A = Output} (record { answer = r; columns = columns; nodes = nodes }) (build_of (lent_build ws instances witness challenges columns nodes))
  refuses r n e h q =
      let s : n ≡ suc (n - 1) = omega arith in
      ap (λ (b : Built). record { answer = b; columns = columns; nodes = nodes }) (e ∙ ap (λ (m : ℕ). refused m) s)
      ∙ sym (refused_by ws instances witness challenges columns nodes (n - 1) (q ∙ s))

  module _ (a : Accepted ws) where
    abbrev by_number : ℕ → Type 0
    by_number n =
        ◌≡◌ {A = Output} (record { answer = refused n; columns = columns; nodes = nodes })
        (build_of (lent_build ws instances witness challenges columns nodes))

    pub refused_12 : q12 (circuit_of ws) instances witness challenges ≡ false → by_number 12
    refused_12 h = refuses _ 12 refl (λ e. let z : ◌≡◌ {A = ℕ} 12 0 = e in omega arith) (no_12 ws instances witness challenges columns nodes a h)

    module _ (twelve : q12 (circuit_of ws) instances witness challenges ≡ true) where
      pub refused_13 : q13 instances witness challenges ≡ false → by_number 13
      refused_13 h = refuses _ 13 refl (λ e. let z : ◌≡◌ {A = ℕ} 13 0 = e in omega arith) (no_13 ws instances witness challenges columns nodes a twelve h)

      pub refused_14 : q13 instances witness challenges ≡ true → q14 (circuit_of ws) columns nodes ≡ false → by_number 14
      refused_14 t h = refuses _ 14 refl (λ e. let z : ◌≡◌ {A = ℕ} 14 0 = e in omega arith) (no_14 ws instances witness challenges columns nodes a twelve t h)

  -- question 15 and after
  pub checked : check_build (lent_build ws instances witness challenges columns nodes) ≡ 0
      → build_of (lent_build ws instances witness challenges columns nodes) ≡ build_log (log_of ws instances witness challenges) columns nodes
  unfolding build_of
  checked e = rw e

  -- "Have both output buffers at least the words needed?"
  pub columns_room : q14 (circuit_of ws) columns nodes ≡ true → column_words (circuit_of ws) ≤ length columns
  unfolding q14
  columns_room e = leb-true (column_words (circuit_of ws)) (length columns) (and_left (leb (column_words (circuit_of ws)) (length columns)) (leb (composed_nodes (circuit_of ws) * 4) (length nodes)) e)

  pub nodes_room : q14 (circuit_of ws) columns nodes ≡ true → composed_nodes (circuit_of ws) * 4 ≤ length nodes
  unfolding q14
  nodes_room e = leb-true (composed_nodes (circuit_of ws) * 4) (length nodes) (and_right (leb (column_words (circuit_of ws)) (length columns)) (leb (composed_nodes (circuit_of ws) * 4) (length nodes)) e)

  abbrev log : Log 𝔾
  log = log_of ws instances witness challenges

  -- by questions 15 and 17
  abbrev outcome_by : Bool → Bool → ColumnsOutcome
  outcome_by t z = cond t (cond z (Err Refused.ZeroDenominator) (Ok tt)) (Err Refused.Uncovered)

  abbrev built_by : Bool → Bool → Output
  built_by t z = cond t (cond z (zeroed 17 log.circuit columns nodes) (made log columns nodes)) (zeroed 15 log.circuit columns nodes)

  module _ (o : ColumnsOutcome) (d : List ℕ) (number : ℕ) (is : o ≡ columns_outcome log) (left : d ≡ write_prefix (columns_left log o) columns)
      (told : number ≡ columns_number o) where
    -- the answer, what is left and the number, by the two questions
    is_by : (t z : Bool) → all_covered 𝔾 log ≡ t → zero_denominator 𝔾 log ≡ z → o ≡ outcome_by t z
    is_by t z p q = is ∙ ap₂ outcome_by p q

    left_by_is : (t z : Bool) → all_covered 𝔾 log ≡ t → zero_denominator 𝔾 log ≡ z → d ≡ write_prefix (columns_left log (outcome_by t z)) columns
    left_by_is t z p q = left ∙ ap (λ (o : ColumnsOutcome). write_prefix (columns_left log o) columns) (is_by t z p q)

    number_by : (t z : Bool) → all_covered 𝔾 log ≡ t → zero_denominator 𝔾 log ≡ z → number ≡ columns_number (outcome_by t z)
    number_by t z p q = told ∙ ap (λ (o : ColumnsOutcome). columns_number o) (is_by t z p q)

    build_by : (t z : Bool) → all_covered 𝔾 log ≡ t → zero_denominator 𝔾 log ≡ z → built_by t z ≡ build_log log columns nodes
    unfolding build_log
    build_by t z p q = sym (ap₂ built_by p q)

    -- 15 or 17
    pub is_refused : (r : Built) → (number ≡ 0 → ⊥) → r ≡ refused number
        → ◌≡◌ {A = Output} (record { answer = r; columns = d; nodes = nodes }) (build_log log columns nodes)
    unfolding zeroed log_of
    is_refused r n h = go (all_covered 𝔾 log) (zero_denominator 𝔾 log) refl refl
      where
        answered : (m : ℕ) → number ≡ m → r ≡ refused m
        answered m e = h ∙ ap (λ (x : ℕ). refused x) e

        go : (t z : Bool) → all_covered 𝔾 log ≡ t → zero_denominator 𝔾 log ≡ z
            → ◌≡◌ {A = Output} (record { answer = r; columns = d; nodes = nodes }) (build_log log columns nodes)
        go false z p q =
            ap₂ (λ (b : Built) (x : List ℕ). record { answer = b; columns = x; nodes = nodes }) (answered 15 (number_by false z p q)) (left_by_is false z p q)
            ∙ build_by false z p q
        go true true p q =
            ap₂ (λ (b : Built) (x : List ℕ). record { answer = b; columns = x; nodes = nodes }) (answered 17 (number_by true true p q)) (left_by_is true true p q)
            ∙ build_by true true p q
        go true false p q = absurd (n (number_by true false p q))

    -- success
    pub is_made : number ≡ 0 → (n : List ℕ) (words count parts : ℕ)
        → words ≡ column_words (circuit_of ws)
        → parts ≡ num_z (circuit_of ws)
        → composed_nodes (circuit_of ws) * 4 ≤ length nodes
        → Composed 0 (circuit_of ws) nodes n count
        → ◌≡◌ {A = Output}
        (record { answer = record { number = 0; column_words = words; nodes = count; z_columns = parts }; columns = d; nodes = n })
        (build_log log columns nodes)
    unfolding made log_of
    is_made zero n words count parts w p room c = go (all_covered 𝔾 log) (zero_denominator 𝔾 log) refl refl
      where
        nodes_are : n ≡ write_prefix (composed_words (circuit_of ws)) nodes
        nodes_are = composed_over room c ∙ sym (write_at_write_prefix (composed_words (circuit_of ws)) nodes)

        counts : ◌≡◌ {A = Built} (record { number = 0; column_words = words; nodes = count; z_columns = parts })
            (record { number = 0; column_words = column_words (circuit_of ws); nodes = composed_nodes (circuit_of ws); z_columns = num_z (circuit_of ws) })
        counts =
            ap₂ (λ (x y : ℕ). record { number = 0; column_words = x; nodes = y; z_columns = parts }) w c.number
            ∙ ap
            (λ (z : ℕ).
            record { number = 0; column_words = column_words (circuit_of ws); nodes = composed_nodes (circuit_of ws); z_columns = z })
            p

        fifteen : ◌≡◌ {A = ℕ} 0 15 → ⊥
        fifteen e = omega arith

        seventeen : ◌≡◌ {A = ℕ} 0 17 → ⊥
        seventeen e = omega arith

        go : (t z : Bool) → all_covered 𝔾 log ≡ t → zero_denominator 𝔾 log ≡ z
            → ◌≡◌ {A = Output}
            (record { answer = record { number = 0; column_words = words; nodes = count; z_columns = parts }; columns = d; nodes = n })
            (build_log log columns nodes)
        go false z p q = absurd (fifteen (sym zero ∙ number_by false z p q))
        go true true p q = absurd (seventeen (sym zero ∙ number_by true true p q))
        go true false p q =
            ap₂
            (λ (x y : List ℕ).
            record { answer = record { number = 0; column_words = words; nodes = count; z_columns = parts }; columns = x; nodes = y })
            (left_by_is true false p q)
            nodes_are
            ∙ ap
            (λ (b : Built).
            record {
              answer = b;
              columns = write_prefix (words_of (rows_of (circuit_of ws)) (written_polys 𝔾 log)) columns;
              nodes = write_prefix (composed_words (circuit_of ws)) nodes;
            })
            counts
            ∙ build_by true false p q

-- a refusal of the columns has a number
pub not_zero : (refusal : Refused) → refused_number refusal ≡ 0 → ⊥
not_zero Refused.Uncovered e = omega arith
not_zero Refused.ZeroDenominator e = omega arith

-- where `?` passes a number on
pub passed_on : (result : Result Built ℕ) (number : ℕ) → IsErrAnd result (λ n. n ≡ number) → answered result ≡ refused number
passed_on (Ok built) number h = absurd h
passed_on (Err n) number h = ap (λ (n : ℕ). refused n) h
