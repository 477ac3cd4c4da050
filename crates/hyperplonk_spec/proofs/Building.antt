-- The building call: a refusal but 15 and 17 writes nothing; what 15, 17 and success write; the words needed are those written.
use mathlib.Core.Path.{◌≡◌, refl, sym, ap, ◌∙◌}
use mathlib.Core.Logic.{◌≢◌}
use mathlib.Core.Bool.{Bool, true, false}
use mathlib.Core.List.{List}
use Prim.Native.Nat.{ℕ, zero, suc, ◌*◌}
use native.Mathlib.Omega.{arith}
use lib.ListN.{length, take, drop}
use lib.Seq.{take_at, drop_at}
use lib.Dec.{eqb-suc-zero}
use Rattle.field.specs.Field.{𝔾}
use Rattle.backend.specs.Circuit.{Circuit, circuit_of, rows_of}
use Rattle.preprocessor.specs.Compose.{composed_words, composed_nodes}
use Rattle.prover.specs.Log.{Log}
use Rattle.prover.specs.Columns.{all_covered, written_polys}
use Rattle.prover.specs.Denominators.{zero_denominator}
use Rattle.preprocessor.proofs.Composed.{composed_length}
use Rattle.prover.proofs.Words.{words_length}
use Rattle.prover.proofs.Lengths.{written_length}
use Rattle.hyperplonk_spec.specs.Build.{Output, log_of, words_of, column_words, check_build, refusal, made, zeroed, build_log, build_of, lent_build}
use Rattle.hyperplonk_spec.specs.Demand.{Written}

module _ (g : Log 𝔾) where
  -- the columns take the words that question 14 asks for
  pub columns_length : length (words_of (rows_of g.circuit) (written_polys 𝔾 g)) ≡ column_words g.circuit
  unfolding column_words
  columns_length = words_length (rows_of g.circuit) (written_polys 𝔾 g) ∙ ap (λ (n : ℕ). n * rows_of g.circuit) (written_length 𝔾 g)

-- ---- the building call

module _ (ws instances witness challenges columns nodes : List ℕ) where
  -- "Refusals write nothing"
  pub refused_by : (n : ℕ) → check_build (lent_build ws instances witness challenges columns nodes) ≡ suc n
      → build_of (lent_build ws instances witness challenges columns nodes) ≡ refusal (suc n) columns nodes
  unfolding build_of
  refused_by n e = rw (e, eqb-suc-zero n)

  -- "only 15 and 17 change a buffer"
  pub fifteen_by : check_build (lent_build ws instances witness challenges columns nodes) ≡ 0
      → all_covered 𝔾 (log_of ws instances witness challenges) ≡ false
      → build_of (lent_build ws instances witness challenges columns nodes) ≡ zeroed 15 (log_of ws instances witness challenges).circuit columns nodes
  unfolding build_of build_log
  fifteen_by e f = rw (e, f)

  pub seventeen_by : check_build (lent_build ws instances witness challenges columns nodes) ≡ 0
      → all_covered 𝔾 (log_of ws instances witness challenges) ≡ true
      → zero_denominator 𝔾 (log_of ws instances witness challenges) ≡ true
      → build_of (lent_build ws instances witness challenges columns nodes) ≡ zeroed 17 (log_of ws instances witness challenges).circuit columns nodes
  unfolding build_of build_log
  seventeen_by e f h = rw (e, f, h)

  pub built_by_is : check_build (lent_build ws instances witness challenges columns nodes) ≡ 0
      → all_covered 𝔾 (log_of ws instances witness challenges) ≡ true
      → zero_denominator 𝔾 (log_of ws instances witness challenges) ≡ false
      → build_of (lent_build ws instances witness challenges columns nodes) ≡ made (log_of ws instances witness challenges) columns nodes
  unfolding build_of build_log
  built_by_is e f h = rw (e, f, h)

  -- ---- the number
  abbrev log : Log 𝔾
  log = log_of ws instances witness challenges

  abbrev out : Output
  out = build_of (lent_build ws instances witness challenges columns nodes)

  abbrev asked : ℕ
  asked = check_build (lent_build ws instances witness challenges columns nodes)

  pub refused_number : (n : ℕ) → asked ≡ suc n → out.answer.number ≡ suc n
  refused_number n e = ap (λ (o : Output). o.answer.number) (refused_by n e)

  pub fifteen_number : asked ≡ 0 → all_covered 𝔾 log ≡ false → out.answer.number ≡ 15
  unfolding zeroed
  fifteen_number e f = ap (λ (o : Output). o.answer.number) (fifteen_by e f)

  pub seventeen_number : asked ≡ 0 → all_covered 𝔾 log ≡ true → zero_denominator 𝔾 log ≡ true → out.answer.number ≡ 17
  unfolding zeroed
  seventeen_number e f h = ap (λ (o : Output). o.answer.number) (seventeen_by e f h)

  pub zero_number : asked ≡ 0 → all_covered 𝔾 log ≡ true → zero_denominator 𝔾 log ≡ false → out.answer.number ≡ 0
  unfolding made
  zero_number e f h = ap (λ (o : Output). o.answer.number) (built_by_is e f h)

  -- with 1 to 14 yes: 15, else 17, else 0
  pub data Given : Type 0 where
    uncovered : all_covered 𝔾 log ≡ false → out.answer.number ≡ 15 → Given
    divided : all_covered 𝔾 log ≡ true → zero_denominator 𝔾 log ≡ true → out.answer.number ≡ 17 → Given
    built : all_covered 𝔾 log ≡ true → zero_denominator 𝔾 log ≡ false → out.answer.number ≡ 0 → Given

  pub given : asked ≡ 0 → Given
  given e = go (all_covered 𝔾 log) refl (zero_denominator 𝔾 log) refl
    where
      go : (t : Bool) → all_covered 𝔾 log ≡ t → (z : Bool) → zero_denominator 𝔾 log ≡ z → Given
      go false f z h = uncovered f (fifteen_number e f)
      go true f true h = divided f h (seventeen_number e f h)
      go true f false h = built f h (zero_number e f h)

  -- all questions are answered yes
  pub record Yes : Type 0 where
    pub asked_yes : asked ≡ 0
    pub covered_yes : all_covered 𝔾 log ≡ true
    pub none_zero : zero_denominator 𝔾 log ≡ false

  pub zero_yes : out.answer.number ≡ 0 → Yes
  zero_yes z = go asked refl
    where
      by : asked ≡ 0 → Given → Yes
      by e (uncovered f q) = absurd (let r = sym z ∙ q in omega arith)
      by e (divided f h q) = absurd (let r = sym z ∙ q in omega arith)
      by e (built f h q) = record { asked_yes = e; covered_yes = f; none_zero = h }

      go : (n : ℕ) → asked ≡ n → Yes
      go zero e = by e (given e)
      go (suc n) e = absurd (let r = sym z ∙ refused_number n e in omega arith)

  -- unless 15 and 17 are given
  pub yes_unless : asked ≡ 0 → out.answer.number ≢ 15 → out.answer.number ≢ 17 → Yes
  yes_unless e a b = by (given e)
    where
      by : Given → Yes
      by (uncovered f q) = absurd (a q)
      by (divided f h q) = absurd (b q)
      by (built f h q) = record { asked_yes = e; covered_yes = f; none_zero = h }

  -- "the columns and nodes written are those document 01 defines"
  pub written_by : check_build (lent_build ws instances witness challenges columns nodes) ≡ 0
      → all_covered 𝔾 (log_of ws instances witness challenges) ≡ true
      → zero_denominator 𝔾 (log_of ws instances witness challenges) ≡ false
      → Written ws instances witness challenges columns nodes (build_of (lent_build ws instances witness challenges columns nodes))
  unfolding made log_of
  written_by e f h =
      let g : Log 𝔾 = log_of ws instances witness challenges in
      let c : Circuit = circuit_of ws in
      let cs : List ℕ = words_of (rows_of c) (written_polys 𝔾 g) in
      let m = built_by_is e f h in
      record {
        answer = ap (λ (o : Output). o.answer) m;
        columns_written =
            ap (λ (o : Output). take (column_words c) o.columns) m ∙ take_at cs (drop (length cs) columns) (column_words c) (columns_length g);
        columns_past =
            ap (λ (o : Output). drop (column_words c) o.columns) m ∙ drop_at cs (drop (length cs) columns) (column_words c) (columns_length g)
            ∙ ap (λ (n : ℕ). drop n columns) (columns_length g);
        nodes_written =
            ap (λ (o : Output). take (composed_nodes c * 4) o.nodes) m
            ∙ take_at (composed_words c) (drop (length (composed_words c)) nodes) (composed_nodes c * 4) (composed_length c);
        nodes_past =
            ap (λ (o : Output). drop (composed_nodes c * 4) o.nodes) m
            ∙ drop_at (composed_words c) (drop (length (composed_words c)) nodes) (composed_nodes c * 4) (composed_length c)
            ∙ ap (λ (n : ℕ). drop n nodes) (composed_length c);
      }
