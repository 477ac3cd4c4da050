-- Demand 3: DemandThree of Demand.
use mathlib.Core.Path.{◌≡◌, refl, sym, ap, ap₂, ◌∙◌, subst}
use mathlib.Core.Logic.{◌↔◌}
use mathlib.Core.Bool.{true, false}
use mathlib.Core.List.{List, [], ◌∷◌, ◌++◌}
use Prim.Native.Nat.{ℕ, ◌-◌, ◌<◌}
use native.Mathlib.Omega.{arith}
use lib.ListN.{length, get_or, take, length-map, length-take}
use Rattle.field.specs.Prime.{P}
use Rattle.field.specs.Field.{𝔾, el}
use Rattle.lists.proofs.All.{all_from}
use Rattle.identities.proofs.Totals.{up_to_cong}
use Rattle.expression.specs.Expr.{Expr}
use Rattle.expression.specs.Nodes.{expr_of}
use Rattle.expression.specs.Value.{value_at}
use Rattle.backend.specs.Circuit.{circuit_of, rows_of, num_challenges}
use Rattle.backend.proofs.Passed.{yes_all}
use Rattle.preprocessor.specs.Compose.{compose, composed_words, composed_nodes}
use Rattle.prover.specs.Log.{Log}
use Rattle.prover.specs.Columns.{all_covered, written_polys, composed_environment}
use Rattle.prover.specs.Denominators.{zero_denominator}
use Rattle.prover.proofs.Words.{words_small}
use Rattle.hyperplonk_spec.specs.Build.{Output, log_of, words_of, check_build, build_of, lent_build}
use Rattle.hyperplonk_spec.specs.RowSum.{row_sum_of, sum_of, row_sum_environment, lent_sum}
use Rattle.hyperplonk_spec.specs.Meaning.{Each, Admitted, Premises, Conclusions}
use Rattle.hyperplonk_spec.specs.Demand.{Succeeds, Demand3, DemandThreeAt, DemandThree}
use Rattle.field.proofs.Elements.{val_zero}
use Rattle.hyperplonk_spec.proofs.Embeds.{embeds}
use Rattle.hyperplonk_spec.proofs.Building.{columns_length, Given, given, Yes, yes_unless, fifteen_number, seventeen_number, written_by}
use Rattle.hyperplonk_spec.proofs.ReadsBack.{reads_back}
use Rattle.completeness.proofs.Passed.{k_small}
use Rattle.completeness.proofs.Asked.{Lending, lending, sum_yes}
use Rattle.completeness.proofs.RowSumReads.{lent_value}
use Rattle.completeness.proofs.DemandThreeOf.{demand_3_of, concluded}
use Rattle.completeness.specs.Claims.{RowSumZero}

module _ (ws instances witness challenges columns nodes : List ℕ) (asked : check_build (lent_build ws instances witness challenges columns nodes) ≡ 0) where
  abbrev log : Log 𝔾
  log = log_of ws instances witness challenges

  l : Lending ws instances witness challenges
  l = lending ws instances witness challenges columns nodes asked

  pub admitted : Admitted 𝔾 log
  unfolding log_of
  admitted =
      record {
        words = ws;
        read = refl;
        passed = l.circuit_yes;
        user_all =
            length-map (take (num_challenges (circuit_of ws)) challenges) el
            ∙ length-take (num_challenges (circuit_of ws)) challenges
            ∙ (let q = l.challenges_length in omega arith);
        embeds = embeds;
      }

  abbrev out : Output
  out = build_of (lent_build ws instances witness challenges columns nodes)

  fifteen : (out.answer.number ≡ 15) ↔ (all_covered 𝔾 log ≡ false)
  fifteen = (λ e. go e (given ws instances witness challenges columns nodes asked), fifteen_number ws instances witness challenges columns nodes asked)
    where
      go : out.answer.number ≡ 15 → Given ws instances witness challenges columns nodes → all_covered 𝔾 log ≡ false
      go e (Given.uncovered f q) = f
      go e (Given.divided f h q) = absurd (let r = sym q ∙ e in omega arith)
      go e (Given.built f h q) = absurd (let r = sym q ∙ e in omega arith)

  pub seventeen : (out.answer.number ≡ 17) ↔ ((all_covered 𝔾 log ≡ true) × (zero_denominator 𝔾 log ≡ true))
  seventeen = (
    λ e. go e (given ws instances witness challenges columns nodes asked),
    λ p. seventeen_number ws instances witness challenges columns nodes asked p.0 p.1,
  )
    where
      go : out.answer.number ≡ 17 → Given ws instances witness challenges columns nodes → (all_covered 𝔾 log ≡ true) × (zero_denominator 𝔾 log ≡ true)
      go e (Given.uncovered f q) = absurd (let r = sym q ∙ e in omega arith)
      go e (Given.divided f h q) = (f, h)
      go e (Given.built f h q) = absurd (let r = sym q ∙ e in omega arith)

  abbrev lent : List ℕ
  lent = words_of (rows_of (circuit_of ws)) (written_polys 𝔾 log)

  -- the row sum over what was written
  sum_zero : Conclusions 𝔾 log → (α : ℕ) (y : List ℕ) → sum_of (lent_sum ws witness lent (composed_words (circuit_of ws)) (challenges ++ (α ∷ [])) y) ≡ 𝔾.zero
  unfolding sum_of log_of
  sum_zero c α y =
      up_to_cong 𝔾.add 𝔾.zero _ (value_at 𝔾 (composed_environment 𝔾 log (el α) (λ i. el (get_or y i 0))) (compose (circuit_of ws))) (rows_of (circuit_of ws))
      (λ b m.
      ap (λ (e : Expr). value_at 𝔾 (row_sum_environment ws witness lent (challenges ++ (α ∷ [])) y) e b) (reads_back ws)
      ∙ lent_value ws instances witness challenges l.challenges_length (let q = k_small ws (yes_all ws l.circuit_yes) in omega arith) α y (compose (circuit_of ws)) b m)
      ∙ c.composed_sum (el α) (λ i. el (get_or y i 0))

  row_sum : Conclusions 𝔾 log → (α : ℕ) (y : List ℕ) → α < P → length y ≡ (circuit_of ws).k → Each 0 y (λ v. v < P)
      → row_sum_of (lent_sum ws witness lent (composed_words (circuit_of ws)) (challenges ++ (α ∷ [])) y) ≡ record { number = 0; sum = 0 }
  unfolding row_sum_of log_of
  row_sum c α y a h s =
      rw (
        sum_yes ws instances witness challenges lent y α l (columns_length log) (words_small (rows_of (circuit_of ws)) (written_polys 𝔾 log)) a h (all_from (λ v. v < P) y 0 s),
        sum_zero c α y,
        val_zero,
      )

  succeeds : Premises 𝔾 log → Yes ws instances witness challenges columns nodes → Succeeds ws instances witness challenges columns nodes out
  succeeds p y =
      let w = written_by ws instances witness challenges columns nodes asked y.covered_yes y.none_zero in
      let c = concluded 𝔾 log admitted p y.covered_yes y.none_zero in
      record {
        written = w;
        nodes_read = ap (λ (ns : List ℕ). expr_of ns (composed_nodes (circuit_of ws) - 1)) w.nodes_written ∙ reads_back ws;
        concluded = c;
        row_sum = λ α y a h s.
            ap₂ (λ (cs ns : List ℕ). row_sum_of (lent_sum ws witness cs ns (challenges ++ (α ∷ [])) y)) w.columns_written w.nodes_written
            ∙ row_sum c α y a h s;
      }

  pub demand_3 : Demand3 ws instances witness challenges columns nodes out
  demand_3 =
      let d = demand_3_of 𝔾 log admitted in
      record {
        fifteen = (λ e. d.refused_when.0 (fifteen.0 e), λ n. fifteen.1 (d.refused_when.1 n));
        seventeen = (
          λ e. let r = seventeen.0 e in (d.covered_when.0 r.0, d.some_zero_when.0 r.1),
          λ p. seventeen.1 (d.covered_when.1 p.0, d.some_zero_when.1 p.1),
        );
        otherwise = λ p a b. succeeds p (yes_unless ws instances witness challenges columns nodes asked a b);
      }

pub row_sum_zero : RowSumZero
row_sum_zero ws instances witness challenges columns nodes asked c α y = row_sum ws instances witness challenges columns nodes asked c α y

pub demand_three : DemandThree
demand_three ws instances witness challenges columns nodes asked = demand_3 ws instances witness challenges columns nodes asked

-- of a call that returned and left what is defined
pub demand_three_at : (ws instances witness challenges columns nodes : List ℕ) (output : Output)
    → output ≡ build_of (lent_build ws instances witness challenges columns nodes)
    → DemandThreeAt (lent_build ws instances witness challenges columns nodes) output
demand_three_at ws instances witness challenges columns nodes output e asked =
    subst (λ (o : Output). Demand3 ws instances witness challenges columns nodes o) (sym e)
    (demand_3 ws instances witness challenges columns nodes asked)
