-- What demand 3 says of the row sum holds of what its definition gives.
use mathlib.Core.Path.{◌≡◌, refl, sym, ap, ◌∙◌}
use mathlib.Core.Bool.{Bool, true, cond}
use mathlib.Core.List.{List, map}
use Prim.Native.Nat.{ℕ, ◌-◌}
use native.Mathlib.Decide.{ℕ_discrete}
use borrow.Author.Tests.{ne_eqb}
use Rattle.field.specs.Field.{𝔾, val}
use Rattle.lists.specs.Lists.{question_of}
use Rattle.lists.proofs.First.{first_yes, first_both, numbered_of}
use Rattle.expression.specs.Expr.{Expr}
use Rattle.expression.specs.Nodes.{expr_of}
use Rattle.expression.specs.Value.{value_at}
use Rattle.backend.specs.Circuit.{circuit_of, rows_of}
use Rattle.backend.specs.Questions.{circuit_questions}
use Rattle.preprocessor.specs.Compose.{compose, composed_words, composed_nodes}
use Rattle.prover.specs.Lookup.{sum_rows}
use Rattle.hyperplonk_spec.specs.RowSum.{q16, LentSum, sum_questions, check_sum, row_sum_environment, sum_of, row_sum_of, lent_sum}
use Rattle.hyperplonk_spec.specs.declared.RowSum.{RowSum}
use Rattle.hyperplonk_spec.proofs.ReadsBack.{reads_back}
use Rattle.backend.proofs.Passed.{numbered}
use Rattle.completeness.proofs.DemandThree.{demand_three}
use Rattle.hyperplonk_spec.specs.RowSumClaim.{RowSumClaim}
use Rattle.hyperplonk_row_sum.proofs.Sixteen.{sixteen_nodes}
use Rattle.hyperplonk_row_sum.proofs.Answer.{by_number}

module _ (ws witness columns nodes challenges y : List ℕ) where
  abbrev answer : RowSum
  answer = row_sum_of (lent_sum ws witness columns nodes challenges y)

  abbrev number : ℕ
  number = check_sum (lent_sum ws witness columns nodes challenges y)

  abbrev lent : LentSum
  lent = record { circuit = ws; witness = witness; columns = columns; nodes = nodes; challenges = challenges; y = y }

  -- the number that is returned is that of the questions
  number_is : answer.number ≡ number
  number_is = go (ℕ_discrete number 0)
    where
      go : Dec (number ≡ 0) → answer.number ≡ number
      go (yes e) = ap (λ (a : RowSum). a.number) (by_number ws witness columns nodes challenges y 0 e) ∙ sym e
      go (no h) =
          ap (λ (a : RowSum). a.number)
          (by_number ws witness columns nodes challenges y number refl
          ∙ ap (λ (t : Bool). cond t (record { number = 0; sum = val (sum_of (lent_sum ws witness columns nodes challenges y)) }) (record { number = number; sum = 0 }))
          (ne_eqb number 0 h))

  yes_16 : number ≡ 0 → q16 (circuit_of ws) witness columns nodes challenges y ≡ true
  unfolding check_sum sum_questions
  yes_16 e =
      (first_yes _ _ lent 15 refl
      (first_both (map (question_of (λ (l : LentSum). l.circuit)) circuit_questions) _ lent e
      (numbered_of (λ (l : LentSum). l.circuit) circuit_questions numbered)
      ).1
      ).0

  -- the nodes are read as the composed expression
  sum_composed : nodes ≡ composed_words (circuit_of ws)
      → sum_of (lent_sum ws witness columns nodes challenges y)
      ≡ sum_rows 𝔾 (rows_of (circuit_of ws)) (value_at 𝔾 (row_sum_environment ws witness columns challenges y) (compose (circuit_of ws)))
  unfolding sum_of
  sum_composed e =
      ap (λ (x : Expr). sum_rows 𝔾 (rows_of (circuit_of ws)) (value_at 𝔾 (row_sum_environment ws witness columns challenges y) x))
      (ap (λ (ns : List ℕ). expr_of ns (composed_nodes (circuit_of ws) - 1)) e ∙ reads_back ws)

  same_lent : (cs cs' ns ns' vs vs' : List ℕ) → cs ≡ cs' → ns ≡ ns' → vs ≡ vs' → row_sum_of (lent_sum ws witness cs ns vs y) ≡ row_sum_of (lent_sum ws witness cs' ns' vs' y)
  same_lent cs cs' ns ns' vs vs' p q r =
      ap (λ (xs : List ℕ). row_sum_of (lent_sum ws witness xs ns vs y)) p
      ∙ ap (λ (xs : List ℕ). row_sum_of (lent_sum ws witness cs' xs vs y)) q
      ∙ ap (λ (xs : List ℕ). row_sum_of (lent_sum ws witness cs' ns' xs y)) r

  pub claimed : (r : RowSum) → r ≡ answer → RowSumClaim (lent_sum ws witness columns nodes challenges y) r
  claimed r e =
      record {
        summed = λ z.
            let n : number ≡ 0 = sym number_is ∙ sym (ap (λ (a : RowSum). a.number) e) ∙ z in
            ap (λ (a : RowSum). a.sum) (e ∙ by_number ws witness columns nodes challenges y 0 n)
            ∙ ap val (sum_composed (sixteen_nodes (circuit_of ws) witness columns nodes challenges y (yes_16 n)));
        zero = λ b.
            e
            ∙ same_lent columns _ nodes _ challenges _ b.columns_are b.nodes_are b.challenges_are
            ∙ ((demand_three ws b.instances witness b.lent b.columns_lent b.nodes_lent b.asked).otherwise b.premises b.not_15 b.not_17
            ).row_sum b.α y b.α-small b.y_length b.y_small;
      }

  -- both of the answer's contracts
  pub both : (r : RowSum) → r ≡ answer → (r ≡ answer) × RowSumClaim (lent_sum ws witness columns nodes challenges y) r
  both r e = (e, claimed r e)
