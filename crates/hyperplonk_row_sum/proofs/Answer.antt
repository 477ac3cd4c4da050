-- What the row sum answers: a number, or the sum.
use mathlib.Core.Path.{◌≡◌, refl, sym, ap, ◌∙◌}
use mathlib.Core.Bool.{Bool, true, not, cond}
use mathlib.Core.List.{List, [], map}
use Prim.Native.Nat.{ℕ, suc, ◌-◌}
use native.Mathlib.Omega.{arith}
use lib.Dec.{eqb}
use borrow.Author.Tests.{ne_eqb}
use Rattle.std.specs.Prelude.{Result, Ok, Err, IsErrAnd}
use Rattle.field.specs.Field.{val}
use Rattle.lists.specs.Lists.{question_of, first_no}
use Rattle.lists.proofs.First.{first_next, first_number_is, first_append, first_refused, first_of, numbered_of}
use Rattle.expression.specs.declared.poly.Layout.{Layout}
use Rattle.backend.specs.Circuit.{word_k, circuit_of}
use Rattle.backend.specs.Questions.{circuit_questions}
use Rattle.backend.proofs.Answers.{says_no}
use Rattle.hyperplonk_spec.specs.RowSum.{q16, LentSum, sum_questions, check_sum, sum_of, row_sum_of, lent_sum}
use Rattle.hyperplonk_spec.specs.declared.RowSum.{RowSum}
use Rattle.backend.proofs.Passed.{numbered}
use Rattle.hyperplonk_prepare.specs.Prepared.{Accepted}
use Rattle.hyperplonk_prepare.proofs.Accepted as known
use Rattle.hyperplonk_row_sum.specs.Sum.{sum_layout, Summable, answered}
use Rattle.hyperplonk_row_sum.proofs.Sixteen.{sixteen_yes}

module _ (ws witness columns nodes challenges y : List ℕ) where
  abbrev lent : LentSum
  lent = record { circuit = ws; witness = witness; columns = columns; nodes = nodes; challenges = challenges; y = y }

  abbrev sixteen : Bool
  sixteen = q16 (circuit_of ws) witness columns nodes challenges y

  abbrev number : ℕ
  number = check_sum (lent_sum ws witness columns nodes challenges y)

  pub by_number : (n : ℕ) → number ≡ n
      → row_sum_of (lent_sum ws witness columns nodes challenges y)
      ≡ cond (eqb n 0) (record { number = 0; sum = val (sum_of (lent_sum ws witness columns nodes challenges y)) }) (record { number = n; sum = 0 })
  unfolding row_sum_of
  by_number n e =
      ap (λ (n : ℕ). cond (eqb n 0) (record { number = 0; sum = val (sum_of (lent_sum ws witness columns nodes challenges y)) }) (record { number = n; sum = 0 })) e

  pub refused_early : (n : ℕ) → n ≡ first_no circuit_questions ws → (n ≡ 0 → ⊥)
      → ◌≡◌ {A = RowSum} (record { number = n; sum = 0 }) (row_sum_of (lent_sum ws witness columns nodes challenges y))
  unfolding check_sum sum_questions
  refused_early n e h =
      let s : n ≡ suc (n - 1) = omega arith in
      let told : number ≡ n =
      first_refused (map (question_of (λ (l : LentSum). l.circuit)) circuit_questions) _ lent (n - 1)
      (first_of (λ (l : LentSum). l.circuit) circuit_questions lent ∙ sym e ∙ s)
      ∙ sym s
      in
      sym
      (by_number n told
      ∙ ap (λ (t : Bool). cond t (record { number = 0; sum = val (sum_of (lent_sum ws witness columns nodes challenges y)) }) (record { number = n; sum = 0 }))
      (ne_eqb n 0 h))

  none_asked : first_no [] lent ≡ 0
  unfolding first_no
  none_asked = refl

  module _ (a : Accepted ws) where
    pub refused_late : (r : Bool) → r ≡ sixteen → not r ≡ true
        → ◌≡◌ {A = RowSum} (record { number = 16; sum = 0 }) (row_sum_of (lent_sum ws witness columns nodes challenges y))
    unfolding check_sum sum_questions
    refused_late r e h =
        let told : number ≡ 16 =
        first_append (map (question_of (λ (l : LentSum). l.circuit)) circuit_questions) _ lent
        (first_of (λ (l : LentSum). l.circuit) circuit_questions lent ∙ a)
        (numbered_of (λ (l : LentSum). l.circuit) circuit_questions numbered)
        ∙ first_number_is _ _ lent (says_no r sixteen e h)
        in
        sym (by_number 16 told)

    module _ (yes_16 : sixteen ≡ true) where
      pub summable : (l : Layout) → l ≡ sum_layout ws → (k : ℕ) → k ≡ word_k ws → Summable ws nodes y l k
      summable l q k m =
          let p = sixteen_yes (circuit_of ws) witness columns nodes challenges y yes_16 in
          record {
            accepted = a;
            k_is = m ∙ sym (known.k_is ws a);
            layout_is = q;
            nodes_are = p.1;
            values_are = p.0 ∙ known.k_is ws a ∙ sym m;
          }

      pub answered_sum : (s : ℕ) → s ≡ val (sum_of (lent_sum ws witness columns nodes challenges y))
          → ◌≡◌ {A = RowSum} (record { number = 0; sum = s }) (row_sum_of (lent_sum ws witness columns nodes challenges y))
      unfolding check_sum sum_questions
      answered_sum s q =
          let told : number ≡ 0 =
          first_append (map (question_of (λ (l : LentSum). l.circuit)) circuit_questions) _ lent
          (first_of (λ (l : LentSum). l.circuit) circuit_questions lent ∙ a)
          (numbered_of (λ (l : LentSum). l.circuit) circuit_questions numbered)
          ∙ first_next _ _ lent yes_16 ∙ none_asked
          in
          ap (λ (s : ℕ). record { number = 0; sum = s }) q ∙ sym (by_number 0 told)

-- where `?` passes a number on
pub passed_on : (result : Result ℕ ℕ) (number : ℕ) → IsErrAnd result (λ n. n ≡ number) → answered result ≡ record { number = number; sum = 0 }
passed_on (Ok sum) _ h = absurd h
passed_on (Err n) _ h = ap (λ (n : ℕ). record { number = n; sum = 0 }) h
