-- Demand 3 holds of what the one call returns and leaves.
use mathlib.Core.Path.{◌≡◌, refl, sym, ap, ◌∙◌, subst}
use mathlib.Core.Logic.{◌≢◌}
use mathlib.Core.Bool.{Bool, true, false}
use mathlib.Core.List.{List, [], ◌∷◌, ◌++◌, map}
use Prim.Native.Nat.{ℕ, suc, ◌-◌, ◌*◌, ◌<◌}
use native.Mathlib.Omega.{arith}
use native.Mathlib.Decide.{ℕ_discrete}
use lib.ListN.{length, take, length-take}
use borrow.Author.Tests.{ne_eqb}
use Rattle.field.specs.Field.{𝔾}
use Rattle.lists.specs.Lists.{Question, question, question_of, first_no}
use Rattle.lists.proofs.First.{first_none, first_next, first_number_is, first_append, first_of, numbered_of}
use Rattle.backend.specs.Circuit.{Circuit, circuit_of}
use Rattle.backend.specs.Questions.{circuit_questions}
use Rattle.preprocessor.specs.Compose.{composed_nodes}
use Rattle.prover.specs.Log.{Log}
use Rattle.hyperplonk_spec.specs.Build.{Output, log_of, column_words, check_build, success, build_of, lent_build}
use Rattle.hyperplonk_spec.specs.RowSum.{q16, LentSum, sum_questions, check_sum, row_sum_of, lent_sum}
use Rattle.hyperplonk_spec.specs.declared.Built.{Built}
use Rattle.hyperplonk_spec.specs.declared.RowSum.{RowSum}
use Rattle.hyperplonk_spec.specs.Meaning.{Premises}
use Rattle.hyperplonk_spec.specs.Demand.{Succeeds, Demand3}
use Rattle.backend.proofs.Passed.{numbered}
use Rattle.completeness.proofs.Asked.{Lending, lending}
use Rattle.completeness.proofs.DemandThree.{demand_three_at}
use Rattle.hyperplonk_spec.specs.BuildAndSum.{before_alpha, alpha_word, Left, sized, build_and_sum_of}
use Rattle.completeness.specs.DemandWhole.{Concluded, Demanded, DemandThreeWhole}
use Rattle.completeness.proofs.Called.{with_alpha, refused_left, summed_left}

-- where questions 1 to 11 are yes, the row sum gives 0 or 16, so neither 15 nor 17
module _ (ws witness columns nodes challenges y : List ℕ) (accepted : first_no circuit_questions ws ≡ 0) where
  abbrev lent : LentSum
  lent = record { circuit = ws; witness = witness; columns = columns; nodes = nodes; challenges = challenges; y = y }

  abbrev number : ℕ
  number = check_sum (lent_sum ws witness columns nodes challenges y)

  -- question 16 alone
  abbrev last : List (Question LentSum)
  last =
      question 16 (λ (l : LentSum). q16 (circuit_of l.circuit) l.witness l.columns l.nodes l.challenges l.y) ∷ []

  only : number ≡ first_no last lent
  unfolding check_sum sum_questions
  only =
      first_append (map (question_of (λ (l : LentSum). l.circuit)) circuit_questions) last lent
      (first_of (λ (l : LentSum). l.circuit) circuit_questions lent ∙ accepted)
      (numbered_of (λ (l : LentSum). l.circuit) circuit_questions numbered)

  asked_16 : (t : Bool) → q16 (circuit_of ws) witness columns nodes challenges y ≡ t → (m : ℕ) → m ≢ 0 → m ≢ 16 → number ≢ m
  asked_16 true e m a b n = a (sym n ∙ only ∙ first_next _ _ lent e ∙ first_none lent)
  asked_16 false e m a b n = b (sym n ∙ only ∙ first_number_is _ _ lent e)

  number_is : (row_sum_of (lent_sum ws witness columns nodes challenges y)).number ≡ number
  unfolding row_sum_of
  number_is = go (ℕ_discrete number 0)
    where
      go : Dec (number ≡ 0) → (row_sum_of (lent_sum ws witness columns nodes challenges y)).number ≡ number
      go (yes e) = rw e
      go (no h) = rw (ne_eqb number 0 h)

  pub no_other : (m : ℕ) → m ≢ 0 → m ≢ 16 → (row_sum_of (lent_sum ws witness columns nodes challenges y)).number ≢ m
  no_other m a b e = asked_16 (q16 (circuit_of ws) witness columns nodes challenges y) refl m a b (sym number_is ∙ e)

module _ (ws instances witness challenges y columns nodes : List ℕ) (question : check_build (lent_build ws instances witness (before_alpha challenges) columns nodes) ≡ 0) where
  abbrev log : Log 𝔾
  log = log_of ws instances witness (before_alpha challenges)

  abbrev built : Output
  built = build_of (lent_build ws instances witness (before_alpha challenges) columns nodes)

  abbrev after : Left
  after = build_and_sum_of (lent_build ws instances witness challenges columns nodes) y

  l : Lending ws instances witness (before_alpha challenges)
  l = lending ws instances witness (before_alpha challenges) columns nodes question

  d : Demand3 ws instances witness (before_alpha challenges) columns nodes built
  d = demand_three_at ws instances witness (before_alpha challenges) columns nodes built refl question

  -- there is an α
  has_alpha : 0 < length challenges
  unfolding before_alpha
  has_alpha =
      let a = l.challenges_length in
      omega (arith, length-take (length challenges - 1) challenges)

  -- a number but 0 and 16, as 15 and 17, is given by the call exactly when the build gives it
  module _ (m : ℕ) (not_0 : m ≢ 0) (not_16 : m ≢ 16) where
    given_left : built.answer.number ≡ m → after.answer.number ≡ m
    given_left e =
        sym
        (ap (λ (x : Left). x.answer.number)
        (refused_left ws instances witness challenges y columns nodes built refl (λ z. not_0 (sym e ∙ z))))
        ∙ e

    given_built : after.answer.number ≡ m → built.answer.number ≡ m
    given_built e = go (ℕ_discrete built.answer.number 0)
      where
        go : Dec (built.answer.number ≡ 0) → built.answer.number ≡ m
        go (yes z) =
            absurd
            (no_other ws witness (take built.answer.column_words built.columns) (take (built.answer.nodes * 4) built.nodes) challenges y l.circuit_yes
            m
            not_0
            not_16
            (ap (λ (x : Left). x.answer.number) (summed_left ws instances witness challenges y columns nodes built _ refl z refl) ∙ e))
        go (no h) =
            ap (λ (x : Left). x.answer.number) (refused_left ws instances witness challenges y columns nodes built refl h) ∙ e

  not_0 : (m n : ℕ) → m ≡ suc n → m ≢ 0
  not_0 m n e z = omega arith

  fifteen_16 : ◌≡◌ {A = ℕ} 15 16 → ⊥
  fifteen_16 e = omega arith

  seventeen_16 : ◌≡◌ {A = ℕ} 17 16 → ⊥
  seventeen_16 e = omega arith

  -- the build gave 0 and the row sum 0 and 0
  module _ (s : Succeeds ws instances witness (before_alpha challenges) columns nodes built) where
    abbrev circuit : Circuit
    circuit = circuit_of ws

    lent_alike : (r : RowSum) (b : Built) (vs : List ℕ) → b ≡ success circuit → vs ≡ challenges
        → row_sum_of (lent_sum ws witness (take (column_words circuit) built.columns) (take (composed_nodes circuit * 4) built.nodes) vs y) ≡ r
        → r ≡ row_sum_of (lent_sum ws witness (take b.column_words built.columns) (take (b.nodes * 4) built.nodes) challenges y)
    lent_alike r b vs e c h =
        sym h
        ∙ ap (λ (v : List ℕ). row_sum_of (lent_sum ws witness (take (column_words circuit) built.columns) (take (composed_nodes circuit * 4) built.nodes) v y)) c
        ∙ sym (ap (λ (b : Built). row_sum_of (lent_sum ws witness (take b.column_words built.columns) (take (b.nodes * 4) built.nodes) challenges y)) e)

    left_zero : row_sum_of (lent_sum ws witness (take (column_words circuit) built.columns) (take (composed_nodes circuit * 4) built.nodes)
        (before_alpha challenges ++ (alpha_word challenges ∷ []))
        y)
        ≡ record { number = 0; sum = 0 }
        → ◌≡◌ {A = Left}
        (record { answer = sized (success circuit) (record { number = 0; sum = 0 }); columns = built.columns; nodes = built.nodes })
        after
    left_zero h =
        ap (λ (b : Built). record { answer = sized b (record { number = 0; sum = 0 }); columns = built.columns; nodes = built.nodes })
        (sym s.written.answer)
        ∙ summed_left ws instances witness challenges y columns nodes built (record { number = 0; sum = 0 }) refl
        (ap (λ (b : Built). b.number) s.written.answer)
        (lent_alike _ built.answer _ s.written.answer (sym (with_alpha challenges has_alpha)) h)

    concluded : (x : Left)
        → ◌≡◌ {A = Left}
        (record { answer = sized (success circuit) (record { number = 0; sum = 0 }); columns = built.columns; nodes = built.nodes })
        x
        → Concluded (lent_build ws instances witness challenges columns nodes) y x
    unfolding log_of
    concluded x e =
        subst (λ (x : Left). Concluded (lent_build ws instances witness challenges columns nodes) y x) e
        (record {
          number = refl;
          sum = refl;
          column_words_is = refl;
          node_count_is = refl;
          z_columns_is = refl;
          columns_written = s.written.columns_written;
          columns_past = s.written.columns_past;
          nodes_written = s.written.nodes_written;
          nodes_past = s.written.nodes_past;
          nodes_read = s.nodes_read;
          constraints_zero = s.concluded.constraints_zero;
          h_sums = s.concluded.h_sums;
          m_sums = s.concluded.m_sums;
          composed_sum = s.concluded.composed_sum;
        })

  demanded : Demanded (lent_build ws instances witness challenges columns nodes) y after
  unfolding log_of
  demanded =
      record {
        fifteen = (
          λ e. d.fifteen.0 (given_built 15 (not_0 15 14 refl) fifteen_16 e),
          λ n. given_left 15 (not_0 15 14 refl) fifteen_16 (d.fifteen.1 n),
        );
        seventeen = (
          λ e. d.seventeen.0 (given_built 17 (not_0 17 16 refl) seventeen_16 e),
          λ n. given_left 17 (not_0 17 16 refl) seventeen_16 (d.seventeen.1 n),
        );
        otherwise = λ zero_constraints equal_cells cuts_alike not_15 not_17 α-small y_length y_small.
            let premises : Premises 𝔾 log =
            record { zero_constraints = zero_constraints; equal_cells = equal_cells; cuts_alike = cuts_alike } in
            let s : Succeeds ws instances witness (before_alpha challenges) columns nodes built =
            d.otherwise premises (λ e. not_15 (given_left 15 (not_0 15 14 refl) fifteen_16 e))
            (λ e. not_17 (given_left 17 (not_0 17 16 refl) seventeen_16 e)) in
            concluded s after (left_zero s (s.row_sum (alpha_word challenges) y α-small y_length y_small));
      }

-- of a call that returned and left what is defined
pub both : (ws instances witness challenges y columns nodes : List ℕ) (left : Left)
    → left ≡ build_and_sum_of (lent_build ws instances witness challenges columns nodes) y
    → (left ≡ build_and_sum_of (lent_build ws instances witness challenges columns nodes) y)
    × DemandThreeWhole (lent_build ws instances witness challenges columns nodes) y left
both ws instances witness challenges y columns nodes left e =
    (e, λ question. subst (λ (x : Left). Demanded (lent_build ws instances witness challenges columns nodes) y x) (sym e) (demanded ws instances witness challenges y columns nodes question))
