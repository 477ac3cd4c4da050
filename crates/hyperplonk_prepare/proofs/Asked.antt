-- The number that questions 1 to 14 give, by the answers.
use mathlib.Core.Path.{◌≡◌, refl, sym, ◌∙◌}
use mathlib.Core.Bool.{true, false}
use mathlib.Core.List.{List, [], ◌∷◌, ◌++◌, map}
use Prim.Native.Nat.{ℕ, suc, ◌-◌}
use native.Mathlib.Omega.{arith}
use Rattle.lists.specs.Lists.{Question, question, question_of, first_no}
use Rattle.lists.proofs.First.{first_none, first_next, first_number_is, first_append, first_refused, first_of, numbered_of}
use Rattle.backend.specs.Circuit.{circuit_of}
use Rattle.backend.specs.Questions.{circuit_questions}
use Rattle.backend.proofs.Passed.{numbered}
use Rattle.hyperplonk_spec.specs.Build.{Lent, q12, q13, q14, build_questions, check_build, lent_build}
use Rattle.hyperplonk_prepare.specs.Prepared.{Accepted}

module _ (ws instances witness challenges columns nodes : List ℕ) where
  abbrev lent : Lent
  lent =
      record {
        circuit = ws;
        instances = instances;
        witness = witness;
        challenges = challenges;
        columns = columns;
        nodes = nodes;
      }

  abbrev first : List (Question Lent)
  first = map (question_of (λ (l : Lent). l.circuit)) circuit_questions

  abbrev last : List (Question Lent)
  last =
      question 12 (λ (l : Lent). q12 (circuit_of l.circuit) l.instances l.witness l.challenges)
      ∷ question 13 (λ (l : Lent). q13 l.instances l.witness l.challenges)
      ∷ question 14 (λ (l : Lent). q14 (circuit_of l.circuit) l.columns l.nodes)
      ∷ []

  check_is : check_build (lent_build ws instances witness challenges columns nodes) ≡ first_no (first ++ last) lent
  unfolding check_build build_questions
  check_is = refl

  first_is : first_no first lent ≡ first_no circuit_questions ws
  first_is = first_of (λ (l : Lent). l.circuit) circuit_questions lent

  -- a no among 1 to 11 and 18
  pub circuit_no : (n : ℕ) → first_no circuit_questions ws ≡ suc n → check_build (lent_build ws instances witness challenges columns nodes) ≡ suc n
  circuit_no n e = check_is ∙ first_refused first last lent n (first_is ∙ e)

  pub circuit_refused : (r : ℕ) → r ≡ first_no circuit_questions ws → (r ≡ 0 → ⊥)
      → check_build (lent_build ws instances witness challenges columns nodes) ≡ r
  circuit_refused r e h = let s : r ≡ suc (r - 1) = omega arith in circuit_no (r - 1) (sym e ∙ s) ∙ sym s

  module _ (a : Accepted ws) where
    then_12 : check_build (lent_build ws instances witness challenges columns nodes) ≡ first_no last lent
    then_12 =
        check_is
        ∙ first_append first last lent (first_is ∙ a) (numbered_of (λ (l : Lent). l.circuit) circuit_questions numbered)

    pub no_12 : q12 (circuit_of ws) instances witness challenges ≡ false → check_build (lent_build ws instances witness challenges columns nodes) ≡ 12
    no_12 h = then_12 ∙ first_number_is _ _ lent h

    module _ (twelve : q12 (circuit_of ws) instances witness challenges ≡ true) where
      pub no_13 : q13 instances witness challenges ≡ false → check_build (lent_build ws instances witness challenges columns nodes) ≡ 13
      no_13 h = then_12 ∙ first_next _ _ lent twelve ∙ first_number_is _ _ lent h

      module _ (thirteen : q13 instances witness challenges ≡ true) where
        pub no_14 : q14 (circuit_of ws) columns nodes ≡ false → check_build (lent_build ws instances witness challenges columns nodes) ≡ 14
        no_14 h = then_12 ∙ first_next _ _ lent twelve ∙ first_next _ _ lent thirteen ∙ first_number_is _ _ lent h

        pub no_none : q14 (circuit_of ws) columns nodes ≡ true → check_build (lent_build ws instances witness challenges columns nodes) ≡ 0
        no_none h =
            then_12 ∙ first_next _ _ lent twelve ∙ first_next _ _ lent thirteen ∙ first_next _ _ lent h ∙ first_none lent
