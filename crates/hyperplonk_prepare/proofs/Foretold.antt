-- What the numbers of `sizes` tell of the building call and of an evaluation: Foretells of Sizes.
use mathlib.Core.Path.{◌≡◌, refl, sym, ap, ap₂, ◌∙◌, subst}
use mathlib.Core.Logic.{◌≢◌, inl, inr, ⊎_elim}
use mathlib.Core.Bool.{Bool, true, false, ◌&&◌}
use mathlib.Core.List.{List}
use Prim.Native.Nat.{ℕ, zero, suc, ◌-◌, ◌*◌, ◌≤◌, ◌<◌}
use native.Mathlib.Omega.{arith}
use native.Mathlib.Decide.{dec_lt}
use lib.ListN.{length}
use lib.Dec.{leb, eqb-suc-zero}
use borrow.Author.Tests.{le-leb, lt-leb}
use Rattle.field.specs.Field.{𝔾}
use Rattle.lists.specs.Lists.{first_no}
use Rattle.expression.specs.Value.{value_ops, value_at}
use Rattle.expression.specs.Visits.{visits, not_items}
use Rattle.expression.proofs.Visits.{visited_value, visits_same, visits_written}
use Rattle.backend.specs.Circuit.{Circuit, circuit_of}
use Rattle.backend.specs.Questions.{circuit_questions}
use Rattle.preprocessor.specs.Compose.{params_of, compose, composed_words, composed_nodes}
use Rattle.hyperplonk_spec.specs.Build.{Output, log_of, column_words, q12, q13, q14, check_build, build_of, lent_build, made}
use Rattle.hyperplonk_spec.specs.RowSum.{row_sum_environment}
use Rattle.hyperplonk_spec.specs.Sizes.{composed_visits, no_sizes, circuit_sizes, sizes_of, most_column_words, TooShort, ForetellsBuild, ForetellsRow, read_composed, Foretells}
use Rattle.hyperplonk_spec.specs.declared.Sizes.{Sizes}
use Rattle.hyperplonk_spec.proofs.Building.{built_by_is, refused_number, Given, given, zero_yes}
use Rattle.hyperplonk_spec.proofs.ReadsBack.{reads_back}
use Rattle.hyperplonk_prepare.specs.Prepared.{Accepted}
use Rattle.hyperplonk_prepare.proofs.Asked.{circuit_no, no_14, no_none}
use Rattle.hyperplonk_prepare.proofs.Bound.{composed_most, composed_visits_most}
use Rattle.hyperplonk_prepare.proofs.Computed.{columns_fit, columns_from}

-- ---- question 14 by the numbers
module _ (c : Circuit) (columns nodes : List ℕ) where
  too_short? : Dec (TooShort (circuit_sizes c) columns nodes)
  too_short? = go (dec_lt (length columns) (column_words c)) (dec_lt (length nodes) (composed_nodes c * 4))
    where
      go : Dec (length columns < column_words c) → Dec (length nodes < composed_nodes c * 4) → Dec (TooShort (circuit_sizes c) columns nodes)
      go (yes l) d = yes (inl l)
      go (no l) (yes m) = yes (inr m)
      go (no l) (no m) = no (⊎_elim (λ p. l p) (λ q. m q))

  room_14 : (TooShort (circuit_sizes c) columns nodes → ⊥) → q14 c columns nodes ≡ true
  unfolding q14
  room_14 h =
      let l : length columns < column_words c → ⊥ = λ p. h (inl p) in
      let m : length nodes < composed_nodes c * 4 → ⊥ = λ q. h (inr q) in
      ap₂ ◌&&◌ (le-leb (column_words c) (length columns) (omega arith)) (le-leb (composed_nodes c * 4) (length nodes) (omega arith))

  short_14 : TooShort (circuit_sizes c) columns nodes → q14 c columns nodes ≡ false
  unfolding q14
  short_14 (inl l) =
      ap (λ (t : Bool). t && leb (composed_nodes c * 4) (length nodes)) (lt-leb (column_words c) (length columns) l)
  short_14 (inr l) =
      ap (λ (t : Bool). leb (column_words c) (length columns) && t) (lt-leb (composed_nodes c * 4) (length nodes) l)
      ∙ and_false (leb (column_words c) (length columns))
    where
      and_false : (t : Bool) → (t && false) ≡ false
      and_false true = refl
      and_false false = refl

-- ---- a building call
module _ (ws instances witness challenges columns nodes : List ℕ) where
  abbrev output : Output
  output = build_of (lent_build ws instances witness challenges columns nodes)

  zero_made : output.answer.number ≡ 0 → output ≡ made (log_of ws instances witness challenges) columns nodes
  zero_made z =
      let y = zero_yes ws instances witness challenges columns nodes z in
      built_by_is ws instances witness challenges columns nodes y.asked_yes y.covered_yes y.none_zero

  -- with 1 to 14 yes the number is not 14
  passed_number : check_build (lent_build ws instances witness challenges columns nodes) ≡ 0 → output.answer.number ≢ 14
  passed_number e n = go (given ws instances witness challenges columns nodes e)
    where
      go : Given ws instances witness challenges columns nodes → ⊥
      go (Given.uncovered f q) = let r = sym q ∙ n in omega arith
      go (Given.divided f h q) = let r = sym q ∙ n in omega arith
      go (Given.built f h q) = let r = sym q ∙ n in omega arith

  -- ---- questions 1 to 11 and 18 are yes
  module _ (a : Accepted ws) where
    fourteen_is : q12 (circuit_of ws) instances witness challenges ≡ true → q13 instances witness challenges ≡ true
        → TooShort (circuit_sizes (circuit_of ws)) columns nodes
        → output.answer.number ≡ 14
    fourteen_is twelve thirteen h =
        refused_number ws instances witness challenges columns nodes 13 (no_14 ws instances witness challenges columns nodes a twelve thirteen (short_14 (circuit_of ws) columns nodes h))

    enough_is : q12 (circuit_of ws) instances witness challenges ≡ true → q13 instances witness challenges ≡ true
        → (TooShort (circuit_sizes (circuit_of ws)) columns nodes → ⊥)
        → check_build (lent_build ws instances witness challenges columns nodes) ≡ 0
    enough_is twelve thirteen h =
        no_none ws instances witness challenges columns nodes a twelve thirteen (room_14 (circuit_of ws) columns nodes h)

    fourteen_when : q12 (circuit_of ws) instances witness challenges ≡ true → q13 instances witness challenges ≡ true
        → output.answer.number ≡ 14
        → TooShort (circuit_sizes (circuit_of ws)) columns nodes
    fourteen_when twelve thirteen e = go (too_short? (circuit_of ws) columns nodes)
      where
        go : Dec (TooShort (circuit_sizes (circuit_of ws)) columns nodes) → TooShort (circuit_sizes (circuit_of ws)) columns nodes
        go (yes h) = h
        go (no h) = absurd (passed_number (enough_is twelve thirteen h) e)

    accepted_build : ForetellsBuild ws (circuit_sizes (circuit_of ws)) instances witness challenges columns nodes
    unfolding made log_of
    accepted_build =
        record {
          refused = λ h. absurd (h refl);
          fourteen = λ z twelve thirteen. (fourteen_when twelve thirteen, fourteen_is twelve thirteen);
          enough = λ z. enough_is;
          built =
              λ e.
              let m = zero_made e in
              (refl, ap (λ (o : Output). o.answer.column_words) m, ap (λ (o : Output). o.answer.nodes) m);
        }

  -- ---- one of them is no
  module _ (n : ℕ) (e : first_no circuit_questions ws ≡ suc n) where
    refused_build : ForetellsBuild ws (no_sizes (suc n)) instances witness challenges columns nodes
    refused_build =
        let r = refused_number ws instances witness challenges columns nodes n (circuit_no ws instances witness challenges columns nodes n e) in
        record {
          refused = λ h. r;
          fourteen = λ z. absurd (omega arith);
          enough = λ z. absurd (omega arith);
          built = λ z. absurd (let q = sym z ∙ r in omega arith);
        }

module _ (ws : List ℕ) where
  pub sizes_yes : Accepted ws → sizes_of ws ≡ circuit_sizes (circuit_of ws)
  unfolding sizes_of
  sizes_yes a = rw a

  sizes_no : (n : ℕ) → first_no circuit_questions ws ≡ suc n → sizes_of ws ≡ no_sizes (suc n)
  unfolding sizes_of
  sizes_no n e = rw (e, eqb-suc-zero n)

  pub sizes_refused : (r : ℕ) → r ≡ first_no circuit_questions ws → (r ≡ 0 → ⊥) → sizes_of ws ≡ no_sizes r
  sizes_refused r e h = let s : r ≡ suc (r - 1) = omega arith in sizes_no (r - 1) (sym e ∙ s) ∙ ap no_sizes (sym s)

  -- where no number is told, questions 1 to 11 and 18 are yes
  pub accepted_when : (sizes_of ws).number ≡ 0 → Accepted ws
  accepted_when z = go (first_no circuit_questions ws) refl
    where
      go : (n : ℕ) → first_no circuit_questions ws ≡ n → Accepted ws
      go zero e = e
      go (suc n) e = absurd (let q = sym z ∙ ap (λ (s : Sizes). s.number) (sizes_no n e) in omega arith)

  row_foretold : ForetellsRow ws (circuit_sizes (circuit_of ws))
  unfolding value_at composed_visits
  row_foretold witness columns challenges y b =
      let o = value_ops 𝔾 (row_sum_environment ws witness columns challenges y) b in
      ap₂ (λ (v : 𝔾.F) (n : ℕ). record { value = v; visits = n }) (visited_value o (read_composed ws))
      (visits_same o (read_composed ws) ∙ ap visits (reads_back ws))

  items_foretold : not_items (composed_words (circuit_of ws)) ≡ composed_visits (circuit_of ws)
  unfolding composed_words composed_visits
  items_foretold = visits_written (compose (circuit_of ws)) 0

  words_most : Accepted ws → column_words (circuit_of ws) ≤ most_column_words
  words_most a =
      let v = params_of (circuit_of ws) in
      let q = columns_from ws a v refl in
      let r = columns_fit ws a v refl in
      omega arith

  pub foretells : Foretells ws (sizes_of ws)
  foretells = go (first_no circuit_questions ws) refl
    where
      go : (n : ℕ) → first_no circuit_questions ws ≡ n → Foretells ws (sizes_of ws)
      go zero e =
          subst (Foretells ws) (sym (sizes_yes e))
          (record {
            build = λ instances witness challenges columns nodes. accepted_build ws instances witness challenges columns nodes e;
            row = λ z. row_foretold;
            no_items = λ z. items_foretold;
            most_words_is = words_most e;
            most_nodes_is = composed_most ws e;
            most_visits_is = composed_visits_most ws e;
          })
      go (suc n) e =
          subst (Foretells ws) (sym (sizes_no n e))
          (record {
            build = λ instances witness challenges columns nodes. refused_build ws instances witness challenges columns nodes n e;
            row = λ z. absurd (omega arith);
            no_items = λ z. absurd (omega arith);
            most_words_is = omega arith;
            most_nodes_is = omega arith;
            most_visits_is = omega arith;
          })

  -- of a call's answer
  pub foretold : (s : Sizes) → s ≡ sizes_of ws → Foretells ws s
  foretold s e = subst (Foretells ws) (sym e) foretells
