-- What the one call returns and leaves, from what its two parts do.
use mathlib.Core.Path.{◌≡◌, refl, sym, ap, ap₂, ◌∙◌, subst}
use mathlib.Core.Logic.{◌≢◌}
use mathlib.Core.Bool.{Bool, cond}
use mathlib.Core.List.{List, [], ◌∷◌, ◌++◌}
use Prim.Native.Nat.{ℕ, suc, ◌-◌, ◌*◌, ◌≤◌, ◌<◌}
use native.Mathlib.Omega.{arith}
use lib.ListN.{length, take, drop, length-append}
use lib.Seq.{take-suc, take_all}
use lib.Dec.{eqb}
use borrow.Author.Tests.{eq-eqb, ne_eqb}
use Rattle.field.specs.Field.{𝔾}
use Rattle.backend.specs.Circuit.{circuit_of, rows_of}
use Rattle.preprocessor.specs.Compose.{composed_words}
use Rattle.preprocessor.proofs.Composed.{composed_length}
use Rattle.prover.specs.Log.{Log}
use Rattle.prover.specs.Columns.{written_polys}
use Rattle.hyperplonk_spec.specs.Build.{Output, log_of, words_of, made, build_of, lent_build}
use Rattle.hyperplonk_spec.specs.RowSum.{row_sum_of, lent_sum}
use Rattle.hyperplonk_spec.specs.declared.RowSum.{RowSum}
use Rattle.hyperplonk_spec.proofs.Building.{columns_length, built_by_is, zero_yes}
use Rattle.hyperplonk_spec.specs.BuildAndSum.{before_alpha, alpha_word, Left, sized, sum_of_built, build_and_sum_of}

-- the challenges are those before α, and α
pub with_alpha : (challenges : List ℕ) → 0 < length challenges → challenges ≡ before_alpha challenges ++ (alpha_word challenges ∷ [])
unfolding before_alpha alpha_word
with_alpha challenges h =
    sym (take_all (suc (length challenges - 1)) challenges (omega arith)) ∙ take-suc challenges (length challenges - 1) 0 (omega arith)

-- ---- a build that gives 0 has written the words that it says
module _ (ws instances witness challenges columns nodes : List ℕ) where
  abbrev out : Output
  out = build_of (lent_build ws instances witness challenges columns nodes)

  pub record Fits (o : Output) : Type 0 where
    pub columns_fit : o.answer.column_words ≤ length o.columns
    pub nodes_fit : o.answer.nodes * 4 ≤ length o.nodes

  made_fits : Fits (made (log_of ws instances witness challenges) columns nodes)
  unfolding made log_of
  made_fits =
      let g : Log 𝔾 = log_of ws instances witness challenges in
      let cs : List ℕ = words_of (rows_of (circuit_of ws)) (written_polys 𝔾 g) in
      let ns : List ℕ = composed_words (circuit_of ws) in
      let c = columns_length g in
      let n = composed_length (circuit_of ws) in
      record {
        columns_fit = omega (arith, c, length-append cs (drop (length cs) columns));
        nodes_fit = omega (arith, n, length-append ns (drop (length ns) nodes));
      }

  fits : out.answer.number ≡ 0 → Fits out
  fits z =
      let y = zero_yes ws instances witness challenges columns nodes z in
      subst Fits (sym (built_by_is ws instances witness challenges columns nodes y.asked_yes y.covered_yes y.none_zero)) made_fits

  pub room : (o : Output) → o ≡ out → o.answer.number ≡ 0 → Fits o
  room o e z = subst Fits (sym e) (fits (sym (ap (λ (o : Output). o.answer.number) e) ∙ z))

-- ---- the call
module _ (ws instances witness challenges y columns nodes : List ℕ) where
  abbrev built : Output
  built = build_of (lent_build ws instances witness (before_alpha challenges) columns nodes)

  -- the build is lent as many challenges as stand before α
  pub built_is : (n : ℕ) (o : Output) → n ≡ length challenges - 1 → o ≡ build_of (lent_build ws instances witness (take (n - 0) challenges) columns nodes)
      → o ≡ built
  unfolding before_alpha
  built_is n o e h =
      h
      ∙ ap (λ (m : ℕ). build_of (lent_build ws instances witness (take m challenges) columns nodes)) {x = n - 0} {y = length challenges - 1} (omega arith)

  -- by what the build returned and left
  abbrev left_by : Output → Left
  left_by o =
      record {
        answer =
            sized o.answer
            (cond (eqb o.answer.number 0) (sum_of_built ws witness challenges y o) (record { number = o.answer.number; sum = 0 }));
        columns = o.columns;
        nodes = o.nodes;
      }

  pub left_is : left_by built ≡ build_and_sum_of (lent_build ws instances witness challenges columns nodes) y
  unfolding build_and_sum_of
  left_is = refl

  -- the build is refused
  pub refused_left : (o : Output) → o ≡ built → o.answer.number ≢ 0
      → ◌≡◌ {A = Left}
      (record {
        answer = sized o.answer (record { number = o.answer.number; sum = 0 });
        columns = o.columns;
        nodes = o.nodes;
      })
      (build_and_sum_of (lent_build ws instances witness challenges columns nodes) y)
  refused_left o e h =
      sym
      (ap
      (λ (t : Bool).
      record {
        answer =
            sized o.answer (cond t (sum_of_built ws witness challenges y o) (record { number = o.answer.number; sum = 0 }));
        columns = o.columns;
        nodes = o.nodes;
      })
      (ne_eqb o.answer.number 0 h))
      ∙ ap left_by e
      ∙ left_is

  -- the build gave 0, and the row sum answered
  pub summed_left : (o : Output) (s : RowSum) → o ≡ built → o.answer.number ≡ 0
      → s
      ≡ row_sum_of (lent_sum ws witness (take o.answer.column_words o.columns) (take (o.answer.nodes * 4) o.nodes) challenges y)
      → ◌≡◌ {A = Left} (record { answer = sized o.answer s; columns = o.columns; nodes = o.nodes })
      (build_and_sum_of (lent_build ws instances witness challenges columns nodes) y)
  unfolding sum_of_built
  summed_left o s e h r =
      ap (λ (s : RowSum). record { answer = sized o.answer s; columns = o.columns; nodes = o.nodes }) r
      ∙ sym
      (ap
      (λ (t : Bool).
      record {
        answer =
            sized o.answer (cond t (sum_of_built ws witness challenges y o) (record { number = o.answer.number; sum = 0 }));
        columns = o.columns;
        nodes = o.nodes;
      })
      (eq-eqb o.answer.number 0 h))
      ∙ ap left_by e
      ∙ left_is

  -- the same, with the lengths as the code lends them
  pub summed_code : (o : Output) (s : RowSum) → o ≡ built → o.answer.number ≡ 0
      → s
      ≡ row_sum_of (lent_sum ws witness (take (o.answer.column_words - 0) o.columns) (take (o.answer.nodes * 4 - 0) o.nodes) challenges y)
      → ◌≡◌ {A = Left} (record { answer = sized o.answer s; columns = o.columns; nodes = o.nodes })
      (build_and_sum_of (lent_build ws instances witness challenges columns nodes) y)
  summed_code o s e h r =
      let a : o.answer.column_words - 0 ≡ o.answer.column_words = omega arith in
      let b : o.answer.nodes * 4 - 0 ≡ o.answer.nodes * 4 = omega arith in
      summed_left o s e h (r ∙ ap₂ (λ (m n : ℕ). row_sum_of (lent_sum ws witness (take m o.columns) (take n o.nodes) challenges y)) a b)
