-- What the building call's questions say, and that the row sum's are then yes.
use mathlib.Core.Path.{◌≡◌, refl, sym, ap, ap₂, ◌∙◌}
use mathlib.Core.Logic.{◌≢◌}
use mathlib.Core.Bool.{Bool, true, false, cond, not, ◌&&◌, ◌||◌}
use mathlib.Core.List.{List, [], ◌∷◌, ◌++◌, map}
use Prim.Native.Nat.{ℕ, ◌+◌, ◌*◌, ◌<◌}
use native.Mathlib.Omega.{arith}
use lib.ListN.{length, get_or, length-append}
use lib.Dec.{eqb}
use borrow.Author.Tests.{eq-eqb, eqb-true, ltb-true, lt-ltb}
use Rattle.field.specs.Prime.{P}
use Rattle.lists.specs.Lists.{total, all_of, Question, question_of, first_no, All}
use Rattle.lists.proofs.Tests.{false_true, all_true, all_each, and_left, and_right, same_words_is}
use Rattle.lists.proofs.All.{all_from, all_join}
use Rattle.lists.proofs.First.{first_yes, first_append, first_both, first_of, numbered_of}
use Rattle.backend.specs.Circuit.{circuit_of, rows_of, num_witness, num_challenges}
use Rattle.backend.specs.Questions.{circuit_questions, small}
use Rattle.backend.proofs.Passed.{numbered}
use Rattle.preprocessor.specs.Compose.{composed_words}
use Rattle.hyperplonk_spec.specs.Build.{Lent, build_questions, check_build, column_words, q12, q13, lent_build}
use Rattle.hyperplonk_spec.specs.RowSum.{LentSum, sum_questions, check_sum, q16, lent_sum}

-- ---- words below p
pub smalls : (ws : List ℕ) → all_of small ws ≡ true → All (λ w. w < P) ws
smalls ws e = all_from (λ w. w < P) ws 0 (λ i l. ltb-true (get_or ws i 0) P (all_each small 0 ws e i l))

pub all_small : (ws : List ℕ) → All (λ w. w < P) ws → all_of small ws ≡ true
unfolding all_of
all_small [] a = refl
all_small (w ∷ ws) a = ap₂ ◌&&◌ (lt-ltb w P a.0) (all_small ws a.1)

-- what questions 1 to 14 say that is used
pub record Lending (ws instances witness challenges : List ℕ) : Type 0 where
  pub circuit_yes : first_no circuit_questions ws ≡ 0
  pub witness_length : length witness ≡ num_witness (circuit_of ws) * rows_of (circuit_of ws)
  pub challenges_length : length challenges ≡ num_challenges (circuit_of ws) + 2
  pub witness_small : All (λ w. w < P) witness
  pub challenges_small : All (λ w. w < P) challenges

pub lending : (ws instances witness challenges columns nodes : List ℕ) → check_build (lent_build ws instances witness challenges columns nodes) ≡ 0
    → Lending ws instances witness challenges
unfolding check_build build_questions q12 q13
lending ws instances witness challenges columns nodes e =
    let x : Lent = record { circuit = ws; instances = instances; witness = witness; challenges = challenges; columns = columns; nodes = nodes } in
    let r = first_both (map (question_of (λ (l : Lent). l.circuit)) circuit_questions) _ x e (numbered_of (λ (l : Lent). l.circuit) circuit_questions numbered) in
    let r12 = first_yes _ _ x 11 refl r.1 in
    let r13 = first_yes _ _ x 12 refl r12.1 in
    let a : Bool = eqb (length instances) (total (circuit_of ws).instances) in
    let b : Bool = eqb (length witness) (num_witness (circuit_of ws) * rows_of (circuit_of ws)) in
    let c : Bool = eqb (length challenges) (num_challenges (circuit_of ws) + 2) in
    let d : Bool = all_of small instances in
    let f : Bool = all_of small witness in
    let h : Bool = all_of small challenges in
    record {
      circuit_yes = sym (first_of (λ (l : Lent). l.circuit) circuit_questions x) ∙ r.0;
      witness_length = eqb-true (length witness) _ (and_right a b (and_left (a && b) c r12.0));
      challenges_length = eqb-true (length challenges) _ (and_right (a && b) c r12.0);
      witness_small = smalls witness (and_right d f (and_left (d && f) h r13.0));
      challenges_small = smalls challenges (and_right (d && f) h r13.0);
    }

-- the row sum's questions are yes
pub sum_yes : (ws instances witness challenges columns y : List ℕ) (α : ℕ) → Lending ws instances witness challenges
    → length columns ≡ column_words (circuit_of ws) → All (λ w. w < P) columns → α < P → length y ≡ (circuit_of ws).k → All (λ w. w < P) y
    → check_sum (lent_sum ws witness columns (composed_words (circuit_of ws)) (challenges ++ (α ∷ [])) y) ≡ 0
unfolding check_sum sum_questions q16 first_no
sum_yes ws instances witness challenges columns y α lent cl cs αs yl ys =
    first_append (map (question_of (λ (l : LentSum). l.circuit)) circuit_questions) _ _
    (first_of (λ (l : LentSum). l.circuit) circuit_questions _ ∙ lent.circuit_yes)
    (numbered_of (λ (l : LentSum). l.circuit) circuit_questions numbered)
    ∙ (rw (
      eq-eqb (length witness) (num_witness (circuit_of ws) * rows_of (circuit_of ws)) lent.witness_length,
      eq-eqb (length columns) (column_words (circuit_of ws)) cl,
      eq-eqb (length (challenges ++ (α ∷ []))) (num_challenges (circuit_of ws) + 3)
          (length-append challenges (α ∷ []) ∙ (let q = lent.challenges_length in omega arith)),
      eq-eqb (length y) (circuit_of ws).k yl,
      same_words_is (composed_words (circuit_of ws)),
      all_small witness lent.witness_small,
      all_small columns cs,
      all_small (challenges ++ (α ∷ [])) (all_join (λ w. w < P) challenges (α ∷ []) lent.challenges_small (αs, tt)),
      all_small y ys,
    ))

-- ---- the numbers of questions 1 to 14
first_has : {A : Type 0} (Q : ℕ → Type 0) (qs : List (Question A)) (x : A) → Q 0 → All (λ q. Q q.number) qs → Q (first_no qs x)
unfolding first_no
first_has Q [] x h a = h
first_has Q (q ∷ qs) x h a = go (q.test x) (first_has Q qs x h a.1)
  where
    go : (t : Bool) → Q (first_no qs x) → Q (cond t (first_no qs x) q.number)
    go true r = r
    go false r = a.0

-- is a number neither 15 nor 17?
other : ℕ → Bool
other n = not (eqb n 15 || eqb n 17)

other_numbers : all_of (λ (q : Question Lent). other q.number) build_questions ≡ true
unfolding build_questions circuit_questions all_of other
other_numbers = refl

asked_is : (l : Lent) → other (check_build l) ≡ true
unfolding check_build other
asked_is l =
    first_has (λ n. other n ≡ true) build_questions l refl
    (all_true (λ (q : Question Lent). other q.number) build_questions other_numbers)

-- none is 15 or 17, so 15 and 17 are given only where all of these are yes
pub asked_other : (l : Lent) → (check_build l ≢ 15) × (check_build l ≢ 17)
unfolding other
asked_other l = (λ e. not_this 15 refl e, λ e. not_this 17 refl e)
  where
    not_this : (n : ℕ) → other n ≡ false → check_build l ≢ n
    not_this n h e = false_true (sym h ∙ sym (ap other e) ∙ asked_is l)
