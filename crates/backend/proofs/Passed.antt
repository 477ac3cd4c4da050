-- What yes to questions 1 to 11 and 18 says, question by question; and that each has a number of its own, not 0.
use mathlib.Core.Path.{◌≡◌, refl}
use mathlib.Core.Bool.{true}
use mathlib.Core.List.{List}
use Prim.Native.Nat.{ℕ}
use native.Mathlib.Omega.{arith}
use Rattle.lists.specs.Lists.{first_no, All}
use Rattle.lists.proofs.First.{Numbered, first_yes, first_both}
use Rattle.backend.specs.Circuit.{circuit_of}
use Rattle.backend.specs.Questions.{q5, q7, q8, q18, q10, q11, layout_questions, body_questions, circuit_questions}
use Rattle.backend.specs.Laid.{ContentsValid, BodiesValid}
use Rattle.backend.proofs.Answers.{all_laid}

pub numbered : All Numbered circuit_questions
unfolding circuit_questions
numbered = omega arith

pub record Yes (ws : List ℕ) : Type 0 where
  pub laid : ContentsValid ws
  pub counted : BodiesValid ws
  pub five : q5 (circuit_of ws) ≡ true
  pub seven : q7 (circuit_of ws) ≡ true
  pub eight : q8 (circuit_of ws) ≡ true
  pub eighteen : q18 (circuit_of ws) ≡ true
  pub ten : q10 (circuit_of ws) ≡ true
  pub eleven : q11 (circuit_of ws) ≡ true

pub yes_all : (ws : List ℕ) → first_no circuit_questions ws ≡ 0 → Yes ws
unfolding circuit_questions
yes_all ws e =
    let r = first_both layout_questions body_questions ws e (omega arith) in
    let l = all_laid ws r.0 in
    let r5 = first_yes _ _ ws 4 refl r.1 in
    let r6 = first_yes _ _ ws 5 refl r5.1 in
    let r7 = first_yes _ _ ws 6 refl r6.1 in
    let r8 = first_yes _ _ ws 7 refl r7.1 in
    let r9 = first_yes _ _ ws 8 refl r8.1 in
    let r18 = first_yes _ _ ws 17 refl r9.1 in
    let r10 = first_yes _ _ ws 9 refl r18.1 in
    let r11 = first_yes _ _ ws 10 refl r10.1 in
    record { laid = l.0; counted = l.1; five = r5.0; seven = r7.0; eight = r8.0; eighteen = r18.0; ten = r10.0; eleven = r11.0 }
