-- The stages called alone: `lookup_m_poly`, `lookup_h_poly` and `eq_xy`, "with k and columns of 2^k".
use Rattle.std.specs.Prelude.{Bool, cond, ◌&&◌, List, [], ◌∷◌, ◌++◌, ℕ, ◌^◌, length, replicate, eqb, leb}
use Rattle.field.specs.Field.{𝔾, el, val}
use Rattle.lists.specs.Lists.{tabulate, all_of, write_prefix, question, first_no}
use Rattle.multilinear.specs.EqXY.{eq_at}
use Rattle.backend.specs.Questions.{good_k, small}
use Rattle.prover.specs.Lookup.{multiplicity, covered, h_at}
use Rattle.prover.specs.Denominators.{some_zero, lookup_denominators}
pub use Rattle.prover.specs.Words.{elements}

-- "return the number only, and treat their one output column as above"
pub record Answer : Type 0 where
  pub number : ℕ
  pub out : List ℕ

-- "they meet 2, 12, 13, 14": k, exact lengths, values below p, room for the column
unfoldable pub check_stage : ℕ → (ℕ → Bool) → List ℕ → List ℕ → ℕ
check_stage k exact values out =
    first_no
    (question 2 good_k ∷ question 12 exact ∷ question 13 (λ _. all_of small values) ∷ question 14 (λ k. leb (2 ^ k) (length out)) ∷ [])
    k

abbrev pub fits : List ℕ → ℕ → Bool
fits ws k = eqb (length ws) (2 ^ k)

-- "and, for counts, 15"
unfoldable pub m_of : ℕ → List ℕ → List ℕ → List ℕ → Answer
m_of k input table out =
    let number : ℕ = check_stage k (λ k. fits input k && fits table k) (input ++ table) out in
    let counts : List ℕ = tabulate (multiplicity 𝔾 (2 ^ k) (elements input) (elements table)) (2 ^ k) in
    let yes-15 : Answer = record { number = 0; out = write_prefix counts out } in
    let no-15 : Answer = record { number = 15; out = write_prefix (replicate (2 ^ k) 0) out } in
    let answer : Answer = cond (covered 𝔾 (2 ^ k) (elements input) (elements table)) yes-15 no-15 in
    cond (eqb number 0) answer (record { number = number; out = out })

-- Item 2 of document 02: "the h stage called alone meets it last": 17, if a denominator is zero, and the column becomes 0
unfoldable pub h_of : ℕ → List ℕ → List ℕ → List ℕ → ℕ → List ℕ → Answer
h_of k input table m γ out =
    let number : ℕ = check_stage k (λ k. fits input k && fits table k && fits m k) (input ++ (table ++ (m ++ (γ ∷ [])))) out in
    let h : List ℕ = tabulate (λ b. val (h_at 𝔾 (el γ) (elements input) (elements table) (elements m) b)) (2 ^ k) in
    let yes-17 : Answer = record { number = 0; out = write_prefix h out } in
    let no-17 : Answer = record { number = 17; out = write_prefix (replicate (2 ^ k) 0) out } in
    let answer : Answer = cond (some_zero 𝔾 (lookup_denominators 𝔾 (2 ^ k) (el γ) (elements input) (elements table))) no-17 yes-17 in
    cond (eqb number 0) answer (record { number = number; out = out })

-- "`eq_xy` takes k and y of k values"
unfoldable pub eq_of : ℕ → List ℕ → List ℕ → Answer
eq_of k y out =
    let number : ℕ = check_stage k (eqb (length y)) y out in
    let eq : List ℕ = tabulate (λ b. val (eq_at 𝔾 k (elements y) b)) (2 ^ k) in
    let answer : Answer = record { number = 0; out = write_prefix eq out } in
    cond (eqb number 0) answer (record { number = number; out = out })
