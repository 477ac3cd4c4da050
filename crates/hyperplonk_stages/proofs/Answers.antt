-- What a stage called alone answers after each question.
use mathlib.Core.Path.{◌≡◌, refl, sym, ap, ap₂, ◌∙◌}
use mathlib.Core.Bool.{Bool, true, false, cond, ◌&&◌}
use mathlib.Core.List.{List, [], ◌∷◌, ◌++◌}
use Prim.Native.Nat.{ℕ, suc, ◌^◌, ◌≤◌}
use native.Mathlib.Nat.{suc-ne-zero}
use native.Mathlib.Omega.{arith}
use lib.Dec.{eqb, leb}
use lib.ListN.{length, get_or, replicate}
use borrow.Author.Tests.{leb-true, eqb-true, ltb-true, ne_eqb}
use Rattle.field.specs.Field.{𝔾, val}
use Rattle.lists.specs.Lists.{tabulate, all_of, write_prefix, write_at}
use Rattle.lists.proofs.Columns.{tabulate_length}
use Rattle.lists.proofs.First.{first_none, first_next, first_number_is}
use Rattle.lists.proofs.Over.{write_at_write_prefix}
use Rattle.lists.proofs.Tests.{and_left, and_right, all_append, all_each}
use Rattle.backend.specs.Questions.{good_k, small}
use Rattle.prover.specs.Lookup.{multiplicity, covered, h_at}
use Rattle.prover.specs.Denominators.{some_zero, lookup_denominators}
use Rattle.prover.specs.Answers.{Outcome, outcome_of, outcome_number, outcome_words}
use Rattle.prover.specs.Words.{elements, Small, count_words}
use Rattle.std.specs.Prelude.{Result, Ok, Err, IsErrAnd}
use Rattle.prover.specs.declared.ZeroDenominator.{ZeroDenominator}
use Rattle.hyperplonk_stages.specs.Refusal.{refusal_number, answer_number}
use Rattle.hyperplonk_stages.specs.declared.Refusal.{Refusal}
use Rattle.hyperplonk_spec.specs.Stages.{Answer, check_stage, fits}

-- the number where `?` passes a refusal on
passed_on : (told : Result (Unit {0}) Refusal) (e r : Refusal) → IsErrAnd told (λ x. x ≡ e) → e ≡ r → answer_number told ≡ refusal_number r
passed_on (Ok done) e r h q = absurd h
passed_on (Err x) e r h q = ap refusal_number (h ∙ q)

-- ---- the questions in order, and the answer by their number
module _ (k : ℕ) (exact : ℕ → Bool) (values out : List ℕ) (answer : Answer) where
  abbrev no : ℕ
  no = check_stage k exact values out

  abbrev result : Answer
  result = cond (eqb no 0) answer (record { number = no; out = out })

  -- refused by an `Err` of e, which `?` passes on
  module _ (told : Result (Unit {0}) Refusal) (e : Refusal) (passed : IsErrAnd told (λ x. x ≡ e)) where
    refused : (r : Refusal) (n : ℕ) → refusal_number r ≡ suc n → e ≡ r → no ≡ suc n
        → record { number = answer_number told; out = out } ≡ result
    refused r n is q f =
        ap (λ (m : ℕ). record { number = m; out = out }) (passed_on told e r passed q ∙ is ∙ sym f)
        ∙ ap (λ (t : Bool). cond t answer (record { number = no; out = out })) (sym (ne_eqb no 0 (λ z. suc-ne-zero n (sym f ∙ z))))

    pub no_2 : e ≡ Refusal.K → good_k k ≡ false → record { number = answer_number told; out = out } ≡ result
    unfolding check_stage
    no_2 q a = refused Refusal.K 1 refl q (first_number_is _ _ k a)

    pub no_12 : good_k k ≡ true → e ≡ Refusal.Lengths → exact k ≡ false → record { number = answer_number told; out = out } ≡ result
    unfolding check_stage
    no_12 a q b = refused Refusal.Lengths 11 refl q (first_next _ _ k a ∙ first_number_is _ _ k b)

    pub no_13 : good_k k ≡ true → exact k ≡ true → e ≡ Refusal.Values → all_of small values ≡ false
        → record { number = answer_number told; out = out } ≡ result
    unfolding check_stage
    no_13 a b q c = refused Refusal.Values 12 refl q (first_next _ _ k a ∙ first_next _ _ k b ∙ first_number_is _ _ k c)

    pub no_14 : good_k k ≡ true → exact k ≡ true → all_of small values ≡ true → (rows : ℕ) → rows ≡ 2 ^ k → e ≡ Refusal.Room
        → leb rows (length out) ≡ false
        → record { number = answer_number told; out = out } ≡ result
    unfolding check_stage
    no_14 a b c rows n q d =
        refused Refusal.Room 13 refl q
        (first_next _ _ k a ∙ first_next _ _ k b ∙ first_next _ _ k c ∙ first_number_is _ _ k (ap (λ (r : ℕ). leb r (length out)) (sym n) ∙ d))

  module _ (a : good_k k ≡ true) (b : exact k ≡ true) (c : all_of small values ≡ true) (rows : ℕ) (n : rows ≡ 2 ^ k) (d : leb rows (length out) ≡ true) where
    none : no ≡ 0
    unfolding check_stage
    none =
        first_next _ _ k a ∙ first_next _ _ k b ∙ first_next _ _ k c ∙ first_next _ _ k (ap (λ (r : ℕ). leb r (length out)) (sym n) ∙ d)
        ∙ first_none k

    pub all_yes : answer ≡ result
    all_yes = ap (λ (n : ℕ). cond (eqb n 0) answer (record { number = n; out = out })) (sym none)

-- ---- the tests
pub k_le : (k : ℕ) → good_k k ≡ true → k ≤ 10
k_le k a = leb-true k 10 (and_right (leb 1 k) (leb k 10) a)

and_assoc : (a b c : Bool) → ((a && b) && c) ≡ (a && (b && c))
and_assoc true b c = refl
and_assoc false b c = refl

and_true : (a : Bool) → a ≡ (a && true)
and_true true = refl
and_true false = refl

-- the lengths of two columns, and of three
pub two_exact : (k rows : ℕ) (xs ys : List ℕ) → rows ≡ 2 ^ k
    → (eqb (length xs) rows && eqb (length ys) rows) ≡ (fits xs k && fits ys k)
two_exact k rows xs ys n = ap (λ (r : ℕ). eqb (length xs) r && eqb (length ys) r) n

pub three_exact : (k rows : ℕ) (xs ys zs : List ℕ) → rows ≡ 2 ^ k
    → ((eqb (length xs) rows && eqb (length ys) rows) && eqb (length zs) rows) ≡ (fits xs k && fits ys k && fits zs k)
three_exact k rows xs ys zs n =
    ap (λ (r : ℕ). (eqb (length xs) r && eqb (length ys) r) && eqb (length zs) r) n

-- the words of two columns, and of three and one word more
pub two_small : (xs ys : List ℕ) (a b : Bool) → a ≡ all_of small xs → b ≡ all_of small ys → (a && b) ≡ all_of small (xs ++ ys)
two_small xs ys a b p q = ap₂ ◌&&◌ p q ∙ sym (all_append small xs ys)

pub three_small : (xs ys zs : List ℕ) (w : ℕ) (a b c d : Bool) → a ≡ all_of small xs → b ≡ all_of small ys → c ≡ all_of small zs
    → d ≡ small w
    → (((a && b) && c) && d) ≡ all_of small (xs ++ (ys ++ (zs ++ (w ∷ []))))
unfolding all_of
three_small xs ys zs w a b c d p q r s =
    and_assoc (a && b) c d
    ∙ and_assoc a b (c && d)
    ∙ two_small xs (ys ++ (zs ++ (w ∷ []))) a (b && (c && d)) p
    (two_small ys (zs ++ (w ∷ [])) b (c && d) q (two_small zs (w ∷ []) c d r (s ∙ and_true (small w))))

-- what the lengths and the words of columns tell
module _ (k rows : ℕ) (n : rows ≡ 2 ^ k) where
  long : (xs : List ℕ) → fits xs k ≡ true → rows ≤ length xs
  long xs e = omega (arith, n, eqb-true (length xs) (2 ^ k) e)

  words_small : (xs : List ℕ) → fits xs k ≡ true → all_of small xs ≡ true → Small rows (λ b. get_or xs b 0)
  words_small xs e a b l = ltb-true _ _ (all_each small 0 xs a b (omega (arith, n, l, eqb-true (length xs) (2 ^ k) e)))

  pub two_columns : (xs ys out : List ℕ) → (fits xs k && fits ys k) ≡ true → all_of small (xs ++ ys) ≡ true → rows ≤ length out
      → (rows ≤ length xs) × (rows ≤ length ys) × (rows ≤ length out) × Small rows (λ b. get_or xs b 0) × Small rows (λ b. get_or ys b 0)
  two_columns xs ys out e a l =
      let p : fits xs k ≡ true = and_left (fits xs k) (fits ys k) e in
      let q : fits ys k ≡ true = and_right (fits xs k) (fits ys k) e in
      let both : (all_of small xs && all_of small ys) ≡ true = sym (all_append small xs ys) ∙ a in (
        long xs p,
        long ys q,
        l,
        words_small xs p (and_left (all_of small xs) (all_of small ys) both),
        words_small ys q (and_right (all_of small xs) (all_of small ys) both),
      )

  pub three_columns : (xs ys zs out : List ℕ) → (fits xs k && fits ys k && fits zs k) ≡ true → rows ≤ length out
      → (rows ≤ length xs) × (rows ≤ length ys) × (rows ≤ length zs) × (rows ≤ length out)
  three_columns xs ys zs out e l =
      let two : (fits xs k && fits ys k) ≡ true = and_left (fits xs k && fits ys k) (fits zs k) e in (
        long xs (and_left (fits xs k) (fits ys k) two),
        long ys (and_right (fits xs k) (fits ys k) two),
        long zs (and_right (fits xs k && fits ys k) (fits zs k) e),
        l,
      )

-- ---- the counts
module _ (input table out : List ℕ) where
  abbrev counts : ℕ → Answer
  counts rows =
      let yes : Answer =
      record { number = 0; out = write_prefix (tabulate (multiplicity 𝔾 rows (elements input) (elements table)) rows) out } in
      let no : Answer = record { number = 15; out = write_prefix (replicate rows 0) out } in
      cond (covered 𝔾 rows (elements input) (elements table)) yes no

  module _ (k rows : ℕ) (n : rows ≡ 2 ^ k) (m : List ℕ) (e : m ≡ write_at out 0 (count_words rows (elements input) (elements table))) where
    answered : (t : Bool) → covered 𝔾 rows (elements input) (elements table) ≡ t → record { number = cond t 0 15; out = m } ≡ counts (2 ^ k)
    unfolding count_words
    answered t c =
        ap (λ (o : List ℕ). record { number = cond t 0 15; out = o }) (e ∙ ap (λ (t : Bool). write_at out 0 (cond t words zeros)) c)
        ∙ by t
        ∙ ap (λ (t : Bool). cond t (record { number = 0; out = write_prefix words out }) (record { number = 15; out = write_prefix zeros out })) (sym c)
        ∙ ap counts n
      where
        words : List ℕ
        words = tabulate (multiplicity 𝔾 rows (elements input) (elements table)) rows

        zeros : List ℕ
        zeros = replicate rows 0

        by : (t : Bool)
            → ◌≡◌ {A = Answer} (record { number = cond t 0 15; out = write_at out 0 (cond t words zeros) })
            (cond t (record { number = 0; out = write_prefix words out }) (record { number = 15; out = write_prefix zeros out }))
        by true = ap (λ (o : List ℕ). record { number = 0; out = o }) (sym (write_at_write_prefix words out))
        by false = ap (λ (o : List ℕ). record { number = 15; out = o }) (sym (write_at_write_prefix zeros out))

    pub counted : covered 𝔾 rows (elements input) (elements table) ≡ true → record { number = 0; out = m } ≡ counts (2 ^ k)
    counted = answered true

    pub uncovered : covered 𝔾 rows (elements input) (elements table) ≡ false → record { number = 15; out = m } ≡ counts (2 ^ k)
    uncovered = answered false

-- ---- a column written
pub column_done : (f : ℕ → ℕ) (k rows : ℕ) (out d : List ℕ) → rows ≡ 2 ^ k → d ≡ write_at out 0 (tabulate f rows)
    → ◌≡◌ {A = Answer} (record { number = 0; out = d }) (record { number = 0; out = write_prefix (tabulate f (2 ^ k)) out })
column_done f k rows out d n e =
    ap (λ (o : List ℕ). record { number = 0; out = o })
    (e ∙ sym (write_at_write_prefix (tabulate f rows) out) ∙ ap (λ (r : ℕ). write_prefix (tabulate f r) out) n)

-- ---- h
module _ (γ : 𝔾.F) (input table m out : List ℕ) where
  abbrev h_words : ℕ → List ℕ
  h_words rows = tabulate (λ b. val (h_at 𝔾 γ (elements input) (elements table) (elements m) b)) rows

  abbrev zero_in : ℕ → Bool
  zero_in rows = some_zero 𝔾 (lookup_denominators 𝔾 rows γ (elements input) (elements table))

  abbrev pub divided : ℕ → Answer
  divided rows =
      cond (zero_in rows) (record { number = 17; out = write_prefix (replicate rows 0) out }) (record { number = 0; out = write_prefix (h_words rows) out })

  pub h_done : (k rows number : ℕ) (r : Outcome) (d : List ℕ) → rows ≡ 2 ^ k → number ≡ outcome_number r → r ≡ outcome_of (zero_in rows)
      → d ≡ write_at out 0 (outcome_words r (h_words rows))
      → record { number = number; out = d } ≡ divided (2 ^ k)
  h_done k rows number r d n e is words =
      ap₂ (λ (x : ℕ) (y : List ℕ). record { number = x; out = y }) (e ∙ ap (λ (o : Outcome). outcome_number o) is)
      (words ∙ ap (λ (o : Outcome). write_at out 0 (outcome_words o (h_words rows))) is)
      ∙ by (zero_in rows)
      ∙ ap divided n
    where
      by : (t : Bool)
          → ◌≡◌ {A = Answer} (record { number = outcome_number (outcome_of t); out = write_at out 0 (outcome_words (outcome_of t) (h_words rows)) })
          (cond t (record { number = 17; out = write_prefix (replicate rows 0) out }) (record { number = 0; out = write_prefix (h_words rows) out }))
      by true =
          ap (λ (o : List ℕ). record { number = 17; out = o })
          (ap (λ (x : ℕ). write_at out 0 (replicate x 0)) (tabulate_length (λ b. val (h_at 𝔾 γ (elements input) (elements table) (elements m) b)) rows)
          ∙ sym (write_at_write_prefix (replicate rows 0) out))
      by false = ap (λ (o : List ℕ). record { number = 0; out = o }) (sym (write_at_write_prefix (h_words rows) out))

-- the number where `?` passes the zero denominator on
pub zero_passed : (answer : Result (Unit {0}) Refusal) (r : Outcome) (zero : ZeroDenominator) → IsErrAnd answer (λ e. e ≡ Refusal.ZeroDenominator)
    → r ≡ Err zero
    → answer_number answer ≡ outcome_number r
zero_passed (Ok done) r zero h e = absurd h
zero_passed (Err refusal) r zero h e = ap refusal_number h ∙ sym (ap outcome_number e)
