-- Few γ give 17, so few turn a good log away, and how few: Odds, FewTurnedAway and OddsLimit of Insurer.
use mathlib.Core.Path.{◌≡◌, refl, sym, ap, ◌∙◌, subst}
use mathlib.Core.Logic.{◌≢◌}
use mathlib.Core.Bool.{true, false}
use mathlib.Core.List.{List, [], ◌∷◌, ◌++◌, map}
use Prim.Native.Nat.{ℕ, zero, suc, ◌+◌, ◌*◌, ◌^◌, ◌≤◌, ◌<◌}
use native.Mathlib.Nat.{mul-le-mul}
use native.Mathlib.Omega.{arith}
use lib.ListN.{length, get_or, take, drop, length-append, length-map}
use lib.Seq.{take_at}
use lib.Pow.{pow_mono}
use lib.Dec.{eqb}
use borrow.Author.Tests.{eq-eqb}
use Rattle.field.specs.Prime.{P}
use Rattle.field.specs.Field.{𝔾, el, val, val_el}
use Rattle.lists.specs.Lists.{tabulate, range, any_of, All}
use Rattle.lists.proofs.All.{all_right}
use Rattle.lists.proofs.Tests.{false_true, by_test}
use Rattle.lists.proofs.Some.{none_all}
use Rattle.lists.proofs.Lists.{get_past, split_length}
use Rattle.lists.proofs.Columns.{tabulate_length}
use Rattle.lists.proofs.Searches.{count_le}
use Rattle.backend.specs.Circuit.{Section, word_k, entries, body_of, pair_at, Circuit, circuit_of, rows_of, num_challenges, num_poly, num_lookups, num_groups, num_copied, copied, copied_in}
use Rattle.backend.specs.Questions.{largest_k}
use Rattle.backend.proofs.Sections.{body_length}
use Rattle.backend.proofs.Answers.{numbers_few, numbers_good_is}
use Rattle.backend.proofs.Groups.{groups_few}
use Rattle.backend.proofs.Passed.{Yes, yes_all}
use Rattle.prover.specs.Log.{Log}
use Rattle.hyperplonk_spec.specs.Build.{log_of, check_build, build_of, lent_build}
use Rattle.hyperplonk_spec.specs.Meaning.{NoneZero, Premises}
use Rattle.hyperplonk_spec.specs.Insurer.{drawn, denominators, Good, Passes, Odds, FewTurnedAway, OddsLimit}
use Rattle.completeness.proofs.Asked.{lending, asked_other}
use Rattle.hyperplonk_spec.proofs.Building.{refused_number}
use Rattle.completeness.proofs.Denominators.{none_zero_when}
use Rattle.completeness.proofs.DemandThree.{seventeen}
use Rattle.completeness.proofs.GoodLog.{good_log}
use Rattle.completeness.proofs.Odds.{unlucky, few, none_when}

premises : (g : Log 𝔾) → Good 𝔾 g → Premises 𝔾 g
premises g a =
    record { zero_constraints = a.zero_constraints; equal_cells = a.equal_cells; cuts_alike = a.cuts_alike }

-- a word that is none of these is none of them as an element
words_apart : (γ : ℕ) → γ < P → (us : List 𝔾.F) → All (λ w. γ ≢ w) (map val us) → All (λ u. el γ ≢ u) us
words_apart γ l [] a = tt
words_apart γ l (u ∷ us) a = (λ e. a.0 (sym (val_el γ l) ∙ ap val e), words_apart γ l us a.1)

module _ (ws instances witness user : List ℕ) (β : ℕ) where
  abbrev words : ℕ → List ℕ
  words γ = user ++ (β ∷ γ ∷ [])

  abbrev log : ℕ → Log 𝔾
  log γ = log_of ws instances witness (words γ)

  -- the logs differ in γ alone
  module _ (γ : ℕ) (size : length user ≡ num_challenges (circuit_of ws)) where
    user_same : (γ : ℕ) → take (num_challenges (circuit_of ws)) (words γ) ≡ user
    user_same γ = take_at user (β ∷ γ ∷ []) (num_challenges (circuit_of ws)) size

    β-same : (γ : ℕ) → get_or (words γ) (num_challenges (circuit_of ws)) 0 ≡ β
    β-same γ = get_past user (β ∷ γ ∷ []) (num_challenges (circuit_of ws)) 0 0 (omega arith)

    γ-is : get_or (words γ) (num_challenges (circuit_of ws) + 1) 0 ≡ γ
    γ-is = get_past user (β ∷ γ ∷ []) (num_challenges (circuit_of ws) + 1) 1 0 (omega arith)

    log_is : log γ ≡ drawn 𝔾 (log 0) (log 0).β (el γ)
    unfolding log_of
    log_is = rw (user_same γ, user_same 0, β-same γ, β-same 0, γ-is)

  abbrev list : List ℕ
  list = map val (unlucky 𝔾 (log 0))

  pub list_few : length list ≤ denominators (circuit_of ws)
  unfolding log_of
  list_few = subst (λ (x : ℕ). x ≤ denominators (circuit_of ws)) (sym (length-map (unlucky 𝔾 (log 0)) val)) (few 𝔾 (log 0))

  -- a γ that is none of these does not give 17
  module _ (γ : ℕ) (a : All (λ u. γ ≢ u) list) (columns nodes : List ℕ) (asked : check_build (lent_build ws instances witness (words γ) columns nodes) ≡ 0) where
    none : NoneZero 𝔾 (log γ)
    none =
        let l = lending ws instances witness (words γ) columns nodes asked in
        let e : length user ≡ num_challenges (circuit_of ws) = (let p = l.challenges_length in let q = length-append user (β ∷ γ ∷ []) in omega arith) in
        let small : γ < P = (all_right (λ w. w < P) user (β ∷ γ ∷ []) l.challenges_small).1.0 in
        subst (NoneZero 𝔾) (sym (log_is γ e)) ((none_when 𝔾 (log 0) (el γ)).1 (words_apart γ small (unlucky 𝔾 (log 0)) a))

    not_17 : (build_of (lent_build ws instances witness (words γ) columns nodes)).answer.number ≢ 17
    not_17 e =
        false_true
        (sym ((none_zero_when 𝔾 (log γ)).1 none) ∙ ((seventeen ws instances witness (words γ) columns nodes asked).0 e).1)

    pub few_turned : Good 𝔾 (log γ) → Passes ws instances witness (words γ) columns nodes
    few_turned g =
        (good_log ws instances witness (words γ) columns nodes asked g.readings_stand).2 (premises (log γ) g) not_17

  -- so one with which the call gives 17 is one of these
  pub one_of : (γ : ℕ) (columns nodes : List ℕ) → (build_of (lent_build ws instances witness (words γ) columns nodes)).answer.number ≡ 17
      → any_of (eqb γ) list ≡ true
  one_of γ columns nodes e =
      by_test (any_of (eqb γ) list) (λ h. h)
      (λ h. absurd (go (check_build (lent_build ws instances witness (words γ) columns nodes)) refl (apart list (none_all (eqb γ) list h))))
    where
      apart : (us : List ℕ) → All (λ u. eqb γ u ≡ false) us → All (λ u. γ ≢ u) us
      apart [] a = tt
      apart (u ∷ us) a = (λ q. false_true (sym a.0 ∙ eq-eqb γ u q), apart us a.1)

      go : (n : ℕ) → check_build (lent_build ws instances witness (words γ) columns nodes) ≡ n → All (λ u. γ ≢ u) list → ⊥
      go zero q a = not_17 γ a columns nodes q e
      go (suc n) q a =
          (asked_other (lent_build ws instances witness (words γ) columns nodes)).1
          (q ∙ sym (refused_number ws instances witness (words γ) columns nodes n q) ∙ e)

pub few_turned_away : FewTurnedAway
few_turned_away ws instances witness user β =
    (list ws instances witness user β, list_few ws instances witness user β, few_turned ws instances witness user β)

pub odds : Odds
odds ws instances witness user β =
    (list ws instances witness user β, list_few ws instances witness user β, one_of ws instances witness user β)

-- ---- how few
module _ (ws : List ℕ) (y : Yes ws) where
  abbrev c : Circuit
  c = circuit_of ws

  few_lookups : num_lookups c ≤ 8
  unfolding circuit_of
  few_lookups =
      let a = split_length (body_of ws Section.widths) (tabulate (pair_at (body_of ws Section.nodes) (body_of ws Section.pairs)) (entries ws Section.pairs)) in
      let b = body_length ws y.laid Section.widths in
      let d = y.laid.few_widths in
      omega arith

  few_groups : num_groups c ≤ 8
  unfolding num_groups circuit_of
  few_groups =
      let a = groups_few (body_of ws Section.groups) (numbers_good_is ws y.laid y.eighteen) in
      let b = numbers_few ws y.laid in
      omega arith

  few_copied : num_copied c ≤ num_poly c
  unfolding copied copied_in
  few_copied = subst (λ (n : ℕ). num_copied c ≤ n) (tabulate_length (λ (i : ℕ). i) (num_poly c)) (count_le _ (range (num_poly c)))

  few_polys : num_poly c ≤ 8 + 32 + 32
  unfolding num_poly circuit_of
  few_polys =
      let a = body_length ws y.laid Section.instances in
      let b = tabulate_length (λ i. take (2 ^ word_k ws) (drop (i * 2 ^ word_k ws) (body_of ws Section.preprocess))) (entries ws Section.preprocess) in
      let d = y.laid.few_instances in
      let e = y.laid.few_preprocess in
      let f = y.counted.few_witness in
      omega arith

  few_rows : rows_of c ≤ 2 ^ largest_k
  unfolding circuit_of
  few_rows = pow_mono y.laid.k_high

pub odds_limit : OddsLimit
odds_limit ws e =
    let y = yes_all ws e in
    mul-le-mul {n₁ = rows_of (circuit_of ws)} {m₁ = num_lookups (circuit_of ws) + num_groups (circuit_of ws) + num_copied (circuit_of ws)} {n₂ = 2 ^ largest_k} {m₂ = 8 + 8 + (8 + 32 + 32)} (few_rows ws y)
    (let a = few_lookups ws y in let h = few_groups ws y in let b = few_copied ws y in let d = few_polys ws y in omega arith)
