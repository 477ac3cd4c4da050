-- Haböck's paper over several inputs: the counts of a group turn the table into the inputs, h is the paper's and sums to zero, and the
-- counts have the totals of the paper's normalised multiplicities, so the paper's identity holds of both: CountsTurn, IsHabockH,
-- OnlyHabockH, HabockIdentity, HabockSum, SameTotals, TotalsDecide and SharedIdentity of Papers.
use mathlib.Core.Path.{◌≡◌, refl, sym, ap, ap₂, ◌∙◌}
use mathlib.Core.Logic.{◌≢◌}
use mathlib.Core.Bool.{Bool, true, false, cond, decide}
use mathlib.Core.List.{List, [], ◌∷◌, map}
use mathlib.Core.Option.{Option, none, some}
use Prim.Native.Nat.{ℕ, zero, suc, ◌+◌, ◌≤◌, ◌<◌}
use native.Mathlib.Nat.{add-zero}
use native.Mathlib.Decide.{ℕ_discrete}
use native.Mathlib.Omega.{arith}
use borrow.Author.Tests.{eq-eqb, ne_eqb}
use Rattle.field.specs.Algebra.{Field, one_mul, zero_mul, mul_left_comm, mul_one, sum}
use Rattle.bh.specs.Sums.{up_to}
use Rattle.lists.specs.Lists.{is_at, range, count_of, total, All}
use Rattle.lists.proofs.All.{all_mapped}
use Rattle.lists.proofs.Tests.{false_true, by_test}
use Rattle.identities.proofs.Totals.{up_to_cong, up_to_op, up_to_unit, up_to_units, up_to_swap, up_to_only, nats, le_total, count_up_to}
use Rattle.identities.proofs.Fields.{adds, sum_mul}
use Rattle.identities.specs.Lookup.{num}
use Rattle.identities.specs.Counts.{last_row, IsLast}
use Rattle.identities.proofs.Counts.{last_is}
use Rattle.identities.proofs.Lookup.{sum_neg}
use Rattle.prover.specs.Lookup.{sum_counts, same, group_covered, group_multiplicity, group_h_at, sum_rows, Turns}
use Rattle.prover.proofs.Groups.{list_rows, group_turns, turns_covered, group_identity, group_h_sum, group_h_holds, group_h_only}
use Rattle.hyperplonk_spec.specs.Meaning.{Embeds}
use Rattle.hyperplonk_spec.specs.Papers.{
  paper_h,
  NoneZeroAt,
  occurrences,
  normalized_multiplicity,
  total_of,
  input_fractions,
  SameTotals,
  CountsTurn,
  IsHabockH,
  OnlyHabockH,
  HabockIdentity,
  HabockSum,
  TotalsDecide,
  SharedIdentity,
}
use Rattle.hyperplonk_spec.proofs.Embeds.{embeds_one, embeds_sum, embeds_num}

-- two maps that agree
each_same : {A B : Type 0} (f g : A → B) → ((x : A) → f x ≡ g x) → (xs : List A) → map f xs ≡ map g xs
each_same f g h [] = refl
each_same f g h (x ∷ xs) = ap₂ (λ (u : _) (v : List _). u ∷ v) (h x) (each_same f g h xs)

few : (t : ℕ → Bool) (n : ℕ) → up_to ◌+◌ 0 (λ r. cond (t r) 1 0) n ≤ n
unfolding up_to
few t zero = omega arith
few t (suc n) = go (t n) (few t n)
  where
    go : (b : Bool) → up_to ◌+◌ 0 (λ r. cond (t r) 1 0) n ≤ n → up_to ◌+◌ 0 (λ r. cond (t r) 1 0) n + cond b 1 0 ≤ suc n
    go true h = omega arith
    go false h = omega arith

module _ (𝓕 : Field) where
  open 𝓕 use {F, zero as nil, one, add, mul, neg, inv}

  same_is : (a b : F) → same 𝓕 a b ≡ true → a ≡ b
  unfolding decide
  same_is a b e = go (𝓕.decide a b) e
    where
      go : (d : Dec (a ≡ b)) → decide d ≡ true → a ≡ b
      go (yes p) e = p
      go (no p) e = false_true e

  is_same : (a b : F) → a ≡ b → same 𝓕 a b ≡ true
  unfolding decide
  is_same a b e = go (𝓕.decide a b)
    where
      go : (d : Dec (a ≡ b)) → decide d ≡ true
      go (yes p) = refl
      go (no p) = absurd (p e)

  -- ---- h
  module _ (γ : F) (inputs : List (ℕ → F)) (table m : ℕ → F) where
    fractions : (b : ℕ) → group_h_at 𝓕 γ inputs table m b ≡ paper_h 𝓕 γ inputs table m b
    unfolding group_h_at paper_h
    fractions b =
        ap (λ (xs : List F). add (sum 𝓕 xs) (neg (mul (m b) (inv (add γ (table b))))))
        (each_same (λ (input : ℕ → F). inv (add γ (input b))) (λ (input : ℕ → F). mul one (inv (add γ (input b))))
        (λ input. sym (one_mul 𝓕 (inv (add γ (input b))))) inputs)

    nonzero : (b : ℕ) → NoneZeroAt 𝓕 γ inputs table m b → All (λ x. x ≢ nil) (map (λ input. add γ (input b)) inputs)
    nonzero b p =
        all_mapped (λ (input : ℕ → F). add γ (input b) ≢ nil) (λ x. x ≢ nil) (λ (input : ℕ → F). add γ (input b)) (λ input n. n) inputs p.0

    pub is_habock_h : IsHabockH 𝓕 γ inputs table m
    is_habock_h =
        record { is_fractions = fractions; holds = λ b p. group_h_holds 𝓕 γ inputs table m b (nonzero b p) p.1 }

    pub only_habock_h : OnlyHabockH 𝓕 γ inputs table m
    only_habock_h x b p e = group_h_only 𝓕 γ inputs table m b (nonzero b p) p.1 x e ∙ fractions b

  module _ (el : ℕ → F) (rows : ℕ) (inputs : List (ℕ → F)) (table : ℕ → F) where
    pub counts_turn : CountsTurn 𝓕 el rows inputs table
    counts_turn =
        (group_turns 𝓕 rows inputs table, λ t. turns_covered 𝓕 rows inputs table (group_multiplicity 𝓕 rows inputs table) t)

    pub habock_identity : (γ : F) → HabockIdentity 𝓕 el rows inputs table γ
    habock_identity γ h e =
        ap (sum 𝓕)
        (each_same (λ (input : ℕ → F). sum_rows 𝓕 rows (λ b. mul one (inv (add γ (input b)))))
        (λ (input : ℕ → F). sum_rows 𝓕 rows (λ b. inv (add γ (input b))))
        (λ input. up_to_cong add nil (λ b. mul one (inv (add γ (input b)))) (λ b. inv (add γ (input b))) rows
        (λ b l. one_mul 𝓕 (inv (add γ (input b))))) inputs)
        ∙ group_identity 𝓕 rows inputs table γ e
        ∙ up_to_cong add nil (λ r. mul (num 𝓕 (group_multiplicity 𝓕 rows inputs table r)) (inv (add γ (table r))))
        (λ r. mul (el (group_multiplicity 𝓕 rows inputs table r)) (inv (add γ (table r)))) rows
        (λ r l. ap (λ (x : F). mul x (inv (add γ (table r)))) (sym (embeds_num 𝓕 el h (group_multiplicity 𝓕 rows inputs table r))))

    pub habock_sum : (γ : F) → HabockSum 𝓕 el rows inputs table γ
    unfolding group_h_at
    habock_sum γ h e =
        up_to_cong add nil (group_h_at 𝓕 γ inputs table (λ r. el (group_multiplicity 𝓕 rows inputs table r)))
        (group_h_at 𝓕 γ inputs table (λ r. num 𝓕 (group_multiplicity 𝓕 rows inputs table r))) rows
        (λ b l.
        ap (λ (m : F). add (sum 𝓕 (map (λ input. inv (add γ (input b))) inputs)) (neg (mul m (inv (add γ (table b))))))
        (embeds_num 𝓕 el h (group_multiplicity 𝓕 rows inputs table b)))
        ∙ group_h_sum 𝓕 rows inputs table γ e

    -- ---- totals
    -- is row q the last of its value?
    is_last : ℕ → Bool
    is_last q = is_at q (last_row 𝓕.decide table rows (table q))

    module _ (m : ℕ → F) (f : F → F) where
      -- row r's term, at the last row of its value
      term : ℕ → ℕ → F
      term r q = cond (is_last q) (cond (same 𝓕 (table r) (table q)) (mul (m r) (f (table q))) nil) nil

      spread : (r : ℕ) → r < rows → mul (m r) (f (table r)) ≡ up_to add nil (term r) rows
      unfolding term is_last
      spread r l = go (last_row 𝓕.decide table rows (table r)) refl (last_is 𝓕.decide table (table r) rows)
        where
          other : (q₀ q : ℕ) → last_row 𝓕.decide table rows (table r) ≡ some q₀ → q ≢ q₀ → term r q ≡ nil
          other q₀ q e n =
              by_test (same 𝓕 (table r) (table q))
              (λ w.
              ap (λ (t : Bool). cond t (cond (same 𝓕 (table r) (table q)) (mul (m r) (f (table q))) nil) nil)
              (ap (λ (v : F). is_at q (last_row 𝓕.decide table rows v)) (sym (same_is (table r) (table q) w)) ∙ ap (is_at q) e ∙ ne_eqb q₀ q (λ x. n (sym x))))
              (λ w. ap (λ (t : Bool). cond (is_last q) (cond t (mul (m r) (f (table q))) nil) nil) w ∙ both (is_last q))
            where
              both : (t : Bool) → cond t nil nil ≡ nil
              both true = refl
              both false = refl

          go : (o : Option ℕ) → last_row 𝓕.decide table rows (table r) ≡ o → IsLast table rows (table r) o
              → mul (m r) (f (table r)) ≡ up_to add nil (term r) rows
          go none e k = absurd (k r l refl)
          go (some q) e k =
              sym
              (up_to_only add nil (adds 𝓕) (term r) rows q k.0 (λ s z n. other q s e n)
              ∙ ap (λ (t : Bool). cond t (cond (same 𝓕 (table r) (table q)) (mul (m r) (f (table q))) nil) nil)
              (ap (λ (v : F). is_at q (last_row 𝓕.decide table rows v)) k.1 ∙ ap (is_at q) e ∙ eq-eqb q q refl)
              ∙ ap (λ (t : Bool). cond t (mul (m r) (f (table q))) nil) (is_same (table r) (table q) (sym k.1))
              ∙ ap (λ (v : F). mul (m r) (f v)) k.1)

      -- all terms of a value at its last row: the value's total
      gathered : (q : ℕ)
          → up_to add nil (λ r. term r q) rows ≡ cond (is_last q) (mul (total_of 𝓕 el rows inputs table m (table q)) (f (table q))) nil
      unfolding term
      gathered q = go (is_last q)
        where
          at : (t : Bool) (x : F) → cond t (mul x (f (table q))) nil ≡ mul (cond t x nil) (f (table q))
          at true x = refl
          at false x = sym (zero_mul 𝓕 (f (table q)))

          go : (t : Bool)
              → up_to add nil (λ r. cond t (cond (same 𝓕 (table r) (table q)) (mul (m r) (f (table q))) nil) nil) rows
              ≡ cond t (mul (total_of 𝓕 el rows inputs table m (table q)) (f (table q))) nil
          go true =
              up_to_cong add nil (λ r. cond (same 𝓕 (table r) (table q)) (mul (m r) (f (table q))) nil)
              (λ r. mul (cond (same 𝓕 (table r) (table q)) (m r) nil) (f (table q))) rows
              (λ r l. at (same 𝓕 (table r) (table q)) (m r))
              ∙ sym (sum_mul 𝓕 (λ r. cond (same 𝓕 (table r) (table q)) (m r) nil) (f (table q)) rows)
          go false = up_to_unit add nil (adds 𝓕) rows

      by_totals :
          up_to add nil (λ r. mul (m r) (f (table r))) rows
          ≡ up_to add nil (λ q. cond (is_last q) (mul (total_of 𝓕 el rows inputs table m (table q)) (f (table q))) nil) rows
      by_totals =
          up_to_cong add nil (λ r. mul (m r) (f (table r))) (λ r. up_to add nil (term r) rows) rows spread
          ∙ up_to_swap add nil (adds 𝓕) term rows rows
          ∙ up_to_cong add nil (λ q. up_to add nil (λ r. term r q) rows)
          (λ q. cond (is_last q) (mul (total_of 𝓕 el rows inputs table m (table q)) (f (table q))) nil) rows
          (λ q l. gathered q)

    pub totals_decide : TotalsDecide 𝓕 el rows inputs table
    totals_decide m n e f =
        by_totals m f
        ∙ up_to_cong add nil (λ q. cond (is_last q) (mul (total_of 𝓕 el rows inputs table m (table q)) (f (table q))) nil)
        (λ q. cond (is_last q) (mul (total_of 𝓕 el rows inputs table n (table q)) (f (table q))) nil) rows
        (λ q l. ap (λ (x : F). cond (is_last q) (mul x (f (table q))) nil) (e (table q)))
        ∙ sym (by_totals n f)

  module _ (el : ℕ → F) (h : Embeds 𝓕 el) where
    module _ (rows : ℕ) (inputs : List (ℕ → F)) (table : ℕ → F) where
      module _ (e : group_covered 𝓕 rows inputs table ≡ true) (char : (n : ℕ) → 0 < n → n < suc rows → el n ≢ nil) (v : F) where
        t : ℕ → Bool
        t r = same 𝓕 (table r) v

        counted : sum_counts rows (λ r. cond (t r) (group_multiplicity 𝓕 rows inputs table r) 0) ≡ occurrences 𝓕 el rows inputs table inputs v
        unfolding t occurrences Turns
        counted =
            (counts_turn el rows inputs table).0 e v
            ∙ ap total
            (each_same (λ (input : ℕ → F). sum_counts rows (λ r. cond (same 𝓕 (input r) v) 1 0))
            (λ (input : ℕ → F). count_of (λ b. same 𝓕 (input b) v) (range rows))
            (λ input. sym (count_up_to (λ b. same 𝓕 (input b) v) rows)) inputs)

        here : ℕ
        here = up_to ◌+◌ 0 (λ r. cond (t r) 1 0) rows

        here_is : occurrences 𝓕 el rows inputs table (table ∷ []) v ≡ here
        unfolding t occurrences here total
        here_is = add-zero (count_of (λ b. same 𝓕 (table b) v) (range rows)) ∙ count_up_to (λ b. same 𝓕 (table b) v) rows

        left : total_of 𝓕 el rows inputs table (λ r. el (group_multiplicity 𝓕 rows inputs table r)) v ≡ el (occurrences 𝓕 el rows inputs table inputs v)
        unfolding t
        left =
            up_to_cong add nil (λ r. cond (t r) (el (group_multiplicity 𝓕 rows inputs table r)) nil) (λ r. el (cond (t r) (group_multiplicity 𝓕 rows inputs table r) 0)) rows
            (λ r l. go (t r) (group_multiplicity 𝓕 rows inputs table r))
            ∙ embeds_sum 𝓕 el h (λ r. cond (t r) (group_multiplicity 𝓕 rows inputs table r) 0) rows
            ∙ ap el counted
          where
            go : (b : Bool) (n : ℕ) → cond b (el n) nil ≡ el (cond b n 0)
            go true n = refl
            go false n = sym h.el_zero

        K : F
        K = mul (el (occurrences 𝓕 el rows inputs table inputs v)) (inv (el (occurrences 𝓕 el rows inputs table (table ∷ []) v)))

        right : total_of 𝓕 el rows inputs table (normalized_multiplicity 𝓕 el rows inputs table) v ≡ mul (el here) K
        unfolding t here K normalized_multiplicity
        right =
            up_to_cong add nil (λ r. cond (t r) (normalized_multiplicity 𝓕 el rows inputs table r) nil) (λ r. mul (el (cond (t r) 1 0)) K) rows (λ r l. at r)
            ∙ sym (sum_mul 𝓕 (λ r. el (cond (t r) 1 0)) K rows)
            ∙ ap (λ (x : F). mul x K) (embeds_sum 𝓕 el h (λ r. cond (t r) 1 0) rows)
          where
            at : (r : ℕ) → cond (t r) (normalized_multiplicity 𝓕 el rows inputs table r) nil ≡ mul (el (cond (t r) 1 0)) K
            at r =
                by_test (t r)
                (λ w.
                ap (λ (b : Bool). cond b (normalized_multiplicity 𝓕 el rows inputs table r) nil) w
                ∙ ap (λ (x : F). mul (el (occurrences 𝓕 el rows inputs table inputs x)) (inv (el (occurrences 𝓕 el rows inputs table (table ∷ []) x)))) (same_is (table r) v w)
                ∙ sym (ap (λ (b : Bool). mul (el (cond b 1 0)) K) w ∙ ap (λ (x : F). mul x K) (embeds_one 𝓕 el h) ∙ one_mul 𝓕 K))
                (λ w.
                ap (λ (b : Bool). cond b (normalized_multiplicity 𝓕 el rows inputs table r) nil) w
                ∙ sym (ap (λ (b : Bool). mul (el (cond b 1 0)) K) w ∙ ap (λ (x : F). mul x K) h.el_zero ∙ zero_mul 𝓕 K))

        -- no table row is v, so no input is
        none_here : here ≡ 0 → occurrences 𝓕 el rows inputs table inputs v ≡ 0
        unfolding here
        none_here z =
            sym counted
            ∙ up_to_units ◌+◌ 0 nats (λ r. cond (t r) (group_multiplicity 𝓕 rows inputs table r) 0) rows
            (λ r l. go (t r) (group_multiplicity 𝓕 rows inputs table r) (le_total (λ r. cond (t r) 1 0) rows r l))
          where
            go : (b : Bool) (n : ℕ) → cond b 1 0 ≤ up_to ◌+◌ 0 (λ r. cond (t r) 1 0) rows → cond b n 0 ≡ 0
            go true n w = absurd (bad w)
              where
                bad : 1 ≤ up_to ◌+◌ 0 (λ r. cond (t r) 1 0) rows → ⊥
                bad w = omega arith
            go false n w = refl

        close : el (occurrences 𝓕 el rows inputs table inputs v) ≡ mul (el here) K
        unfolding here K
        close = go (ℕ_discrete here 0)
          where
            go : Dec (here ≡ 0) → el (occurrences 𝓕 el rows inputs table inputs v) ≡ mul (el here) K
            go (yes z) =
                ap el (none_here z) ∙ h.el_zero ∙ sym (zero_mul 𝓕 K) ∙ ap (λ (x : F). mul x K) (sym (ap el z ∙ h.el_zero))
            go (no n) =
                sym
                (ap (λ (x : ℕ). mul (el here) (mul (el (occurrences 𝓕 el rows inputs table inputs v)) (inv (el x)))) here_is
                ∙ mul_left_comm 𝓕 (el here) (el (occurrences 𝓕 el rows inputs table inputs v)) (inv (el here))
                ∙ ap (mul (el (occurrences 𝓕 el rows inputs table inputs v))) (𝓕.mul_inv (el here) (char here (omega arith) (let q = few t rows in omega arith)))
                ∙ mul_one 𝓕 (el (occurrences 𝓕 el rows inputs table inputs v)))

  pub same_totals : (el : ℕ → F) (rows : ℕ) (inputs : List (ℕ → F)) (table : ℕ → F) → SameTotals 𝓕 el rows inputs table
  same_totals el rows inputs table h e char v = left el h rows inputs table e char v ∙ close el h rows inputs table e char v ∙ sym (right el h rows inputs table e char v)

  -- ---- the paper's identity for its own multiplicities
  module _ (el : ℕ → F) (rows : ℕ) (inputs : List (ℕ → F)) (table : ℕ → F) (γ : F) where
    pub shared_identity : SharedIdentity 𝓕 el rows inputs table γ
    unfolding paper_h
    shared_identity h e char =
        record {
          identity = identity;
          sum =
              up_to_op add nil (adds 𝓕) ones (λ b. neg (parts b)) rows
              ∙ ap₂ add (list_rows 𝓕 rows (λ input b. mul one (inv (add γ (input b)))) inputs ∙ identity) (sum_neg 𝓕 parts rows)
              ∙ 𝓕.add_neg (up_to add nil parts rows);
        }
      where
        ones : ℕ → F
        ones b = sum 𝓕 (map (λ input. mul one (inv (add γ (input b)))) inputs)

        parts : ℕ → F
        parts r = mul (normalized_multiplicity 𝓕 el rows inputs table r) (inv (add γ (table r)))

        identity : input_fractions 𝓕 el rows inputs table γ ≡ up_to add nil parts rows
        identity =
            habock_identity el rows inputs table γ h e
            ∙ totals_decide el rows inputs table (λ r. el (group_multiplicity 𝓕 rows inputs table r)) (normalized_multiplicity 𝓕 el rows inputs table)
            (same_totals el rows inputs table h e char)
            (λ v. inv (add γ v))
