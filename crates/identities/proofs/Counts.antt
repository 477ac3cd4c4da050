-- The counts turn the table into the inputs, and exist exactly if each input stands in the table.
use mathlib.Core.Path.{◌≡◌, refl, sym, ap, ◌∙◌}
use mathlib.Core.Logic.{◌≢◌, ◌↔◌, ite, if_pos, if_neg}
use mathlib.Core.Bool.{Bool, true, false}
use mathlib.Core.Option.{Option, some, none, none-ne-some, some-injective}
use Prim.Native.Nat.{ℕ, zero, suc, ◌+◌, ◌<◌}
use native.Mathlib.Nat.{not-suc-le-zero}
use native.Mathlib.Decide.{ℕ_discrete}
use native.Mathlib.Omega.{arith}
use Rattle.bh.specs.Sums.{up_to}
use Rattle.lists.proofs.Tests.{false_true}
use Rattle.identities.specs.Counts.{
  last_row,
  hit,
  and_found,
  given,
  multiplicities,
  all_found,
  counted,
  Stands,
  how_many,
  counts_of,
  TurnsInto,
  AllStand,
  IsLast,
}
use Rattle.identities.specs.Totals.{Monoid, times}
use Rattle.identities.proofs.Totals.{
  up_to_cong,
  up_to_swap,
  up_to_only,
  up_to_units,
  nats,
  times_one,
  times_total,
  times_single,
  times_none,
  le_total,
}

-- ---- what the search finds
module _ {A : Type 0} (dec : Discrete A) (t : ℕ → A) (v : A) where
  last_on : (n : ℕ) (o : Option ℕ) → t n ≢ v → IsLast t n v o → IsLast t (suc n) v o
  last_on n none h k = λ r l. go r l (ℕ_discrete r n)
    where
      go : (r : ℕ) → r < suc n → Dec (r ≡ n) → t r ≢ v
      go r l (yes e) w = h (ap t (sym e) ∙ w)
      go r l (no e) w = k r (omega arith) w
  last_on n (some q) h k = (let a = k.0 in omega arith, k.1, λ r m l. go r m l (ℕ_discrete r n))
    where
      go : (r : ℕ) → q < r → r < suc n → Dec (r ≡ n) → t r ≢ v
      go r m l (yes e) w = h (ap t (sym e) ∙ w)
      go r m l (no e) w = k.2 r m (omega arith) w

  pub last_is : (n : ℕ) → IsLast t n v (last_row dec t n v)
  unfolding last_row
  last_is zero = λ r l. absurd (not-suc-le-zero l)
  last_is (suc n) = go (dec (t n) v) (last_is n)
    where
      go : (d : Dec (t n ≡ v)) → IsLast t n v (last_row dec t n v) → IsLast t (suc n) v (ite d (some n) (last_row dec t n v))
      go (yes e) k = (omega arith, e, λ r m l. absurd (lt_gap r m l))
        where
          lt_gap : (r : ℕ) → n < r → r < suc n → ⊥
          lt_gap r m l = omega arith
      go (no h) k = last_on n (last_row dec t n v) h k

-- ---- the theorems
module _ {A : Type 0} (dec : Discrete A) (ni nt : ℕ) (input table : ℕ → A) where
  -- an input that stands in the table is found
  found : (v : A) → Stands nt table v → (q : ℕ) × (last_row dec table nt v ≡ some q) × (q < nt) × (table q ≡ v)
  found v s = go (last_row dec table nt v) refl (last_is dec table v nt)
    where
      go : (o : Option ℕ) → last_row dec table nt v ≡ o → IsLast table nt v o → (q : ℕ) × (last_row dec table nt v ≡ some q) × (q < nt) × (table q ≡ v)
      go none e k = absurd (k s.0 s.1 s.2)
      go (some q) e k = (q, e, k.0, k.1)

  -- (d) in any commutative monoid
  module _ {C : Type 0} (op : C → C → C) (e : C) (𝓜 : Monoid op e) (g : A → C) where
    hit_other : (q r : ℕ) (x : C) → r ≢ q → times op e (hit (some q) r) x ≡ e
    unfolding hit
    hit_other q r x n = ap (λ (m : ℕ). times op e m x) (if_neg (ℕ_discrete q r) (λ w. n (sym w)) 1 0) ∙ times_none op e 𝓜 x

    hit_self : (q : ℕ) (x : C) → times op e (hit (some q) q) x ≡ x
    unfolding hit
    hit_self q x = ap (λ (m : ℕ). times op e m x) (if_pos (ℕ_discrete q q) refl 1 0) ∙ times_single op e 𝓜 x

    -- one input's share
    share : (v : A) → Stands nt table v → up_to op e (λ r. times op e (hit (last_row dec table nt v) r) (g (table r))) nt ≡ g v
    share v s =
        let f = found v s in
        ap (λ (o : Option ℕ). up_to op e (λ r. times op e (hit o r) (g (table r))) nt) f.1
        ∙ up_to_only op e 𝓜 (λ r. times op e (hit (some f.0) r) (g (table r))) nt f.0 f.2 (λ r m n. hit_other f.0 r (g (table r)) n)
        ∙ hit_self f.0 (g (table f.0)) ∙ ap g f.3

    pub count_total : AllStand ni nt input table
        → up_to op e (λ b. g (input b)) ni ≡ up_to op e (λ r. times op e (multiplicities dec ni nt input table r) (g (table r))) nt
    unfolding multiplicities
    count_total h =
        sym
        (up_to_cong op e (λ r. times op e (multiplicities dec ni nt input table r) (g (table r)))
        (λ r. up_to op e (λ b. times op e (hit (last_row dec table nt (input b)) r) (g (table r))) ni) nt
        (λ r m. times_total op e 𝓜 (λ b. hit (last_row dec table nt (input b)) r) (g (table r)) ni)
        ∙ up_to_swap op e 𝓜 (λ r b. times op e (hit (last_row dec table nt (input b)) r) (g (table r))) nt ni
        ∙ up_to_cong op e (λ b. up_to op e (λ r. times op e (hit (last_row dec table nt (input b)) r) (g (table r))) nt) (λ b. g (input b)) ni
        (λ b m. share (input b) (h b m)))

  -- (c) the counts add up to the number of inputs
  pub count_all : AllStand ni nt input table → up_to ◌+◌ 0 (multiplicities dec ni nt input table) nt ≡ ni
  count_all h =
      up_to_cong ◌+◌ 0 (multiplicities dec ni nt input table) (λ r. times ◌+◌ 0 (multiplicities dec ni nt input table r) 1) nt (λ r m. sym (times_one (multiplicities dec ni nt input table r)))
      ∙ sym (count_total ◌+◌ 0 nats (λ v. 1) h) ∙ times_one ni

  pick_times : (c : ℕ) (v w : A) (d : Dec (w ≡ v)) → times ◌+◌ 0 c (ite d 1 0) ≡ ite d c 0
  pick_times c v w (yes p) = times_one c
  pick_times c v w (no p) = up_to_units ◌+◌ 0 nats (λ i. 0) c (λ i l. refl)

  -- (b) for every value, the counts at the rows equal to it add up to the number of inputs equal to it
  pub count_turns : AllStand ni nt input table → TurnsInto dec ni nt input table (multiplicities dec ni nt input table)
  count_turns h v =
      up_to_cong ◌+◌ 0 (λ r. ite (dec (table r) v) (multiplicities dec ni nt input table r) 0)
      (λ r. times ◌+◌ 0 (multiplicities dec ni nt input table r) (ite (dec (table r) v) 1 0)) nt
      (λ r m. sym (pick_times (multiplicities dec ni nt input table r) v (table r) (dec (table r) v)))
      ∙ sym (count_total ◌+◌ 0 nats (λ x. ite (dec x v) 1 0) h)

  -- whatever turns the table into the inputs, every input stands in the table
  pub turns_stand : (c : ℕ → ℕ) → TurnsInto dec ni nt input table c → AllStand ni nt input table
  turns_stand c t b l = go (last_row dec table nt (input b)) (last_is dec table (input b) nt)
    where
      v : A
      v = input b

      one_here : 0 < how_many dec ni input v
      one_here =
          let q = le_total (λ b'. ite (dec (input b') v) 1 0) ni b l in
          let p : ◌≡◌ {A = ℕ} (ite (dec (input b) v) 1 0) 1 = if_pos (dec (input b) v) refl 1 0 in
          omega arith

      go : (o : Option ℕ) → IsLast table nt v o → Stands nt table v
      go none k =
          let z : counts_of dec nt table c v ≡ 0 =
          up_to_units ◌+◌ 0 nats (λ r. ite (dec (table r) v) (c r) 0) nt (λ r m. if_neg (dec (table r) v) (k r m) (c r) 0) in
          let u = t v in
          absurd (bad z u one_here)
        where
          bad : counts_of dec nt table c v ≡ 0 → counts_of dec nt table c v ≡ how_many dec ni input v → 0 < how_many dec ni input v → ⊥
          bad z u w = omega arith
      go (some q) k = (q, k.0, k.1)

  -- ---- the test
  test_all : (n : ℕ) → ((b : ℕ) → b < n → Stands nt table (input b)) → all_found dec nt input table n ≡ true
  unfolding all_found and_found
  test_all zero h = refl
  test_all (suc n) h =
      let f = found (input n) (h n (omega arith)) in
      ap (λ (o : Option ℕ). and_found o (all_found dec nt input table n)) f.1 ∙ test_all n (λ b l. h b (omega arith))

  test_stand : (n : ℕ) → all_found dec nt input table n ≡ true → (b : ℕ) → b < n → Stands nt table (input b)
  unfolding all_found and_found
  test_stand zero t b l = absurd (not-suc-le-zero l)
  test_stand (suc n) t b l = go (last_row dec table nt (input n)) (last_is dec table (input n) nt) t (test_stand n) (ℕ_discrete b n)
    where
      go : (o : Option ℕ) → IsLast table nt (input n) o → and_found o (all_found dec nt input table n) ≡ true
          → (all_found dec nt input table n ≡ true → (b : ℕ) → b < n → Stands nt table (input b)) → Dec (b ≡ n) → Stands nt table (input b)
      go none k t rec d = false_true t
      go (some q) k t rec (yes e) = (q, k.0, k.1 ∙ ap input (sym e))
      go (some q) k t rec (no e) = rec t b (omega arith)

  -- m exists if every input stands in the table
  pub stand_counted : AllStand ni nt input table → counted dec ni nt input table ≡ some (multiplicities dec ni nt input table)
  unfolding counted given
  stand_counted h = ap (λ (b : Bool). given b (multiplicities dec ni nt input table)) (test_all ni h)

  -- and only then
  pub counted_stand : (c : ℕ → ℕ) → counted dec ni nt input table ≡ some c → AllStand ni nt input table
  unfolding counted given
  counted_stand c e = go (all_found dec nt input table ni) refl e
    where
      go : (t : Bool) → all_found dec nt input table ni ≡ t → given t (multiplicities dec ni nt input table) ≡ some c → AllStand ni nt input table
      go true q w = test_stand ni q
      go false q w = absurd (none-ne-some c w)

  -- what it is
  pub counted_is : (c : ℕ → ℕ) → counted dec ni nt input table ≡ some c → c ≡ multiplicities dec ni nt input table
  counted_is c e = some-injective c (multiplicities dec ni nt input table) (sym e ∙ stand_counted (counted_stand c e))

  -- (a) m exists exactly if every input stands in the table
  pub exists_stand : ((c : ℕ → ℕ) × (counted dec ni nt input table ≡ some c)) ↔ AllStand ni nt input table
  exists_stand = (λ p. counted_stand p.0 p.1, λ h. (multiplicities dec ni nt input table, stand_counted h))

  -- exactly if some column of whole counts turns the table into the inputs
  pub exists_turns : ((c : ℕ → ℕ) × (counted dec ni nt input table ≡ some c)) ↔ ((c : ℕ → ℕ) × TurnsInto dec ni nt input table c)
  exists_turns = (
    λ p. (multiplicities dec ni nt input table, count_turns (counted_stand p.0 p.1)),
    λ p. (multiplicities dec ni nt input table, stand_counted (turns_stand p.0 p.1)),
  )

  -- there is none exactly if no column does
  pub none_turns : (counted dec ni nt input table ≡ none) ↔ (¬ ((c : ℕ → ℕ) × TurnsInto dec ni nt input table c))
  none_turns = (λ e p. none-ne-some (multiplicities dec ni nt input table) (sym e ∙ stand_counted (turns_stand p.0 p.1)), back)
    where
      back : ¬ ((c : ℕ → ℕ) × TurnsInto dec ni nt input table c) → counted dec ni nt input table ≡ none
      back h = go (counted dec ni nt input table) refl
        where
          go : (o : Option (ℕ → ℕ)) → counted dec ni nt input table ≡ o → counted dec ni nt input table ≡ none
          go none e = e
          go (some c) e = absurd (h (multiplicities dec ni nt input table, count_turns (counted_stand c e)))

-- ---- a map that keeps table rows and inputs apart keeps the counts
module _ {A B : Type 0} (dA : Discrete A) (dB : Discrete B) (f : A → B) where
  pub last_map : (t : ℕ → A) (n : ℕ) (v : A) → ((r : ℕ) → r < n → f (t r) ≡ f v → t r ≡ v)
      → last_row dB (λ r. f (t r)) n (f v) ≡ last_row dA t n v
  unfolding last_row
  last_map t zero v h = refl
  last_map t (suc n) v h = go (dB (f (t n)) (f v)) (dA (t n) v) (last_map t n v (λ r l. h r (omega arith)))
    where
      go : (p : Dec (f (t n) ≡ f v)) (q : Dec (t n ≡ v)) → last_row dB (λ r. f (t r)) n (f v) ≡ last_row dA t n v
          → ite p (some n) (last_row dB (λ r. f (t r)) n (f v)) ≡ ite q (some n) (last_row dA t n v)
      go (yes p) (yes q) e = refl
      go (yes p) (no q) e = absurd (q (h n (omega arith) p))
      go (no p) (yes q) e = absurd (p (ap f q))
      go (no p) (no q) e = e

  pub counts_map : (ni nt : ℕ) (i t : ℕ → A) → ((b r : ℕ) → b < ni → r < nt → f (t r) ≡ f (i b) → t r ≡ i b) → (r : ℕ)
      → multiplicities dB ni nt (λ b. f (i b)) (λ s. f (t s)) r ≡ multiplicities dA ni nt i t r
  unfolding multiplicities
  counts_map ni nt i t h r =
      up_to_cong ◌+◌ 0 (λ b. hit (last_row dB (λ s. f (t s)) nt (f (i b))) r) (λ b. hit (last_row dA t nt (i b)) r) ni
      (λ b l. ap (λ (o : Option ℕ). hit o r) (last_map t nt (i b) (λ s m. h b s l m)))
