-- A good log is not turned away: ReadingsCovered, GoodLog and ZeroWhen of Insurer.
use mathlib.Core.Path.{◌≡◌, refl, sym, ap, ap₂, ◌∙◌}
use mathlib.Core.Logic.{◌≢◌, ◌⊎◌, ◌↔◌, inl, inr, ⊎_elim}
use mathlib.Core.Bool.{true}
use mathlib.Core.List.{List, [], ◌∷◌, map}
use Prim.Native.Nat.{ℕ}
use native.Mathlib.Omega.{arith}
use lib.ListN.{get_or}
use Rattle.field.specs.Algebra.{Field}
use Rattle.field.specs.Field.{𝔾}
use Rattle.lists.specs.Lists.{All}
use Rattle.lists.proofs.Tests.{true_all, false_true}
use Rattle.lists.proofs.All.{all_from, all_get, all_split, all_both, all_mapped}
use Rattle.identities.specs.Counts.{AllStand}
use Rattle.expression.specs.Value.{value_at}
use Rattle.backend.specs.Circuit.{Pair, rows_of, group_sizes, groups_of}
use Rattle.backend.specs.Constraints.{inputs_of, tables_of}
use Rattle.backend.specs.Questions.{q18}
use Rattle.backend.proofs.Passed.{yes_all}
use Rattle.prover.specs.Lookup.{covered, group_covered}
use Rattle.prover.specs.Log.{Log}
use Rattle.prover.specs.Columns.{power_sum, instance_polys, preprocess_polys, witness_polys, given_polys, user_environment, compressed_at, input_at, table_at, group_inputs, group_table, all_covered}
use Rattle.prover.proofs.Multiplicity.{stand_covered}
use Rattle.hyperplonk_spec.specs.Build.{Output, log_of, check_build, build_of, lent_build}
use Rattle.hyperplonk_spec.specs.declared.Built.{Built}
use Rattle.hyperplonk_spec.specs.Meaning.{HasCounts, NoneZero, SomeZero, Premises}
use Rattle.hyperplonk_spec.specs.Demand.{Demand3}
use Rattle.hyperplonk_spec.specs.Insurer.{no_pair, drawn, ReadingsStand, ReadingsCovered, Passes, GoodLog, ZeroWhen}
use Rattle.hyperplonk_spec.proofs.Building.{Given, given, zero_yes, zero_number}
use Rattle.completeness.proofs.Asked.{lending}
use Rattle.completeness.proofs.Groups.{tables_agree}
use Rattle.completeness.proofs.Counts.{covered_when}
use Rattle.completeness.proofs.Denominators.{none_zero_when}
use Rattle.completeness.proofs.DemandThree.{demand_three}

module _ (𝓕 : Field) where
  open 𝓕 use {F}

  -- two rows that agree in each pair are compressed to one value
  pub compressed_alike : (g : Log 𝓕) (l : List Pair) (b r : ℕ)
      → All (λ (p : Pair). value_at 𝓕 (user_environment 𝓕 g) p.input b ≡ value_at 𝓕 (user_environment 𝓕 g) p.table r) l
      → table_at 𝓕 g l r ≡ input_at 𝓕 g l b
  unfolding input_at table_at compressed_at
  compressed_alike g l b r h = ap (power_sum 𝓕 g.β) (sym (go l h))
    where
      go : (l : List Pair)
          → All (λ (p : Pair). value_at 𝓕 (user_environment 𝓕 g) p.input b ≡ value_at 𝓕 (user_environment 𝓕 g) p.table r) l
          → map (λ e. value_at 𝓕 (user_environment 𝓕 g) e b) (inputs_of l) ≡ map (λ e. value_at 𝓕 (user_environment 𝓕 g) e r) (tables_of l)
      go [] h = refl
      go (p ∷ ps) h = ap₂ ◌∷◌ h.0 (go ps h.1)

  module _ (g : Log 𝓕) where
    abbrev rows : ℕ
    rows = rows_of g.circuit

    abbrev groups : List (List (List Pair))
    groups = groups_of g.circuit

    -- each compressed input stands in its lookup's compressed table
    abbrev StandsIn : List Pair → Type 0
    StandsIn l = AllStand rows rows (input_at 𝓕 g l) (table_at 𝓕 g l)

    stand_each : ReadingsStand 𝓕 g → All StandsIn g.circuit.lookups
    stand_each s =
        all_from StandsIn g.circuit.lookups []
        (λ j m b n.
        let w = s j m b n in
        (w.0, w.1, compressed_alike g (get_or g.circuit.lookups j []) b w.0 (all_from _ (get_or g.circuit.lookups j []) no_pair w.2)))

    stand_groups : ReadingsStand 𝓕 g → All (All StandsIn) groups
    unfolding groups_of
    stand_groups s = all_split StandsIn (group_sizes g.circuit.groups) g.circuit.lookups (stand_each s)

    -- so in its group's
    group_covered_is : (group : List (List Pair)) → All StandsIn group → All (λ l. (b : ℕ) → table_at 𝓕 g l b ≡ group_table 𝓕 g group b) group
        → group_covered 𝓕 rows (group_inputs 𝓕 g group) (group_table 𝓕 g group) ≡ true
    unfolding group_covered group_inputs
    group_covered_is group a t =
        true_all (λ input. covered 𝓕 rows input (group_table 𝓕 g group)) (map (input_at 𝓕 g) group)
        (all_mapped (λ l. StandsIn l × ((b : ℕ) → table_at 𝓕 g l b ≡ group_table 𝓕 g group b)) (λ input. covered 𝓕 rows input (group_table 𝓕 g group) ≡ true) (input_at 𝓕 g)
        (λ l h.
        stand_covered 𝓕 rows (input_at 𝓕 g l) (group_table 𝓕 g group)
        (λ b n. let w = h.0 b n in (w.0, w.1, sym (h.1 w.0) ∙ w.2)))
        group
        (all_both StandsIn (λ l. (b : ℕ) → table_at 𝓕 g l b ≡ group_table 𝓕 g group b) group a t))

    pub stand_all : q18 g.circuit ≡ true → ReadingsStand 𝓕 g → all_covered 𝓕 g ≡ true
    unfolding all_covered
    stand_all e s =
        true_all (λ group. group_covered 𝓕 rows (group_inputs 𝓕 g group) (group_table 𝓕 g group)) groups
        (all_from (λ group. group_covered 𝓕 rows (group_inputs 𝓕 g group) (group_table 𝓕 g group) ≡ true) groups []
        (λ j m.
        group_covered_is (get_or groups j []) (all_get (All StandsIn) groups (stand_groups s) j [] m)
        (all_from (λ l. (b : ℕ) → table_at 𝓕 g l b ≡ group_table 𝓕 g (get_or groups j []) b) (get_or groups j []) [] (tables_agree 𝓕 g e j m))))

  -- β and γ are not in it
  stand_drawn : (g : Log 𝓕) → ReadingsStand 𝓕 g → (β γ : F) → ReadingsStand 𝓕 (drawn 𝓕 g β γ)
  unfolding user_environment given_polys instance_polys preprocess_polys witness_polys
  stand_drawn g s β γ = s

pub readings_covered : ReadingsCovered
readings_covered 𝓕 g e s β γ = stand_all 𝓕 (drawn 𝓕 g β γ) e (stand_drawn 𝓕 g s β γ)

-- ---- the building call
module _ (ws instances witness challenges columns nodes : List ℕ) where
  abbrev log : Log 𝔾
  log = log_of ws instances witness challenges

  abbrev out : Output
  out = build_of (lent_build ws instances witness challenges columns nodes)

  pub zero_when_at : (out.answer.number ≡ 0)
      ↔ ((check_build (lent_build ws instances witness challenges columns nodes) ≡ 0) × HasCounts 𝔾 log × NoneZero 𝔾 log)
  zero_when_at = (
    λ z.
        let y = zero_yes ws instances witness challenges columns nodes z in
        (y.asked_yes, (covered_when 𝔾 log).0 y.covered_yes, (none_zero_when 𝔾 log).0 y.none_zero),
    λ p. zero_number ws instances witness challenges columns nodes p.0 ((covered_when 𝔾 log).1 p.1) ((none_zero_when 𝔾 log).1 p.2),
  )

  module _ (a : check_build (lent_build ws instances witness challenges columns nodes) ≡ 0) (s : ReadingsStand 𝔾 log) where
    -- 18 is among the questions
    covered_all : all_covered 𝔾 log ≡ true
    unfolding log_of
    covered_all = stand_all 𝔾 log (yes_all ws (lending ws instances witness challenges columns nodes a).circuit_yes).eighteen s

    zero_or_17 : (out.answer.number ≡ 0) ⊎ (out.answer.number ≡ 17)
    zero_or_17 = go (given ws instances witness challenges columns nodes a)
      where
        go : Given ws instances witness challenges columns nodes → (out.answer.number ≡ 0) ⊎ (out.answer.number ≡ 17)
        go (Given.uncovered f q) = false_true (sym f ∙ covered_all)
        go (Given.divided f h q) = inr q
        go (Given.built f h q) = inl q

    not_15 : out.answer.number ≢ 15
    not_15 e = ⊎_elim (λ q. let r = sym q ∙ e in omega arith) (λ q. let r = sym q ∙ e in omega arith) zero_or_17

    d : Demand3 ws instances witness challenges columns nodes out
    d = demand_three ws instances witness challenges columns nodes a

    seventeen_when : (out.answer.number ≡ 17) ↔ SomeZero 𝔾 log
    seventeen_when = (λ e. (d.seventeen.0 e).1, λ z. d.seventeen.1 ((covered_when 𝔾 log).0 (covered_all), z))

    pub passes_by : Premises 𝔾 log → out.answer.number ≢ 17 → Passes ws instances witness challenges columns nodes
    passes_by p n =
        let t = d.otherwise p not_15 n in
        record { number = ap (λ (b : Built). b.number) t.written.answer; row_sum = t.row_sum }

    pub good_at_is : ((out.answer.number ≡ 0) ⊎ (out.answer.number ≡ 17)) × ((out.answer.number ≡ 17) ↔ SomeZero 𝔾 log)
        × (Premises 𝔾 log → out.answer.number ≢ 17 → Passes ws instances witness challenges columns nodes)
    good_at_is = (zero_or_17, seventeen_when, passes_by)

pub good_log : GoodLog
good_log ws instances witness challenges columns nodes a s = good_at_is ws instances witness challenges columns nodes a s

pub zero_when : ZeroWhen
zero_when ws instances witness challenges columns nodes = zero_when_at ws instances witness challenges columns nodes
