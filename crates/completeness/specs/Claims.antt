-- All that is claimed of the definitions, in one place. Each is proved in proofs/, under the name it has here.
use Rattle.std.specs.Prelude.{◌≡◌, ◌↔◌, true, false, List, [], ◌∷◌, ◌++◌, ℕ, ◌*◌, ◌<◌, length, get_or, take, drop}
use Rattle.field.specs.Prime.{P}
use Rattle.field.specs.Algebra.{Field}
use Rattle.field.specs.Field.{𝔾}
use Rattle.lists.specs.Lists.{range, ceil_div}
use Rattle.expression.specs.Expr.{Expr}
use Rattle.expression.specs.Value.{Environment, value_at}
use Rattle.backend.specs.Circuit.{Circuit, circuit_of, rows_of, num_copied, num_poly, num_challenges}
use Rattle.backend.specs.Questions.{PassedIsWellFormed}
use Rattle.preprocessor.specs.Compose.{num_z, constraint_cut, z_cut, composed_words}
use Rattle.prover.specs.Log.{Log}
use Rattle.prover.specs.Columns.{all_covered, written_polys, user_environment, composed_environment}
use Rattle.prover.specs.Denominators.{zero_denominator}
use Rattle.hyperplonk_spec.specs.Build.{log_of, words_of, check_build, lent_build}
use Rattle.hyperplonk_spec.specs.RowSum.{row_sum_of, lent_sum}
use Rattle.hyperplonk_spec.specs.Meaning.{Each, Admitted, NoCounts, SomeZero, Conclusions, DemandThreeOf}
use Rattle.hyperplonk_spec.specs.Demand.{DemandThree}
use Rattle.hyperplonk_spec.specs.Composed.{
  ReadsBack,
  PartDegree,
  ComposedDegree,
  ComposeDegree,
  LookupZero,
  StartZero,
  PartZero,
  ComposeValue,
  Reads,
}
use Rattle.hyperplonk_spec.specs.Groups.{EighteenWhen, GroupsByNumber, TablesAgree, GroupOfOne}
use Rattle.hyperplonk_spec.specs.Papers.{
  PartsOfZ,
  SameTotals,
  CountsTurn,
  IsHabockH,
  OnlyHabockH,
  HabockIdentity,
  HabockSum,
  TotalsDecide,
  SharedIdentity,
  IsPlonkZ,
}
use Rattle.hyperplonk_spec.specs.Copies.{
  Permutes,
  Labels,
  LabelsDifferWhere,
  LabelsDifferAt𝔾,
  AreFactors,
  Keeps,
  Balances,
  WholeProduct,
  ClosesWhen,
  Closes,
  AnyZ,
  MustClose,
  IsPaperZ,
}
use Rattle.hyperplonk_spec.specs.Insurer.{ReadingsCovered, OddsOf, Odds, OddsLimit, GoodLog, FewTurnedAway, RowListedTwice, ZeroWhen}
use Rattle.hyperplonk_spec.specs.RunningProduct.{RunningProduct}
use Rattle.hyperplonk_spec.specs.Sizes.{sizes_of, Foretells, CircuitForest, VisitedValue, VisitsSame, VisitsWritten}
use Rattle.completeness.specs.Scope.{Scoped}

-- "Then 15 is given exactly when, for some lookup, no column of whole counts turns the compressed table into the compressed inputs": for
-- some group, into its inputs
abbrev pub RefusedWhen : Type 1
RefusedWhen = (𝓕 : Field) (g : Log 𝓕) → (all_covered 𝓕 g ≡ false) ↔ NoCounts 𝓕 g

-- "a denominator of document 01 is zero": there is a group, a lookup of it or its table, and a row, or a copied column and a row but 0
abbrev pub ZeroDenominatorWhen : Type 1
ZeroDenominatorWhen = (𝓕 : Field) (g : Log 𝓕) → (zero_denominator 𝓕 g ≡ true) ↔ SomeZero 𝓕 g

-- a user expression has one value over what the user gives and over all columns
abbrev pub UserValue : Type 1
UserValue =
    (𝓕 : Field) (g : Log 𝓕) → Admitted 𝓕 g → (α : 𝓕.F) (y : ℕ → 𝓕.F) (e : Expr) → Scoped (num_poly g.circuit) (num_challenges g.circuit) e
    → (b : ℕ) → value_at 𝓕 (composed_environment 𝓕 g α y) e b ≡ value_at 𝓕 (user_environment 𝓕 g) e b

-- "both cuts of the copied columns alike": then part j of the constraints' cut is the n/N (rounded up) columns from j times that on
abbrev pub PartsAlike : Type 0
PartsAlike =
    (c : Circuit) → constraint_cut c ≡ z_cut c → 0 < num_copied c → (j : ℕ)
    → get_or (constraint_cut c) j []
    ≡ take (ceil_div (num_copied c) (num_z c)) (drop (j * ceil_div (num_copied c) (num_z c)) (range (num_copied c)))

-- "and the row sum, given what that build wrote, answers so"
abbrev pub RowSumZero : Type 0
RowSumZero =
    (ws instances witness challenges columns nodes : List ℕ) → check_build (lent_build ws instances witness challenges columns nodes) ≡ 0
    → Conclusions 𝔾 (log_of ws instances witness challenges)
    → (α : ℕ) (y : List ℕ) → α < P → length y ≡ (circuit_of ws).k → Each 0 y (λ v. v < P)
    → row_sum_of (lent_sum ws witness (words_of (rows_of (circuit_of ws)) (written_polys 𝔾 (log_of ws instances witness challenges)))
    (composed_words (circuit_of ws))
    (challenges ++ (α ∷ []))
    y)
    ≡ record { number = 0; sum = 0 }

pub record Claims : Type 1 where
  -- demand 3, over any field and at 𝔾 with the words
  pub demand_three_of : DemandThreeOf
  pub demand_three : DemandThree
  pub refused_when : RefusedWhen
  pub zero_denominator_when : ZeroDenominatorWhen
  pub row_sum_zero : RowSumZero
  -- the insurer's first two questions: "Can a good log be turned away? Does a table row listed twice spoil a count?"
  pub readings_covered : ReadingsCovered
  pub good_log : GoodLog
  pub few_turned_away : FewTurnedAway
  pub odds_of : OddsOf
  pub odds : Odds
  pub odds_limit : OddsLimit
  pub row_listed_twice : RowListedTwice
  pub zero_when : ZeroWhen
  -- groups of lookups: when 18 is yes, which lookups a group has, that its tables are one, and that a group of one is as before
  pub eighteen_when : EighteenWhen
  pub groups_by_number : GroupsByNumber
  pub tables_agree : TablesAgree
  pub group_of_one : GroupOfOne
  -- what the composed constraints say, over any field and any columns, and what they read of a log
  pub reads_back : ReadsBack
  pub lookup_zero : (𝓕 : Field) (s : Environment 𝓕) (c : Circuit) → LookupZero 𝓕 s c
  pub start_zero : (𝓕 : Field) (s : Environment 𝓕) (c : Circuit) → StartZero 𝓕 s c
  pub part_zero : (𝓕 : Field) (s : Environment 𝓕) (c : Circuit) → PartZero 𝓕 s c
  pub compose_value : (𝓕 : Field) (s : Environment 𝓕) (c : Circuit) → ComposeValue 𝓕 s c
  pub reads : (𝓕 : Field) (g : Log 𝓕) (α : 𝓕.F) (y : ℕ → 𝓕.F) → Reads 𝓕 g α y
  pub user_value : UserValue
  -- the cuts, the degrees, and the questions
  pub parts_of_z : (c : Circuit) → PartsOfZ c
  pub parts_alike : PartsAlike
  pub part_degree : (c : Circuit) (i : ℕ) → PartDegree c i
  pub composed_degree : ComposedDegree
  pub compose_degree : ComposeDegree
  pub passed_is_well_formed : PassedIsWellFormed
  -- what `sizes` tells: of the building call, and of an evaluation, which is counted by its own definition
  pub foretells : (ws : List ℕ) → Foretells ws (sizes_of ws)
  pub circuit_forest : CircuitForest
  pub visited_value : VisitedValue
  pub visits_same : VisitsSame
  pub visits_written : VisitsWritten
  -- the papers
  pub counts_turn : (𝓕 : Field) (el : ℕ → 𝓕.F) (rows : ℕ) (inputs : List (ℕ → 𝓕.F)) (table : ℕ → 𝓕.F) → CountsTurn 𝓕 el rows inputs table
  pub same_totals : (𝓕 : Field) (el : ℕ → 𝓕.F) (rows : ℕ) (inputs : List (ℕ → 𝓕.F)) (table : ℕ → 𝓕.F) → SameTotals 𝓕 el rows inputs table
  pub is_habock_h : (𝓕 : Field) (γ : 𝓕.F) (inputs : List (ℕ → 𝓕.F)) (table m : ℕ → 𝓕.F) → IsHabockH 𝓕 γ inputs table m
  pub only_habock_h : (𝓕 : Field) (γ : 𝓕.F) (inputs : List (ℕ → 𝓕.F)) (table m : ℕ → 𝓕.F) → OnlyHabockH 𝓕 γ inputs table m
  pub habock_identity : (𝓕 : Field) (el : ℕ → 𝓕.F) (rows : ℕ) (inputs : List (ℕ → 𝓕.F)) (table : ℕ → 𝓕.F) (γ : 𝓕.F) → HabockIdentity 𝓕 el rows inputs table γ
  pub habock_sum : (𝓕 : Field) (el : ℕ → 𝓕.F) (rows : ℕ) (inputs : List (ℕ → 𝓕.F)) (table : ℕ → 𝓕.F) (γ : 𝓕.F) → HabockSum 𝓕 el rows inputs table γ
  pub totals_decide : (𝓕 : Field) (el : ℕ → 𝓕.F) (rows : ℕ) (inputs : List (ℕ → 𝓕.F)) (table : ℕ → 𝓕.F) → TotalsDecide 𝓕 el rows inputs table
  pub shared_identity : (𝓕 : Field) (el : ℕ → 𝓕.F) (rows : ℕ) (inputs : List (ℕ → 𝓕.F)) (table : ℕ → 𝓕.F) (γ : 𝓕.F) → SharedIdentity 𝓕 el rows inputs table γ
  pub is_plonk_z : (𝓕 : Field) (g : Log 𝓕) → IsPlonkZ 𝓕 g
  -- the copies, and the insurer's third question: "Why must the running product close at one?"
  pub running_product : RunningProduct
  pub permutes : Permutes
  pub labels : Labels
  pub labels_differ_where : (𝓕 : Field) (g : Log 𝓕) → LabelsDifferWhere 𝓕 g
  pub labels_differ_at_𝔾 : LabelsDifferAt𝔾
  pub are_factors : (𝓕 : Field) (g : Log 𝓕) → AreFactors 𝓕 g
  pub is_paper_z : (𝓕 : Field) (g : Log 𝓕) → IsPaperZ 𝓕 g
  pub keeps : (𝓕 : Field) (g : Log 𝓕) → Keeps 𝓕 g
  pub balances : (𝓕 : Field) (g : Log 𝓕) → Balances 𝓕 g
  pub whole_product : (𝓕 : Field) (g : Log 𝓕) → WholeProduct 𝓕 g
  pub closes_when : (𝓕 : Field) (g : Log 𝓕) → ClosesWhen 𝓕 g
  pub closes : (𝓕 : Field) (g : Log 𝓕) → Closes 𝓕 g
  pub any_z : (𝓕 : Field) (g : Log 𝓕) (α : 𝓕.F) (y : ℕ → 𝓕.F) → AnyZ 𝓕 g α y
  pub must_close : (𝓕 : Field) (g : Log 𝓕) (α : 𝓕.F) (y : ℕ → 𝓕.F) → MustClose 𝓕 g α y
