-- Groups of lookups, Item 3 of document 02: when question 18 is yes, which lookups a group has, that its tables are one, and that a group
-- of one lookup is as before. The claims are stated here and proved elsewhere.
use Rattle.std.specs.Prelude.{◌≡◌, ◌⊎◌, ◌↔◌, true, List, [], ◌∷◌, map, ℕ, suc, ◌<◌, length, get_or, eqb}
use Rattle.field.specs.Algebra.{Field}
use Rattle.lists.specs.Lists.{range, filter}
use Rattle.expression.specs.Expr.{Expr, minus, at}
use Rattle.backend.specs.Circuit.{Circuit, Pair, num_lookups, groups_of}
use Rattle.backend.specs.Constraints.{inputs_of, tables_of, side_of, group_with}
use Rattle.backend.specs.Questions.{q18}
use Rattle.prover.specs.Lookup.{multiplicity, covered, h_at, group_multiplicity, group_covered, group_h_at}
use Rattle.prover.specs.Log.{Log}
use Rattle.prover.specs.Columns.{table_at, group_table}
use Rattle.prover.specs.Denominators.{lookup_denominators, group_denominators}
use Rattle.hyperplonk_spec.specs.Meaning.{Each, EachGroup}

-- "one group number per lookup, first 0, each next the same or one more"
pub record FollowRule (numbers : List ℕ) : Type 0 where
  pub first : 0 < length numbers → get_or numbers 0 0 ≡ 0
  pub next : (i : ℕ) → suc i < length numbers
      → (get_or numbers (suc i) 0 ≡ get_or numbers i 0) ⊎ (get_or numbers (suc i) 0 ≡ suc (get_or numbers i 0))

-- in each group each lookup's tables are, in width and as trees, those of the group's first
abbrev pub OneTable : Circuit → Type 0
OneTable c = Each [] (groups_of c) (λ group. Each [] group (λ l. tables_of l ≡ tables_of (get_or group 0 [])))

-- "Number 18 … is given exactly if group numbers break the rule or tables of one group differ in width or as trees."
abbrev pub EighteenWhen : Type 0
EighteenWhen = (c : Circuit) → (q18 c ≡ true) ↔ (FollowRule c.groups × OneTable c)

-- group j has the lookups whose number is j, in their order
abbrev pub GroupsByNumber : Type 0
GroupsByNumber =
    (c : Circuit) → q18 c ≡ true → length c.groups ≡ num_lookups c → (j : ℕ)
    → get_or (groups_of c) j []
    ≡ map (λ i. get_or c.lookups i []) (filter (λ i. eqb (get_or c.groups i 0) j) (range (length c.groups)))

-- "Angle, current and temperature codes share one approved table": where 18 is yes, each lookup's compressed table is its group's
abbrev pub TablesAgree : Type 1
TablesAgree =
    (𝓕 : Field) (g : Log 𝓕) → q18 g.circuit ≡ true
    → EachGroup 𝓕 g (λ group. Each [] group (λ l. (b : ℕ) → table_at 𝓕 g l b ≡ group_table 𝓕 g group b))

-- ---- a group of one

-- m, question 15, h and the denominators are those of a lookup by itself
pub record IsOne (𝓕 : Field) (rows : ℕ) (input table : ℕ → 𝓕.F) : Type 0 where
  pub m : (j : ℕ) → group_multiplicity 𝓕 rows (input ∷ []) table j ≡ multiplicity 𝓕 rows input table j
  pub fifteen : group_covered 𝓕 rows (input ∷ []) table ≡ covered 𝓕 rows input table
  pub h : (γ : 𝓕.F) (m : ℕ → 𝓕.F) (b : ℕ) → group_h_at 𝓕 γ (input ∷ []) table m b ≡ h_at 𝓕 γ input table m b
  pub denominators : (γ : 𝓕.F) → group_denominators 𝓕 rows γ (input ∷ []) table ≡ lookup_denominators 𝓕 rows γ input table

-- "a group of one keeps today's nodes": h * (input + γ) * (table + γ) - (table + γ) + m * (input + γ)
abbrev pub OneTree : Type 0
OneTree =
    (user m h : ℕ) (l : List Pair)
    → group_with user m h (l ∷ [])
    ≡ Expr.sum
    (minus (Expr.product (Expr.product (at h) (side_of user (inputs_of l))) (side_of user (tables_of l))) (side_of user (tables_of l)))
    (Expr.product (at m) (side_of user (inputs_of l)))

pub record GroupOfOne : Type 1 where
  pub is_one : (𝓕 : Field) (rows : ℕ) (input table : ℕ → 𝓕.F) → IsOne 𝓕 rows input table
  pub tree : OneTree
