-- The composed constraints: their degrees, and "in value as the source has them", over any field and any columns. The claims are
-- stated here and proved elsewhere.
use Rattle.std.specs.Prelude.{◌≡◌, ◌≢◌, ◌↔◌, cond, List, [], ◌∷◌, ◌++◌, map, ℕ, suc, ◌+◌, ◌-◌, ◌≤◌, ◌<◌, length, get_or, ltb}
use Rattle.field.specs.Algebra.{Field}
use Rattle.field.specs.Algebra as Algebra
use Rattle.bh.specs.Rows.{next_row}
use Rattle.lists.specs.Lists.{tabulate}
use Rattle.expression.specs.Expr.{Expr, degree, distribute_powers}
use Rattle.expression.specs.Nodes.{expr_of}
use Rattle.expression.specs.Value.{Environment, poly_of, value_at}
use Rattle.backend.specs.Circuit.{Circuit, Pair, circuit_of, num_challenges, num_copied, num_groups, groups_of, m_number, h_number, z_number}
use Rattle.backend.specs.Constraints.{beta_of, inputs_of, tables_of, lookup_constraint, max_degree}
use Rattle.preprocessor.specs.Compose.{
  num_z,
  constraint_cut,
  identity_factor,
  permutation_factor,
  start_constraint,
  part_constraint,
  composed_constraints,
  compose,
  composed_words,
  composed_nodes,
}
use Rattle.prover.specs.Lookup.{GroupHolds}
use Rattle.prover.specs.Log.{Log}
use Rattle.prover.specs.Columns.{
  power_sum,
  input_at,
  group_table,
  m_at,
  lookup_h_at,
  z_at,
  identity_factor_at,
  permutation_factor_at,
  composed_environment,
}
use Rattle.hyperplonk_spec.specs.Meaning.{Each, Embeds, Admitted, EachRow}

-- the node words that building writes are read as the composed tree
abbrev pub ReadsBack : Type 0
ReadsBack =
    (ws : List ℕ) → expr_of (composed_words (circuit_of ws)) (composed_nodes (circuit_of ws) - 1) ≡ compose (circuit_of ws)

-- ---- degrees, of any circuit

-- "the constraints cut by D − 1": the degree of part i's constraint is that of z, 1, and the number of the part's columns, so at most D
pub record PartDegree (c : Circuit) (i : ℕ) : Type 0 where
  pub is : degree (part_constraint c i) ≡ 1 + length (get_or (constraint_cut c) i [])
  pub most : degree (part_constraint c i) ≤ max_degree c

-- "D the largest of 2, the stated maximum and all user and lookup constraint degrees": no composed constraint's degree is more
abbrev pub ComposedDegree : Type 0
ComposedDegree = (c : Circuit) → Each (Expr.constant 0) (composed_constraints c) (λ e. degree e ≤ max_degree c)

-- "by powers of α, times EqXY(0)": the composed expression's is at most one more
abbrev pub ComposeDegree : Type 0
ComposeDegree = (c : Circuit) → degree (compose c) ≤ max_degree c + 1

module _ (𝓕 : Field) where
  open 𝓕 use {F, zero, one, add, mul, neg}

  -- ---- over any columns

  module _ (s : Environment 𝓕) (c : Circuit) where
    -- the value of polynomial q at row b, and of γ
    abbrev pub column_at_is : ℕ → ℕ → F
    column_at_is q b = poly_of 𝓕 s.polys q b

    abbrev pub gamma_in : F
    gamma_in = get_or s.challenges (num_challenges c + 1) zero

    -- "input and table being the compressed expressions' values there": the inputs of group j, a column for each of its lookups, and its
    -- table
    unfoldable pub input_in : List Pair → ℕ → F
    input_in l b = value_at 𝓕 s (distribute_powers (inputs_of l) (beta_of c)) b

    unfoldable pub inputs_in : ℕ → List (ℕ → F)
    inputs_in j = map input_in (get_or (groups_of c) j [])

    unfoldable pub table_in : ℕ → ℕ → F
    table_in j b = value_at 𝓕 s (distribute_powers (tables_of (get_or (get_or (groups_of c) j []) 0 [])) (beta_of c)) b

    -- h × Π (γ + input) × (γ + table) = Σ Π' (γ + input) × (γ + table) − m × Π (γ + input), where Π' leaves one input out; of one lookup:
    -- h × (γ + input) × (γ + table) = (γ + table) − m × (γ + input)
    abbrev pub LookupHolds : ℕ → ℕ → Type 0
    LookupHolds j b =
        GroupHolds 𝓕 gamma_in (inputs_in j) (table_in j) (column_at_is (m_number c j)) (column_at_is (h_number c j) b) b

    -- "A lookup's is zero at a row exactly when …": a group's, which has a lookup
    abbrev pub LookupZero : Type 0
    LookupZero =
        (j b : ℕ) → 0 < length (get_or (groups_of c) j []) → (value_at 𝓕 s (lookup_constraint c j) b ≡ zero) ↔ LookupHolds j b

    -- "one is for the start: at row 1 it is zero exactly when the first z is 1 there, at other rows always"
    pub record StartAt : Type 0 where
      pub at_one : (value_at 𝓕 s (start_constraint c) 1 ≡ zero) ↔ (column_at_is (z_number c 0) 1 ≡ one)
      pub elsewhere : (b : ℕ) → b ≢ 1 → value_at 𝓕 s (start_constraint c) b ≡ zero

    abbrev pub StartZero : Type 0
    StartZero = Embeds 𝓕 s.el → 0 < s.k → StartAt

    -- "Next is the following part's z at that row; after the last part it is the first z with rotation 1."
    unfoldable pub next_in : ℕ → ℕ → F
    next_in i b =
        cond (ltb (suc i) (num_z c)) (column_at_is (z_number c (suc i)) b) (column_at_is (z_number c 0) (next_row s.k b))

    -- a product over the part's factors
    abbrev pub over_part : (ℕ → Expr) → ℕ → ℕ → F
    over_part factor i b = Algebra.product 𝓕 (map (λ t. value_at 𝓕 s (factor t) b) (get_or (constraint_cut c) i []))

    -- z × the product of the part's identity factors = next × the product of its permutation factors
    abbrev pub PartHolds : ℕ → ℕ → Type 0
    PartHolds i b =
        mul (column_at_is (z_number c i) b) (over_part (identity_factor c) i b)
        ≡ mul (next_in i b) (over_part (permutation_factor c) i b)

    -- "And one is for each part: zero at a row exactly when …"
    abbrev pub PartZero : Type 0
    PartZero =
        Embeds 𝓕 s.el → (i b : ℕ) → i < num_z c → (value_at 𝓕 s (part_constraint c i) b ≡ zero) ↔ PartHolds i b

    -- "constraints by powers of α, times EqXY(0); then the h queries first, that sum last, by powers of α"
    abbrev pub alpha_in : F
    alpha_in = get_or s.challenges (num_challenges c + 2) zero

    abbrev pub zero_check_in : ℕ → F
    zero_check_in b = mul (power_sum 𝓕 alpha_in (map (λ e. value_at 𝓕 s e b) (composed_constraints c))) (s.eq b)

    -- "at each row that value is the one `compose` above gives from the composed constraints and the h columns"
    abbrev pub ComposeValue : Type 0
    ComposeValue =
        Embeds 𝓕 s.el → (b : ℕ)
        → value_at 𝓕 s (compose c) b
        ≡ power_sum 𝓕 alpha_in (tabulate (λ j. column_at_is (h_number c j) b) (num_groups c) ++ (zero_check_in b ∷ []))

    -- a list by powers of its base
    abbrev pub PowersValue : Type 0
    PowersValue =
        Embeds 𝓕 s.el → (es : List Expr) (base : Expr) (b : ℕ)
        → value_at 𝓕 s (distribute_powers es base) b
        ≡ power_sum 𝓕 (value_at 𝓕 s base b) (map (λ e. value_at 𝓕 s e b) es)

  -- ---- over the columns of a log: each part of a constraint is the stage's

  module _ (g : Log 𝓕) (α : F) (y : ℕ → F) where
    abbrev pub scene : Environment 𝓕
    scene = composed_environment 𝓕 g α y

    -- group j, and a column's value at a row
    abbrev pub group_of : ℕ → List (List Pair)
    group_of j = get_or (groups_of g.circuit) j []

    abbrev pub value_in : ℕ → ℕ → F
    value_in q b = column_at_is scene g.circuit q b

    -- compressed input and table, m, h, z, and the factors of z
    pub record ReadAs : Type 0 where
      pub input : (j : ℕ) → j < num_groups g.circuit
          → Each [] (group_of j) (λ l. EachRow 𝓕 g (λ b. input_in scene g.circuit l b ≡ input_at 𝓕 g l b))
      pub table : (j : ℕ) → j < num_groups g.circuit → EachRow 𝓕 g (λ b. table_in scene g.circuit j b ≡ group_table 𝓕 g (group_of j) b)
      pub m : (j b : ℕ) → j < num_groups g.circuit → value_in (m_number g.circuit j) b ≡ m_at 𝓕 g (group_of j) b
      pub h : (j b : ℕ) → j < num_groups g.circuit → value_in (h_number g.circuit j) b ≡ lookup_h_at 𝓕 g (group_of j) b
      pub z : (i b : ℕ) → i < num_z g.circuit → value_in (z_number g.circuit i) b ≡ z_at 𝓕 g i b
      pub identity_factor_is : (i b : ℕ) → i < num_copied g.circuit
          → value_at 𝓕 scene (identity_factor g.circuit i) b ≡ identity_factor_at 𝓕 g i b
      pub permutation_factor_is : (i b : ℕ) → i < num_copied g.circuit
          → value_at 𝓕 scene (permutation_factor g.circuit i) b ≡ permutation_factor_at 𝓕 g i b

    -- of a log that is admitted
    abbrev pub Reads : Type 0
    Reads = Admitted 𝓕 g → ReadAs
