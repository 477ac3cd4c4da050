-- The copies: the permutation of the cells, its labels, the two products, z as PLONK has it, and "Why must the running product close at
-- one?", over any field, each claim with no more supposed than it needs. PLONK is the paper of Gabizon, Williamson and Ciobotaru.
-- The claims are stated here and proved elsewhere.
use Rattle.std.specs.Prelude.{◌≡◌, ◌≢◌, ◌↔◌, true, List, [], ◌∷◌, ◌++◌, map, ℕ, suc, ◌+◌, ◌-◌, ◌*◌, ◌<◌, get_or, take}
use Rattle.field.specs.Algebra.{Field}
use Rattle.field.specs.Algebra as Algebra
use Rattle.field.specs.Field.{𝔾}
use Rattle.bh.specs.Sums.{up_to}
use Rattle.bh.specs.Rows.{row_at}
use Rattle.lists.specs.Lists.{range, tabulate, concat}
use Rattle.expression.specs.Expr.{Expr}
use Rattle.expression.specs.Value.{Environment, value_at}
use Rattle.multilinear.specs.EqXY.{eq_at}
use Rattle.backend.specs.Circuit.{Circuit, Cell, rows_of, copied, num_copied, z_number}
use Rattle.backend.specs.Questions.{q11}
use Rattle.preprocessor.specs.Compose.{num_z, z_cut, start_constraint, part_constraint}
use Rattle.preprocessor.specs.Permutation.{source, first_label}
use Rattle.prover.specs.Log.{Log}
use Rattle.prover.specs.Running.{factor_of}
use Rattle.prover.specs.Columns.{
  given_polys,
  permutation_polys,
  m_polys,
  h_polys,
  permutation_at,
  identity_factor_at,
  permutation_factor_at,
  running_at,
  z_at_place,
  z_at,
  composed_environment,
}
use Rattle.hyperplonk_spec.specs.Meaning.{no_cell, Each, EachRow, Admitted, cell_value, EqualCells, NoZeroFactor}
use Rattle.hyperplonk_spec.specs.Composed.{column_at_is}

-- ---- the cells, and σ

-- copied column i at row b: "The copied columns are the polynomials that cells name, each once, by rising number."
abbrev pub copied_cell : Circuit → ℕ → ℕ → Cell
copied_cell c i b = record { polynomial = get_or (copied c) i 0; row = b }

-- x is one of the n × 2^k cells of the copied columns
pub record IsCopied (c : Circuit) (x : Cell) : Type 0 where
  pub column : ℕ
  pub column_in : column < num_copied c
  pub row_in : x.row < rows_of c
  pub is : x ≡ copied_cell c column x.row

-- no cycle names x
abbrev pub Unnamed : Circuit → Cell → Type 0
Unnamed c x = Each [] c.cycles (λ cycle. Each no_cell cycle (λ y. x ≢ y))

-- PLONK's σ: x holds, when all cycles have acted, the label that σ x started with ("along a cycle each cell takes the label that the
-- cell before held when the cycle began, the first that of the last. Cycles act one after another.")
abbrev pub σ : Circuit → Cell → Cell
σ c x = source c.cycles x

-- it is a permutation, as PLONK's is, of the n × 2^k copied cells. Those of row 0, and those that no cycle names, stay
pub record IsPermutation (c : Circuit) : Type 0 where
  pub named_copied : Each [] c.cycles (λ cycle. Each no_cell cycle (IsCopied c))
  pub into : (x : Cell) → IsCopied c x → IsCopied c (σ c x)
  pub one_to_one : (x y : Cell) → σ c x ≡ σ c y → x ≡ y
  pub onto : (y : Cell) → IsCopied c y → (x : Cell) × IsCopied c x × (σ c x ≡ y)
  pub row_0_stays : (x : Cell) → x.row ≡ 0 → σ c x ≡ x
  pub unnamed_stays : (x : Cell) → Unnamed c x → σ c x ≡ x

-- supposed is a yes to question 11: "Is each cycle non-empty, its polynomials in range, its rows from 1 to 2^k − 1, no cell twice within
-- one cycle?"
abbrev pub Permutes : Type 0
Permutes = (c : Circuit) → q11 c ≡ true → IsPermutation c

-- "column idx of the sorted list starts as idx × 2^k + row": the cells start with the numbers below n × 2^k, each with its own
pub record IsLabelling (c : Circuit) : Type 0 where
  pub first : (i b : ℕ) → i < num_copied c → first_label c (copied_cell c i b) ≡ i * rows_of c + b
  pub label_in_is : (x : Cell) → IsCopied c x → first_label c x < num_copied c * rows_of c
  pub apart : (x y : Cell) → IsCopied c x → IsCopied c y → first_label c x ≡ first_label c y → x ≡ y

abbrev pub Labels : Type 0
Labels = (c : Circuit) → IsLabelling c

module _ (𝓕 : Field) where
  open 𝓕 use {F, zero as nil, one, mul, inv}

  module _ (g : Log 𝓕) where
    -- different cells start with different elements, as PLONK's labels do
    abbrev pub LabelsDiffer : Type 0
    LabelsDiffer =
        (x y : Cell) → IsCopied g.circuit x → IsCopied g.circuit y
        → g.el (first_label g.circuit x) ≡ g.el (first_label g.circuit y)
        → x ≡ y

    -- so it is where the field keeps the numbers below n × 2^k apart
    abbrev pub LabelsDifferWhere : Type 0
    LabelsDifferWhere =
        ((a b : ℕ) → a < num_copied g.circuit * rows_of g.circuit → b < num_copied g.circuit * rows_of g.circuit → g.el a ≡ g.el b → a ≡ b)
        → LabelsDiffer

    -- ---- the two products

    -- value of x + β × the label that y started with + γ
    abbrev pub factor : Cell → Cell → F
    factor x y = factor_of 𝓕 g.β g.γ (cell_value 𝓕 g x) (g.el (first_label g.circuit y))

    -- PLONK's f + β S_ID + γ and f + β S_σ + γ: a cell's identity factor has its own label, its permutation factor that of σ of it
    pub record AreFactors : Type 0 where
      pub label : (i b : ℕ) → permutation_at 𝓕 g i b ≡ g.el (first_label g.circuit (σ g.circuit (copied_cell g.circuit i b)))
      pub identity : (i b : ℕ) → i < num_copied g.circuit
          → identity_factor_at 𝓕 g i b ≡ factor (copied_cell g.circuit i b) (copied_cell g.circuit i b)
      pub permutation : (i b : ℕ)
          → permutation_factor_at 𝓕 g i b ≡ factor (copied_cell g.circuit i b) (σ g.circuit (copied_cell g.circuit i b))

    -- the product over the copied columns and all rows but 0
    abbrev pub over_cells : (ℕ → ℕ → F) → F
    over_cells f = up_to mul one (λ i. up_to mul one (λ b. f i (suc b)) (rows_of g.circuit - 1)) (num_copied g.circuit)

    -- Π identity factors = Π permutation factors
    abbrev pub Balanced : Type 0
    Balanced = over_cells (identity_factor_at 𝓕 g) ≡ over_cells (permutation_factor_at 𝓕 g)

    -- "through the row order, chunk by chunk, the running product": after the last part at the last place
    abbrev pub whole_running : F
    whole_running = running_at 𝓕 g ((rows_of g.circuit - 1) * num_z g.circuit)

    abbrev pub Closed : Type 0
    Closed = whole_running ≡ one

    -- where the cells of each cycle are equal, σ keeps the values: PLONK's f = σ(f)
    abbrev pub Keeps : Type 0
    Keeps = Admitted 𝓕 g → EqualCells 𝓕 g → (x : Cell) → cell_value 𝓕 g (σ g.circuit x) ≡ cell_value 𝓕 g x

    -- and the two products are equal, whatever β and γ
    abbrev pub Balances : Type 0
    Balances = Admitted 𝓕 g → EqualCells 𝓕 g → Balanced

    -- on every log the whole running product is the one product over the other, whatever the cut
    abbrev pub WholeProduct : Type 0
    WholeProduct =
        Admitted 𝓕 g → whole_running ≡ mul (over_cells (identity_factor_at 𝓕 g)) (inv (over_cells (permutation_factor_at 𝓕 g)))

    -- so, where no inverted factor is zero, it closes at one exactly when the two are equal
    abbrev pub ClosesWhen : Type 0
    ClosesWhen = Admitted 𝓕 g → NoZeroFactor 𝓕 g → Closed ↔ Balanced

    -- and it does where the cells of each cycle are equal
    abbrev pub Closes : Type 0
    Closes = Admitted 𝓕 g → EqualCells 𝓕 g → NoZeroFactor 𝓕 g → Closed

    -- ---- "Why must the running product close at one?"

    module _ (α : F) (y : ℕ → F) where
      -- a scene that is the log's own but for the z columns, which may be any, as PLONK's prover may send any Z. (EqXY is left free too:
      -- no permutation constraint reads it.)
      pub record ButForZ (s : Environment 𝓕) : Type 0 where
        pub same_k : s.k ≡ (composed_environment 𝓕 g α y).k
        pub same_el : s.el ≡ (composed_environment 𝓕 g α y).el
        pub same_challenges : s.challenges ≡ (composed_environment 𝓕 g α y).challenges
        pub same_columns : (q b : ℕ) → q < z_number g.circuit 0
            → column_at_is 𝓕 s g.circuit q b ≡ column_at_is 𝓕 (composed_environment 𝓕 g α y) g.circuit q b

      -- such is this one, with z in the place of the log's z columns
      unfoldable pub with_z : (ℕ → ℕ → F) → Environment 𝓕
      with_z z =
          record {
            k = g.circuit.k;
            el = g.el;
            polys = given_polys 𝓕 g ++ (permutation_polys 𝓕 g ++ (m_polys 𝓕 g ++ (h_polys 𝓕 g ++ map z (range (num_z g.circuit)))));
            challenges = g.user ++ (g.β ∷ g.γ ∷ α ∷ []);
            eq = eq_at 𝓕 g.circuit.k y;
          }

      pub record AnyZ : Type 0 where
        pub but_for_z : (z : ℕ → ℕ → F) → ButForZ (with_z z)
        pub reads_z : (z : ℕ → ℕ → F) (i b : ℕ) → i < num_z g.circuit
            → column_at_is 𝓕 (with_z z) g.circuit (z_number g.circuit i) b ≡ z i b
        pub own_z : with_z (z_at 𝓕 g) ≡ composed_environment 𝓕 g α y

      -- zero on every row
      abbrev pub ZeroIn : Environment 𝓕 → Expr → Type 0
      ZeroIn s e = EachRow 𝓕 g (λ b. value_at 𝓕 s e b ≡ nil)

      -- "one is for the start", "And one is for each part": if these are zero on every row of such a scene, the two products are equal and
      -- the log's running product closes at one. So where it does not, no z columns meet the constraints. Neither equal cells nor alike
      -- cuts are supposed
      abbrev pub MustClose : Type 0
      MustClose =
          Admitted 𝓕 g → NoZeroFactor 𝓕 g
          → (s : Environment 𝓕) → ButForZ s
          → ZeroIn s (start_constraint g.circuit)
          → ((i : ℕ) → i < num_z g.circuit → ZeroIn s (part_constraint g.circuit i))
          → Balanced × Closed

    -- ---- z as PLONK has it

    -- the copied columns js at a place of the row order, as cells
    abbrev pub cells_at : ℕ → List ℕ → List Cell
    cells_at t js = map (λ j. copied_cell g.circuit j (row_at g.circuit.k t)) js

    -- the cells before part i at place t + 1, "through the row order, chunk by chunk": all copied columns at places 1 to t, then the
    -- first i parts at place t + 1
    unfoldable pub cells_before : ℕ → ℕ → List Cell
    cells_before i t =
        concat (tabulate (λ s. cells_at (suc s) (range (num_copied g.circuit))) t) ++ cells_at (suc t) (concat (take i (z_cut g.circuit)))

    -- PLONK's Z: the product over the cells x before of (f(x) + β label(x) + γ) / (f(x) + β label(σ x) + γ)
    unfoldable pub paper_z : ℕ → ℕ → F
    paper_z i t =
        Algebra.product 𝓕 (map (λ x. mul (factor x x) (inv (factor x (σ g.circuit x)))) (cells_before i t))

    -- z column i at place t + 1, and at the row that stands there; "z is 0 at row 0"
    pub record IsPaperZ : Type 0 where
      pub at_place : (i t : ℕ) → i < num_z g.circuit → suc t < rows_of g.circuit → z_at_place 𝓕 g i (suc t) ≡ paper_z i t
      pub at_row : Admitted 𝓕 g → (i t : ℕ) → i < num_z g.circuit → suc t < rows_of g.circuit
          → z_at 𝓕 g i (row_at g.circuit.k (suc t)) ≡ paper_z i t
      pub at_row_0 : (i : ℕ) → z_at 𝓕 g i 0 ≡ nil

-- at 𝔾 it is so: n × 2^k is at most 72 × 2^20, below p
abbrev pub LabelsDifferAt𝔾 : Type 0
LabelsDifferAt𝔾 = (g : Log 𝔾) → Admitted 𝔾 g → LabelsDiffer 𝔾 g
