-- User expressions and lookups over the words that are lent.
use Rattle.std.specs.Prelude.{◌≡◌, List, [], ◌∷◌, map, ℕ, ◌+◌, ◌*◌, ◌%◌, ◌^◌, ◌≤◌, ◌<◌, length, get_or}
use Rattle.field.specs.Algebra.{Field}
use Rattle.field.specs.Field.{𝔾, el}
use Rattle.lists.specs.Lists.{tabulate, concat}
use Rattle.expression.specs.Expr.{Expr}
use Rattle.expression.specs.Nodes.{expr_of}
use Rattle.expression.specs.Value.{Environment, poly_of, value_at}
use Rattle.expression.specs.Reader.{polys_of, LayoutSmall}
use Rattle.expression.specs.declared.poly.Layout.{Layout}
use Rattle.backend.specs.Circuit.{Pair}
use Rattle.backend.specs.Constraints.{inputs_of, tables_of}
use Rattle.prover.specs.Running.{factor_of}
use Rattle.prover.specs.Columns.{power_sum}
use Rattle.prover.specs.declared.Roots.{Roots}

-- the layout of the given polynomials: instance, preprocess and witness columns of 2^k rows, and no others
pub record Given (k : ℕ) (l : Layout) : Type 0 where
  pub small : LayoutSmall l
  pub rows : l.rows ≡ 2 ^ k
  pub permutations : l.permutations ≡ 0
  pub rest : l.rest ≡ 0

-- words from `to` on, behind the instance columns, and whole nodes
pub record Behind (k : ℕ) (l : Layout) (nodes columns : List ℕ) (to words : ℕ) : Type 0 where
  pub whole : length nodes % 4 ≡ 0
  pub positive : 0 < k
  pub small : k < 21
  pub given : Given k l
  pub before : l.instances * 2 ^ k ≤ to
  pub room : to + words ≤ length columns

-- what user expressions are evaluated over: no EqXY (question 8)
unfoldable pub environment_from_words : List ℕ → List ℕ → List ℕ → List ℕ → Layout → ℕ → Environment 𝔾
environment_from_words circuit witness columns challenges l k =
    record {
      k = k;
      el = el;
      polys = polys_of l circuit witness columns;
      challenges = map el challenges;
      eq = λ b. 𝔾.zero;
    }

-- the expressions of some roots of lookup pairs
unfoldable pub roots_of : List ℕ → List ℕ → Roots → List Expr
roots_of nodes pairs r =
    tabulate (λ i. expr_of nodes (get_or pairs ((r.start + i) * 2 + r.side) 0)) r.width

module _ (𝓕 : Field) (s : Environment 𝓕) (β : 𝓕.F) where
  -- `lookup_compressed_poly`: "sum of β^i × expression i at each row"
  unfoldable pub compressed_in : List Expr → ℕ → 𝓕.F
  compressed_in es b = power_sum 𝓕 β (map (λ e. value_at 𝓕 s e b) es)

  -- "compressed input and table per lookup"
  unfoldable pub compressed_polys_in : List (List Pair) → List (ℕ → 𝓕.F)
  compressed_polys_in ls = concat (map (λ l. compressed_in (inputs_of l) ∷ compressed_in (tables_of l) ∷ []) ls)

-- "(value + β×identity label + γ) times inverses of (value + β×permutation label + γ)": the factor of copied column i at row b.
-- `copied` has the polynomials' numbers; the permutation columns stand behind the instance columns
module _ (l : Layout) (circuit witness columns copied : List ℕ) (β γ : 𝔾.F) where
  abbrev pub factor_in_words : ℕ → ℕ → ℕ → 𝔾.F
  factor_in_words label b i = factor_of 𝔾 β γ (poly_of 𝔾 (polys_of l circuit witness columns) (get_or copied i 0) b) (el label)

  unfoldable pub ratio_in_words : ℕ → ℕ → 𝔾.F
  ratio_in_words b i =
      𝔾.mul (factor_in_words (i * l.rows + b) b i) (𝔾.inv (factor_in_words (get_or columns ((l.instances + i) * l.rows + b) 0) b i))
