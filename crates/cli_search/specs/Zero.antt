-- A denominator that is zero: "γ + input and γ + table on all rows, and the inverted factors on every row but 0".
use Rattle.std.specs.Prelude.{◌≡◌, ℕ, ◌<◌, List, length, slice_index}
use Rattle.field.specs.Field.{𝔾, el}
use Rattle.bh.specs.Rows.{place_of}
use Rattle.expression.specs.declared.poly.Layout.{Layout}
use Rattle.backend.specs.Circuit.{circuit_of, word_k, num_lookups, copied}
use Rattle.prover_z.specs.Factors.{denominator_in_words}
use Rattle.hyperplonk_prepare.specs.Prepared.{layout_from_words}
use Rattle.hyperplonk_columns.specs.Stages.{lent_beta, lent_gamma}
use Rattle.cli_search.specs.Ground.{side_word, first_of}
use Rattle.cli_search.specs.declared.Column.{Column}
use Rattle.cli_search.specs.declared.denominators.ZeroDenominator.{ZeroDenominator}

-- γ + the compressed input (side 0) or table (side 1) of a lookup, at a row
abbrev pub ZeroSide : Layout → ℕ → ℕ → List ℕ → 𝔾.F → ℕ → ℕ → ℕ → Type 0
ZeroSide l lookups copied columns γ side lookup row =
    (lookup < lookups) × (𝔾.add γ (el (side_word l copied columns side lookup row)) ≡ 𝔾.zero)

module _ (l : Layout) (circuit witness columns names groups : List ℕ) (lookups : ℕ) (β γ : 𝔾.F) where
  -- of a group's table, by the group's first lookup; of copied column i "value + β×permutation label + γ", at a row but 0; the label stands in its permutation column
  abbrev pub ZeroOf : Column → ℕ → Type 0
  ZeroOf (Column.Input lookup) row = ZeroSide l lookups (length names) columns γ 0 lookup row
  ZeroOf (Column.Table lookup) row = (first_of groups lookup ≡ lookup) × ZeroSide l lookups (length names) columns γ 1 lookup row
  ZeroOf (Column.Copied i) row = (i < length names) × (0 < row) × (denominator_in_words l circuit witness columns names β γ row i ≡ 𝔾.zero)

  abbrev pub ZeroIn : Column → ℕ → Type 0
  ZeroIn of row = (row < l.rows) × ZeroOf of row

-- the denominator of a column at a row is zero, by the words that are lent and the columns that stand in the buffer
abbrev pub ZeroAt : List ℕ → List ℕ → List ℕ → List ℕ → Column → ℕ → Type 0
ZeroAt circuit witness challenges columns =
    ZeroIn (layout_from_words circuit) circuit witness columns (copied (circuit_of circuit)) (circuit_of circuit).groups
    (num_lookups (circuit_of circuit))
    (lent_beta circuit challenges)
    (lent_gamma circuit challenges)

-- the polynomial's number, of a copied column
abbrev pub poly_named : List ℕ → Column → ℕ
poly_named names (Column.Input lookup) = 0
poly_named names (Column.Table lookup) = 0
poly_named names (Column.Copied i) = slice_index names i

-- what is named is a zero denominator, at its place in the row order, with its polynomial's number
pub record ZeroNamed (circuit witness challenges columns : List ℕ) (r : ZeroDenominator) : Type 0 where
  pub zero : ZeroAt circuit witness challenges columns r.of r.row
  pub place : r.place ≡ place_of (word_k circuit) r.row
  pub poly : r.poly ≡ poly_named (copied (circuit_of circuit)) r.of
