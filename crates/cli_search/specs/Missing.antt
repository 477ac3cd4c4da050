-- A reading that stands in no row of its group's table.
use Rattle.std.specs.Prelude.{ℕ, ◌<◌, ◌≢◌, List}
use Rattle.expression.specs.declared.poly.Layout.{Layout}
use Rattle.backend.specs.Circuit.{circuit_of, num_lookups, num_copied}
use Rattle.hyperplonk_prepare.specs.Prepared.{layout_from_words}
use Rattle.cli_search.specs.Ground.{side_word, first_of}

-- the compressed input of a lookup at a row equals no word of the compressed table of its group, which is that of the group's first lookup
abbrev pub MissingIn : Layout → ℕ → ℕ → List ℕ → List ℕ → ℕ → ℕ → Type 0
MissingIn l lookups copied groups columns lookup row =
    (lookup < lookups) × (row < l.rows)
    × ((i : ℕ) → i < l.rows → side_word l copied columns 1 (first_of groups lookup) i ≢ side_word l copied columns 0 lookup row)

-- "Does each compressed input equal some compressed table row?" is answered no by this lookup and row
abbrev pub Missing : List ℕ → List ℕ → ℕ → ℕ → Type 0
Missing circuit columns =
    MissingIn (layout_from_words circuit) (num_lookups (circuit_of circuit)) (num_copied (circuit_of circuit))
    (circuit_of circuit).groups
    columns
