-- The papers' definitions, over any field, and the claims that the columns are these. The claims are stated here and proved
-- elsewhere.
use Rattle.std.specs.Prelude.{◌≡◌, ◌≢◌, ◌↔◌, true, cond, List, [], ◌∷◌, map, ℕ, suc, ◌<◌, length, take}
use Rattle.field.specs.Algebra.{Field, sum}
use Rattle.field.specs.Algebra as Algebra
use Rattle.bh.specs.Sums.{up_to}
use Rattle.bh.specs.Rows.{row_at}
use Rattle.lists.specs.Lists.{range, concat, count_of, total, All}
use Rattle.backend.specs.Circuit.{Circuit, rows_of, num_copied}
use Rattle.preprocessor.specs.Compose.{num_z, z_cut}
use Rattle.prover.specs.Lookup.{same, group_covered, group_multiplicity, group_h_at, GroupHolds, Turns, sum_rows}
use Rattle.prover.specs.Log.{Log}
use Rattle.prover.specs.Columns.{ratio_at, z_at_place}
use Rattle.hyperplonk_spec.specs.Meaning.{Embeds}

-- reading 18: the parts of z are as many as the z columns
abbrev pub PartsOfZ : Circuit → Type 0
PartsOfZ c = length (z_cut c) ≡ num_z c

module _ (𝓕 : Field) where
  open 𝓕 use {F, zero, one, add, mul, neg, inv}

  -- ---- Haböck, "Multivariate lookups based on logarithmic derivatives". The paper over several inputs: its h and its totals, and that
  -- ours are these. The inputs of a group are a list of columns; a lookup by itself is a list of one

  -- a / b, which is 0 where b is: "the inverse of 0 is 0"
  abbrev pub fraction : F → F → F
  fraction a b = mul a (inv b)

  module _ (γ : F) (inputs : List (ℕ → F)) (table m : ℕ → F) where
    -- the paper's h as it is known here, a sum of fractions, with the sign of document 01: the sum of 1/(γ + input) over the inputs,
    -- minus m/(γ + table)
    unfoldable pub paper_h : ℕ → F
    paper_h b =
        add (sum 𝓕 (map (λ input. fraction one (add γ (input b))) inputs)) (neg (fraction (m b) (add γ (table b))))

    -- no denominator is zero at row b
    abbrev pub NoneZeroAt : ℕ → Type 0
    NoneZeroAt b = All (λ input. add γ (input b) ≢ zero) inputs × (add γ (table b) ≢ zero)

    -- with x for h at row b, Π the product of γ + input over the inputs, and Σ the sum of the products over all inputs but one:
    -- h × Π × (γ + table) = Σ × (γ + table) − m × Π
    abbrev pub HabockHolds : F → ℕ → Type 0
    HabockHolds x b = GroupHolds 𝓕 γ inputs table m x b

    -- the h column of a group is the paper's on every row, and meets the equation on each where no denominator is zero
    pub record IsHabockH : Type 0 where
      pub is_fractions : (b : ℕ) → group_h_at 𝓕 γ inputs table m b ≡ paper_h b
      pub holds : (b : ℕ) → NoneZeroAt b → HabockHolds (group_h_at 𝓕 γ inputs table m b) b

    -- on such a row no other value does
    abbrev pub OnlyHabockH : Type 0
    OnlyHabockH = (x : F) (b : ℕ) → NoneZeroAt b → HabockHolds x b → x ≡ paper_h b

  module _ (el : ℕ → F) (rows : ℕ) (inputs : List (ℕ → F)) (table : ℕ → F) where
    -- how often the columns, together, take a value
    unfoldable pub occurrences : List (ℕ → F) → F → ℕ
    occurrences columns v = total (map (λ column. count_of (λ b. same 𝓕 (column b) v) (range rows)) columns)

    -- the paper's normalised multiplicity: the count of a value among all inputs, shared out among the equal table rows
    unfoldable pub normalized_multiplicity : ℕ → F
    normalized_multiplicity r = mul (el (occurrences inputs (table r))) (inv (el (occurrences (table ∷ []) (table r))))

    -- its total over the rows where the table is v
    abbrev pub total_of : (ℕ → F) → F → F
    total_of m v = sum_rows 𝓕 rows (λ r. cond (same 𝓕 (table r) v) (m r) zero)

    -- "with the same total for each table value": with the inputs covered, and no count of equal table rows a multiple of the
    -- characteristic
    abbrev pub SameTotals : Type 0
    SameTotals =
        Embeds 𝓕 el → group_covered 𝓕 rows inputs table ≡ true → ((n : ℕ) → 0 < n → n < suc rows → el n ≢ zero)
        → (v : F) → total_of (λ r. el (group_multiplicity 𝓕 rows inputs table r)) v ≡ total_of normalized_multiplicity v

    -- the counts turn the table into the inputs exactly when each input is in the table
    abbrev pub CountsTurn : Type 0
    CountsTurn = (group_covered 𝓕 rows inputs table ≡ true) ↔ Turns 𝓕 rows inputs table (group_multiplicity 𝓕 rows inputs table)

    -- Σ 1/(γ + input) over all rows of all inputs, a fraction with denominator 0 being 0
    abbrev pub input_fractions : F → F
    input_fractions γ = sum 𝓕 (map (λ input. sum_rows 𝓕 rows (λ b. fraction one (add γ (input b)))) inputs)

    -- the paper's identity for the counts of a group: Σ 1/(γ + input) = Σ m/(γ + table)
    abbrev pub HabockIdentity : F → Type 0
    HabockIdentity γ =
        Embeds 𝓕 el → group_covered 𝓕 rows inputs table ≡ true
        → input_fractions γ ≡ sum_rows 𝓕 rows (λ r. fraction (el (group_multiplicity 𝓕 rows inputs table r)) (add γ (table r)))

    -- so "Σh = 0 is Haböck's identity"
    abbrev pub HabockSum : F → Type 0
    HabockSum γ =
        Embeds 𝓕 el → group_covered 𝓕 rows inputs table ≡ true
        → sum_rows 𝓕 rows (group_h_at 𝓕 γ inputs table (λ r. el (group_multiplicity 𝓕 rows inputs table r))) ≡ zero

    -- what is summed over the table's rows with a factor that depends on the table's value alone depends on the totals only
    abbrev pub TotalsDecide : Type 0
    TotalsDecide =
        (m n : ℕ → F) → ((v : F) → total_of m v ≡ total_of n v)
        → (f : F → F) → sum_rows 𝓕 rows (λ r. mul (m r) (f (table r))) ≡ sum_rows 𝓕 rows (λ r. mul (n r) (f (table r)))

    -- so the paper's identity, and Σ h = 0, hold of its own shared multiplicities too, with what SameTotals supposes
    pub record SharedHolds (γ : F) : Type 0 where
      pub identity : input_fractions γ ≡ sum_rows 𝓕 rows (λ r. fraction (normalized_multiplicity r) (add γ (table r)))
      pub sum : sum_rows 𝓕 rows (paper_h γ inputs table normalized_multiplicity) ≡ zero

    abbrev pub SharedIdentity : F → Type 0
    SharedIdentity γ =
        Embeds 𝓕 el → group_covered 𝓕 rows inputs table ≡ true → ((n : ℕ) → 0 < n → n < suc rows → el n ≢ zero) → SharedHolds γ

  module _ (g : Log 𝓕) where
    -- ---- Gabizon, Williamson, Ciobotaru, "PLONK"

    -- the grand product in closed form: the product over all copied columns at the first t places after row 0, times that over the first i parts at the next place
    unfoldable pub plonk_z : ℕ → ℕ → F
    plonk_z i t =
        mul
        (up_to mul one (λ s. Algebra.product 𝓕 (map (ratio_at 𝓕 g (row_at g.circuit.k (suc s))) (range (num_copied g.circuit)))) t)
        (Algebra.product 𝓕 (map (ratio_at 𝓕 g (row_at g.circuit.k (suc t))) (concat (take i (z_cut g.circuit)))))

    abbrev pub IsPlonkZ : Type 0
    IsPlonkZ =
        (i t : ℕ) → i < num_z g.circuit → suc t < rows_of g.circuit → z_at_place 𝓕 g i (suc t) ≡ plonk_z i t
