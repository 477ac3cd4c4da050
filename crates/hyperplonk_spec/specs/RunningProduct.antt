-- "Why must the running product close at one?", of the words that a building call leaves. It is stated here and proved elsewhere.
use Rattle.std.specs.Prelude.{◌≡◌, List, [], ℕ, suc, ◌+◌, ◌*◌, ◌<◌, get_or}
use Rattle.field.specs.Field.{𝔾, el}
use Rattle.bh.specs.Rows.{row_at}
use Rattle.backend.specs.Circuit.{Circuit, rows_of, num_instance, num_copied, num_lookups, num_groups}
use Rattle.preprocessor.specs.Compose.{num_z, z_cut}
use Rattle.preprocessor.specs.Permutation.{first_label}
use Rattle.prover.specs.Log.{Log}
use Rattle.prover.specs.Columns.{part_at}
use Rattle.hyperplonk_spec.specs.Build.{log_of, build_of, lent_build}
use Rattle.hyperplonk_spec.specs.Meaning.{Admitted, EqualCells}
use Rattle.hyperplonk_spec.specs.Copies.{copied_cell, σ, whole_running, Closed, paper_z}

-- "The column buffer holds instance, permutation, compressed input and table per lookup, m, h, z, each 2^k words": the words of
-- permutation column i and of z column i, at row b
abbrev pub label_word : Circuit → List ℕ → ℕ → ℕ → ℕ
label_word c columns i b = get_or columns ((num_instance c + i) * rows_of c + b) 0

abbrev pub z_word : Circuit → List ℕ → ℕ → ℕ → ℕ
z_word c columns i b = get_or columns ((num_instance c + num_copied c + num_lookups c * 2 + num_groups c * 2 + i) * rows_of c + b) 0

-- of a log, and the columns buffer as a call left it
module _ (g : Log 𝔾) (left : List ℕ) where
  abbrev c : Circuit
  c = g.circuit

  pub record ProductCloses : Type 0 where
    -- what the claims on copies suppose of every log
    pub admitted : Admitted 𝔾 g
    -- "each cell takes the label that the cell before held when the cycle began": cell x holds the first label of σ x
    pub labels_are : (i b : ℕ) → i < num_copied c → b < rows_of c → label_word c left i b ≡ first_label c (σ c (copied_cell c i b))
    -- "z is 0 at row 0 and 1 in the first z column at row 1"
    pub z_row_0 : (i : ℕ) → i < num_z c → z_word c left i 0 ≡ 0
    pub z_starts : 0 < num_z c → z_word c left 0 1 ≡ 1
    -- "then through the row order, chunk by chunk, the running product": the paper's, at place t + 1
    pub z_is : (i t : ℕ) → i < num_z c → suc t < rows_of c → el (z_word c left i (row_at c.k (suc t))) ≡ paper_z 𝔾 g i t
    -- it ends with the last word of the last z column times the factor of the last part there
    pub z_ends : (i t : ℕ) → suc i ≡ num_z c → suc (suc t) ≡ rows_of c
        → 𝔾.mul (el (z_word c left i (row_at c.k (suc t)))) (part_at 𝔾 g (get_or (z_cut c) i []) (row_at c.k (suc t))) ≡ whole_running 𝔾 g
    -- and that is one, where the cells of each cycle are equal: with 0 no inverted factor is zero on a row but 0
    pub closes : EqualCells 𝔾 g → Closed 𝔾 g

-- all that is supposed is that the number is 0
abbrev pub RunningProduct : Type 0
RunningProduct =
    (ws instances witness challenges columns nodes : List ℕ)
    → (build_of (lent_build ws instances witness challenges columns nodes)).answer.number ≡ 0
    → ProductCloses (log_of ws instances witness challenges) (build_of (lent_build ws instances witness challenges columns nodes)).columns
