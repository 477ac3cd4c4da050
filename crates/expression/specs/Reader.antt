-- The polynomials as they stand in the circuit words, the witness words and the column words.
use Rattle.std.specs.Prelude.{List, ◌++◌, ℕ, ◌+◌, ◌*◌, ◌≤◌, get_or}
use Rattle.field.specs.Field.{𝔾, el}
use Rattle.lists.specs.Lists.{tabulate}
use Rattle.expression.specs.declared.poly.Layout.{Layout}

-- "Polynomial numbers run instance, preprocess, witness, permutation, m, h, z"; "The column buffer holds instance, permutation,
-- compressed input and table per lookup, m, h, z, each 2^k words": the compressed ones are passed over
unfoldable pub polys_of : Layout → List ℕ → List ℕ → List ℕ → List (ℕ → 𝔾.F)
polys_of l circuit witness columns =
    tabulate (λ i b. el (get_or columns (i * l.rows + b) 0)) l.instances
    ++ (tabulate (λ i b. el (get_or circuit (l.start + i * l.rows + b) 0)) l.preprocess
    ++ (tabulate (λ i b. el (get_or witness (i * l.rows + b) 0)) l.witness
    ++ (tabulate (λ i b. el (get_or columns ((l.instances + i) * l.rows + b) 0)) l.permutations
    ++ tabulate (λ i b. el (get_or columns ((l.instances + l.permutations + l.skipped + i) * l.rows + b) 0)) l.rest)))

-- a slice of words has no more than these
abbrev pub slice_words : ℕ
slice_words = 1152921504606846976

-- no place of a word that is read is a number that wraps
pub record LayoutSmall (l : Layout) : Type 0 where
  pub rows : l.rows ≤ 1048576
  pub instances : l.instances ≤ 1048576
  pub preprocess : l.preprocess ≤ 1048576
  pub start : l.start ≤ slice_words
  pub witness : l.witness ≤ 1048576
  pub permutations : l.permutations ≤ 1048576
  pub skipped : l.skipped ≤ 1048576
  pub rest : l.rest ≤ 1048576
