-- The words that the stages write, from the words that are lent.
use Rattle.std.specs.Prelude.{List, map, ℕ, ◌+◌, get_or, take}
use Rattle.field.specs.Field.{𝔾, el}
use Rattle.lists.specs.Lists.{range, tabulate, split}
use Rattle.backend.specs.Circuit.{circuit_of, rows_of, num_challenges, copied, num_copied}
use Rattle.preprocessor.specs.Compose.{num_z}
use Rattle.preprocessor.specs.Permutation.{label}
use Rattle.prover.specs.Columns.{instance_at}
use Rattle.prover.specs.Running.{z_of}
use Rattle.prover.specs.Words.{words_of}
use Rattle.prover.specs.Denominators.{factor_denominators}
use Rattle.prover.specs.Lent.{environment_from_words, compressed_polys_in, ratio_in_words}
use Rattle.prover_z.specs.Factors.{denominator_in_words}
use Rattle.hyperplonk_prepare.specs.Prepared.{layout_from_words}

-- "challenges (the user's, then β, γ)"
abbrev pub lent_user : List ℕ → List ℕ → List ℕ
lent_user circuit challenges = take (num_challenges (circuit_of circuit)) challenges

abbrev pub lent_beta : List ℕ → List ℕ → 𝔾.F
lent_beta circuit challenges = el (get_or challenges (num_challenges (circuit_of circuit)) 0)

abbrev pub lent_gamma : List ℕ → List ℕ → 𝔾.F
lent_gamma circuit challenges = el (get_or challenges (num_challenges (circuit_of circuit) + 1) 0)

-- `instance_polys`: "value t (from 0) stands at place t + 1 of the row order; other rows 0"
abbrev pub instance_words : List ℕ → List ℕ → List ℕ
instance_words circuit instance =
    words_of (rows_of (circuit_of circuit))
    (map (λ vs b. instance_at 𝔾 (circuit_of circuit).k (map el vs) b) (split (circuit_of circuit).instances instance))

-- `permutation_polys`: the label of each cell of the copied columns
abbrev pub permutation_words : List ℕ → List ℕ
permutation_words circuit =
    words_of (rows_of (circuit_of circuit)) (map (λ i b. el (label (circuit_of circuit) i b)) (range (num_copied (circuit_of circuit))))

-- "compressed input and table per lookup": "sum of β^i × expression i at each row". Of the column words the instance columns are read
abbrev pub compressed_words : List ℕ → List ℕ → List ℕ → List ℕ → List ℕ
compressed_words circuit witness columns challenges =
    words_of (rows_of (circuit_of circuit))
    (compressed_polys_in 𝔾
    (environment_from_words circuit witness columns (lent_user circuit challenges) (layout_from_words circuit) (circuit_of circuit).k)
    (lent_beta circuit challenges)
    (circuit_of circuit).lookups)

-- `permutation_z_polys`: the running product of the copied columns' factors. Of the column words the instance and the permutation
-- columns are read
abbrev pub z_words : List ℕ → List ℕ → List ℕ → List ℕ → List ℕ
z_words circuit witness columns challenges =
    words_of (rows_of (circuit_of circuit))
    (tabulate
    (z_of 𝔾
    (ratio_in_words (layout_from_words circuit) circuit witness columns (copied (circuit_of circuit)) (lent_beta circuit challenges)
    (lent_gamma circuit challenges))
    (circuit_of circuit).k
    (num_copied (circuit_of circuit))
    (num_z (circuit_of circuit)))
    (num_z (circuit_of circuit)))

-- its denominators, "the inverted factors on every row but 0"
abbrev pub z_denominators : List ℕ → List ℕ → List ℕ → List ℕ → List 𝔾.F
z_denominators circuit witness columns challenges =
    factor_denominators 𝔾 (rows_of (circuit_of circuit)) (num_copied (circuit_of circuit))
    (λ i b.
    denominator_in_words (layout_from_words circuit) circuit witness columns (copied (circuit_of circuit)) (lent_beta circuit challenges)
    (lent_gamma circuit challenges)
    b
    i)
