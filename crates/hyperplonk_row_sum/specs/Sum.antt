-- Question 16 in parts, where the polynomials stand that the row sum reads, and what it requires of the words.
use Rattle.std.specs.Prelude.{◌≡◌, Bool, ◌&&◌, List, ℕ, ◌+◌, ◌*◌, ◌^◌, length, eqb, Result, Ok, Err}
use Rattle.lists.specs.Lists.{all_of}
use Rattle.expression.specs.declared.poly.Layout.{Layout}
use Rattle.backend.specs.Circuit.{Section, Circuit, circuit_of, word_k, entries, start_of, rows_of, num_witness, num_challenges, num_copied, num_lookups, num_groups}
use Rattle.backend.specs.Questions.{small}
use Rattle.preprocessor.specs.Compose.{num_z, composed_nodes}
use Rattle.hyperplonk_spec.specs.Build.{column_words}
use Rattle.hyperplonk_spec.specs.declared.RowSum.{RowSum}
use Rattle.hyperplonk_prepare.specs.Prepared.{Accepted}

-- "witness, columns, nodes, challenges with α, and y (k values) of the exact length", by their lengths
unfoldable pub lengths_right : Circuit → ℕ → ℕ → ℕ → ℕ → ℕ → Bool
lengths_right c witness columns nodes challenges y =
    eqb witness (num_witness c * rows_of c) && eqb columns (column_words c) && eqb challenges (num_challenges c + 3) && eqb y c.k
    && eqb nodes (composed_nodes c * 4)

-- "and all other values below p"
unfoldable pub lent_small : List ℕ → List ℕ → List ℕ → List ℕ → Bool
lent_small witness columns challenges y =
    all_of small witness && all_of small columns && all_of small challenges && all_of small y

-- "Polynomial numbers run instance, preprocess, witness, permutation, m, h, z"; in the column words the compressed columns, two for
-- each lookup, stand between the permutation columns and m, which is, like h, one for each group
unfoldable pub sum_layout : List ℕ → Layout
sum_layout ws =
    record {
      rows = 2 ^ word_k ws;
      instances = entries ws Section.instances;
      preprocess = entries ws Section.preprocess;
      start = start_of ws Section.preprocess;
      witness = num_witness (circuit_of ws);
      permutations = num_copied (circuit_of ws);
      skipped = num_lookups (circuit_of ws) * 2;
      rest = num_groups (circuit_of ws) * 2 + num_z (circuit_of ws);
    }

-- accepted circuit words and their layout, as many nodes as building writes, and k values
pub record Summable (ws nodes y : List ℕ) (l : Layout) (k : ℕ) : Type 0 where
  pub accepted : Accepted ws
  pub k_is : k ≡ (circuit_of ws).k
  pub layout_is : l ≡ sum_layout ws
  pub nodes_are : length nodes ≡ composed_nodes (circuit_of ws) * 4
  pub values_are : length y ≡ k

-- the sum behind 0, or 0 behind the number of a refusal
abbrev pub answered : Result ℕ ℕ → RowSum
answered (Ok sum) = record { number = 0; sum = sum }
answered (Err number) = record { number = number; sum = 0 }
