-- Circuit words for which questions 1 to 11 and 18 are yes, what is computed from them, and where the columns begin.
use Rattle.std.specs.Prelude.{◌≡◌, List, ℕ, ◌+◌, ◌*◌, ◌^◌}
use Rattle.lists.specs.Lists.{first_no}
use Rattle.expression.specs.declared.poly.Layout.{Layout}
use Rattle.backend.specs.Circuit.{Circuit, Section, circuit_of, word_k, entries, start_of, rows_of, num_instance, num_witness, copied, num_copied, num_lookups, group_sizes, num_groups}
use Rattle.backend.specs.Questions.{circuit_questions}
use Rattle.preprocessor.specs.Compose.{params_of}
use Rattle.preprocessor.specs.declared.CircuitParams.{CircuitParams}

-- questions 1 to 11 and 18 are yes
abbrev pub Accepted : List ℕ → Type 0
Accepted ws = first_no circuit_questions ws ≡ 0

-- the copied columns, the sizes of the groups and the numbers of accepted circuit words
pub record Prepared (ws names sizes : List ℕ) (params : CircuitParams) : Type 0 where
  pub accepted : Accepted ws
  pub copied_are : names ≡ copied (circuit_of ws)
  pub sizes_are : sizes ≡ group_sizes (circuit_of ws).groups
  pub params_are : params ≡ params_of (circuit_of ws)

-- where the polynomials that are given stand
unfoldable pub layout_from_words : List ℕ → Layout
layout_from_words ws =
    record {
      rows = 2 ^ word_k ws;
      instances = entries ws Section.instances;
      preprocess = entries ws Section.preprocess;
      start = start_of ws Section.preprocess;
      witness = num_witness (circuit_of ws);
      permutations = 0;
      skipped = 0;
      rest = 0;
    }

-- "The column buffer holds instance, permutation, compressed input and table per lookup, m, h, z, each 2^k words": where each kind
-- begins. Item 3 of document 02: "A group has one m … and one h"
abbrev pub permutation_offset : Circuit → ℕ
permutation_offset c = num_instance c * rows_of c

abbrev pub compressed_offset : Circuit → ℕ
compressed_offset c = (num_instance c + num_copied c) * rows_of c

abbrev pub m_offset : Circuit → ℕ
m_offset c = (num_instance c + num_copied c + num_lookups c * 2) * rows_of c

abbrev pub h_offset : Circuit → ℕ
h_offset c = (num_instance c + num_copied c + num_lookups c * 2 + num_groups c) * rows_of c

abbrev pub z_offset : Circuit → ℕ
z_offset c = (num_instance c + num_copied c + num_lookups c * 2 + num_groups c * 2) * rows_of c
