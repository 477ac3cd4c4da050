-- What yes to questions 1 to 4 tells: where the sections lie, and their limits.
use Rattle.std.specs.Prelude.{◌≡◌, List, ℕ, ◌+◌, ◌≤◌, length, get_or}
use Rattle.backend.specs.Circuit.{Section, contents, word_k, start_of, entries, words_in, body_of, circuit_of, num_witness, num_challenges}
use Rattle.lists.specs.Lists.{total, All}
use Rattle.backend.specs.Questions.{largest_k}
use Rattle.backend.specs.declared.Part.{Part}

-- the word after the last of a section
abbrev pub end_of : List ℕ → Section → ℕ
end_of ws s = start_of ws s + words_in ws s

-- a section's place and entries, as numbers
abbrev pub bounds_of : List ℕ → Section → Part
bounds_of ws s = record { start = start_of ws s; end = end_of ws s; count = entries ws s }

-- yes to 1 to 4 at the contents
pub record ContentsValid (ws : List ℕ) : Type 0 where
  pub long : contents ≤ length ws
  pub k_low : 1 ≤ word_k ws
  pub k_high : word_k ws ≤ largest_k
  pub degree : get_or ws 1 0 ≤ 33
  pub few_instances : entries ws Section.instances ≤ 8
  pub few_preprocess : entries ws Section.preprocess ≤ 32
  pub some_rounds : 1 ≤ entries ws Section.rounds
  pub few_rounds : entries ws Section.rounds ≤ 4
  pub few_nodes : entries ws Section.nodes ≤ 1024
  pub few_constraints : entries ws Section.constraints ≤ 32
  pub few_widths : entries ws Section.widths ≤ 8
  pub few_lengths : entries ws Section.lengths ≤ 1024
  pub few_cells : entries ws Section.cells ≤ 4096
  pub instances_at : start_of ws Section.instances ≡ contents
  pub preprocess_at : start_of ws Section.preprocess ≡ end_of ws Section.instances
  pub rounds_at : start_of ws Section.rounds ≡ end_of ws Section.preprocess
  pub nodes_at : start_of ws Section.nodes ≡ end_of ws Section.rounds
  pub constraints_at : start_of ws Section.constraints ≡ end_of ws Section.nodes
  pub widths_at : start_of ws Section.widths ≡ end_of ws Section.constraints
  pub pairs_at : start_of ws Section.pairs ≡ end_of ws Section.widths
  pub lengths_at : start_of ws Section.lengths ≡ end_of ws Section.pairs
  pub cells_at : start_of ws Section.cells ≡ end_of ws Section.lengths
  pub groups_at : start_of ws Section.groups ≡ end_of ws Section.cells
  pub whole : length ws ≡ end_of ws Section.groups
  pub groups_are : entries ws Section.groups ≡ entries ws Section.widths

-- yes to 3 and 4 at the bodies
pub record BodiesValid (ws : List ℕ) : Type 0 where
  pub few_witness : num_witness (circuit_of ws) ≤ 32
  pub few_user : num_challenges (circuit_of ws) ≤ 16
  pub narrow : All (λ w. w ≤ 8) (body_of ws Section.widths)
  pub few_in_cycles : total (body_of ws Section.lengths) ≤ 4096
  pub pairs_are : entries ws Section.pairs ≡ total (body_of ws Section.widths)
  pub cells_are : entries ws Section.cells ≡ total (body_of ws Section.lengths)
