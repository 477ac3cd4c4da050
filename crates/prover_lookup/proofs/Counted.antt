-- The counts of the first j groups, in the buffer.
use mathlib.Core.Path.{◌≡◌, refl, sym, ap, ap₂, ◌∙◌}
use mathlib.Core.Bool.{Bool, true, false, cond}
use mathlib.Core.List.{List, ◌++◌}
use Prim.Native.Nat.{ℕ, ◌+◌, ◌*◌, ◌≤◌, ◌<◌}
use native.Mathlib.Nat.{zero-mul}
use native.Mathlib.Omega.{arith}
use lib.ListN.{length, get_or, take, drop, replicate, length-append, length-replicate}
use Rattle.field.specs.Field.{𝔾}
use Rattle.lists.specs.Lists.{tabulate, concat, total, All, write_at}
use Rattle.lists.proofs.All.{all_get}
use Rattle.lists.proofs.Columns.{tabulate_length, tabulate_cong, columns_length}
use Rattle.lists.proofs.Over.{length_write_at, take_write_at, write_at_before, write_at_none, drop_past}
use Rattle.lists.proofs.Tests.{false_true}
use Rattle.lists.proofs.Walks.{Walked, walk_none, walk_more, walk_done, walk_fails}
use Rattle.prover.specs.Lookup.{group_multiplicity, group_covered}
use Rattle.prover.specs.Words.{elements_from, Small}
use Rattle.prover_lookup.specs.Lookups.{
  inputs_from,
  group_words,
  group_at,
  group_inputs_from,
  group_table_from,
  counts_from,
  CountsWritten,
}
use Rattle.prover_lookup.proofs.Same.{kept_covered, kept_multiplicity}
use Rattle.prover_lookup.proofs.Places.{next_place, place_there, group_first, group_next, group_there, run_next, column_next}

words_length : (rows : ℕ) (inputs : List (ℕ → 𝔾.F)) (table : ℕ → 𝔾.F) → length (group_words rows inputs table) ≡ rows
unfolding group_words
words_length rows inputs table = go (group_covered 𝔾 rows inputs table)
  where
    go : (t : Bool) → length (cond t (tabulate (group_multiplicity 𝔾 rows inputs table) rows) (replicate rows 0)) ≡ rows
    go true = tabulate_length (group_multiplicity 𝔾 rows inputs table) rows
    go false = length-replicate rows 0

words_covered : (rows : ℕ) (inputs : List (ℕ → 𝔾.F)) (table : ℕ → 𝔾.F) → group_covered 𝔾 rows inputs table ≡ true
    → group_words rows inputs table ≡ tabulate (group_multiplicity 𝔾 rows inputs table) rows
unfolding group_words
words_covered rows inputs table e =
    ap (λ (t : Bool). cond t (tabulate (group_multiplicity 𝔾 rows inputs table) rows) (replicate rows 0)) e

-- the buffer d after j groups; the next group stands at word `input`, its counts are due at word `to`
pub record CountedUpto (d sizes : List ℕ) (at m rows : ℕ) (cur : List ℕ) (input to j : ℕ) : Type 0 where
  pub input_is : input ≡ group_at d at rows sizes j
  pub to_is : to ≡ m + j * rows
  pub size : length cur ≡ length d
  pub now : cur
      ≡ write_at d m (concat (tabulate (λ j. tabulate (group_multiplicity 𝔾 rows (group_inputs_from d at rows sizes j) (group_table_from d at rows sizes j)) rows) j))
  pub walked : Walked (λ j. group_covered 𝔾 rows (group_inputs_from d at rows sizes j) (group_table_from d at rows sizes j)) (λ i. i) (length sizes) j

module _ (d sizes : List ℕ) (at m rows : ℕ) where
  abbrev n : ℕ
  n = length sizes

  abbrev test : ℕ → Bool
  test j = group_covered 𝔾 rows (group_inputs_from d at rows sizes j) (group_table_from d at rows sizes j)

  abbrev count : ℕ → ℕ → ℕ
  count j = group_multiplicity 𝔾 rows (group_inputs_from d at rows sizes j) (group_table_from d at rows sizes j)

  abbrev counts : ℕ → List ℕ
  counts j = concat (tabulate (λ j. tabulate (count j) rows) j)

  pub counted_start : CountedUpto d sizes at m rows d at m 0
  unfolding tabulate concat
  counted_start =
      record {
        input_is = group_first at rows sizes;
        to_is = omega (arith, zero-mul rows);
        size = refl;
        now = sym (write_at_none d m);
        walked = walk_none test (λ i. i) n;
      }

  module _ (some : All (λ s. 0 < s) sizes) (before : at + total sizes * 2 * rows ≤ m) (room : m + n * rows ≤ length d) (cur : List ℕ)
      (input to j : ℕ) (inv : CountedUpto d sizes at m rows cur input to j) where
    pub counted_end : n ≤ j → CountsWritten d sizes at m rows true cur
    counted_end h =
        let e : j ≡ n = let w = inv.walked.upto in omega arith in
        let now : cur ≡ write_at d m (counts_from d at rows sizes) = inv.now ∙ ap (λ (i : ℕ). write_at d m (counts i)) e in
        let len = columns_length rows count n in
        record {
          is = walk_done test (λ i. i) n j inv.walked h;
          counts = λ _. now;
          front = ap (take m) now ∙ take_write_at d m (counts_from d at rows sizes) (omega arith);
          back = ap (drop (m + n * rows)) now ∙ drop_past d m (counts_from d at rows sizes) (m + n * rows) (omega arith) (omega arith);
        }

    module _ (l : j < n) where
      abbrev size : ℕ
      size = get_or sizes j 0

      -- what stands before the counts is as it was
      as_it_was : (i : ℕ) → i < m → get_or cur i 0 ≡ get_or d i 0
      as_it_was i h = ap (λ (x : List ℕ). get_or x i 0) inv.now ∙ write_at_before d m (counts j) i 0 (omega arith) h

      pub group_behind : input + size * 2 * rows ≤ m
      group_behind = omega (arith, inv.input_is, group_there at rows sizes j)

      pub counts_there : to + rows ≤ length d
      counts_there = omega (arith, inv.to_is, place_there n j rows l)

      pub counts_behind : m ≤ to
      counts_behind = omega (arith, inv.to_is)

      pub group_small : Small (total sizes * 2 * rows) (λ b. get_or d (at + b) 0) → Small (size * 2 * rows) (λ b. get_or cur (input + b) 0)
      group_small small b h =
          let w = group_behind in
          let e : input + b ≡ at + (total (take j sizes) * 2 * rows + b) = omega (arith, inv.input_is) in
          rw (as_it_was (input + b) (omega arith), e)
          (small (total (take j sizes) * 2 * rows + b) (omega (arith, group_there at rows sizes j)))

      -- the next group
      module _ (answer : Bool) (e : List ℕ)
          (given : (answer ≡ group_covered 𝔾 rows (inputs_from cur input rows size) (elements_from cur (input + rows)))
          × (e ≡ write_at cur to (group_words rows (inputs_from cur input rows size) (elements_from cur (input + rows))))) where
        answer_is : answer ≡ test j
        answer_is =
            given.0 ∙ kept_covered d cur input rows size m (all_get (λ s. 0 < s) sizes some j 0 l) group_behind as_it_was
            ∙ ap (λ (i : ℕ). group_covered 𝔾 rows (inputs_from d i rows size) (elements_from d (i + rows))) inv.input_is

        abbrev words : List ℕ
        words = group_words rows (inputs_from cur input rows size) (elements_from cur (input + rows))

        words_size : length words ≡ rows
        words_size = words_length rows (inputs_from cur input rows size) (elements_from cur (input + rows))

        pub counted_size : length e ≡ length d
        counted_size =
            ap length given.1
            ∙ length_write_at cur to words (let w = words_size in let t = counts_there in let s = inv.size in omega arith)
            ∙ inv.size

        pub counted_more : answer ≡ true → CountedUpto d sizes at m rows e (input + size * rows * 2) (to + rows) (j + 1)
        counted_more u =
            record {
              input_is = ap (λ (i : ℕ). i + size * rows * 2) inv.input_is ∙ group_next at rows sizes j l;
              to_is = omega (arith, inv.to_is, next_place j rows);
              size = counted_size;
              now =
                  column_next d m rows count j to inv.to_is (let w = counts_there in let t = inv.to_is in omega arith) cur e inv.now
                  (given.1
                  ∙ ap (write_at cur to)
                  (words_covered rows (inputs_from cur input rows size) (elements_from cur (input + rows)) (sym given.0 ∙ u)
                  ∙ tabulate_cong (group_multiplicity 𝔾 rows (inputs_from cur input rows size) (elements_from cur (input + rows))) (count j) rows
                  (λ b h.
                  kept_multiplicity d cur input rows size m (all_get (λ s. 0 < s) sizes some j 0 l) group_behind as_it_was b
                  ∙ ap (λ (i : ℕ). group_multiplicity 𝔾 rows (inputs_from d i rows size) (elements_from d (i + rows)) b) inv.input_is)));
              walked = walk_more test (λ i. i) n j inv.walked l (sym answer_is ∙ u);
            }

        pub counted_stop : answer ≡ false → CountsWritten d sizes at m rows false e
        counted_stop u =
            let run : List ℕ = counts j ++ words in
            let now : e ≡ write_at d m run =
            run_next d m rows count j to inv.to_is (let w = counts_there in let t = inv.to_is in omega arith) cur e inv.now words
            given.1 in
            let len : length run ≡ j * rows + rows = length-append (counts j) words ∙ ap₂ ◌+◌ (columns_length rows count j) words_size in
            record {
              is = walk_fails test (λ i. i) n j l (sym answer_is ∙ u);
              counts = λ f. false_true f;
              front = ap (take m) now ∙ take_write_at d m run (omega arith);
              back =
                  ap (drop (m + n * rows)) now
                  ∙ drop_past d m run (m + n * rows) (omega arith) (omega (arith, place_there n j rows l));
            }
