-- The counts of the first members of a group, in a column `base` of its own; the group's columns stand in the buffer d.
use mathlib.Core.Path.{◌≡◌, sym, ap, ap₂, ◌∙◌}
use mathlib.Core.Bool.{Bool, true, false, cond}
use mathlib.Core.List.{List, ◌++◌}
use Prim.Native.Nat.{ℕ, ◌+◌, ◌*◌, ◌≤◌, ◌<◌}
use native.Mathlib.Nat.{zero-add, mul_assoc, mul-le-mul_right}
use native.Mathlib.Omega.{arith}
use lib.ListN.{length, get_or, take, drop, replicate, length-drop, length-replicate}
use Rattle.field.specs.Field.{𝔾, el}
use Rattle.lists.specs.Lists.{tabulate, total, write_at}
use Rattle.lists.proofs.Columns.{tabulate_length, get_tabulate, tabulate_cong, tabulate_replicate, map_tabulate}
use Rattle.lists.proofs.Over.{write_at_inside, write_at_again}
use Rattle.lists.proofs.Walks.{Walked, walk_none, walk_more, walk_done, walk_fails, total_next}
use Rattle.prover.specs.Lookup.{multiplicity, covered, group_multiplicity, group_covered}
use Rattle.prover.specs.Words.{elements, elements_from, Small}
use Rattle.prover_lookup.specs.Lookups.{inputs_from, Room, added_words, group_words}
use Rattle.prover_lookup.proofs.Places.{pair_there, first_there}
use Rattle.prover_lookup.proofs.Split.{part, part_length, part_word, rest_written}
use Rattle.prover_lookup.proofs.Same.{covered_same, multiplicity_same, group_multiplicity_le}

-- a member of a group, in the first part of the buffer
module _ (d given : List ℕ) (m at members rows : ℕ) (room : m + rows ≤ length d) (front : given ≡ take m d)
    (before : at + members * 2 * rows ≤ m) (i : ℕ) (l : i < members) where
  abbrev there : m ≤ length d
  there = omega arith

  abbrev pub from : ℕ
  from = at + i * (2 * rows)

  from_is : from ≡ at + i * 2 * rows
  from_is = ap (λ (n : ℕ). at + n) (sym (mul_assoc i 2 rows))

  input_there : from + rows + rows ≤ m
  input_there = omega (arith, from_is, pair_there members i rows l)

  table_there : at + rows + rows ≤ m
  table_there = omega (arith, first_there members rows (omega arith))

  pub input_is : (b : ℕ) → b < rows → elements (part d given m there front from) b ≡ elements_from d (at + i * 2 * rows) b
  input_is b h =
      let w = input_there in
      ap el (part_word d given m there front from b (omega arith) ∙ ap (λ (k : ℕ). get_or d (k + b) 0) from_is)

  pub table_is : (b : ℕ) → b < rows → elements (part d given m there front (at + rows)) b ≡ elements_from d (at + rows) b
  table_is b h = let w = table_there in ap el (part_word d given m there front (at + rows) b (omega arith))

  -- what the count of its inputs asks for
  pub asked : Small (members * 2 * rows) (λ b. get_or d (at + b) 0) → (counts : List ℕ) → length counts + m ≡ length d
      → Room rows (λ b. get_or counts b 0)
      → (rows ≤ length (part d given m there front from)) × (rows ≤ length (part d given m there front (at + rows)))
      × (rows ≤ length counts) × Small rows (λ b. get_or (part d given m there front from) b 0)
      × Small rows (λ b. get_or (part d given m there front (at + rows)) b 0)
      × Room rows (λ b. get_or counts b 0)
  asked small counts long free =
      let w = input_there in
      let t = table_there in (
        omega (arith, part_length d given m there front from (omega arith)),
        omega (arith, part_length d given m there front (at + rows) (omega arith)),
        omega arith,
        λ b h.
            let e : from + b ≡ at + (i * 2 * rows + b) = omega (arith, from_is) in
            rw (part_word d given m there front from b (omega arith), e)
            (small (i * 2 * rows + b) (omega (arith, pair_there members i rows l))),
        λ b h.
            let e : at + rows + b ≡ at + (rows + b) = omega arith in
            rw (part_word d given m there front (at + rows) b (omega arith), e)
            (small (rows + b) (omega (arith, first_there members rows (omega arith)))),
        free,
      )

-- the column when the first i members of a group are counted
pub record GroupCounted (d : List ℕ) (m at members rows : ℕ) (cur : List ℕ) (i : ℕ) : Type 0 where
  pub now : cur ≡ write_at (drop m d) 0 (tabulate (group_multiplicity 𝔾 rows (inputs_from d at rows i) (elements_from d (at + rows))) rows)
  pub walked : Walked (λ x. covered 𝔾 rows x (elements_from d (at + rows))) (λ i. elements_from d (at + i * 2 * rows)) members i

module _ (d : List ℕ) (m at members rows : ℕ) (room : m + rows ≤ length d) where
  room_behind : rows ≤ length (drop m d)
  room_behind = omega (arith, length-drop m d)

  abbrev input : ℕ → ℕ → 𝔾.F
  input i = elements_from d (at + i * 2 * rows)

  abbrev table : ℕ → 𝔾.F
  table = elements_from d (at + rows)

  abbrev test : (ℕ → 𝔾.F) → Bool
  test x = covered 𝔾 rows x table

  abbrev count : ℕ → ℕ → ℕ
  count i j = group_multiplicity 𝔾 rows (tabulate input i) table j

  count_none : (j : ℕ) → count 0 j ≡ 0
  unfolding group_multiplicity tabulate total
  count_none j = ap total (map_tabulate (λ x. multiplicity 𝔾 rows x table j) input 0)

  count_more : (i j : ℕ) → count (i + 1) j ≡ count i j + multiplicity 𝔾 rows (input i) table j
  unfolding group_multiplicity
  count_more i j =
      ap total (map_tabulate (λ x. multiplicity 𝔾 rows x table j) input (i + 1))
      ∙ total_next (λ i. multiplicity 𝔾 rows (input i) table j) i
      ∙ ap (λ (n : ℕ). n + multiplicity 𝔾 rows (input i) table j) (sym (ap total (map_tabulate (λ x. multiplicity 𝔾 rows x table j) input i)))

  count_le : (i j : ℕ) → count i j ≤ i * rows
  count_le i j =
      let e : length (tabulate input i) * rows ≡ i * rows = ap (λ (k : ℕ). k * rows) (tabulate_length input i) in
      omega (arith, group_multiplicity_le rows (tabulate input i) table j)

  pub group_start : (cur : List ℕ) → cur ≡ write_at (drop m d) 0 (replicate rows 0) → GroupCounted d m at members rows cur 0
  group_start cur e =
      record {
        now =
            e
            ∙ ap (write_at (drop m d) 0)
            (sym (tabulate_replicate 0 rows) ∙ tabulate_cong (λ j. 0) (count 0) rows (λ j l. sym (count_none j)));
        walked = walk_none test input members;
      }

  module _ (given : List ℕ) (front : given ≡ take m d) (cur : List ℕ) (i : ℕ) (inv : GroupCounted d m at members rows cur i) where
    -- the buffer with the column behind its first part
    joined : (e s : List ℕ) → e ≡ write_at (drop m d) 0 s → given ++ e ≡ write_at d m s
    joined e s put = rest_written d given m (omega arith) front e s put

    pub group_done : members ≤ i
        → (true ≡ group_covered 𝔾 rows (inputs_from d at rows members) table)
        × (given ++ cur ≡ write_at d m (group_words rows (inputs_from d at rows members) table))
    unfolding group_covered group_words
    group_done l =
        let e : i ≡ members = omega (arith, inv.walked.upto) in
        let t : true ≡ group_covered 𝔾 rows (inputs_from d at rows members) table = walk_done test input members i inv.walked l in (
          t,
          joined cur (tabulate (count i) rows) inv.now ∙ ap (λ (n : ℕ). write_at d m (tabulate (count n) rows)) e
              ∙ ap (λ (t : Bool). write_at d m (cond t (tabulate (count members) rows) (replicate rows 0))) t,
        )

    word_is : (b : ℕ) → b < rows → get_or cur b 0 ≡ count i b
    word_is b l =
        ap₂ (λ (x : List ℕ) (p : ℕ). get_or x p 0) inv.now (sym (zero-add b))
        ∙ write_at_inside (drop m d) 0 (tabulate (count i) rows) b 0 (omega arith) (let r = room_behind in let n = tabulate_length (count i) rows in omega arith)
        ∙ get_tabulate (count i) rows b 0 l

    pub member_room : i < members → members * 2 * rows < 18446744073709551616 → Room rows (λ b. get_or cur b 0)
    member_room l fits b h =
        let w : i * rows ≤ i * 2 * rows = mul-le-mul_right rows (omega arith) in
        omega (arith, word_is b h, count_le i b, pair_there members i rows l)

    -- a column written over the counts
    over : (s e : List ℕ) → length s ≡ rows → e ≡ write_at cur 0 s → e ≡ write_at (drop m d) 0 s
    over s e l put =
        let r = room_behind in
        let n = tabulate_length (count i) rows in
        put ∙ ap (λ (x : List ℕ). write_at x 0 s) inv.now ∙ write_at_again (drop m d) 0 (tabulate (count i) rows) s (omega arith) (n ∙ sym l)

    -- the next member, whose input and table are the columns x and t
    module _ (l : i < members) (x t : ℕ → 𝔾.F) (x_is : (b : ℕ) → b < rows → x b ≡ input i b) (t_is : (b : ℕ) → b < rows → t b ≡ table b)
        (answer : Bool) (e : List ℕ) (told : (answer ≡ covered 𝔾 rows x t) × (e ≡ write_at cur 0 (added_words cur rows x t))) where
      answer_is : answer ≡ test (input i)
      answer_is = told.0 ∙ covered_same rows x (input i) t table x_is t_is

      -- the words, by the answer
      words_are : (u : Bool) → answer ≡ u
          → e ≡ write_at cur 0 (cond u (tabulate (λ j. get_or cur j 0 + multiplicity 𝔾 rows x t j) rows) (replicate rows 0))
      unfolding added_words
      words_are u v =
          told.1
          ∙ ap (λ (t' : Bool). write_at cur 0 (cond t' (tabulate (λ j. get_or cur j 0 + multiplicity 𝔾 rows x t j) rows) (replicate rows 0)))
          (sym told.0 ∙ v)

      pub group_more : answer ≡ true → GroupCounted d m at members rows e (i + 1)
      group_more u =
          record {
            now =
                over (tabulate (count (i + 1)) rows) e (tabulate_length (count (i + 1)) rows)
                (words_are true u
                ∙ ap (write_at cur 0)
                (tabulate_cong (λ j. get_or cur j 0 + multiplicity 𝔾 rows x t j) (count (i + 1)) rows
                (λ j h.
                ap₂ ◌+◌ (word_is j h) (multiplicity_same rows x (input i) t table x_is t_is j) ∙ sym (count_more i j))));
            walked = walk_more test input members i inv.walked l (sym answer_is ∙ u);
          }

      pub group_stop : answer ≡ false
          → (false ≡ group_covered 𝔾 rows (inputs_from d at rows members) table)
          × (given ++ e ≡ write_at d m (group_words rows (inputs_from d at rows members) table))
      unfolding group_covered group_words
      group_stop u =
          let t : false ≡ group_covered 𝔾 rows (inputs_from d at rows members) table = walk_fails test input members i l (sym answer_is ∙ u) in (
            t,
            joined e (replicate rows 0) (over (replicate rows 0) e (length-replicate rows 0) (words_are false u))
                ∙ ap (λ (t : Bool). write_at d m (cond t (tabulate (count members) rows) (replicate rows 0))) t,
          )
