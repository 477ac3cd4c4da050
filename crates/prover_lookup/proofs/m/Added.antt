-- The counts of one input, added to the words of a column. `found` says for each input the table row that it is counted at, or none.
use mathlib.Core.Path.{◌≡◌, refl, sym, ap, ap₂, ◌∙◌}
use mathlib.Core.Logic.{◌≢◌}
use mathlib.Core.Bool.{Bool, true, false, cond}
use mathlib.Core.List.{List}
use mathlib.Core.Option.{Option, none, some}
use Prim.Native.Nat.{ℕ, ◌+◌, ◌≤◌, ◌<◌}
use native.Mathlib.Nat.{zero-add, add-zero}
use native.Mathlib.Numerals.{add-one}
use native.Mathlib.Omega.{arith}
use lib.ListN.{length, get_or, set, replicate, length-replicate}
use borrow.Author.Tests.{eq-eqb, ne_eqb}
use Rattle.field.specs.Field.{𝔾}
use Rattle.lists.specs.Lists.{tabulate, range, filter, is_some, is_at, count_of, write_at}
use Rattle.lists.proofs.Columns.{tabulate_length, get_tabulate, tabulate_cong, tabulate_replicate, below_length}
use Rattle.lists.proofs.Once.{count_next}
use Rattle.lists.proofs.Searches.{count_le}
use Rattle.lists.proofs.Over.{write_at_inside, write_at_again}
use Rattle.lists.proofs.Sets.{write_at_tabulate_set, write_at_self}
use Rattle.lists.proofs.Walks.{Walked, walk_none, walk_more, walk_done, walk_fails}
use Rattle.prover.specs.Lookup.{last_equal, multiplicity, covered}
use Rattle.prover.specs.Words.{count_words}
use Rattle.prover_lookup.specs.Lookups.{added_words}

-- the row that an input is counted at
abbrev pub row_for : ℕ → (ℕ → 𝔾.F) → (ℕ → 𝔾.F) → ℕ → Option ℕ
row_for rows input table b = last_equal 𝔾 rows table (input b)

module _ (found : ℕ → Option ℕ) where
  -- the inputs below i that are counted at row j
  abbrev tally : ℕ → ℕ → ℕ
  tally i j = count_of (λ b. is_at j (found b)) (range i)

  tally_none : (j : ℕ) → tally 0 j ≡ 0
  unfolding tabulate filter
  tally_none j = refl

  tally_le : (i j : ℕ) → tally i j ≤ i
  tally_le i j = omega (arith, count_le (λ b. is_at j (found b)) (range i), below_length i)

  tally_more : (i j : ℕ) → tally (i + 1) j ≡ tally i j + cond (is_at j (found i)) 1 0
  tally_more i j = ap (λ (n : ℕ). tally n j) (add-one i) ∙ count_next (λ b. is_at j (found b)) (λ b. b) i

  -- one more input, counted at row a
  tally_at : (i a : ℕ) → found i ≡ some a → tally (i + 1) a ≡ tally i a + 1
  tally_at i a f = tally_more i a ∙ ap (λ (t : Bool). tally i a + cond t 1 0) (ap (is_at a) f ∙ eq-eqb a a refl)

  tally_off : (i a : ℕ) → found i ≡ some a → (j : ℕ) → j ≢ a → tally i j ≡ tally (i + 1) j
  tally_off i a f j n =
      sym (add-zero (tally i j))
      ∙ sym (tally_more i j ∙ ap (λ (t : Bool). tally i j + cond t 1 0) (ap (is_at j) f ∙ ne_eqb a j (λ e. n (sym e))))

-- the words of d with the inputs below i counted
abbrev added : (ℕ → Option ℕ) → List ℕ → ℕ → ℕ → ℕ
added found d i j = get_or d j 0 + tally found i j

pub record Added (rows : ℕ) (found : ℕ → Option ℕ) (d m : List ℕ) (i : ℕ) : Type 0 where
  pub now : m ≡ write_at d 0 (tabulate (added found d i) rows)
  pub walked : Walked (λ b. is_some (found b)) (λ b. b) rows i

module _ (rows : ℕ) (found : ℕ → Option ℕ) (d : List ℕ) (room : rows ≤ length d) where
  pub added_start : Added rows found d d 0
  added_start =
      record {
        now =
            sym (write_at_self d 0 rows (omega arith))
            ∙ ap (write_at d 0)
            (tabulate_cong (λ j. get_or d (0 + j) 0) (added found d 0) rows
            (λ j l. ap (λ (i : ℕ). get_or d i 0) (zero-add j) ∙ sym (ap (λ (n : ℕ). get_or d j 0 + n) (tally_none found j) ∙ add-zero (get_or d j 0))));
        walked = walk_none (λ b. is_some (found b)) (λ b. b) rows;
      }

  module _ (m : List ℕ) (i : ℕ) (inv : Added rows found d m i) where
    added_word : (a : ℕ) → a < rows → get_or m a 0 ≡ added found d i a
    added_word a l =
        ap₂ (λ (x : List ℕ) (p : ℕ). get_or x p 0) inv.now (sym (zero-add a))
        ∙ write_at_inside d 0 (tabulate (added found d i) rows) a 0 (omega arith)
        (let q = tabulate_length (added found d i) rows in omega arith)
        ∙ get_tabulate (added found d i) rows a 0 l

    pub added_le : (a : ℕ) → a < rows → get_or m a 0 ≤ get_or d a 0 + i
    added_le a l = omega (arith, added_word a l, tally_le found i a)

    -- one input more, counted at row a
    pub added_more : (a : ℕ) → a < rows → i < rows → found i ≡ some a → Added rows found d (set m a (get_or m a 0 + 1)) (i + 1)
    added_more a l h f =
        record {
          now =
              ap₂ (λ (x : List ℕ) (w : ℕ). set x a w) inv.now
              (let w = added_word a l in let t = tally_at found i a f in
              let e : get_or m a 0 + 1 ≡ added found d (i + 1) a = omega arith in e)
              ∙ ap (λ (p : ℕ). set (write_at d 0 (tabulate (added found d i) rows)) p (added found d (i + 1) a)) (sym (zero-add a))
              ∙ write_at_tabulate_set d 0 (added found d i) (added found d (i + 1)) rows a (omega arith) l
              (λ j _ n. ap (λ (t : ℕ). get_or d j 0 + t) (tally_off found i a f j n));
          walked = walk_more (λ b. is_some (found b)) (λ b. b) rows i inv.walked h (ap (λ o. is_some o) f);
        }

    -- the words cleared
    pub added_cleared : (n : List ℕ) → n ≡ write_at m 0 (replicate rows 0) → n ≡ write_at d 0 (replicate rows 0)
    added_cleared n e =
        e ∙ ap (λ (x : List ℕ). write_at x 0 (replicate rows 0)) inv.now
        ∙ write_at_again d 0 (tabulate (added found d i) rows) (replicate rows 0)
        (let q = tabulate_length (added found d i) rows in omega arith)
        (tabulate_length (added found d i) rows ∙ sym (length-replicate rows 0))

-- ---- the answers

module _ (rows : ℕ) (input table : ℕ → 𝔾.F) (d : List ℕ) where
  pub added_true : (m : List ℕ) (i : ℕ) → Added rows (row_for rows input table) d m i → rows ≤ i
      → (true ≡ covered 𝔾 rows input table) × (m ≡ write_at d 0 (added_words d rows input table))
  unfolding covered added_words multiplicity
  added_true m i inv l =
      let e : i ≡ rows = omega (arith, inv.walked.upto) in
      let t : true ≡ covered 𝔾 rows input table = walk_done (λ b. is_some (row_for rows input table b)) (λ b. b) rows i inv.walked l in (
        t,
        inv.now ∙ ap (λ (n : ℕ). write_at d 0 (tabulate (added (row_for rows input table) d n) rows)) e
            ∙ ap (λ (t : Bool). write_at d 0 (cond t (tabulate (added (row_for rows input table) d rows) rows) (replicate rows 0))) t,
      )

  pub added_false : (m : List ℕ) (i : ℕ) → i < rows → row_for rows input table i ≡ none → m ≡ write_at d 0 (replicate rows 0)
      → (false ≡ covered 𝔾 rows input table) × (m ≡ write_at d 0 (added_words d rows input table))
  unfolding covered added_words multiplicity
  added_false m i l f e =
      let t : false ≡ covered 𝔾 rows input table = walk_fails (λ b. is_some (row_for rows input table b)) (λ b. b) rows i l (ap (λ o. is_some o) f) in (
        t,
        e ∙ ap (λ (t : Bool). write_at d 0 (cond t (tabulate (added (row_for rows input table) d rows) rows) (replicate rows 0))) t,
      )

  -- added to zeros, they are the counts
  module _ (room : rows ≤ length d) (z : List ℕ) (zeros : z ≡ write_at d 0 (replicate rows 0)) where
    pub zero_word : (b : ℕ) → b < rows → get_or z b 0 ≡ 0
    zero_word b l =
        ap₂ (λ (x : List ℕ) (p : ℕ). get_or x p 0) (zeros ∙ ap (write_at d 0) (sym (tabulate_replicate 0 rows))) (sym (zero-add b))
        ∙ write_at_inside d 0 (tabulate (λ _. 0) rows) b 0 (omega arith)
        (let q : length (tabulate {A = ℕ} (λ _. 0) rows) ≡ rows = tabulate_length (λ _. 0) rows in omega arith)
        ∙ get_tabulate (λ _. 0) rows b 0 l

    pub added_to_zeros : (m : List ℕ) → m ≡ write_at z 0 (added_words z rows input table) → m ≡ write_at d 0 (count_words rows input table)
    unfolding added_words count_words
    added_to_zeros m e =
        e
        ∙ ap₂ (λ (x y : List ℕ). write_at x 0 (cond (covered 𝔾 rows input table) y (replicate rows 0))) zeros
        (tabulate_cong (λ j. get_or z j 0 + multiplicity 𝔾 rows input table j) (multiplicity 𝔾 rows input table) rows
        (λ j l. omega (arith, zero_word j l)))
        ∙ write_at_again d 0 (replicate rows 0) (count_words rows input table) (let q : length (replicate {A = ℕ} rows 0) ≡ rows = length-replicate rows 0 in omega arith)
        (length-replicate rows 0 ∙ sym (long (covered 𝔾 rows input table)))
      where
        long : (t : Bool) → length (cond t (tabulate (multiplicity 𝔾 rows input table) rows) (replicate rows 0)) ≡ rows
        long true = tabulate_length (multiplicity 𝔾 rows input table) rows
        long false = length-replicate rows 0
