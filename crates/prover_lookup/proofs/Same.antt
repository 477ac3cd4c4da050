-- Counts, coverage, denominators and h depend on the first rows alone.
use mathlib.Core.Path.{◌≡◌, refl, sym, ap, ap₂, ◌∙◌}
use mathlib.Core.Bool.{Bool}
use mathlib.Core.List.{List, [], ◌∷◌, ◌++◌, map}
use mathlib.Core.Option.{Option}
use Prim.Native.Nat.{ℕ, ◌+◌, ◌*◌, ◌≤◌, ◌<◌}
use native.Mathlib.Nat.{zero-mul, suc-mul}
use native.Mathlib.Omega.{arith}
use lib.ListN.{length, get_or, take, drop}
use Rattle.field.specs.Algebra.{sum}
use Rattle.field.specs.Field.{𝔾, el, val}
use Rattle.lists.specs.Lists.{tabulate, range, concat, total, count_of, all_of, any_of, is_some, is_at, write_at}
use Rattle.lists.proofs.Columns.{tabulate_cong, map_tabulate, map_below, below_length}
use Rattle.lists.proofs.Searches.{count_le, count_map}
use Rattle.lists.proofs.Walks.{all_map, any_map}
use Rattle.prover.specs.Lookup.{same, last_equal, multiplicity, covered, group_multiplicity, group_covered, h_at, group_h_at}
use Rattle.prover.specs.Denominators.{some_zero, lookup_denominators, group_denominators}
use Rattle.prover.specs.Answers.{Outcome, outcome_words}
use Rattle.prover.specs.Words.{elements, elements_from}
use Rattle.prover.proofs.Groups.{one_zero, one_h}
use Rattle.prover.proofs.Search.{last_same}
use Rattle.prover_lookup.specs.Lookups.{inputs_from}
use Rattle.prover_lookup.proofs.Places.{pair_there, first_there}
use Rattle.prover_lookup.proofs.Split.{part, part_word, rest_written}

-- ---- tests that agree on the first numbers

pub all_agree : (p q : ℕ → Bool) (n : ℕ) → ((b : ℕ) → b < n → p b ≡ q b) → all_of p (range n) ≡ all_of q (range n)
all_agree p q n h =
    sym (all_map (λ (t : Bool). t) p (range n))
    ∙ ap (all_of (λ (t : Bool). t)) (map_below p n ∙ tabulate_cong p q n h ∙ sym (map_below q n))
    ∙ all_map (λ (t : Bool). t) q (range n)

pub any_agree : (p q : ℕ → Bool) (n : ℕ) → ((b : ℕ) → b < n → p b ≡ q b) → any_of p (range n) ≡ any_of q (range n)
any_agree p q n h =
    sym (any_map (λ (t : Bool). t) p (range n))
    ∙ ap (any_of (λ (t : Bool). t)) (map_below p n ∙ tabulate_cong p q n h ∙ sym (map_below q n))
    ∙ any_map (λ (t : Bool). t) q (range n)

count_agree : (p q : ℕ → Bool) (n : ℕ) → ((b : ℕ) → b < n → p b ≡ q b) → count_of p (range n) ≡ count_of q (range n)
count_agree p q n h =
    sym (count_map (λ (t : Bool). t) p (range n))
    ∙ ap (λ (ts : List Bool). count_of (λ (t : Bool). t) ts) (map_below p n ∙ tabulate_cong p q n h ∙ sym (map_below q n))
    ∙ count_map (λ (t : Bool). t) q (range n)

-- ---- columns that agree on the first rows

module _ (rows : ℕ) (input input' table table' : ℕ → 𝔾.F)
    (inputs : (b : ℕ) → b < rows → input b ≡ input' b)
    (tables : (b : ℕ) → b < rows → table b ≡ table' b) where
  row_agree : (b : ℕ) → b < rows → last_equal 𝔾 rows table (input b) ≡ last_equal 𝔾 rows table' (input' b)
  unfolding last_equal
  row_agree b l =
      last_same (λ r. same 𝔾 (table r) (input b)) (λ r. same 𝔾 (table' r) (input' b)) rows
      (λ r m. ap₂ (same 𝔾) (tables r m) (inputs b l))

  pub covered_same : covered 𝔾 rows input table ≡ covered 𝔾 rows input' table'
  unfolding covered
  covered_same =
      all_agree (λ b. is_some (last_equal 𝔾 rows table (input b))) (λ b. is_some (last_equal 𝔾 rows table' (input' b))) rows
      (λ b l. ap (λ (o : Option ℕ). is_some o) (row_agree b l))

  pub multiplicity_same : (j : ℕ) → multiplicity 𝔾 rows input table j ≡ multiplicity 𝔾 rows input' table' j
  unfolding multiplicity
  multiplicity_same j =
      count_agree (λ b. is_at j (last_equal 𝔾 rows table (input b))) (λ b. is_at j (last_equal 𝔾 rows table' (input' b))) rows
      (λ b l. ap (is_at j) (row_agree b l))

-- a count is at most the number of rows
pub multiplicity_le : (rows : ℕ) (input table : ℕ → 𝔾.F) (j : ℕ) → multiplicity 𝔾 rows input table j ≤ rows
unfolding multiplicity
multiplicity_le rows input table j =
    omega (arith, count_le (λ b. is_at j (last_equal 𝔾 rows table (input b))) (range rows), below_length rows)

pub group_multiplicity_le : (rows : ℕ) (inputs : List (ℕ → 𝔾.F)) (table : ℕ → 𝔾.F) (j : ℕ)
    → group_multiplicity 𝔾 rows inputs table j ≤ length inputs * rows
unfolding group_multiplicity total
group_multiplicity_le rows [] table j = omega (arith, zero-mul rows)
group_multiplicity_le rows (input ∷ inputs) table j =
    let r : total (map (λ x. multiplicity 𝔾 rows x table j) inputs) ≤ length inputs * rows = group_multiplicity_le rows inputs table j in
    omega (arith, multiplicity_le rows input table j, suc-mul (length inputs) rows)

-- ---- groups whose columns agree on the first rows

module _ (input input' : ℕ → ℕ → 𝔾.F) (s : ℕ) where
  inputs_agree : {B : Type 0} (f g : (ℕ → 𝔾.F) → B) → ((i : ℕ) → i < s → f (input i) ≡ g (input' i))
      → map f (tabulate input s) ≡ map g (tabulate input' s)
  inputs_agree f g h =
      map_tabulate f input s ∙ tabulate_cong (λ i. f (input i)) (λ i. g (input' i)) s h ∙ sym (map_tabulate g input' s)

  module _ (rows : ℕ) (table table' : ℕ → 𝔾.F) (inputs : (i : ℕ) → i < s → (b : ℕ) → b < rows → input i b ≡ input' i b)
      (tables : (b : ℕ) → b < rows → table b ≡ table' b) where
    pub group_covered_same : group_covered 𝔾 rows (tabulate input s) table ≡ group_covered 𝔾 rows (tabulate input' s) table'
    unfolding group_covered
    group_covered_same =
        sym (all_map (λ (t : Bool). t) (λ x. covered 𝔾 rows x table) (tabulate input s))
        ∙ ap (all_of (λ (t : Bool). t))
        (inputs_agree (λ x. covered 𝔾 rows x table) (λ x. covered 𝔾 rows x table')
        (λ i l. covered_same rows (input i) (input' i) table table' (inputs i l) tables))
        ∙ all_map (λ (t : Bool). t) (λ x. covered 𝔾 rows x table') (tabulate input' s)

    pub group_multiplicity_same : (j : ℕ)
        → group_multiplicity 𝔾 rows (tabulate input s) table j ≡ group_multiplicity 𝔾 rows (tabulate input' s) table' j
    unfolding group_multiplicity
    group_multiplicity_same j =
        ap total
        (inputs_agree (λ x. multiplicity 𝔾 rows x table j) (λ x. multiplicity 𝔾 rows x table' j)
        (λ i l. multiplicity_same rows (input i) (input' i) table table' (inputs i l) tables j))

    pub group_denominators_same : (γ : 𝔾.F)
        → group_denominators 𝔾 rows γ (tabulate input s) table ≡ group_denominators 𝔾 rows γ (tabulate input' s) table'
    unfolding group_denominators
    group_denominators_same γ =
        ap₂ ◌++◌
        (ap concat
        (inputs_agree (λ x. tabulate (λ b. 𝔾.add γ (x b)) rows) (λ x. tabulate (λ b. 𝔾.add γ (x b)) rows)
        (λ i l. tabulate_cong (λ b. 𝔾.add γ (input i b)) (λ b. 𝔾.add γ (input' i b)) rows (λ b h. ap (𝔾.add γ) (inputs i l b h)))))
        (tabulate_cong (λ b. 𝔾.add γ (table b)) (λ b. 𝔾.add γ (table' b)) rows (λ b l. ap (𝔾.add γ) (tables b l)))

  -- at one row
  module _ (b : ℕ) (table table' : ℕ → 𝔾.F) (inputs : (i : ℕ) → i < s → input i b ≡ input' i b) (tables : table b ≡ table' b)
      (γ : 𝔾.F) where
    pub group_h_agree : (m m' : ℕ → 𝔾.F) → m b ≡ m' b
        → group_h_at 𝔾 γ (tabulate input s) table m b ≡ group_h_at 𝔾 γ (tabulate input' s) table' m' b
    unfolding group_h_at
    group_h_agree m m' e =
        ap₂ (λ (x y : 𝔾.F). 𝔾.add x (𝔾.neg y))
        (ap (sum 𝔾)
        (inputs_agree (λ x. 𝔾.inv (𝔾.add γ (x b))) (λ x. 𝔾.inv (𝔾.add γ (x b))) (λ i l. ap (λ (x : 𝔾.F). 𝔾.inv (𝔾.add γ x)) (inputs i l))))
        (ap₂ (λ (u v : 𝔾.F). 𝔾.mul u (𝔾.inv (𝔾.add γ v))) e tables)

-- ---- a group of one lookup, whose input is the column of its own
module _ (input : List ℕ) (rows : ℕ) (table : ℕ → 𝔾.F) (γ : 𝔾.F) where
  one_input : (i : ℕ) → i < 1 → (b : ℕ) → b < rows → elements_from input (0 + i * 2 * rows) b ≡ elements input b
  one_input i l b h =
      let e : i ≡ 0 = omega arith in
      ap (λ (k : ℕ). el (get_or input k 0)) (let w = ap (λ (n : ℕ). n * 2 * rows) e in omega (arith, zero-mul rows))

  pub one_zero_in : some_zero 𝔾 (group_denominators 𝔾 rows γ (inputs_from input 0 rows 1) table)
      ≡ some_zero 𝔾 (lookup_denominators 𝔾 rows γ (elements input) table)
  unfolding tabulate
  one_zero_in =
      ap (some_zero 𝔾)
      (group_denominators_same (λ i. elements_from input (0 + i * 2 * rows)) (λ _. elements input) 1 rows table table one_input (λ _ _. refl) γ)
      ∙ one_zero 𝔾 (elements input) table rows γ

  pub one_h_in : (m : ℕ → 𝔾.F) (b : ℕ) → b < rows
      → group_h_at 𝔾 γ (inputs_from input 0 rows 1) table m b ≡ h_at 𝔾 γ (elements input) table m b
  unfolding tabulate
  one_h_in m b l =
      group_h_agree (λ i. elements_from input (0 + i * 2 * rows)) (λ _. elements input) 1 b table table (λ i h. one_input i h b l) refl γ m m refl
      ∙ one_h 𝔾 (elements input) table γ m b

-- ---- buffers that agree before word h, behind a group

module _ (d e : List ℕ) (at rows s h : ℕ) (some : 0 < s) (before : at + s * 2 * rows ≤ h)
    (kept : (j : ℕ) → j < h → get_or e j 0 ≡ get_or d j 0) where
  kept_input : (i : ℕ) → i < s → (b : ℕ) → b < rows → elements_from e (at + i * 2 * rows) b ≡ elements_from d (at + i * 2 * rows) b
  kept_input i l b h = ap el (kept (at + i * 2 * rows + b) (omega (arith, pair_there s i rows l)))

  kept_table : (b : ℕ) → b < rows → elements_from e (at + rows) b ≡ elements_from d (at + rows) b
  kept_table b h = ap el (kept (at + rows + b) (omega (arith, first_there s rows some)))

  pub kept_covered : group_covered 𝔾 rows (inputs_from e at rows s) (elements_from e (at + rows))
      ≡ group_covered 𝔾 rows (inputs_from d at rows s) (elements_from d (at + rows))
  kept_covered =
      group_covered_same (λ i. elements_from e (at + i * 2 * rows)) (λ i. elements_from d (at + i * 2 * rows)) s rows
      (elements_from e (at + rows)) (elements_from d (at + rows)) kept_input kept_table

  pub kept_multiplicity : (j : ℕ)
      → group_multiplicity 𝔾 rows (inputs_from e at rows s) (elements_from e (at + rows)) j
      ≡ group_multiplicity 𝔾 rows (inputs_from d at rows s) (elements_from d (at + rows)) j
  kept_multiplicity j =
      group_multiplicity_same (λ i. elements_from e (at + i * 2 * rows)) (λ i. elements_from d (at + i * 2 * rows)) s rows
      (elements_from e (at + rows)) (elements_from d (at + rows)) kept_input kept_table j

  module _ (γ : 𝔾.F) where
    pub kept_denominators : group_denominators 𝔾 rows γ (inputs_from e at rows s) (elements_from e (at + rows))
        ≡ group_denominators 𝔾 rows γ (inputs_from d at rows s) (elements_from d (at + rows))
    kept_denominators =
        group_denominators_same (λ i. elements_from e (at + i * 2 * rows)) (λ i. elements_from d (at + i * 2 * rows)) s rows
        (elements_from e (at + rows)) (elements_from d (at + rows)) kept_input kept_table γ

    module _ (b : ℕ) (l : b < rows) where
      pub kept_h : (m : ℕ) → m + rows ≤ h
          → group_h_at 𝔾 γ (inputs_from e at rows s) (elements_from e (at + rows)) (elements_from e m) b
          ≡ group_h_at 𝔾 γ (inputs_from d at rows s) (elements_from d (at + rows)) (elements_from d m) b
      kept_h m r =
          group_h_agree (λ i. elements_from e (at + i * 2 * rows)) (λ i. elements_from d (at + i * 2 * rows)) s b
          (elements_from e (at + rows)) (elements_from d (at + rows)) (λ i h. kept_input i h b l) (kept_table b l) γ
          (elements_from e m) (elements_from d m) (ap el (kept (m + b) (omega arith)))

-- ---- a group in the first part of a buffer that is split before word h
module _ (d given : List ℕ) (h at rows s : ℕ) (room : h + rows ≤ length d) (front : given ≡ take h d) (some : 0 < s)
    (before : at + s * 2 * rows ≤ h) (γ : 𝔾.F) where
  abbrev there : h ≤ length d
  there = omega arith

  abbrev columns : ℕ → List ℕ
  columns k = part d given h there front k

  split_input : (i : ℕ) → i < s → (b : ℕ) → b < rows → elements_from (columns at) (0 + i * 2 * rows) b ≡ elements_from d (at + i * 2 * rows) b
  split_input i l b m =
      ap el
      (part_word d given h there front at (0 + i * 2 * rows + b) (omega (arith, pair_there s i rows l))
      ∙ ap (λ (k : ℕ). get_or d k 0) (let e : at + (0 + i * 2 * rows + b) ≡ at + i * 2 * rows + b = omega arith in e))

  split_table : (b : ℕ) → b < rows → elements (columns (at + rows)) b ≡ elements_from d (at + rows) b
  split_table b l = ap el (part_word d given h there front (at + rows) b (omega (arith, first_there s rows some)))

  pub split_zero : some_zero 𝔾 (group_denominators 𝔾 rows γ (inputs_from (columns at) 0 rows s) (elements (columns (at + rows))))
      ≡ some_zero 𝔾 (group_denominators 𝔾 rows γ (inputs_from d at rows s) (elements_from d (at + rows)))
  split_zero =
      ap (some_zero 𝔾)
      (group_denominators_same (λ i. elements_from (columns at) (0 + i * 2 * rows)) (λ i. elements_from d (at + i * 2 * rows)) s rows
      (elements (columns (at + rows))) (elements_from d (at + rows)) split_input split_table γ)

  split_h : (m : ℕ) → m + rows ≤ h → (b : ℕ) → b < rows
      → group_h_at 𝔾 γ (inputs_from (columns at) 0 rows s) (elements (columns (at + rows))) (elements (columns m)) b
      ≡ group_h_at 𝔾 γ (inputs_from d at rows s) (elements_from d (at + rows)) (elements_from d m) b
  split_h m r b l =
      group_h_agree (λ i. elements_from (columns at) (0 + i * 2 * rows)) (λ i. elements_from d (at + i * 2 * rows)) s b
      (elements (columns (at + rows))) (elements_from d (at + rows)) (λ i k. split_input i k b l) (split_table b l) γ
      (elements (columns m)) (elements_from d m) (ap el (part_word d given h there front m b (omega arith)))

  -- the column written behind the first part
  pub split_written : (m : ℕ) → m + rows ≤ h → (rest e : List ℕ) → rest ≡ drop h d → (answer : Outcome)
      → e ≡ write_at rest 0 (outcome_words answer (tabulate (λ b. val (group_h_at 𝔾 γ (inputs_from (columns at) 0 rows s) (elements (columns (at + rows))) (elements (columns m)) b)) rows))
      → given ++ e ≡ write_at d h (outcome_words answer (tabulate (λ b. val (group_h_at 𝔾 γ (inputs_from d at rows s) (elements_from d (at + rows)) (elements_from d m) b)) rows))
  split_written m r rest e back answer put =
      let f : ℕ → ℕ = λ b. val (group_h_at 𝔾 γ (inputs_from (columns at) 0 rows s) (elements (columns (at + rows))) (elements (columns m)) b) in
      let g : ℕ → ℕ = λ b. val (group_h_at 𝔾 γ (inputs_from d at rows s) (elements_from d (at + rows)) (elements_from d m) b) in
      rest_written d given h there front e (outcome_words answer (tabulate f rows)) (put ∙ ap (λ (x : List ℕ). write_at x 0 (outcome_words answer (tabulate f rows))) back)
      ∙ ap (λ (ws : List ℕ). write_at d h (outcome_words answer ws)) (tabulate_cong f g rows (λ b l. ap val (split_h m r b l)))
