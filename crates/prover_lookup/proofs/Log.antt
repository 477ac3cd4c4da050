-- A log's count and h columns and its questions 15 and, of the groups, 17, from a buffer that holds the words of its compressed columns
-- from word `at` on, and the sizes of its groups.
use mathlib.Core.Path.{◌≡◌, refl, sym, ap, ◌∙◌}
use mathlib.Core.Bool.{Bool}
use mathlib.Core.List.{List, [], ◌∷◌, map}
use Prim.Native.Nat.{ℕ, zero, suc, ◌+◌, ◌-◌, ◌*◌, ◌≤◌, ◌<◌, min}
use native.Mathlib.Nat.{add-zero, not-suc-le-zero, mul-le-mul_right}
use native.Mathlib.Omega.{arith}
use lib.ListN.{length, get_or, take, drop, length-map, length-take, length-drop}
use lib.Seq.{get_or-take, get_or-drop}
use Rattle.field.specs.Prime.{P}
use Rattle.field.specs.Field.{𝔾, el, val, P_pos, el_val, val_el}
use Rattle.lists.specs.Lists.{tabulate, range, concat, split, total, All, all_of, any_of}
use Rattle.lists.proofs.All.{all_get, all_get_d}
use Rattle.lists.proofs.Columns.{tabulate_cong, tabulate_of, map_tabulate}
use Rattle.lists.proofs.Lists.{get_map, split_length}
use Rattle.lists.proofs.Parts.{get_split, total_within}
use Rattle.lists.proofs.Walks.{all_map, any_map}
use Rattle.lists.proofs.Turns.{grid_lt}
use Rattle.expression.specs.Value.{poly_of}
use Rattle.backend.specs.Circuit.{Pair, rows_of, num_lookups, group_sizes, groups_of}
use Rattle.prover.specs.Lookup.{group_multiplicity, group_covered, group_h_at}
use Rattle.prover.specs.Log.{Log}
use Rattle.prover.specs.Columns.{
  input_at,
  table_at,
  group_inputs,
  group_table,
  count_at,
  m_at,
  lookup_h_at,
  all_covered,
  compressed_polys,
  m_polys,
  h_polys,
}
use Rattle.prover.specs.Denominators.{some_zero, group_denominators}
use Rattle.prover.specs.Words.{words_of, elements_from, Small}
use Rattle.prover.proofs.Words.{words_get, words_small}
use Rattle.prover.proofs.Lengths.{compressed_length}
use Rattle.prover_lookup.specs.Lookups.{group_at, group_inputs_from, group_table_from, covered_from, counts_from, zero_from, hs_from}
use Rattle.prover_lookup.proofs.Places.{part, table_place}
use Rattle.prover_lookup.proofs.Same.{
  all_agree,
  any_agree,
  group_covered_same,
  group_denominators_same,
  group_multiplicity_same,
  group_multiplicity_le,
  group_h_agree,
}

-- ---- lists

-- entries of a list of pairs, one pair after another
module _ {A B : Type 0} (f h : A → B) where
  get_first : (xs : List A) (j : ℕ) (d : A) (e : B) → j < length xs → get_or (concat (map (λ x. f x ∷ h x ∷ []) xs)) (j * 2) e ≡ f (get_or xs j d)
  unfolding concat
  get_first [] j d e l = absurd (not-suc-le-zero l)
  get_first (x ∷ xs) zero d e l = refl
  get_first (x ∷ xs) (suc j) d e l =
      ap (λ (i : ℕ). get_or (f x ∷ h x ∷ concat (map (λ x. f x ∷ h x ∷ []) xs)) i e) (let q : suc j * 2 ≡ suc (suc (j * 2)) = omega arith in q)
      ∙ get_first xs j d e (omega arith)

  get_second : (xs : List A) (j : ℕ) (d : A) (e : B) → j < length xs
      → get_or (concat (map (λ x. f x ∷ h x ∷ []) xs)) (j * 2 + 1) e ≡ h (get_or xs j d)
  unfolding concat
  get_second [] j d e l = absurd (not-suc-le-zero l)
  get_second (x ∷ xs) zero d e l = refl
  get_second (x ∷ xs) (suc j) d e l =
      ap (λ (i : ℕ). get_or (f x ∷ h x ∷ concat (map (λ x. f x ∷ h x ∷ []) xs)) i e)
      (let q : suc j * 2 + 1 ≡ suc (suc (j * 2 + 1)) = omega arith in q)
      ∙ get_second xs j d e (omega arith)

-- columns by number are the columns of a list
columns_are : {A : Type 0} (xs : List A) (d : A) (rows : ℕ) (f : ℕ → ℕ → ℕ) (p : A → ℕ → 𝔾.F)
    → ((j : ℕ) → j < length xs → (b : ℕ) → b < rows → f j b ≡ val (p (get_or xs j d) b))
    → concat (tabulate (λ j. tabulate (f j) rows) (length xs)) ≡ words_of rows (map p xs)
unfolding words_of
columns_are {A = A} xs d rows f p h =
    ap concat
    (tabulate_cong (λ j. tabulate (f j) rows) (λ j. tabulate (λ b. val (p (get_or xs j d) b)) rows) (length xs)
    (λ j l. tabulate_cong (f j) (λ b. val (p (get_or xs j d) b)) rows (h j l))
    ∙ sym (map_tabulate (λ (x : A). tabulate (λ b. val (p x b)) rows) (λ j. get_or xs j d) (length xs))
    ∙ ap (map (λ (x : A). tabulate (λ b. val (p x b)) rows)) (tabulate_of xs d)
    ∙ maps xs)
  where
    maps : (ys : List A) → map (λ (x : A). tabulate (λ b. val (p x b)) rows) ys ≡ map (λ (q : ℕ → 𝔾.F). tabulate (λ b. val (q b)) rows) (map p ys)
    maps [] = refl
    maps (y ∷ ys) = ap (λ (l : List (List ℕ)). tabulate (λ b. val (p y b)) rows ∷ l) (maps ys)

-- ---- a log

module _ (g : Log 𝔾) (sizes : List ℕ) (sizes_are : sizes ≡ group_sizes g.circuit.groups) (all : total sizes ≡ num_lookups g.circuit)
    (some : All (λ s. 0 < s) sizes) (d : List ℕ) (at : ℕ)
    (words : (j : ℕ) → j < num_lookups g.circuit * 2 * rows_of g.circuit
    → get_or d (at + j) 0 ≡ get_or (words_of (rows_of g.circuit) (compressed_polys 𝔾 g)) j 0) where
  abbrev rows : ℕ
  rows = rows_of g.circuit

  abbrev n : ℕ
  n = num_lookups g.circuit

  abbrev lookup : ℕ → List Pair
  lookup q = get_or g.circuit.lookups q []

  abbrev group : ℕ → List (List Pair)
  group j = get_or (groups_of g.circuit) j []

  pub lookups_small : Small (total sizes * 2 * rows) (λ b. get_or d (at + b) 0)
  lookups_small b l =
      rw (words b (let e : total sizes * 2 * rows ≡ n * 2 * rows = ap (λ (t : ℕ). t * 2 * rows) all in omega arith))
      (all_get_d (λ w. w < P) (words_of rows (compressed_polys 𝔾 g)) b 0 P_pos (words_small rows (compressed_polys 𝔾 g)))

  -- ---- a column of the buffer is the log's

  column_is : (q b : ℕ) → q < n * 2 → b < rows → elements_from d (at + q * rows) b ≡ poly_of 𝔾 (compressed_polys 𝔾 g) q b
  column_is q b l h =
      ap el
      (ap (λ (i : ℕ). get_or d i 0) (let e : at + q * rows + b ≡ at + (q * rows + b) = omega arith in e)
      ∙ words (q * rows + b) (grid_lt (n * 2) rows q b l h)
      ∙ words_get rows (compressed_polys 𝔾 g) q b (let e = compressed_length 𝔾 g in omega arith) h)
      ∙ el_val (poly_of 𝔾 (compressed_polys 𝔾 g) q b)

  input_is : (q : ℕ) → q < n → (b : ℕ) → b < rows → elements_from d (at + q * 2 * rows) b ≡ input_at 𝔾 g (lookup q) b
  unfolding compressed_polys
  input_is q l b h =
      column_is (q * 2) b (omega arith) h
      ∙ ap (λ (p : ℕ → 𝔾.F). p b) (get_first (input_at 𝔾 g) (table_at 𝔾 g) g.circuit.lookups q [] (λ r. 𝔾.zero) l)

  table_is : (q : ℕ) → q < n → (b : ℕ) → b < rows → elements_from d (at + q * 2 * rows + rows) b ≡ table_at 𝔾 g (lookup q) b
  unfolding compressed_polys
  table_is q l b h =
      ap (λ (p : ℕ). elements_from d p b) (sym (table_place at q rows))
      ∙ column_is (q * 2 + 1) b (omega arith) h
      ∙ ap (λ (p : ℕ → 𝔾.F). p b) (get_second (input_at 𝔾 g) (table_at 𝔾 g) g.circuit.lookups q [] (λ r. 𝔾.zero) l)

  -- ---- a group's columns are the log's

  groups_length : length (groups_of g.circuit) ≡ length sizes
  unfolding groups_of
  groups_length = split_length (group_sizes g.circuit.groups) g.circuit.lookups ∙ ap length (sym sizes_are)

  all_groups : map group (range (length sizes)) ≡ groups_of g.circuit
  all_groups = map_tabulate group (λ i. i) (length sizes) ∙ ap (tabulate group) (sym groups_length) ∙ tabulate_of (groups_of g.circuit) []

  module _ (j : ℕ) (l : j < length sizes) where
    abbrev first : ℕ
    first = total (take j sizes)

    abbrev size : ℕ
    size = get_or sizes j 0

    within : first + size ≤ n
    within = omega (arith, total_within sizes j, all)

    size_some : 0 < size
    size_some = all_get (λ s. 0 < s) sizes some j 0 l

    group_is : group j ≡ take size (drop first g.circuit.lookups)
    unfolding groups_of
    group_is =
        ap (λ (ns : List ℕ). get_or (split ns g.circuit.lookups) j []) (sym sizes_are) ∙ get_split sizes g.circuit.lookups j l

    group_size : length (group j) ≡ size
    group_size =
        let e : min size (n - first) ≡ size = omega (arith, within) in
        ap length group_is ∙ length-take size (drop first g.circuit.lookups)
        ∙ ap (min size) (length-drop first g.circuit.lookups)
        ∙ e

    member_is : (i : ℕ) → i < size → get_or (group j) i [] ≡ lookup (first + i)
    member_is i h =
        ap (λ (ls : List (List Pair)). get_or ls i []) group_is ∙ get_or-take size (drop first g.circuit.lookups) i [] h
        ∙ get_or-drop first g.circuit.lookups i []

    inputs_are : group_inputs 𝔾 g (group j) ≡ tabulate (λ i. input_at 𝔾 g (lookup (first + i))) size
    unfolding group_inputs
    inputs_are =
        ap (map (input_at 𝔾 g)) (sym (tabulate_of (group j) []))
        ∙ map_tabulate (input_at 𝔾 g) (λ i. get_or (group j) i []) (length (group j))
        ∙ ap (tabulate (λ i. input_at 𝔾 g (get_or (group j) i []))) group_size
        ∙ tabulate_cong (λ i. input_at 𝔾 g (get_or (group j) i [])) (λ i. input_at 𝔾 g (lookup (first + i))) size
        (λ i h. ap (input_at 𝔾 g) (member_is i h))

    input_same : (i : ℕ) → i < size → (b : ℕ) → b < rows
        → elements_from d (group_at d at rows sizes j + i * 2 * rows) b ≡ input_at 𝔾 g (lookup (first + i)) b
    input_same i h b r =
        let e : group_at d at rows sizes j + i * 2 * rows ≡ at + (first + i) * 2 * rows = omega (arith, part at rows sizes first i) in
        ap (λ (p : ℕ). elements_from d p b) e ∙ input_is (first + i) (omega (arith, within)) b r

    table_same : (b : ℕ) → b < rows → group_table_from d at rows sizes j b ≡ group_table 𝔾 g (group j) b
    unfolding group_table
    table_same b r =
        table_is first (omega (arith, within, size_some)) b r
        ∙ ap (λ (x : List Pair). table_at 𝔾 g x b) (ap lookup (sym (add-zero first)) ∙ sym (member_is 0 size_some))

    covered_is : group_covered 𝔾 rows (group_inputs_from d at rows sizes j) (group_table_from d at rows sizes j)
        ≡ group_covered 𝔾 rows (group_inputs 𝔾 g (group j)) (group_table 𝔾 g (group j))
    covered_is =
        group_covered_same (λ i. elements_from d (group_at d at rows sizes j + i * 2 * rows)) (λ i. input_at 𝔾 g (lookup (first + i))) size rows
        (group_table_from d at rows sizes j) (group_table 𝔾 g (group j)) input_same table_same
        ∙ ap (λ (xs : List (ℕ → 𝔾.F)). group_covered 𝔾 rows xs (group_table 𝔾 g (group j))) (sym inputs_are)

    multiplicity_is : (b : ℕ)
        → group_multiplicity 𝔾 rows (group_inputs_from d at rows sizes j) (group_table_from d at rows sizes j) b
        ≡ group_multiplicity 𝔾 rows (group_inputs 𝔾 g (group j)) (group_table 𝔾 g (group j)) b
    multiplicity_is b =
        group_multiplicity_same (λ i. elements_from d (group_at d at rows sizes j + i * 2 * rows)) (λ i. input_at 𝔾 g (lookup (first + i))) size rows
        (group_table_from d at rows sizes j) (group_table 𝔾 g (group j)) input_same table_same b
        ∙ ap (λ (xs : List (ℕ → 𝔾.F)). group_multiplicity 𝔾 rows xs (group_table 𝔾 g (group j)) b) (sym inputs_are)

    inputs_length : length (group_inputs 𝔾 g (group j)) ≡ size
    unfolding group_inputs
    inputs_length = length-map {B = ℕ → 𝔾.F} (group j) (input_at 𝔾 g) ∙ group_size

    -- the inputs of few lookups are counted below p
    multiplicity_small : n ≤ 8 → rows ≤ 1048576 → (b : ℕ) → group_multiplicity 𝔾 rows (group_inputs 𝔾 g (group j)) (group_table 𝔾 g (group j)) b < P
    multiplicity_small few small b =
        let e = inputs_length in
        let m : length (group_inputs 𝔾 g (group j)) * rows ≤ 8 * rows = mul-le-mul_right rows (omega (arith, within)) in
        omega (arith, group_multiplicity_le rows (group_inputs 𝔾 g (group j)) (group_table 𝔾 g (group j)) b)

    denominators_are : (γ : 𝔾.F)
        → group_denominators 𝔾 rows γ (group_inputs_from d at rows sizes j) (group_table_from d at rows sizes j)
        ≡ group_denominators 𝔾 rows γ (group_inputs 𝔾 g (group j)) (group_table 𝔾 g (group j))
    denominators_are γ =
        group_denominators_same (λ i. elements_from d (group_at d at rows sizes j + i * 2 * rows)) (λ i. input_at 𝔾 g (lookup (first + i))) size rows
        (group_table_from d at rows sizes j) (group_table 𝔾 g (group j)) input_same table_same γ
        ∙ ap (λ (xs : List (ℕ → 𝔾.F)). group_denominators 𝔾 rows γ xs (group_table 𝔾 g (group j))) (sym inputs_are)

    h_is : (γ : 𝔾.F) (m m' : ℕ → 𝔾.F) (b : ℕ) → b < rows → m b ≡ m' b
        → group_h_at 𝔾 γ (group_inputs_from d at rows sizes j) (group_table_from d at rows sizes j) m b
        ≡ group_h_at 𝔾 γ (group_inputs 𝔾 g (group j)) (group_table 𝔾 g (group j)) m' b
    h_is γ m m' b r e =
        group_h_agree (λ i. elements_from d (group_at d at rows sizes j + i * 2 * rows)) (λ i. input_at 𝔾 g (lookup (first + i))) size b
        (group_table_from d at rows sizes j) (group_table 𝔾 g (group j)) (λ i h. input_same i h b r) (table_same b r) γ m m' e
        ∙ ap (λ (xs : List (ℕ → 𝔾.F)). group_h_at 𝔾 γ xs (group_table 𝔾 g (group j)) m' b) (sym inputs_are)

  -- ---- question 15

  pub all_covered_is : covered_from d at rows sizes ≡ all_covered 𝔾 g
  unfolding all_covered
  all_covered_is =
      all_agree (λ j. group_covered 𝔾 rows (group_inputs_from d at rows sizes j) (group_table_from d at rows sizes j)) (λ j. test (group j)) (length sizes) covered_is
      ∙ sym (all_map test group (range (length sizes)))
      ∙ ap (all_of test) all_groups
    where
      test : List (List Pair) → Bool
      test gr = group_covered 𝔾 rows (group_inputs 𝔾 g gr) (group_table 𝔾 g gr)

  -- question 17, of the groups
  pub zero_lookups_is : (γ : 𝔾.F) → g.γ ≡ γ
      → zero_from d at rows sizes γ
      ≡ any_of (λ gr. some_zero 𝔾 (group_denominators 𝔾 rows g.γ (group_inputs 𝔾 g gr) (group_table 𝔾 g gr))) (groups_of g.circuit)
  zero_lookups_is γ γ-is =
      ap (λ (x : 𝔾.F). zero_from d at rows sizes x) (sym γ-is)
      ∙ any_agree (λ j. some_zero 𝔾 (group_denominators 𝔾 rows g.γ (group_inputs_from d at rows sizes j) (group_table_from d at rows sizes j)))
      (λ j. test (group j)) (length sizes)
      (λ j l. ap (some_zero 𝔾) (denominators_are j l g.γ))
      ∙ sym (any_map test group (range (length sizes)))
      ∙ ap (any_of test) all_groups
    where
      test : List (List Pair) → Bool
      test gr = some_zero 𝔾 (group_denominators 𝔾 rows g.γ (group_inputs 𝔾 g gr) (group_table 𝔾 g gr))

  -- columns by number are the columns of the groups
  groups_are : (f : ℕ → ℕ → ℕ) (p : List (List Pair) → ℕ → 𝔾.F)
      → ((j : ℕ) → j < length sizes → (b : ℕ) → b < rows → f j b ≡ val (p (group j) b))
      → concat (tabulate (λ j. tabulate (f j) rows) (length sizes)) ≡ words_of rows (map p (groups_of g.circuit))
  groups_are f p h =
      ap (λ (k : ℕ). concat (tabulate (λ j. tabulate (f j) rows) k)) (sym groups_length)
      ∙ columns_are (groups_of g.circuit) [] rows f p (λ j l. h j (let e = groups_length in omega arith))

  pub counts_are : g.el ≡ el → n ≤ 8 → rows ≤ 1048576 → counts_from d at rows sizes ≡ words_of rows (m_polys 𝔾 g)
  unfolding m_polys m_at count_at
  counts_are el_is few small =
      groups_are (λ j. group_multiplicity 𝔾 rows (group_inputs_from d at rows sizes j) (group_table_from d at rows sizes j)) (m_at 𝔾 g)
      (λ j l b h.
      let count : ℕ = group_multiplicity 𝔾 rows (group_inputs 𝔾 g (group j)) (group_table 𝔾 g (group j)) b in
      multiplicity_is j l b ∙ sym (val_el count (multiplicity_small j l few small b))
      ∙ ap (λ (f : ℕ → 𝔾.F). val (f count)) (sym el_is))

  -- with the words of the counts from word m on
  module _ (m : ℕ) (counts : (j : ℕ) → j < length sizes * rows → get_or d (m + j) 0 ≡ get_or (words_of rows (m_polys 𝔾 g)) j 0) where
    count_is : (j : ℕ) → j < length sizes → (b : ℕ) → b < rows → elements_from d (m + j * rows) b ≡ m_at 𝔾 g (group j) b
    unfolding m_polys
    count_is j l b h =
        let e = groups_length in
        ap el
        (ap (λ (i : ℕ). get_or d i 0) (let e : m + j * rows + b ≡ m + (j * rows + b) = omega arith in e)
        ∙ counts (j * rows + b) (grid_lt (length sizes) rows j b l h)
        ∙ words_get rows (m_polys 𝔾 g) j b (let f = length-map {B = ℕ → 𝔾.F} (groups_of g.circuit) (m_at 𝔾 g) in omega arith) h)
        ∙ el_val (poly_of 𝔾 (m_polys 𝔾 g) j b)
        ∙ ap (λ (p : ℕ → 𝔾.F). p b) (get_map {B = ℕ → 𝔾.F} (m_at 𝔾 g) (groups_of g.circuit) j [] (λ r. 𝔾.zero) (omega arith))

    pub hs_are : (γ : 𝔾.F) → g.γ ≡ γ → hs_from d at rows sizes γ m ≡ words_of rows (h_polys 𝔾 g)
    unfolding h_polys lookup_h_at
    hs_are γ γ-is =
        ap (λ (x : 𝔾.F). hs_from d at rows sizes x m) (sym γ-is)
        ∙ groups_are
        (λ j b. val (group_h_at 𝔾 g.γ (group_inputs_from d at rows sizes j) (group_table_from d at rows sizes j) (elements_from d (m + j * rows)) b))
        (lookup_h_at 𝔾 g)
        (λ j l b h. ap val (h_is j l g.γ (elements_from d (m + j * rows)) (m_at 𝔾 g (group j)) b h (count_is j l b h)))
