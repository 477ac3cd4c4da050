-- A table row listed twice spoils no count: RowListedTwice of Insurer.
use mathlib.Core.Path.{◌≡◌, sym, ap, ◌∙◌, subst}
use mathlib.Core.Logic.{◌≢◌}
use mathlib.Core.Bool.{true, cond}
use mathlib.Core.List.{List, [], ◌++◌, map}
use Prim.Native.Nat.{ℕ, suc, ◌+◌, ◌*◌, ◌^◌, ◌≤◌, ◌<◌}
use native.Mathlib.Nat.{mul-le-mul}
use native.Mathlib.Omega.{arith}
use lib.ListN.{length, get_or, length-map}
use lib.Pow.{pow_mono}
use Rattle.field.specs.Prime.{P}
use Rattle.field.specs.Algebra.{sum}
use Rattle.field.specs.Field.{𝔾, el, val, el_val, val_el}
use Rattle.field.proofs.Elements.{val_zero}
use Rattle.lists.specs.Lists.{write_prefix}
use Rattle.lists.proofs.Lists.{get_left, get_past, get_map}
use Rattle.lists.proofs.Parts.{total_within}
use Rattle.lists.proofs.Walks.{entry_inside}
use Rattle.identities.proofs.Totals.{up_to_cong}
use Rattle.expression.specs.Value.{poly_of}
use Rattle.backend.specs.Circuit.{Pair, Circuit, circuit_of, rows_of, num_instance, num_copied, num_lookups, group_sizes, num_groups, groups_of}
use Rattle.backend.proofs.Answers.{groups_read, numbers_few}
use Rattle.backend.proofs.Degree.{groups_length}
use Rattle.backend.proofs.Groups.{sizes_total}
use Rattle.backend.proofs.Passed as Passed
use Rattle.backend.proofs.Passed.{yes_all}
use Rattle.prover.specs.Lookup.{Turns, same, group_covered, group_multiplicity, sum_rows, sum_counts}
use Rattle.prover.specs.Log.{Log}
use Rattle.prover.specs.Columns.{input_at, group_inputs, group_table, count_at, m_at, lookup_h_at, all_covered, instance_polys, permutation_polys, compressed_polys, m_polys, h_polys, written_polys}
use Rattle.prover.proofs.Groups.{group_count_le}
use Rattle.prover.proofs.Words.{words_get, words_length}
use Rattle.prover.proofs.Lengths.{instances_length, permutations_length, compressed_length, m_length, h_length, written_length}
use Rattle.hyperplonk_spec.specs.Build.{Output, words_of, log_of, check_build, build_of, made, lent_build}
use Rattle.hyperplonk_spec.specs.Papers.{fraction, paper_h}
use Rattle.hyperplonk_spec.specs.Insurer.{m_word, h_word, CountsUnspoilt, RowListedTwice}
use Rattle.hyperplonk_spec.proofs.Building.{built_by_is, Yes, zero_yes}
use Rattle.hyperplonk_spec.proofs.Embeds.{embeds}
use Rattle.completeness.proofs.Passed.{k_small}
use Rattle.completeness.proofs.Asked.{lending}
use Rattle.completeness.proofs.Groups.{group_lookups}
use Rattle.completeness.proofs.Counts.{covered_each, m_sums, h_sums}
use Rattle.completeness.proofs.Habock.{counts_turn, same_totals, is_habock_h, habock_identity, shared_identity}

module _ (g : Log 𝔾) where
  abbrev rows : ℕ
  rows = rows_of g.circuit

  abbrev group : ℕ → List (List Pair)
  group j = get_or (groups_of g.circuit) j []

  module _ (j : ℕ) (l : j < num_groups g.circuit) where
    -- the columns of m and h among those written
    written_m : (b : ℕ)
        → poly_of 𝔾 (written_polys 𝔾 g) (num_instance g.circuit + num_copied g.circuit + num_lookups g.circuit * 2 + j) b ≡ m_at 𝔾 g (group j) b
    unfolding written_polys m_polys
    written_m b =
        ap (λ (p : ℕ → 𝔾.F). p b)
        (get_past (instance_polys 𝔾 g) _ _ (num_copied g.circuit + (num_lookups g.circuit * 2 + j)) (λ r. 𝔾.zero) (let q = instances_length 𝔾 g in omega arith)
        ∙ get_past (permutation_polys 𝔾 g) _ _ (num_lookups g.circuit * 2 + j) (λ r. 𝔾.zero) (let q = permutations_length 𝔾 g in omega arith)
        ∙ get_past (compressed_polys 𝔾 g) _ _ j (λ r. 𝔾.zero) (let q = compressed_length 𝔾 g in omega arith)
        ∙ get_left (m_polys 𝔾 g) _ j (λ r. 𝔾.zero) (let q = m_length 𝔾 g in omega arith)
        ∙ get_map (m_at 𝔾 g) (groups_of g.circuit) j [] (λ r. 𝔾.zero) (let q = groups_length g.circuit in omega arith))

    written_h : (b : ℕ)
        → poly_of 𝔾 (written_polys 𝔾 g) (num_instance g.circuit + num_copied g.circuit + num_lookups g.circuit * 2 + num_groups g.circuit + j) b ≡ lookup_h_at 𝔾 g (group j) b
    unfolding written_polys h_polys
    written_h b =
        ap (λ (p : ℕ → 𝔾.F). p b)
        (get_past (instance_polys 𝔾 g) _ _ (num_copied g.circuit + (num_lookups g.circuit * 2 + (num_groups g.circuit + j))) (λ r. 𝔾.zero) (let q = instances_length 𝔾 g in omega arith)
        ∙ get_past (permutation_polys 𝔾 g) _ _ (num_lookups g.circuit * 2 + (num_groups g.circuit + j)) (λ r. 𝔾.zero) (let q = permutations_length 𝔾 g in omega arith)
        ∙ get_past (compressed_polys 𝔾 g) _ _ (num_groups g.circuit + j) (λ r. 𝔾.zero) (let q = compressed_length 𝔾 g in omega arith)
        ∙ get_past (m_polys 𝔾 g) _ _ j (λ r. 𝔾.zero) (let q = m_length 𝔾 g in omega arith)
        ∙ get_left (h_polys 𝔾 g) _ j (λ r. 𝔾.zero) (let q = h_length 𝔾 g in omega arith)
        ∙ get_map (lookup_h_at 𝔾 g) (groups_of g.circuit) j [] (λ r. 𝔾.zero) (let q = groups_length g.circuit in omega arith))

  -- word b of column q, with more words behind
  pub word_at : (d : List ℕ) (q b : ℕ) → q < length (written_polys 𝔾 g) → b < rows
      → get_or (words_of rows (written_polys 𝔾 g) ++ d) (q * rows + b) 0 ≡ val (poly_of 𝔾 (written_polys 𝔾 g) q b)
  word_at d q b l m =
      get_left (words_of rows (written_polys 𝔾 g)) d (q * rows + b) 0
      (let e = words_length rows (written_polys 𝔾 g) in entry_inside q (length (written_polys 𝔾 g)) b rows (length (words_of rows (written_polys 𝔾 g))) l m (omega arith))
      ∙ words_get rows (written_polys 𝔾 g) q b l m

  -- a count of a group of s lookups is at most s × 2^k
  count_small : (group : List (List Pair)) (b : ℕ) → count_at 𝔾 g group b ≤ length group * rows
  unfolding count_at group_inputs
  count_small group b =
      subst (λ (n : ℕ). count_at 𝔾 g group b ≤ n * rows) (length-map group (input_at 𝔾 g))
      (group_count_le 𝔾 rows (group_inputs 𝔾 g group) (group_table 𝔾 g group) b)

module _ (ws instances witness challenges columns nodes : List ℕ) (z : (build_of (lent_build ws instances witness challenges columns nodes)).answer.number ≡ 0) where
  abbrev log : Log 𝔾
  log = log_of ws instances witness challenges

  abbrev c : Circuit
  c = circuit_of ws

  abbrev left : List ℕ
  left = (build_of (lent_build ws instances witness challenges columns nodes)).columns

  pub yes_all_asked : Yes ws instances witness challenges columns nodes
  yes_all_asked = zero_yes ws instances witness challenges columns nodes z

  pub asked : check_build (lent_build ws instances witness challenges columns nodes) ≡ 0
  asked = yes_all_asked.asked_yes

  all_covered_here : all_covered 𝔾 log ≡ true
  all_covered_here = yes_all_asked.covered_yes

  pub left_is : left ≡ write_prefix (words_of (rows_of c) (written_polys 𝔾 log)) columns
  unfolding made log_of
  left_is = ap (λ (o : Output). o.columns) (built_by_is ws instances witness challenges columns nodes asked all_covered_here yes_all_asked.none_zero)

  yes_words : Passed.Yes ws
  yes_words = yes_all ws (lending ws instances witness challenges columns nodes asked).circuit_yes

  rows_few : rows_of c ≤ 2 ^ 20
  rows_few =
      let k = k_small ws yes_words in
      pow_mono {i = c.k} {j = 20} (omega arith)

  rows_small : rows_of c < P
  rows_small = let w = rows_few in omega arith

  -- a group has no more lookups than there are
  group_few : (j : ℕ) → j < num_groups c → length (get_or (groups_of c) j []) ≤ 8
  group_few j l = subst (λ (n : ℕ). n ≤ 8) (sym (group_lookups ws yes_words j l)) few
    where
      few : get_or (group_sizes c.groups) j 0 ≤ 8
      few =
          let a = total_within (group_sizes c.groups) j in
          let b = sizes_total c.groups in
          let d = numbers_few ws yes_words.laid in
          let e = ap length (groups_read ws) in
          omega arith

  counts_small : (j : ℕ) → j < num_groups c → length (get_or (groups_of c) j []) * rows_of c < P
  counts_small j l =
      let a : length (get_or (groups_of c) j []) * rows_of c ≤ 8 * 2 ^ 20 =
      mul-le-mul {n₁ = length (get_or (groups_of c) j [])} {m₁ = rows_of c} {n₂ = 8} {m₂ = 2 ^ 20} (group_few j l) rows_few in
      omega arith

  module _ (j : ℕ) (l : j < num_groups c) where
    abbrev members : List (List Pair)
    members = get_or (groups_of c) j []

    here : j < length (groups_of c)
    here = let q = groups_length c in omega arith

    abbrev m : ℕ → ℕ
    m = m_word c left j

    abbrev counts : ℕ → ℕ
    counts = group_multiplicity 𝔾 (rows_of c) (group_inputs 𝔾 log members) (group_table 𝔾 log members)

    covered_here : group_covered 𝔾 (rows_of c) (group_inputs 𝔾 log members) (group_table 𝔾 log members) ≡ true
    unfolding log_of
    covered_here = covered_each 𝔾 log all_covered_here j here

    whole : (b : ℕ) → b < rows_of c → m b ≡ count_at 𝔾 log members b
    unfolding log_of m_at
    whole b h =
        ap (λ (ws : List ℕ). m_word c ws j b) left_is
        ∙ word_at log _ (num_instance c + num_copied c + num_lookups c * 2 + j) b (let q = written_length 𝔾 log in omega arith) h
        ∙ ap val (written_m log j l b)
        ∙ val_el (count_at 𝔾 log members b) (let q = count_small log members b in let r = counts_small j l in omega arith)

    whole' : (b : ℕ) → b < rows_of c → m b ≡ counts b
    unfolding log_of count_at
    whole' b h = whole b h

    h_whole : (b : ℕ) → b < rows_of c → el (h_word c left j b) ≡ lookup_h_at 𝔾 log members b
    unfolding log_of
    h_whole b h =
        ap el
        (ap (λ (ws : List ℕ). h_word c ws j b) left_is
        ∙ word_at log _ (num_instance c + num_copied c + num_lookups c * 2 + num_groups c + j) b (let q = written_length 𝔾 log in omega arith) h
        ∙ ap val (written_h log j l b))
        ∙ el_val (lookup_h_at 𝔾 log members b)

    h_fractions : (b : ℕ) → b < rows_of c
        → lookup_h_at 𝔾 log members b ≡ paper_h 𝔾 log.γ (group_inputs 𝔾 log members) (group_table 𝔾 log members) (λ r. el (m r)) b
    unfolding lookup_h_at m_at log_of paper_h
    h_fractions b h =
        (is_habock_h 𝔾 log.γ (group_inputs 𝔾 log members) (group_table 𝔾 log members) (λ r. el (count_at 𝔾 log members r))).is_fractions b
        ∙ ap
        (λ (n : ℕ).
        𝔾.add (sum 𝔾 (map (λ (input : ℕ → 𝔾.F). fraction 𝔾 𝔾.one (𝔾.add log.γ (input b))) (group_inputs 𝔾 log members)))
        (𝔾.neg (fraction 𝔾 (el n) (𝔾.add log.γ (group_table 𝔾 log members b)))))
        (sym (whole b h))

    h_sum : sum_rows 𝔾 (rows_of c) (lookup_h_at 𝔾 log members) ≡ 𝔾.zero
    unfolding log_of
    h_sum = h_sums 𝔾 log embeds all_covered_here j here

    m_sum : sum_counts (rows_of c) counts ≡ length members * rows_of c
    unfolding log_of count_at
    m_sum = m_sums 𝔾 log all_covered_here j here

    -- 1 to 2^k are not zero in 𝔾
    char : (n : ℕ) → 0 < n → n < suc (rows_of c) → el n ≢ 𝔾.zero
    char n p q e =
        let w = sym (val_el n (let r = rows_small in omega arith)) ∙ ap val e ∙ val_zero in
        omega arith

    unspoilt : CountsUnspoilt log left j
    unfolding Turns log_of
    unspoilt =
        record {
          turns = λ v.
              up_to_cong ◌+◌ 0 (λ r. cond (same 𝔾 (group_table 𝔾 log members r) v) (m r) 0) (λ r. cond (same 𝔾 (group_table 𝔾 log members r) v) (counts r) 0) (rows_of c)
              (λ r h. ap (λ (n : ℕ). cond (same 𝔾 (group_table 𝔾 log members r) v) n 0) (whole' r h))
              ∙ (counts_turn 𝔾 el (rows_of c) (group_inputs 𝔾 log members) (group_table 𝔾 log members)).0 covered_here v;
          m_sums = up_to_cong ◌+◌ 0 m counts (rows_of c) whole' ∙ m_sum;
          h_sums = up_to_cong 𝔾.add 𝔾.zero (λ b. el (h_word c left j b)) (lookup_h_at 𝔾 log members) (rows_of c) h_whole ∙ h_sum;
          h_sums_defined = h_sum;
          same_totals = λ v.
              up_to_cong 𝔾.add 𝔾.zero (λ r. cond (same 𝔾 (group_table 𝔾 log members r) v) (el (m r)) 𝔾.zero)
              (λ r. cond (same 𝔾 (group_table 𝔾 log members r) v) (el (counts r)) 𝔾.zero) (rows_of c)
              (λ r h. ap (λ (n : ℕ). cond (same 𝔾 (group_table 𝔾 log members r) v) (el n) 𝔾.zero) (whole' r h))
              ∙ same_totals 𝔾 el (rows_of c) (group_inputs 𝔾 log members) (group_table 𝔾 log members) embeds covered_here char v;
          identity =
              habock_identity 𝔾 el (rows_of c) (group_inputs 𝔾 log members) (group_table 𝔾 log members) log.γ embeds covered_here
              ∙ sym
              (up_to_cong 𝔾.add 𝔾.zero (λ b. fraction 𝔾 (el (m b)) (𝔾.add log.γ (group_table 𝔾 log members b)))
              (λ b. fraction 𝔾 (el (counts b)) (𝔾.add log.γ (group_table 𝔾 log members b))) (rows_of c)
              (λ b h. ap (λ (n : ℕ). fraction 𝔾 (el n) (𝔾.add log.γ (group_table 𝔾 log members b))) (whole' b h)));
          h_is = λ b h. h_whole b h ∙ h_fractions b h;
          shared = shared_identity 𝔾 el (rows_of c) (group_inputs 𝔾 log members) (group_table 𝔾 log members) log.γ embeds covered_here char;
          whole = whole;
        }

pub row_listed_twice : RowListedTwice
row_listed_twice ws instances witness challenges columns nodes z j l = unspoilt ws instances witness challenges columns nodes z j l
