-- What the stages ask for and write, from accepted circuit words.
use mathlib.Core.Path.{◌≡◌, sym, ap, ap₂, ◌∙◌, subst}
use mathlib.Core.List.{List, map}
use Prim.Native.Nat.{ℕ, ◌+◌, ◌-◌, ◌*◌, ◌/◌, ◌%◌, ◌^◌, ◌≤◌, ◌<◌}
use native.Mathlib.Omega.{arith}
use native.Mathlib.Nat.{mul_assoc, add-mul, mul-le-mul, mul-le-mul_right}
use lib.ListN.{length, get_or, take}
use Rattle.field.specs.Prime.{P}
use Rattle.field.specs.Field.{𝔾, el, val, val_el}
use Rattle.lists.specs.Lists.{range, tabulate, concat, write_at, split, total}
use Rattle.lists.proofs.Columns.{tabulate_cong, map_tabulate}
use Rattle.expression.specs.declared.poly.Layout.{Layout}
use Rattle.backend.specs.Circuit.{pairs_of, Section, word_k, body_of, cells_of, Circuit, circuit_of, rows_of, num_instance, num_challenges, num_lookups, num_groups, copied, num_copied}
use Rattle.preprocessor.specs.Compose.{num_z}
use Rattle.preprocessor.specs.Permutation.{Walkable, label, permutation_columns}
use Rattle.preprocessor.proofs.Copied.{label_lt, label_columns_is}
use Rattle.prover.specs.Columns.{instance_at}
use Rattle.prover.specs.Running.{z_of}
use Rattle.prover.specs.Words.{words_of}
use Rattle.prover.specs.Denominators.{some_zero, factor_denominators}
use Rattle.prover.specs.Answers.{Outcome, outcome_of, outcome_words}
use Rattle.prover.specs.Lent.{Given, environment_from_words, compressed_polys_in, ratio_in_words}
use Rattle.prover_z.specs.Factors.{denominator_in_words}
use Rattle.prover.proofs.Lent.{lookups_are}
use Rattle.hyperplonk_prepare.specs.Prepared.{Accepted, layout_from_words, permutation_offset, compressed_offset, z_offset}
use Rattle.hyperplonk_prepare.proofs.Accepted as accepted
use Rattle.hyperplonk_columns.specs.Stages.{z_words, z_denominators}

module _ (ws : List ℕ) (a : Accepted ws) where
  -- ---- instance columns
  pub instance_asks : (k : ℕ) (lengths instance columns : List ℕ) → k ≡ word_k ws → lengths ≡ body_of ws Section.instances
      → total (body_of ws Section.instances) ≡ length instance
      → num_instance (circuit_of ws) * rows_of (circuit_of ws) ≤ length columns
      → (1 ≤ k) × (k ≤ 20) × ((i : ℕ) → i < length lengths → get_or lengths i 0 < 2 ^ k) × (total lengths ≡ length instance)
      × (length lengths * 2 ^ k ≤ length columns)
  unfolding circuit_of
  instance_asks k lengths instance columns ek e t room =
      rw (ek, e) (
        accepted.k_pos ws a,
        (let h = accepted.k_few ws a in omega arith),
        accepted.lengths_short ws a,
        t,
        room,
      )

  pub instance_written : (k : ℕ) (lengths instance d new : List ℕ) → k ≡ word_k ws → lengths ≡ body_of ws Section.instances
      → new ≡ write_at d 0 (words_of (2 ^ k) (map (λ vs b. instance_at 𝔾 k (map el vs) b) (split lengths instance)))
      → new
      ≡ write_at d 0
      (words_of (rows_of (circuit_of ws))
      (map (λ vs b. instance_at 𝔾 (circuit_of ws).k (map el vs) b) (split (circuit_of ws).instances instance)))
  unfolding circuit_of
  instance_written k lengths instance d new ek e h =
      h
      ∙ ap₂ (λ (k : ℕ) (ls : List ℕ). write_at d 0 (words_of (2 ^ k) (map (λ vs b. instance_at 𝔾 k (map el vs) b) (split ls instance)))) ek e

  -- ---- where columns begin
  module _ (l : Layout) (is : l ≡ layout_from_words ws) where
    pub rows_of_is : l.rows ≡ rows_of (circuit_of ws)
    unfolding layout_from_words circuit_of
    rows_of_is = ap (λ (l : Layout). l.rows) is

    pub instances_of_is : l.instances ≡ num_instance (circuit_of ws)
    unfolding layout_from_words
    instances_of_is = ap (λ (l : Layout). l.instances) is ∙ accepted.instances_entries ws a

    pub given_of : Given (circuit_of ws).k l
    unfolding circuit_of
    given_of = subst (Given (word_k ws)) (sym is) (accepted.given ws a)

    pub permutations_at : l.instances * l.rows ≡ permutation_offset (circuit_of ws)
    permutations_at = ap₂ ◌*◌ instances_of_is rows_of_is

    pub compressed_at_is : (n : ℕ) → n ≡ num_copied (circuit_of ws) → (l.instances + n) * l.rows ≡ compressed_offset (circuit_of ws)
    compressed_at_is n e = ap₂ ◌*◌ (ap₂ ◌+◌ instances_of_is e) rows_of_is

    pub zs_at : (n m g : ℕ) → n ≡ num_copied (circuit_of ws) → m ≡ get_or ws 13 0 → g ≡ num_groups (circuit_of ws)
        → (l.instances + n + m * 2 + g * 2) * l.rows ≡ z_offset (circuit_of ws)
    zs_at n m g e f h =
        ap₂ ◌*◌
        (ap₂ ◌+◌
        (ap₂ ◌+◌ (ap₂ ◌+◌ instances_of_is e)
        (ap (λ (m : ℕ). m * 2) (f ∙ sym (accepted.widths_are ws a ∙ accepted.widths_length ws a))))
        (ap (λ (g : ℕ). g * 2) h))
        rows_of_is

    -- none of these numbers wraps
    in_columns : (n : ℕ) → n ≤ 112 → n * l.rows ≤ 114688
    in_columns n h =
        let r = accepted.rows_few ws a in
        let e = accepted.rows_is ws a in
        let w = rows_of_is in
        mul-le-mul h (let q : l.rows ≤ 1024 = omega arith in q)

    few_instances : l.instances ≤ 8
    few_instances = let h = accepted.few_instances ws a in let e = instances_of_is in omega arith

    pub permutations_fit : l.instances * l.rows ≤ 114688
    permutations_fit = in_columns l.instances (let h = few_instances in omega arith)

    pub compressed_fit : (n : ℕ) → n ≡ num_copied (circuit_of ws) → (l.instances + n ≤ 80) × ((l.instances + n) * l.rows ≤ 114688)
    compressed_fit n e =
        let i = few_instances in
        let h = accepted.few_copied ws a in
        (omega arith, in_columns (l.instances + n) (omega arith))

    pub zs_fit : (n m g : ℕ) → n ≡ num_copied (circuit_of ws) → m ≡ get_or ws 13 0 → g ≡ num_groups (circuit_of ws)
        → (l.instances + n ≤ 80) × (m ≤ 8) × (g ≤ 8) × ((l.instances + n + m * 2 + g * 2) * l.rows ≤ 114688)
    zs_fit n m g e f q =
        let i = few_instances in
        let h = accepted.few_copied ws a in
        let w = (accepted.laid_of ws a).few_widths in
        let k = accepted.few_lookups ws a in
        let j = accepted.fewer_groups ws a in
        (omega arith, omega arith, omega arith, in_columns (l.instances + n + m * 2 + g * 2) (omega arith))

  -- ---- permutation columns
  label_small : (i b : ℕ) → i < num_copied (circuit_of ws) → b < rows_of (circuit_of ws) → label (circuit_of ws) i b < P
  label_small i b l m =
      let h = label_lt (circuit_of ws) (accepted.answers ws a).eleven (accepted.few_polys ws a) i b l m in
      let n = accepted.few_copied ws a in
      let r = accepted.rows_few ws a in
      let e = accepted.rows_is ws a in
      let w : num_copied (circuit_of ws) * rows_of (circuit_of ws) ≤ 72 * 1024 = mul-le-mul n (let q : rows_of (circuit_of ws) ≤ 1024 = omega arith in q) in
      omega arith

  pub label_words : permutation_columns (copied (circuit_of ws)) (rows_of (circuit_of ws)) (circuit_of ws).cycles
      ≡ words_of (rows_of (circuit_of ws)) (map (λ i b. el (label (circuit_of ws) i b)) (range (num_copied (circuit_of ws))))
  unfolding words_of
  label_words =
      let c : Circuit = circuit_of ws in
      let R : ℕ = rows_of c in
      let n : ℕ = num_copied c in
      let words : (ℕ → 𝔾.F) → List ℕ = λ p. tabulate (λ b. val (p b)) R in
      label_columns_is c
      ∙ ap concat
      (tabulate_cong (λ i. tabulate (label c i) R) (λ i. tabulate (λ b. val (el (label c i b))) R) n
      (λ i l. tabulate_cong (label c i) (λ b. val (el (label c i b))) R (λ b m. sym (val_el (label c i b) (label_small i b l m))))
      ∙ sym (ap (map words) (map_tabulate (λ i b. el (label c i b)) (λ i. i) n) ∙ map_tabulate words (λ i b. el (label c i b)) n))

  pub permutation_asks : (l : Layout) (names lengths cells columns : List ℕ) → l ≡ layout_from_words ws → names ≡ copied (circuit_of ws)
      → lengths ≡ body_of ws Section.lengths → cells ≡ body_of ws Section.cells → compressed_offset (circuit_of ws) ≤ length columns
      → Walkable names l.rows (split lengths (cells_of cells))
      × ((total lengths ≡ length cells / 2) × (l.instances * l.rows + length names * l.rows ≤ length columns))
  permutation_asks l names lengths cells columns is en el ec room =
      rw (en, el, ec, rows_of_is l is, instances_of_is l is) (
        accepted.walks ws a,
        (
          accepted.cells_total ws a ∙ sym (accepted.cells_half ws a),
          (let e = add-mul (num_instance (circuit_of ws)) (num_copied (circuit_of ws)) (rows_of (circuit_of ws)) in omega arith),
        ),
      )

  pub permutation_written : (l : Layout) (names lengths cells d new : List ℕ) → l ≡ layout_from_words ws → names ≡ copied (circuit_of ws)
      → lengths ≡ body_of ws Section.lengths → cells ≡ body_of ws Section.cells
      → new ≡ write_at d (l.instances * l.rows) (permutation_columns names l.rows (split lengths (cells_of cells)))
      → new
      ≡ write_at d (permutation_offset (circuit_of ws))
      (words_of (rows_of (circuit_of ws)) (map (λ i b. el (label (circuit_of ws) i b)) (range (num_copied (circuit_of ws)))))
  permutation_written l names lengths cells d new is en el' ec h =
      h
      ∙ ap₂ (write_at d) (permutations_at l is)
      (ap₂ (λ (rows : ℕ) (names : List ℕ). permutation_columns names rows (split lengths (cells_of cells))) (rows_of_is l is) en
      ∙ ap₂ (λ (ls cs : List ℕ). permutation_columns (copied (circuit_of ws)) (rows_of (circuit_of ws)) (split ls (cells_of cs))) el' ec
      ∙ ap (permutation_columns (copied (circuit_of ws)) (rows_of (circuit_of ws))) (accepted.cycles_are ws a)
      ∙ label_words)

  -- ---- compressed columns
  pub compressed_given : (l : Layout) (k : ℕ) → l ≡ layout_from_words ws → k ≡ word_k ws → ((0 < k) × (k < 21)) × Given k l
  compressed_given l k is ek =
      let p = accepted.k_pos ws a in
      let f = accepted.k_few ws a in
      ((omega arith, omega arith), rw (ek ∙ sym (accepted.k_is ws a)) (given_of l is))

  pub compressed_asks : (nodes widths pairs : List ℕ) → nodes ≡ body_of ws Section.nodes → widths ≡ body_of ws Section.widths
      → pairs ≡ body_of ws Section.pairs
      → (length nodes % 4 ≡ 0) × (total widths * 2 ≤ length pairs) × (length widths ≡ num_lookups (circuit_of ws))
  compressed_asks nodes widths pairs en ew ep = (
    rw en (accepted.nodes_whole ws a),
    (let t = accepted.pairs_total ws a in
        let n = accepted.pairs_length ws a in
        let w = ap total ew in
        let p = ap length ep in
        omega arith),
    ap length ew ∙ sym (accepted.widths_are ws a),
  )

  pub compressed_written : (l : Layout) (k to : ℕ) (β : 𝔾.F) (nodes widths pairs witness user d new : List ℕ)
      → nodes ≡ body_of ws Section.nodes → widths ≡ body_of ws Section.widths → pairs ≡ body_of ws Section.pairs
      → new
      ≡ write_at d to
      (words_of (2 ^ k)
      (compressed_polys_in 𝔾 (environment_from_words ws witness d user l k) β (split widths (pairs_of nodes pairs))))
      → new
      ≡ write_at d to
      (words_of (2 ^ k) (compressed_polys_in 𝔾 (environment_from_words ws witness d user l k) β (circuit_of ws).lookups))
  compressed_written l k to β nodes widths pairs witness user d new en ew ep h =
      h
      ∙ ap (λ ls. write_at d to (words_of (2 ^ k) (compressed_polys_in 𝔾 (environment_from_words ws witness d user l k) β ls)))
      (ap₂ split ew (ap₂ pairs_of en ep) ∙ lookups_are ws (accepted.pairs_length ws a))

  pub compressed_room : (l : Layout) (k n : ℕ) (columns : List ℕ) → l ≡ layout_from_words ws → k ≡ word_k ws → n ≡ num_copied (circuit_of ws)
      → compressed_offset (circuit_of ws) + num_lookups (circuit_of ws) * 2 * rows_of (circuit_of ws) ≤ length columns
      → (k ≡ (circuit_of ws).k) × (l.instances * 2 ^ k ≤ (l.instances + n) * l.rows)
      × ((l.instances + n) * l.rows + num_lookups (circuit_of ws) * (2 ^ k + 2 ^ k) ≤ length columns)
  compressed_room l k n columns is ek e room =
      let c : Circuit = circuit_of ws in
      let same : k ≡ c.k = ek ∙ sym (accepted.k_is ws a) in (
        same,
        rw (rows_of_is l is, same) (mul-le-mul_right (rows_of c) (omega arith)),
        rw (compressed_at_is l is n e, same)
            (let d : num_lookups c * 2 * rows_of c ≡ num_lookups c * (2 * rows_of c) = mul_assoc (num_lookups c) 2 (rows_of c) in
            let f : num_lookups c * (2 * rows_of c) ≡ num_lookups c * (rows_of c + rows_of c) = ap (λ (x : ℕ). num_lookups c * x) (omega arith) in
            omega arith),
      )

  pub compressed_all : (l : Layout) (k n user : ℕ) (β : 𝔾.F) (witness challenges d new : List ℕ) → l ≡ layout_from_words ws → k ≡ word_k ws
      → n ≡ num_copied (circuit_of ws) → user ≡ num_challenges (circuit_of ws) → β ≡ el (get_or challenges user 0)
      → new
      ≡ write_at d ((l.instances + n) * l.rows)
      (words_of (2 ^ k) (compressed_polys_in 𝔾 (environment_from_words ws witness d (take (user - 0) challenges) l k) β (circuit_of ws).lookups))
      → new
      ≡ write_at d (compressed_offset (circuit_of ws))
      (words_of (rows_of (circuit_of ws))
      (compressed_polys_in 𝔾
      (environment_from_words ws witness d (take (num_challenges (circuit_of ws)) challenges) (layout_from_words ws) (circuit_of ws).k)
      (el (get_or challenges (num_challenges (circuit_of ws)) 0))
      (circuit_of ws).lookups))
  compressed_all l k n user β witness challenges d new is ek en eu eb h =
      let c : Circuit = circuit_of ws in
      let to : ℕ = compressed_offset c in
      let write : ℕ → Layout → ℕ → 𝔾.F → List ℕ = λ k l user β.
      write_at d to (words_of (2 ^ k) (compressed_polys_in 𝔾 (environment_from_words ws witness d (take user challenges) l k) β c.lookups)) in
      h
      ∙ ap₂ (λ (to m : ℕ). write_at d to (words_of (2 ^ k) (compressed_polys_in 𝔾 (environment_from_words ws witness d (take m challenges) l k) β c.lookups)))
      (compressed_at_is l is n en)
      (let q : user - 0 ≡ user = omega arith in q)
      ∙ ap₂ (λ (k : ℕ) (l : Layout). write k l user β) (ek ∙ sym (accepted.k_is ws a)) is
      ∙ ap₂ (λ (user : ℕ) (β : 𝔾.F). write c.k (layout_from_words ws) user β) eu (eb ∙ ap (λ (user : ℕ). el (get_or challenges user 0)) eu)

  -- ---- z columns
  pub z_asks : (l : Layout) (k parts lookups groups : ℕ) (names columns : List ℕ) → l ≡ layout_from_words ws → k ≡ word_k ws → lookups ≡ get_or ws 13 0
      → groups ≡ num_groups (circuit_of ws)
      → names ≡ copied (circuit_of ws) → parts ≡ num_z (circuit_of ws)
      → z_offset (circuit_of ws) + num_z (circuit_of ws) * rows_of (circuit_of ws) ≤ length columns
      → ((0 < k) × (k < 21)) × Given k l × ((0 < length names → 0 < parts) × (parts ≤ length names)) × (length names ≤ 1048576)
      × ((l.instances + length names) * 2 ^ k ≤ (l.instances + length names + lookups * 2 + groups * 2) * l.rows)
      × ((l.instances + length names + lookups * 2 + groups * 2) * l.rows + parts * 2 ^ k ≤ length columns)
  z_asks l k parts lookups groups names columns is ek em eg en ez room =
      let c : Circuit = circuit_of ws in
      let same : k ≡ c.k = ek ∙ sym (accepted.k_is ws a) in
      let n : length names ≡ num_copied c = ap length en in (
        ((let h = accepted.k_pos ws a in omega arith), (let h = accepted.k_few ws a in omega arith)),
        rw same (given_of l is),
        ((λ h. let q = accepted.some_z ws a (omega arith) in omega arith), (let h = accepted.few_z ws a in omega arith)),
        (let h = accepted.few_copied ws a in omega arith),
        rw (same, rows_of_is l is) (mul-le-mul_right (rows_of c) (omega arith)),
        rw (zs_at l is (length names) lookups groups n em eg, same, ez) room,
      )

  -- what is answered, and what is written
  pub z_written : (l : Layout) (k parts lookups groups user : ℕ) (beta gamma : 𝔾.F) (names witness challenges d new : List ℕ) (r : Outcome)
      → l ≡ layout_from_words ws
      → k ≡ word_k ws → lookups ≡ get_or ws 13 0 → groups ≡ num_groups (circuit_of ws) → names ≡ copied (circuit_of ws) → parts ≡ num_z (circuit_of ws) → user ≡ num_challenges (circuit_of ws)
      → beta ≡ el (get_or challenges user 0) → gamma ≡ el (get_or challenges (user + 1) 0)
      → (r ≡ outcome_of (some_zero 𝔾 (factor_denominators 𝔾 (2 ^ k) (length names) (λ i b. denominator_in_words l ws witness d names beta gamma b i))))
      × (new
      ≡ write_at d ((l.instances + length names + lookups * 2 + groups * 2) * l.rows)
      (outcome_words r (words_of (2 ^ k) (tabulate (z_of 𝔾 (ratio_in_words l ws witness d names beta gamma) k (length names) parts) parts))))
      → (r ≡ outcome_of (some_zero 𝔾 (z_denominators ws witness d challenges)))
      × (new ≡ write_at d (z_offset (circuit_of ws)) (outcome_words r (z_words ws witness d challenges)))
  z_written l k parts lookups groups user beta gamma names witness challenges d new r is ek em en' en ez eu eb eg h =
      let c : Circuit = circuit_of ws in
      let b-is = eb ∙ ap (λ (user : ℕ). el (get_or challenges user 0)) eu in
      let g-is = eg ∙ ap (λ (user : ℕ). el (get_or challenges (user + 1) 0)) eu in
      let zeros : Layout → ℕ → List ℕ → 𝔾.F → 𝔾.F → Outcome = λ l k names beta gamma.
      outcome_of (some_zero 𝔾 (factor_denominators 𝔾 (2 ^ k) (length names) (λ i b. denominator_in_words l ws witness d names beta gamma b i))) in
      let write : ℕ → Layout → ℕ → List ℕ → ℕ → 𝔾.F → 𝔾.F → List ℕ = λ to l k names parts beta gamma.
      write_at d to (outcome_words r (words_of (2 ^ k) (tabulate (z_of 𝔾 (ratio_in_words l ws witness d names beta gamma) k (length names) parts) parts))) in (
        h.0
            ∙ ap (λ (k : ℕ). zeros l k names beta gamma) (ek ∙ sym (accepted.k_is ws a))
            ∙ ap₂ (λ (l : Layout) (names : List ℕ). zeros l c.k names beta gamma) is en
            ∙ ap₂ (λ (beta gamma : 𝔾.F). zeros (layout_from_words ws) c.k (copied c) beta gamma) b-is g-is,
        h.1
            ∙ ap₂ (λ (to k : ℕ). write to l k names parts beta gamma) (zs_at l is (length names) lookups groups (ap length en) em en')
            (ek ∙ sym (accepted.k_is ws a))
            ∙ ap₂ (λ (l : Layout) (names : List ℕ). write (z_offset c) l c.k names parts beta gamma) is en
            ∙ ap (λ (parts : ℕ). write (z_offset c) (layout_from_words ws) c.k (copied c) parts beta gamma) ez
            ∙ ap₂ (λ (beta gamma : 𝔾.F). write (z_offset c) (layout_from_words ws) c.k (copied c) (num_z c) beta gamma) b-is g-is,
      )
