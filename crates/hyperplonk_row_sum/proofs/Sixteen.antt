-- Question 16 in parts: the lengths, then the node words, then the values.
use mathlib.Core.Path.{◌≡◌, refl, sym, ap, ap₂, ◌∙◌}
use mathlib.Core.Bool.{Bool, true, false, not, ◌&&◌}
use mathlib.Core.List.{List}
use Prim.Native.Nat.{ℕ, ◌+◌, ◌*◌, ◌≤◌}
use native.Mathlib.Omega.{arith}
use lib.Dec.{eqb, ltb}
use lib.ListN.{length}
use borrow.Author.Tests.{eq-eqb, eqb-true}
use Rattle.field.specs.Prime.{P}
use Rattle.lists.specs.Lists.{all_of, same_words}
use Rattle.lists.proofs.Tests.{false_true, by_test, and_left, and_right}
use Rattle.lists.proofs.Same.{words_same}
use Rattle.expression.specs.declared.poly.Layout.{Layout}
use Rattle.expression.proofs.FlatLength.{flat_length}
use Rattle.backend.specs.Circuit.{Circuit, word_k, circuit_of, rows_of, num_witness, num_challenges}
use Rattle.backend.specs.Questions.{small}
use Rattle.backend.proofs.Answers.{says_no, says_yes}
use Rattle.preprocessor.specs.Compose.{compose, composed_words, composed_nodes, params_of}
use Rattle.preprocessor.specs.declared.CircuitParams.{CircuitParams}
use Rattle.hyperplonk_spec.specs.Build.{column_words}
use Rattle.hyperplonk_spec.specs.RowSum.{q16}
use Rattle.hyperplonk_prepare.specs.Prepared.{Accepted, layout_from_words}
use Rattle.hyperplonk_prepare.proofs.Accepted as known
use Rattle.hyperplonk_row_sum.specs.Sum.{lengths_right, lent_small, sum_layout}

-- ---- words that are the same are as many
composed_length : (c : Circuit) → length (composed_words c) ≡ composed_nodes c * 4
unfolding composed_words composed_nodes
composed_length c = flat_length (compose c) 0

same_many : (c : Circuit) (nodes : List ℕ) → same_words nodes (composed_words c) ≡ true → length nodes ≡ composed_nodes c * 4
same_many c nodes e = ap (λ (ws : List ℕ). length ws) (words_same nodes (composed_words c) e) ∙ composed_length c

-- ---- over tests: x the other lengths, l and s the node words, a to d the values
module _ (x l s a b c d : Bool) where
  abbrev all : Bool
  all = x && s && a && b && c && d

  no_length : (x && l) ≡ false → (l ≡ false → s ≡ false) → false ≡ all
  no_length e h = go x e
    where
      go : (t : Bool) → (t && l) ≡ false → false ≡ (t && s && a && b && c && d)
      go false e = refl
      go true e = sym (ap (λ (u : Bool). u && a && b && c && d) (h e))

  no_nodes : s ≡ false → false ≡ all
  no_nodes e = go x
    where
      go : (t : Bool) → false ≡ (t && s && a && b && c && d)
      go false = refl
      go true = sym (ap (λ (u : Bool). u && a && b && c && d) e)

  yes_both : (x && l) ≡ true → s ≡ true → (a && b && c && d) ≡ all
  yes_both e h = sym (ap₂ (λ (t u : Bool). t && u && a && b && c && d) (and_left x l e) h)

  yes_lengths : all ≡ true → (x ≡ true) × (s ≡ true)
  yes_lengths e =
      let w = and_left (x && s) a (and_left (x && s && a) b (and_left (x && s && a && b) c (and_left (x && s && a && b && c) d e))) in
      (and_left x s w, and_right x s w)

module _ (c : Circuit) (witness columns nodes challenges y : List ℕ) where
  abbrev others : Bool
  others =
      eqb (length witness) (num_witness c * rows_of c) && eqb (length columns) (column_words c) && eqb (length challenges) (num_challenges c + 3)
      && eqb (length y) c.k

  abbrev many : Bool
  many = eqb (length nodes) (composed_nodes c * 4)

  abbrev lengths : Bool
  lengths = lengths_right c (length witness) (length columns) (length nodes) (length challenges) (length y)

  abbrev same : Bool
  same = same_words nodes (composed_words c)

  not_many : many ≡ false → same ≡ false
  not_many e = by_test same (λ t. false_true (sym e ∙ eq-eqb (length nodes) (composed_nodes c * 4) (same_many c nodes t))) (λ t. t)

  pub lengths_no : (r : Bool) → r ≡ lengths → not r ≡ true → false ≡ q16 c witness columns nodes challenges y
  unfolding lengths_right q16
  lengths_no r e h = no_length others many same (all_of small witness) (all_of small columns) (all_of small challenges) (all_of small y) (says_no r lengths e h) not_many

  pub nodes_no : (r : Bool) → r ≡ same → not r ≡ true → false ≡ q16 c witness columns nodes challenges y
  unfolding q16
  nodes_no r e h = no_nodes others many same (all_of small witness) (all_of small columns) (all_of small challenges) (all_of small y) (says_no r same e h)

  pub rest_is : (r s t : Bool) → r ≡ lengths → not r ≡ false → s ≡ same → not s ≡ false → t ≡ lent_small witness columns challenges y
      → t ≡ q16 c witness columns nodes challenges y
  unfolding lengths_right lent_small q16
  rest_is r s t e h f i v =
      v
      ∙ yes_both others many same (all_of small witness) (all_of small columns) (all_of small challenges) (all_of small y) (says_yes r lengths e h)
      (says_yes s same f i)

  pub nodes_many : (r : Bool) → r ≡ lengths → not r ≡ false → length nodes ≡ composed_nodes c * 4
  unfolding lengths_right
  nodes_many r e h = eqb-true (length nodes) (composed_nodes c * 4) (and_right others many (says_yes r lengths e h))

  -- what a yes tells of y and the nodes
  pub sixteen_yes : q16 c witness columns nodes challenges y ≡ true → (length y ≡ c.k) × (length nodes ≡ composed_nodes c * 4)
  unfolding q16
  sixteen_yes e =
      let p = yes_lengths others many same (all_of small witness) (all_of small columns) (all_of small challenges) (all_of small y) e in
      let three : Bool =
      eqb (length witness) (num_witness c * rows_of c) && eqb (length columns) (column_words c) && eqb (length challenges) (num_challenges c + 3) in
      (eqb-true (length y) c.k (and_right three (eqb (length y) c.k) p.0), same_many c nodes p.1)

  pub sixteen_nodes : q16 c witness columns nodes challenges y ≡ true → nodes ≡ composed_words c
  unfolding q16
  sixteen_nodes e =
      words_same nodes (composed_words c)
      (yes_lengths others many same (all_of small witness) (all_of small columns) (all_of small challenges) (all_of small y) e).1

-- ---- the lengths, from numbers

pub small_all : (ws xs ys zs : List ℕ) (p q r s : Bool) → p ≡ all_of (λ w. ltb w P) ws → q ≡ all_of (λ w. ltb w P) xs
    → r ≡ all_of (λ w. ltb w P) ys
    → s ≡ all_of (λ w. ltb w P) zs
    → (p && q && r && s) ≡ lent_small ws xs ys zs
unfolding lent_small
small_all ws xs ys zs p q r s a b c d = ap₂ ◌&&◌ (ap₂ ◌&&◌ (ap₂ ◌&&◌ a b) c) d

module _ (ws : List ℕ) (a : Accepted ws) (v : CircuitParams) (e : v ≡ params_of (circuit_of ws)) where
  pub numbers_few : (v.num_permutation_polys ≤ 72) × (v.num_lookups ≤ 8) × (v.num_chunks ≤ 72) × (v.num_challenges ≤ 16) × (v.num_groups ≤ 8)
  unfolding params_of
  numbers_few =
      let n = known.few_copied ws a in
      let j = known.few_lookups ws a in
      let g = known.fewer_groups ws a in
      let z = known.few_z ws a in
      let u = known.few_user ws a in
      rw e (omega arith, omega arith, omega arith, omega arith, omega arith)

  -- the layout, from that of the given polynomials
  pub layout_made : (l : Layout) → l ≡ layout_from_words ws
      → ◌≡◌ {A = Layout}
      (record {
        rows = l.rows;
        instances = l.instances;
        preprocess = l.preprocess;
        start = l.start;
        witness = l.witness;
        permutations = v.num_permutation_polys;
        skipped = v.num_lookups * 2;
        rest = v.num_groups * 2 + v.num_chunks;
      })
      (sum_layout ws)
  unfolding layout_from_words sum_layout params_of
  layout_made l h = rw (h, e) refl

  -- the witness words
  pub words_fit : (l : Layout) → l ≡ sum_layout ws → l.witness * l.rows ≤ 32768
  unfolding sum_layout
  words_fit l q =
      rw q (native.Mathlib.Nat.mul-le-mul (known.few_witness ws a) (known.rows_few ws a))

  pub lengths_are : (witness columns nodes challenges y : ℕ) (l : Layout) (words composed k : ℕ) → l ≡ sum_layout ws
      → words ≡ column_words (circuit_of ws)
      → composed ≡ composed_nodes (circuit_of ws)
      → k ≡ word_k ws
      → (eqb witness (l.witness * l.rows) && eqb columns words && eqb challenges (v.num_challenges + 3) && eqb y k && eqb nodes (composed * 4))
      ≡ lengths_right (circuit_of ws) witness columns nodes challenges y
  unfolding lengths_right params_of sum_layout
  lengths_are witness columns nodes challenges y l words composed k q w n m =
      ap₂ ◌&&◌
      (ap₂ ◌&&◌
      (ap₂ ◌&&◌
      (ap₂ ◌&&◌
      (ap (λ (l : Layout). eqb witness (l.witness * l.rows)) q
      ∙ ap (λ (n : ℕ). eqb witness (num_witness (circuit_of ws) * n)) (sym (known.rows_is ws a)))
      (ap (eqb columns) w))
      (ap (λ (v : CircuitParams). eqb challenges (v.num_challenges + 3)) e))
      (ap (eqb y) (m ∙ sym (known.k_is ws a))))
      (ap (λ (n : ℕ). eqb nodes (n * 4)) n)
