-- The labels and z in the buffer that a call left, and that the product closes at one: RunningProduct of calls.
use mathlib.Core.Path.{◌≡◌, refl, sym, ap, ◌∙◌}
use mathlib.Core.List.{List, []}
use Prim.Native.Nat.{ℕ, suc, ◌+◌, ◌-◌, ◌*◌, ◌≤◌, ◌<◌}
use native.Mathlib.Omega.{arith}
use lib.ListN.{length, get_or}
use lib.Pow.{pow_mono}
use Rattle.field.specs.Algebra as Algebra
use Rattle.field.specs.Field.{𝔾, el, val, el_val, val_el}
use Rattle.field.proofs.Elements.{val_zero, val_one}
use Rattle.bh.specs.Sums.{up_to}
use Rattle.bh.specs.Rows.{row_at}
use Rattle.bh.proofs.Order.{row_lt}
use Rattle.lists.specs.Lists.{range, tabulate, concat}
use Rattle.lists.proofs.Lists.{get_left, get_past, get_map}
use Rattle.lists.proofs.Columns.{below_length, below_get}
use Rattle.expression.specs.Value.{poly_of}
use Rattle.backend.specs.Circuit.{Circuit, circuit_of, rows_of, num_instance, num_copied, num_lookups, num_groups}
use Rattle.preprocessor.specs.Permutation.{first_label, label}
use Rattle.preprocessor.specs.Compose.{num_z, z_cut}
use Rattle.prover.specs.Log.{Log}
use Rattle.prover.specs.Columns.{
  instance_polys,
  permutation_polys,
  compressed_polys,
  m_polys,
  h_polys,
  z_polys,
  written_polys,
  permutation_at,
  part_at,
  step_at,
  running_at,
  z_at_place,
  z_at,
}
use Rattle.prover.proofs.Lengths.{instances_length, permutations_length, compressed_length, m_length, h_length, written_length}
use Rattle.hyperplonk_spec.specs.Build.{log_of, build_of, lent_build}
use Rattle.hyperplonk_spec.specs.Meaning.{Admitted}
use Rattle.hyperplonk_spec.specs.Copies.{copied_cell, σ, whole_running, paper_z, cells_before}
use Rattle.hyperplonk_spec.specs.RunningProduct.{z_word, ProductCloses, RunningProduct}
use Rattle.completeness.proofs.Denominators.{none_zero_when}
use Rattle.completeness.proofs.DemandThree.{admitted}
use Rattle.completeness.proofs.DemandThreeOf.{eleven_yes, k_positive, k_below_21}
use Rattle.completeness.proofs.Permuted.{labels, permutes, labels_small}
use Rattle.completeness.proofs.Plonk.{step_at_is}
use Rattle.completeness.proofs.PaperZ.{is_paper_z}
use Rattle.completeness.proofs.Copies.{closes}
use Rattle.completeness.proofs.RowListedTwice.{word_at, yes_all_asked, asked, left_is}

module _ (g : Log 𝔾) where
  -- the permutation and z columns among those written
  written_label : (i b : ℕ) → i < num_copied g.circuit
      → poly_of 𝔾 (written_polys 𝔾 g) (num_instance g.circuit + i) b ≡ permutation_at 𝔾 g i b
  unfolding written_polys permutation_polys
  written_label i b l =
      ap (λ (p : ℕ → 𝔾.F). p b)
      (get_past (instance_polys 𝔾 g) _ _ i (λ r. 𝔾.zero) (let q = instances_length 𝔾 g in omega arith)
      ∙ get_left (permutation_polys 𝔾 g) _ i (λ r. 𝔾.zero) (let q = permutations_length 𝔾 g in omega arith)
      ∙ get_map (permutation_at 𝔾 g) (range (num_copied g.circuit)) i 0 (λ r. 𝔾.zero) (let q = below_length (num_copied g.circuit) in omega arith)
      ∙ ap (permutation_at 𝔾 g) (below_get (num_copied g.circuit) i 0 l))

  written_z : (i b : ℕ) → i < num_z g.circuit
      → poly_of 𝔾 (written_polys 𝔾 g) (num_instance g.circuit + num_copied g.circuit + num_lookups g.circuit * 2 + num_groups g.circuit * 2 + i) b ≡ z_at 𝔾 g i b
  unfolding written_polys z_polys
  written_z i b l =
      ap (λ (p : ℕ → 𝔾.F). p b)
      (get_past (instance_polys 𝔾 g) _ _ (num_copied g.circuit + (num_lookups g.circuit * 2 + (num_groups g.circuit * 2 + i))) (λ r. 𝔾.zero) (let q = instances_length 𝔾 g in omega arith)
      ∙ get_past (permutation_polys 𝔾 g) _ _ (num_lookups g.circuit * 2 + (num_groups g.circuit * 2 + i)) (λ r. 𝔾.zero) (let q = permutations_length 𝔾 g in omega arith)
      ∙ get_past (compressed_polys 𝔾 g) _ _ (num_groups g.circuit * 2 + i) (λ r. 𝔾.zero) (let q = compressed_length 𝔾 g in omega arith)
      ∙ get_past (m_polys 𝔾 g) _ _ (num_groups g.circuit + i) (λ r. 𝔾.zero) (let q = m_length 𝔾 g in omega arith)
      ∙ get_past (h_polys 𝔾 g) _ _ i (λ r. 𝔾.zero) (let q = h_length 𝔾 g in omega arith)
      ∙ get_map (z_at 𝔾 g) (range (num_z g.circuit)) i 0 (λ r. 𝔾.zero) (let q = below_length (num_z g.circuit) in omega arith)
      ∙ ap (z_at 𝔾 g) (below_get (num_z g.circuit) i 0 l))

  -- the first z column is one at the first place after row 0
  starts_one : paper_z 𝔾 g 0 0 ≡ 𝔾.one
  unfolding paper_z cells_before tabulate concat Algebra.product
  starts_one = refl

  -- the whole product is the last z times the last part's factor
  last_step : (i t : ℕ) → suc i ≡ num_z g.circuit → suc (suc t) ≡ rows_of g.circuit
      → 𝔾.mul (z_at_place 𝔾 g i (suc t)) (part_at 𝔾 g (get_or (z_cut g.circuit) i []) (row_at g.circuit.k (suc t))) ≡ whole_running 𝔾 g
  unfolding z_at_place running_at up_to
  last_step i t e m =
      ap (𝔾.mul (up_to 𝔾.mul 𝔾.one (step_at 𝔾 g) (t * num_z g.circuit + i))) (sym (step_at_is 𝔾 g t i (omega arith)))
      ∙ ap (up_to 𝔾.mul 𝔾.one (step_at 𝔾 g)) (count t i (num_z g.circuit) (rows_of g.circuit) e m)
    where
      count : (t i N rows : ℕ) → suc i ≡ N → suc (suc t) ≡ rows → suc (t * N + i) ≡ (rows - 1) * N
      count t i N rows e m = row t i N e ∙ ap (λ (x : ℕ). x * N) (less rows m)
        where
          row : (t i N : ℕ) → suc i ≡ N → suc (t * N + i) ≡ suc t * N
          row t i N e = omega arith

          less : (rows : ℕ) → suc (suc t) ≡ rows → suc t ≡ rows - 1
          less rows m = omega arith

module _ (ws instances witness challenges columns nodes : List ℕ) (z : (build_of (lent_build ws instances witness challenges columns nodes)).answer.number ≡ 0) where
  abbrev log : Log 𝔾
  log = log_of ws instances witness challenges

  abbrev c : Circuit
  c = circuit_of ws

  abbrev left : List ℕ
  left = (build_of (lent_build ws instances witness challenges columns nodes)).columns

  ad : Admitted 𝔾 log
  ad = admitted ws instances witness challenges columns nodes (asked ws instances witness challenges columns nodes z)

  -- word b of column q in the buffer
  word_is : (q b : ℕ) → q < length (written_polys 𝔾 log) → b < rows_of c → get_or left (q * rows_of c + b) 0 ≡ val (poly_of 𝔾 (written_polys 𝔾 log) q b)
  unfolding log_of
  word_is q b l m = ap (λ (ws : List ℕ). get_or ws (q * rows_of c + b) 0) (left_is ws instances witness challenges columns nodes z) ∙ word_at log _ q b l m

  z_word_is : (i b : ℕ) → i < num_z c → b < rows_of c → z_word c left i b ≡ val (z_at 𝔾 log i b)
  unfolding log_of
  z_word_is i b l m =
      word_is (num_instance c + num_copied c + num_lookups c * 2 + num_groups c * 2 + i) b (let q = written_length 𝔾 log in omega arith) m
      ∙ ap val (written_z log i b l)

  two_rows : 2 ≤ rows_of c
  unfolding log_of
  two_rows = pow_mono {i = 1} {j = c.k} (k_positive 𝔾 log ad)

  row_in : (t : ℕ) → row_at c.k t < rows_of c
  unfolding log_of
  row_in t = row_lt c.k (k_positive 𝔾 log ad) (k_below_21 𝔾 log ad) t

  z_is : (i t : ℕ) → i < num_z c → suc t < rows_of c → el (z_word c left i (row_at c.k (suc t))) ≡ paper_z 𝔾 log i t
  unfolding log_of
  z_is i t l m =
      ap el (z_word_is i (row_at c.k (suc t)) l (row_in (suc t)))
      ∙ el_val (z_at 𝔾 log i (row_at c.k (suc t)))
      ∙ (is_paper_z 𝔾 log).at_row ad i t l m

  label_val : (i b : ℕ) → i < num_copied c → b < rows_of c → val (permutation_at 𝔾 log i b) ≡ first_label c (σ c (copied_cell c i b))
  unfolding log_of permutation_at label
  label_val i b l m =
      val_el (first_label c (σ c (copied_cell c i b)))
      (labels_small log ad (first_label c (σ c (copied_cell c i b)))
      ((labels c).label_in_is (σ c (copied_cell c i b))
      ((permutes c (eleven_yes 𝔾 log ad)).into (copied_cell c i b) (record { column = i; column_in = l; row_in = m; is = refl }))))

  closed : ProductCloses log left
  unfolding log_of row_at
  closed =
      record {
        admitted = ad;
        labels_are = λ i b l m.
            word_is (num_instance c + i) b (let q = written_length 𝔾 log in omega arith) m
            ∙ ap val (written_label log i b l)
            ∙ label_val i b l m;
        z_row_0 = λ i l. z_word_is i 0 l (let r = two_rows in omega arith) ∙ ap val ((is_paper_z 𝔾 log).at_row_0 i) ∙ val_zero;
        z_starts = λ l.
            z_word_is 0 1 l (let r = two_rows in omega arith)
            ∙ ap val ((is_paper_z 𝔾 log).at_row ad 0 0 l (let r = two_rows in omega arith) ∙ starts_one log)
            ∙ val_one;
        z_is = z_is;
        z_ends = λ i t l m.
            ap (λ (x : 𝔾.F). 𝔾.mul x (part_at 𝔾 log (get_or (z_cut c) i []) (row_at c.k (suc t))))
            (z_is i t (omega arith) (omega arith) ∙ sym ((is_paper_z 𝔾 log).at_place i t (omega arith) (omega arith)))
            ∙ last_step log i t l m;
        closes = λ e.
            closes 𝔾 log ad e
            ((none_zero_when 𝔾 log).0 (yes_all_asked ws instances witness challenges columns nodes z).none_zero).factor_denominators_is;
      }

pub running_product : RunningProduct
running_product ws instances witness challenges columns nodes z = closed ws instances witness challenges columns nodes z
