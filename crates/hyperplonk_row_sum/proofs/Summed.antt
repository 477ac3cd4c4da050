-- What the row sum's words tell, and the value of the last node at a row.
use mathlib.Core.Path.{◌≡◌, sym, ap, ◌∙◌}
use mathlib.Core.List.{List}
use Prim.Native.Nat.{ℕ, ◌+◌, ◌-◌, ◌*◌, ◌/◌, ◌^◌, ◌≤◌, ◌<◌}
use native.Mathlib.Omega.{arith}
use lib.ListN.{length, get_or}
use Rattle.field.specs.Field.{𝔾, el}
use Rattle.bh.specs.Rows.{row_at}
use Rattle.bh.proofs.Rows.{row_in, placed_at}
use Rattle.expression.specs.Nodes.{expr_of}
use Rattle.expression.specs.Value.{value_at}
use Rattle.expression.specs.Reader.{LayoutSmall}
use Rattle.expression.specs.Point.{PointInOrder, environment_of}
use Rattle.expression.specs.declared.poly.Layout.{Layout}
use Rattle.expression.specs.declared.value.Point.{Point}
use Rattle.multilinear.specs.EqXY.{eq_at}
use Rattle.backend.specs.Circuit.{circuit_of, word_k}
use Rattle.preprocessor.specs.Compose.{composed_nodes}
use Rattle.prover.specs.Lookup.{sum_rows}
use Rattle.hyperplonk_spec.specs.RowSum.{row_sum_environment, sum_of, lent_sum}
use Rattle.hyperplonk_prepare.specs.Prepared.{Accepted}
use Rattle.hyperplonk_prepare.proofs.Accepted as known
use Rattle.hyperplonk_row_sum.specs.Sum.{sum_layout, Summable}
use Rattle.hyperplonk_row_sum.proofs.Polys.{point_value}
use Rattle.hyperplonk_row_sum.proofs.Rows.{Added, added_all}

pub some_nodes : (ws : List ℕ) → 0 < composed_nodes (circuit_of ws)
unfolding composed_nodes
some_nodes ws = omega arith

pub sum_layout_small : (ws : List ℕ) → Accepted ws → LayoutSmall (sum_layout ws)
unfolding sum_layout
sum_layout_small ws a =
    let n = known.few_copied ws a in
    let j = known.few_lookups ws a in
    let g = known.fewer_groups ws a in
    let z = known.few_z ws a in
    let laid = known.laid_of ws a in
    record {
      rows = let h = known.rows_few ws a in omega arith;
      instances = let h = laid.few_instances in omega arith;
      preprocess = let h = laid.few_preprocess in omega arith;
      start = let h = laid.few_instances in let s = laid.preprocess_at in let t = laid.instances_at in omega arith;
      witness = let h = known.few_witness ws a in omega arith;
      permutations = omega arith;
      skipped = omega arith;
      rest = omega arith;
    }

module _ (ws nodes y : List ℕ) (l : Layout) (k : ℕ) (s : Summable ws nodes y l k) where
  k_word : k ≡ word_k ws
  k_word = s.k_is ∙ known.k_is ws s.accepted

  pub k_low : 0 < k
  k_low = let e = k_word in let h = known.k_pos ws s.accepted in omega arith

  pub k_high : k < 21
  k_high = let e = k_word in let h = known.k_few ws s.accepted in omega arith

  pub values_there : k ≤ length y
  values_there = let e = s.values_are in omega arith

  pub root_there : 1 ≤ length nodes / 4
  root_there = let e = s.nodes_are in let h = some_nodes ws in omega arith

  pub root_node : (length nodes / 4 - 1) * 4 + 4 ≤ length nodes
  root_node = let e = s.nodes_are in let h = some_nodes ws in omega arith

  root_is : length nodes / 4 - 1 ≡ composed_nodes (circuit_of ws) - 1
  root_is = let e = s.nodes_are in omega arith

  pub layout_small : LayoutSmall l
  layout_small = rw s.layout_is (sum_layout_small ws s.accepted)

  module _ (row place : ℕ) (inside : place < 2 ^ k) (row_is : row ≡ row_at k place) where
    pub placed : (eq : ℕ) → PointInOrder (record { k = k; row = row; place = place; eq = eq })
    placed eq =
        record {
          positive = k_low;
          small = k_high;
          inside = row_in k row place k_low k_high row_is;
          placed = placed_at k row place k_low k_high inside row_is;
        }

  module _ (witness columns challenges : List ℕ) where
    -- the value of the last node
    abbrev pub root_value : ℕ → 𝔾.F
    root_value = value_at 𝔾 (row_sum_environment ws witness columns challenges y) (expr_of nodes (composed_nodes (circuit_of ws) - 1))

    pub value_is : (p : Point) (x : 𝔾.F) → p.k ≡ k → PointInOrder p → el p.eq ≡ eq_at 𝔾 k (λ i. el (get_or y i 0)) p.row
        → x ≡ value_at 𝔾 (environment_of ws witness columns challenges l p) (expr_of nodes (length nodes / 4 - 1)) p.row
        → x ≡ root_value p.row
    value_is p x same h eq_is e =
        e
        ∙ ap (λ (l : Layout). value_at 𝔾 (environment_of ws witness columns challenges l p) (expr_of nodes (length nodes / 4 - 1)) p.row) s.layout_is
        ∙ point_value ws witness columns challenges y s.accepted p (same ∙ s.k_is) h.small h.inside
        (eq_is ∙ ap (λ (k : ℕ). eq_at 𝔾 k (λ i. el (get_or y i 0)) p.row) (sym same))
        (expr_of nodes (length nodes / 4 - 1))
        ∙ ap (λ (n : ℕ). value_at 𝔾 (row_sum_environment ws witness columns challenges y) (expr_of nodes n) p.row) root_is

    pub sum_is : (sum : 𝔾.F) (t : ℕ) → Added k root_value sum t → t ≡ 2 ^ k → sum ≡ sum_of (lent_sum ws witness columns nodes challenges y)
    unfolding sum_of
    sum_is sum t a e =
        added_all k root_value k_low k_high sum t a e ∙ ap (λ (k : ℕ). sum_rows 𝔾 (2 ^ k) root_value) s.k_is
