-- A polynomial of a layout, by the place that its number falls in.
use mathlib.Core.Path.{◌≡◌, sym, ap, ◌∙◌}
use mathlib.Core.List.{List, ◌++◌}
use Prim.Native.Nat.{ℕ, ◌+◌, ◌-◌, ◌*◌, ◌≤◌, ◌<◌}
use native.Mathlib.Nat.{mul-le-mul, zero-add}
use native.Mathlib.Omega.{arith}
use lib.ListN.{get_or}
use Rattle.field.specs.Field.{𝔾, el, el_zero}
use Rattle.lists.specs.Lists.{tabulate}
use Rattle.lists.proofs.Lists.{get_left, get_past, get_none}
use Rattle.lists.proofs.Columns.{tabulate_length, get_tabulate}
use Rattle.expression.specs.Value.{poly_of}
use Rattle.expression.specs.Reader.{polys_of}
use Rattle.expression.specs.declared.poly.Layout.{Layout}

-- columns of one kind before others
module _ (f : ℕ → ℕ → 𝔾.F) (n : ℕ) (ps : List (ℕ → 𝔾.F)) (b : ℕ) where
  among : (q : ℕ) → q < n → poly_of 𝔾 (tabulate f n ++ ps) q b ≡ f q b
  among q h =
      ap (λ (p : ℕ → 𝔾.F). p b)
      (get_left (tabulate f n) ps q (λ r. 𝔾.zero) (let e = tabulate_length f n in omega arith) ∙ get_tabulate f n q (λ r. 𝔾.zero) h)

  after : (q : ℕ) → n ≤ q → poly_of 𝔾 (tabulate f n ++ ps) q b ≡ poly_of 𝔾 ps (q - n) b
  after q h =
      ap (λ (p : ℕ → 𝔾.F). p b)
      (get_past (tabulate f n) ps q (q - n) (λ r. 𝔾.zero) (let e = tabulate_length f n in omega arith))

module _ (f : ℕ → ℕ → 𝔾.F) (n b : ℕ) where
  among_last : (q : ℕ) → q < n → poly_of 𝔾 (tabulate f n) q b ≡ f q b
  among_last q h = ap (λ (p : ℕ → 𝔾.F). p b) (get_tabulate f n q (λ r. 𝔾.zero) h)

  after_last : (q : ℕ) → n ≤ q → poly_of 𝔾 (tabulate f n) q b ≡ 𝔾.zero
  after_last q h =
      ap (λ (p : ℕ → 𝔾.F). p b) (get_none (tabulate f n) q (λ r. 𝔾.zero) (let e = tabulate_length f n in omega arith))

-- the reader's ways: q passes the kinds before its own, and r is the word read
module _ (l : Layout) (circuit witness columns : List ℕ) (b q r : ℕ) where
  abbrev reading : 𝔾.F
  reading = poly_of 𝔾 (polys_of l circuit witness columns) q b

  -- a word read from 0 on
  plain : (ws : List ℕ) (i : ℕ) → r ≡ get_or ws (0 + i * l.rows + b) 0 → el r ≡ el (get_or ws (i * l.rows + b) 0)
  plain ws i h = ap el (h ∙ ap (λ (x : ℕ). get_or ws (x + b) 0) (zero-add (i * l.rows)))

  pub reads_instance : q < l.instances → r ≡ get_or columns (0 + q * l.rows + b) 0 → el r ≡ reading
  unfolding polys_of
  reads_instance h e = plain columns q e ∙ sym (among _ _ _ b q h)

  module _ (h0 : l.instances ≤ q) where
    abbrev q1 : ℕ
    q1 = q - l.instances

    pub reads_preprocess : q1 < l.preprocess → r ≡ get_or circuit (l.start + q1 * l.rows + b) 0 → el r ≡ reading
    unfolding polys_of
    reads_preprocess h e = ap el e ∙ sym (after _ _ _ b q h0 ∙ among _ _ _ b q1 h)

    module _ (h1 : l.preprocess ≤ q1) where
      abbrev q2 : ℕ
      q2 = q1 - l.preprocess

      pub reads_witness : q2 < l.witness → r ≡ get_or witness (0 + q2 * l.rows + b) 0 → el r ≡ reading
      unfolding polys_of
      reads_witness h e = plain witness q2 e ∙ sym (after _ _ _ b q h0 ∙ after _ _ _ b q1 h1 ∙ among _ _ _ b q2 h)

      module _ (h2 : l.witness ≤ q2) where
        abbrev q3 : ℕ
        q3 = q2 - l.witness

        pub reads_permutation : q3 < l.permutations → r ≡ get_or columns (0 + (l.instances + q3) * l.rows + b) 0
            → el r ≡ reading
        unfolding polys_of
        reads_permutation h e =
            plain columns (l.instances + q3) e
            ∙ sym (after _ _ _ b q h0 ∙ after _ _ _ b q1 h1 ∙ after _ _ _ b q2 h2 ∙ among _ _ _ b q3 h)

        module _ (h3 : l.permutations ≤ q3) where
          abbrev q4 : ℕ
          q4 = q3 - l.permutations

          pub reads_rest : q4 < l.rest
              → r ≡ get_or columns (0 + (l.instances + l.permutations + l.skipped + q4) * l.rows + b) 0
              → el r ≡ reading
          unfolding polys_of
          reads_rest h e =
              plain columns (l.instances + l.permutations + l.skipped + q4) e
              ∙ sym
              (after _ _ _ b q h0 ∙ after _ _ _ b q1 h1 ∙ after _ _ _ b q2 h2 ∙ after _ _ _ b q3 h3 ∙ among_last _ _ b q4 h)

          pub reads_none : l.rest ≤ q4 → el 0 ≡ reading
          unfolding polys_of
          reads_none h =
              el_zero
              ∙ sym
              (after _ _ _ b q h0 ∙ after _ _ _ b q1 h1 ∙ after _ _ _ b q2 h2 ∙ after _ _ _ b q3 h3 ∙ after_last _ _ b q4 h)

-- a column's first word does not wrap
pub place_small : (i rows : ℕ) → i ≤ 4194304 → rows ≤ 1048576 → i * rows ≤ 4398046511104
place_small i rows h k = mul-le-mul h k
