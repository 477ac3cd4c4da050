-- With equal cells σ keeps the values and the two products are equal; the whole running product is the one over the other. Keeps,
-- Balances, WholeProduct, ClosesWhen, Closes and the factors of Copies.
use mathlib.Core.Path.{◌≡◌, refl, sym, ap, ap₂, ◌∙◌}
use mathlib.Core.Logic.{◌≢◌, ◌↔◌}
use mathlib.Core.List.{List, [], map}
use Prim.Native.Nat.{ℕ, suc, ◌+◌, ◌-◌, ◌*◌, ◌<◌}
use native.Mathlib.Decide.{ℕ_discrete}
use native.Mathlib.Omega.{arith}
use lib.Pow.{pow_pos}
use lib.ListN.{get_or, take}
use Rattle.field.specs.Algebra.{Field}
use Rattle.field.specs.Algebra as Algebra
use Rattle.bh.specs.Sums.{up_to}
use Rattle.bh.specs.Rows.{row_at}
use Rattle.bh.proofs.Order.{row_sum_but_0}
use Rattle.lists.specs.Lists.{range, tabulate, concat, All}
use Rattle.lists.proofs.Columns.{below_length, below_get}
use Rattle.identities.specs.Cycles.{labels}
use Rattle.identities.specs.Cycles as Cycles
use Rattle.identities.specs.Copies.{at_cell}
use Rattle.identities.proofs.Totals.{sums, up_to_cong, up_to_op, up_to_swap, up_to_flat}
use Rattle.identities.proofs.Fields.{muls, prod_inv, prod_nonzero, inv_mul_self}
use Rattle.identities.proofs.Cycles.{good_labels, permuted}
use Rattle.identities.proofs.Copies.{at_cell_is}
use Rattle.identities.proofs.Products.{product_up_to, parts_product}
use Rattle.backend.specs.Circuit.{Cell, rows_of, num_copied}
use Rattle.preprocessor.specs.Permutation.{first_label, label}
use Rattle.preprocessor.specs.Compose.{num_z, z_cut}
use Rattle.preprocessor.proofs.Cycles.{source_all}
use Rattle.preprocessor.proofs.Copied.{cells_placed}
use Rattle.prover.specs.Log.{Log}
use Rattle.prover.specs.Columns.{copied_at, permutation_at, identity_factor_at, permutation_factor_at, ratio_at, part_at, step_at, running_at}
use Rattle.hyperplonk_spec.specs.Meaning.{Admitted, cell_value, EqualCells, NoZeroFactor}
use Rattle.hyperplonk_spec.specs.Copies.{σ, AreFactors, over_cells, Balanced, Keeps, Balances, WholeProduct, ClosesWhen, Closes}
use Rattle.completeness.proofs.CellNumbers.{Placed, source_agree, label_agree}
use Rattle.completeness.proofs.CycleNumbers.{cycles_good_is, copied_good, value_at}
use Rattle.completeness.proofs.DemandThreeOf.{eleven_yes, k_positive, k_below_21}
use Rattle.completeness.proofs.Cuts.{none_z}
use Rattle.completeness.proofs.Plonk.{placed?, source_out, whole as parts_whole, step_at_is}
use Rattle.completeness.proofs.Permuted.{label_first}

module _ (𝓕 : Field) where
  open 𝓕 use {F, zero as nil, one, add, mul, inv}

  -- a product over the parts of a cut is one over the columns
  pub parts_all : (f : ℕ → F) (n N : ℕ) (parts : List (List ℕ)) → concat (take N parts) ≡ range n
      → up_to mul one (λ j. Algebra.product 𝓕 (map f (get_or parts j []))) N ≡ up_to mul one f n
  parts_all f n N parts e =
      parts_product 𝓕 f N parts
      ∙ ap (λ (js : List ℕ). Algebra.product 𝓕 (map f js)) e
      ∙ product_up_to 𝓕 f (range n)
      ∙ ap (up_to mul one (λ r. f (get_or (range n) r 0))) (below_length n)
      ∙ up_to_cong mul one (λ r. f (get_or (range n) r 0)) f n (λ r l. ap f (below_get n r 0 l))

  module _ (g : Log 𝓕) where
    -- ---- the factors are those of the cells
    pub are_factors : AreFactors 𝓕 g
    unfolding identity_factor_at permutation_factor_at permutation_at copied_at label cell_value
    are_factors =
        record {
          label = λ i b. refl;
          identity = λ i b l. ap (λ (n : ℕ). add (add (copied_at 𝓕 g i b) (mul g.β (g.el n))) g.γ) (sym (label_first g.circuit i b l));
          permutation = λ i b. refl;
        }

    module _ (ad : Admitted 𝓕 g) where
      abbrev M : ℕ
      M = rows_of g.circuit

      abbrev n : ℕ
      n = num_copied g.circuit

      abbrev N : ℕ
      N = num_z g.circuit

      abbrev numbers : List (List ℕ)
      numbers = map (map (first_label g.circuit)) g.circuit.cycles

      a : All (All (Placed g.circuit)) g.circuit.cycles
      a = cells_placed g.circuit (eleven_yes 𝓕 g ad)

      -- value + β × label + γ, of a cell by its number
      abbrev φ : F → ℕ → F
      φ v l = add (add v (mul g.β (g.el l))) g.γ

      abbrev v : ℕ → F
      v = at_cell M (copied_at 𝓕 g)

      -- ---- with equal cells
      module _ (eq : EqualCells 𝓕 g) where
        kept : (x : Cell) → cell_value 𝓕 g (σ g.circuit x) ≡ cell_value 𝓕 g x
        kept x = go (placed? g.circuit x)
          where
            go : Dec (Placed g.circuit x) → cell_value 𝓕 g (σ g.circuit x) ≡ cell_value 𝓕 g x
            go (yes h) =
                sym (value_at 𝓕 g (σ g.circuit x) (source_all (Placed g.circuit) g.circuit.cycles x a h))
                ∙ ap v (source_agree g.circuit g.circuit.cycles x a h)
                ∙ (good_labels n M v numbers (cycles_good_is g.circuit (eleven_yes 𝓕 g ad)) (copied_good 𝓕 g (eleven_yes 𝓕 g ad) eq)).same (first_label g.circuit x)
                ∙ value_at 𝓕 g x h
            go (no h) = ap (cell_value 𝓕 g) (source_out g.circuit g.circuit.cycles x a h)

        -- over the cells by their numbers
        by_number : (f : ℕ → ℕ → F) (l : ℕ → ℕ) → ((i b : ℕ) → i < n → b < M → f i b ≡ φ (copied_at 𝓕 g i b) (l (i * M + b)))
            → over_cells 𝓕 g f ≡ Cycles.product_over_cells mul one n M (λ c. φ (v c) (l c))
        by_number f l h =
            up_to_cong mul one (λ i. up_to mul one (λ b. f i (suc b)) (M - 1)) (λ i. up_to mul one (λ b. φ (v (i * M + suc b)) (l (i * M + suc b))) (M - 1)) n
            (λ i m.
            up_to_cong mul one (λ b. f i (suc b)) (λ b. φ (v (i * M + suc b)) (l (i * M + suc b))) (M - 1)
            (λ b w.
            h i (suc b) m (omega arith)
            ∙ ap (λ (x : F). φ x (l (i * M + suc b))) (sym (at_cell_is M (copied_at 𝓕 g) i (suc b) (omega arith)))))

        balanced : Balanced 𝓕 g
        unfolding identity_factor_at permutation_factor_at permutation_at
        balanced =
            by_number (identity_factor_at 𝓕 g) (λ c. c) (λ i b l m. refl)
            ∙ permuted mul one (muls 𝓕) n M (pow_pos g.circuit.k) v numbers (cycles_good_is g.circuit (eleven_yes 𝓕 g ad)) (copied_good 𝓕 g (eleven_yes 𝓕 g ad) eq) φ
            ∙ sym (by_number (permutation_factor_at 𝓕 g) (labels numbers) (λ i b l m. ap (φ (copied_at 𝓕 g i b)) (label_agree g.circuit a i b l m)))

      -- ---- the whole running product
      whole_cut : concat (take N (z_cut g.circuit)) ≡ range n
      unfolding concat tabulate
      whole_cut = go (ℕ_discrete n 0)
        where
          go : Dec (n ≡ 0) → concat (take N (z_cut g.circuit)) ≡ range n
          go (yes e) = ap (λ (m : ℕ). concat (take m (z_cut g.circuit))) (none_z g.circuit e) ∙ sym (ap range e)
          go (no w) = parts_whole 𝓕 g (omega arith)

      -- all parts at a place
      steps_all : (s : ℕ) → up_to mul one (λ j. step_at 𝓕 g (s * N + j)) N ≡ up_to mul one (ratio_at 𝓕 g (row_at g.circuit.k (suc s))) n
      unfolding part_at
      steps_all s =
          up_to_cong mul one (λ j. step_at 𝓕 g (s * N + j)) (λ j. part_at 𝓕 g (get_or (z_cut g.circuit) j []) (row_at g.circuit.k (suc s))) N (λ j l. step_at_is 𝓕 g s j l)
          ∙ parts_all (ratio_at 𝓕 g (row_at g.circuit.k (suc s))) n N (z_cut g.circuit) whole_cut

      abbrev I : ℕ → ℕ → F
      I = identity_factor_at 𝓕 g

      abbrev Q : ℕ → ℕ → F
      Q = permutation_factor_at 𝓕 g

      -- all copied columns at a row
      row_all : (b : ℕ) → up_to mul one (ratio_at 𝓕 g b) n ≡ mul (up_to mul one (λ i. I i b) n) (inv (up_to mul one (λ i. Q i b) n))
      unfolding ratio_at
      row_all b = up_to_op mul one (muls 𝓕) (λ i. I i b) (λ i. inv (Q i b)) n ∙ ap (mul (up_to mul one (λ i. I i b) n)) (prod_inv 𝓕 (λ i. Q i b) n)

      whole : running_at 𝓕 g ((M - 1) * N) ≡ mul (over_cells 𝓕 g I) (inv (over_cells 𝓕 g Q))
      unfolding running_at
      whole =
          sym (up_to_flat mul one (muls 𝓕) (step_at 𝓕 g) (M - 1) N)
          ∙ up_to_cong mul one (λ s. up_to mul one (λ j. step_at 𝓕 g (s * N + j)) N) (λ s. up_to mul one (ratio_at 𝓕 g (row_at g.circuit.k (suc s))) n) (M - 1) (λ s l. steps_all s)
          ∙ row_sum_but_0 g.circuit.k (k_positive 𝓕 g ad) (k_below_21 𝓕 g ad) mul one (sums mul one (muls 𝓕)) (λ b. up_to mul one (ratio_at 𝓕 g b) n)
          ∙ up_to_cong mul one (λ b. up_to mul one (ratio_at 𝓕 g (suc b)) n) (λ b. mul (top b) (inv (bottom b))) (M - 1) (λ b l. row_all (suc b))
          ∙ up_to_op mul one (muls 𝓕) top (λ b. inv (bottom b)) (M - 1)
          ∙ ap₂ mul (up_to_swap mul one (muls 𝓕) (λ b i. I i (suc b)) (M - 1) n)
          (prod_inv 𝓕 bottom (M - 1) ∙ ap inv (up_to_swap mul one (muls 𝓕) (λ b i. Q i (suc b)) (M - 1) n))
        where
          top : ℕ → F
          top b = up_to mul one (λ i. I i (suc b)) n

          bottom : ℕ → F
          bottom b = up_to mul one (λ i. Q i (suc b)) n

      module _ (nz : NoZeroFactor 𝓕 g) where
        below_nonzero : over_cells 𝓕 g Q ≢ nil
        below_nonzero =
            prod_nonzero 𝓕 (λ i. up_to mul one (λ b. Q i (suc b)) (M - 1)) n
            (λ i l. prod_nonzero 𝓕 (λ b. Q i (suc b)) (M - 1) (λ b m. nz i l (suc b) (omega arith) (omega arith)))

        -- x / y is one exactly when x is y
        closed_when : (running_at 𝓕 g ((M - 1) * N) ≡ one) ↔ Balanced 𝓕 g
        closed_when = (
          λ e.
              sym (𝓕.mul_one P) ∙ ap (mul P) (sym (inv_mul_self 𝓕 R below_nonzero)) ∙ sym (𝓕.mul_assoc P (inv R) R)
              ∙ ap (λ (x : F). mul x R) (sym whole ∙ e) ∙ Algebra.one_mul 𝓕 R,
          λ e. whole ∙ ap (λ (x : F). mul x (inv R)) e ∙ 𝓕.mul_inv R below_nonzero,
        )
          where
            P : F
            P = over_cells 𝓕 g I

            R : F
            R = over_cells 𝓕 g Q

    pub keeps : Keeps 𝓕 g
    keeps ad eq = kept ad eq

    pub balances : Balances 𝓕 g
    balances ad eq = balanced ad eq

    pub whole_product : WholeProduct 𝓕 g
    whole_product ad = whole ad

    pub closes_when : ClosesWhen 𝓕 g
    closes_when ad nz = closed_when ad nz

    pub closes : Closes 𝓕 g
    closes ad eq nz = (closed_when ad nz).1 (balanced ad eq)
