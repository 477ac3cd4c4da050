-- The z columns of the definitions are those of the crate identities; so the start and part constraints are zero.
use mathlib.Core.Path.{◌≡◌, refl, sym, ap, ap₂, ◌∙◌}
use mathlib.Core.Logic.{ite, if_neg}
use mathlib.Core.Bool.{Bool, true, cond}
use mathlib.Core.List.{List, [], map}
use Prim.Native.Nat.{ℕ, zero, suc, ◌+◌, ◌-◌, ◌*◌, ◌/◌, ◌%◌, ◌^◌, ◌<◌, min}
use native.Mathlib.Nat.{suc-ne-zero}
use native.Mathlib.Decide.{ℕ_discrete}
use native.Mathlib.Omega.{arith}
use lib.ListN.{get_or}
use lib.Dec.{ltb}
use borrow.Author.Tests.{lt-ltb, le-ltb}
use Rattle.field.specs.Algebra.{Field}
use Rattle.field.specs.Algebra as Algebra
use Rattle.bh.specs.Sums.{up_to}
use Rattle.bh.specs.Rows.{row_at, place_of, next_row, seek}
use Rattle.bh.proofs.Order.{row_lt}
use Rattle.identities.proofs.Totals.{up_to_cong, up_to_op}
use Rattle.identities.proofs.Fields.{muls, prod_inv}
use Rattle.identities.specs.Cycles.{labels}
use Rattle.identities.specs.Copies.{part_with, ids, perms}
use Rattle.identities.proofs.Copies.{copies_meet}
use Rattle.identities.specs.Running.{ratio, z_col, scan, Met}
use Rattle.identities.proofs.Running.{z_scan, z_zero}
use Rattle.identities.specs.Running as Running
use Rattle.identities.proofs.Products.{product_part}
use Rattle.expression.specs.Expr.{Expr}
use Rattle.expression.specs.Value.{Environment, value_at}
use Rattle.backend.specs.Circuit.{rows_of, num_copied, z_number}
use Rattle.backend.specs.Questions.{q11}
use Rattle.preprocessor.specs.Compose.{
  num_z,
  z_cut,
  constraint_cut,
  identity_factor,
  permutation_factor,
  start_constraint,
  part_constraint,
}
use Rattle.preprocessor.specs.Permutation.{first_label}
use Rattle.preprocessor.proofs.Copied.{cells_placed}
use Rattle.prover.specs.Log.{Log}
use Rattle.prover.specs.Columns.{
  permutation_at,
  copied_at,
  identity_factor_at,
  permutation_factor_at,
  ratio_at,
  part_at,
  step_at,
  running_at,
  z_at_place,
  z_at,
  composed_environment,
}
use Rattle.hyperplonk_spec.specs.Meaning.{Admitted, EachRow, NoneZero, Premises}
use Rattle.hyperplonk_spec.specs.Composed.{column_at_is, next_in, over_part, PartHolds}
use Rattle.hyperplonk_spec.proofs.ConstraintZero.{start_zero, part_zero}
use Rattle.completeness.proofs.CellNumbers.{label_agree}
use Rattle.completeness.proofs.CycleNumbers.{cycles_good_is, copied_good}
use Rattle.completeness.proofs.Cuts.{z_pos, part_size, covers, z_part, parts_alike}
use Rattle.completeness.proofs.ReadColumns.{reads}
use Rattle.completeness.proofs.ComposedZero.{embeds_in}

module _ (𝓕 : Field) (g : Log 𝓕) where
  open 𝓕 use {F, zero as nil, one, add, mul, neg, inv}

  -- value + β × label + γ
  abbrev pub φ : F → ℕ → F
  φ v l = add (add v (mul g.β (g.el l))) g.γ

  abbrev pub Cs : List (List ℕ)
  Cs = map (map (first_label g.circuit)) g.circuit.cycles

  module _ (n_pos : 0 < num_copied g.circuit) (kp : 0 < g.circuit.k) (ks : g.circuit.k < 21) (y : q11 g.circuit ≡ true) where
    abbrev pub size : ℕ
    size = part_size g.circuit n_pos

    -- the products of the identity factors and of the permutation factors of part j
    abbrev pub A : ℕ → ℕ → F
    A j b = ids 𝓕 g.circuit.k (num_copied g.circuit) size (copied_at 𝓕 g) φ Cs j b

    abbrev pub B : ℕ → ℕ → F
    B j b = perms 𝓕 g.circuit.k (num_copied g.circuit) size (copied_at 𝓕 g) φ Cs j b

    pub factor_agree : (i b : ℕ) → i < num_copied g.circuit → b < rows_of g.circuit
        → permutation_factor_at 𝓕 g i b ≡ φ (copied_at 𝓕 g i b) (labels Cs (i * rows_of g.circuit + b))
    unfolding permutation_factor_at permutation_at
    factor_agree i b l m = ap (φ (copied_at 𝓕 g i b)) (label_agree g.circuit (cells_placed g.circuit y) i b l m)

    -- the part's products, from the definitions' factors
    ids_agree : (j b : ℕ) → up_to mul one (λ r. identity_factor_at 𝓕 g (j * size + r) b) (min size (num_copied g.circuit - j * size)) ≡ A j b
    unfolding part_with identity_factor_at
    ids_agree j b = refl

    perms_agree : (j b : ℕ) → b < rows_of g.circuit
        → up_to mul one (λ r. permutation_factor_at 𝓕 g (j * size + r) b) (min size (num_copied g.circuit - j * size)) ≡ B j b
    unfolding part_with
    perms_agree j b m =
        up_to_cong mul one (λ r. permutation_factor_at 𝓕 g (j * size + r) b)
        (λ r. φ (copied_at 𝓕 g (j * size + r) b) (labels Cs ((j * size + r) * rows_of g.circuit + b))) (min size (num_copied g.circuit - j * size))
        (λ r l. factor_agree (j * size + r) b (omega arith) m)

    part_agree : (j b : ℕ) → b < rows_of g.circuit → part_at 𝓕 g (get_or (z_cut g.circuit) j []) b ≡ ratio 𝓕 g.circuit.k (num_z g.circuit) A B j b
    unfolding part_at ratio_at ratio
    part_agree j b m =
        ap (λ (part : List ℕ). Algebra.product 𝓕 (map (ratio_at 𝓕 g b) part)) (z_part g.circuit n_pos j)
        ∙ product_part 𝓕 (ratio_at 𝓕 g b) size (num_copied g.circuit) j
        ∙ up_to_op mul one (muls 𝓕) (λ r. identity_factor_at 𝓕 g (j * size + r) b) (λ r. inv (permutation_factor_at 𝓕 g (j * size + r) b)) len
        ∙ ap₂ mul (ids_agree j b) (prod_inv 𝓕 (λ r. permutation_factor_at 𝓕 g (j * size + r) b) len ∙ ap inv (perms_agree j b m))
      where
        len : ℕ
        len = min size (num_copied g.circuit - j * size)

    pub running_agree : (s : ℕ) → running_at 𝓕 g s ≡ scan 𝓕 g.circuit.k (num_z g.circuit) A B s
    unfolding running_at step_at scan
    running_agree s =
        up_to_cong mul one (step_at 𝓕 g)
        (λ r. ratio 𝓕 g.circuit.k (num_z g.circuit) A B (r % num_z g.circuit) (row_at g.circuit.k (suc (r / num_z g.circuit))))
        s
        (λ r l. part_agree (r % num_z g.circuit) (row_at g.circuit.k (suc (r / num_z g.circuit))) (row_lt g.circuit.k kp ks (suc (r / num_z g.circuit))))

    z_after_is : (i r : ℕ) → z_col 𝓕 g.circuit.k (num_z g.circuit) A B i (suc r)
        ≡ Running.z_placed 𝓕 g.circuit.k (num_z g.circuit) A B i (seek g.circuit.k (2 ^ g.circuit.k - 1) 1 (suc r))
    unfolding z_col place_of
    z_after_is i r =
        if_neg (ℕ_discrete (suc r) 0) (suc-ne-zero r) nil (Running.z_placed 𝓕 g.circuit.k (num_z g.circuit) A B i (place_of g.circuit.k (suc r) - 1))
        ∙ ap (Running.z_placed 𝓕 g.circuit.k (num_z g.circuit) A B i) (omega arith)

    -- z is the crate identities' z
    pub z_agree : (i b : ℕ) → i < num_z g.circuit → z_at 𝓕 g i b ≡ z_col 𝓕 g.circuit.k (num_z g.circuit) A B i b
    unfolding z_at z_at_place place_of
    z_agree i zero l = sym (z_zero 𝓕 g.circuit.k (num_z g.circuit) A B i)
    z_agree i (suc r) l =
        running_agree (seek g.circuit.k (2 ^ g.circuit.k - 1) 1 (suc r) * num_z g.circuit + i)
        ∙ sym
        (z_scan 𝓕 g.circuit.k (num_z g.circuit) A B i (seek g.circuit.k (2 ^ g.circuit.k - 1) 1 (suc r)) (z_pos g.circuit n_pos) (omega arith))
        ∙ sym (z_after_is i r)

    -- with true copies and no zero denominator, z meets the constraints
    pub met : Premises 𝓕 g → NoneZero 𝓕 g → Met 𝓕 g.circuit.k (num_z g.circuit) A B (z_col 𝓕 g.circuit.k (num_z g.circuit) A B)
    met p nz =
        copies_meet 𝓕 g.circuit.k (num_copied g.circuit) size (copied_at 𝓕 g) φ Cs (num_z g.circuit) kp ks (covers g.circuit n_pos)
        (cycles_good_is g.circuit y)
        (copied_good 𝓕 g y p.equal_cells)
        (λ i b l q m e. nz.factor_denominators_is i l b m q (factor_agree i b l m ∙ e))

    module _ (ad : Admitted 𝓕 g) (p : Premises 𝓕 g) (nz : NoneZero 𝓕 g) (α : F) (x : ℕ → F) where
      abbrev scene : Environment 𝓕
      scene = composed_environment 𝓕 g α x

      column_z : (i b : ℕ) → i < num_z g.circuit
          → column_at_is 𝓕 scene g.circuit (z_number g.circuit i) b ≡ z_col 𝓕 g.circuit.k (num_z g.circuit) A B i b
      column_z i b l = (reads 𝓕 g ad α x).z i b l ∙ z_agree i b l

      -- over part i of the constraints' cut, which is z's
      over_agree : (f f' : ℕ → F) → ((t : ℕ) → t < num_copied g.circuit → f t ≡ f' t) → (i : ℕ)
          → Algebra.product 𝓕 (map f (get_or (constraint_cut g.circuit) i []))
          ≡ up_to mul one (λ r. f' (i * size + r)) (min size (num_copied g.circuit - i * size))
      over_agree f f' h i =
          ap (λ (part : List ℕ). Algebra.product 𝓕 (map f part)) (parts_alike g.circuit p.cuts_alike n_pos i)
          ∙ product_part 𝓕 f size (num_copied g.circuit) i
          ∙ up_to_cong mul one (λ r. f (i * size + r)) (λ r. f' (i * size + r)) (min size (num_copied g.circuit - i * size))
          (λ r l. h (i * size + r) (omega arith))

      over_ids : (i b : ℕ) → over_part 𝓕 scene g.circuit (identity_factor g.circuit) i b ≡ A i b
      over_ids i b =
          over_agree (λ t. value_at 𝓕 scene (identity_factor g.circuit t) b) (λ t. identity_factor_at 𝓕 g t b)
          (λ t l. (reads 𝓕 g ad α x).identity_factor_is t b l) i
          ∙ ids_agree i b

      over_perms : (i b : ℕ) → b < rows_of g.circuit → over_part 𝓕 scene g.circuit (permutation_factor g.circuit) i b ≡ B i b
      over_perms i b m =
          over_agree (λ t. value_at 𝓕 scene (permutation_factor g.circuit t) b) (λ t. permutation_factor_at 𝓕 g t b)
          (λ t l. (reads 𝓕 g ad α x).permutation_factor_is t b l) i
          ∙ perms_agree i b m

      next_agree : (i b : ℕ) → i < num_z g.circuit
          → next_in 𝓕 scene g.circuit i b
          ≡ Running.z_after 𝓕 g.circuit.k (num_z g.circuit) A B (z_col 𝓕 g.circuit.k (num_z g.circuit) A B) i b
      unfolding next_in composed_environment
      next_agree i b l = go (ℕ_discrete (suc i) (num_z g.circuit))
        where
          here : F
          here = column_at_is 𝓕 scene g.circuit (z_number g.circuit (suc i)) b

          after : F
          after = column_at_is 𝓕 scene g.circuit (z_number g.circuit 0) (next_row g.circuit.k b)

          go : (d : Dec (suc i ≡ num_z g.circuit))
              → cond (ltb (suc i) (num_z g.circuit)) here after
              ≡ ite d (z_col 𝓕 g.circuit.k (num_z g.circuit) A B 0 (next_row g.circuit.k b)) (z_col 𝓕 g.circuit.k (num_z g.circuit) A B (suc i) b)
          go (yes e) =
              ap (λ (t : Bool). cond t here after)
              (le-ltb (suc i) (num_z g.circuit) (omega arith))
              ∙ column_z 0 (next_row g.circuit.k b) (omega arith)
          go (no n) =
              ap (λ (t : Bool). cond t here after)
              (lt-ltb (suc i) (num_z g.circuit) (omega arith))
              ∙ column_z (suc i) b (omega arith)

      part_holds : (i b : ℕ) → i < num_z g.circuit → b < rows_of g.circuit → PartHolds 𝓕 scene g.circuit i b
      part_holds i b l m =
          ap₂ mul (column_z i b l) (over_ids i b) ∙ (met p nz).parts i b l m ∙ sym (ap₂ mul (next_agree i b l) (over_perms i b m))

      abbrev Zero : Expr → Type 0
      Zero e = EachRow 𝓕 g (λ b. value_at 𝓕 scene e b ≡ nil)

      pub part_zeros : (i : ℕ) → i < num_z g.circuit → Zero (part_constraint g.circuit i)
      part_zeros i l b m = (part_zero 𝓕 scene g.circuit (embeds_in 𝓕 g ad α x) i b l).1 (part_holds i b l m)

      scene_k : 0 < scene.k
      unfolding composed_environment
      scene_k = kp

      pub start_zeros : Zero (start_constraint g.circuit)
      start_zeros b m = go (ℕ_discrete b 1)
        where
          go : Dec (b ≡ 1) → value_at 𝓕 scene (start_constraint g.circuit) b ≡ nil
          go (yes e) =
              ap (value_at 𝓕 scene (start_constraint g.circuit)) e
              ∙ (start_zero 𝓕 scene g.circuit (embeds_in 𝓕 g ad α x) scene_k).at_one.1
              (column_z 0 1 (z_pos g.circuit n_pos) ∙ (met p nz).start)
          go (no n) = (start_zero 𝓕 scene g.circuit (embeds_in 𝓕 g ad α x) scene_k).elsewhere b n
