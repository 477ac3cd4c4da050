-- Whatever z columns meet the start and the part constraints, the two products are equal: MustClose of Copies.
use mathlib.Core.Path.{◌≡◌, refl, sym, ap, ap₂, ◌∙◌, subst}
use mathlib.Core.Logic.{ite}
use mathlib.Core.Bool.{Bool, cond}
use mathlib.Core.List.{List, [], ◌++◌, map, append_assoc}
use Prim.Native.Nat.{ℕ, suc, ◌+◌, ◌-◌, ◌*◌, ◌^◌, ◌<◌}
use native.Mathlib.Decide.{ℕ_discrete}
use native.Mathlib.Omega.{arith}
use lib.Pow.{pow-lt}
use lib.ListN.{length, get_or, take, length-append}
use lib.Seq.{take_all}
use lib.Dec.{ltb}
use borrow.Author.Tests.{lt-ltb, le-ltb}
use Rattle.field.specs.Algebra.{Field}
use Rattle.field.specs.Algebra as Algebra
use Rattle.bh.specs.Sums.{up_to}
use Rattle.bh.specs.Rows.{next_row, rotated, iter}
use Rattle.lists.specs.Lists.{range, concat, ceil_div, cut, All}
use Rattle.lists.proofs.Lists.{get_left, get_past, get_map}
use Rattle.lists.proofs.All.{all_get, all_get_d, map_same}
use Rattle.lists.proofs.Columns.{below_length, below_get}
use Rattle.lists.proofs.Totals.{concat_cut, cut_length}
use Rattle.identities.specs.Running.{Met, NoZero}
use Rattle.identities.specs.Running as Running
use Rattle.identities.proofs.Running.{must_balance}
use Rattle.identities.proofs.Totals.{up_to_cong, up_to_swap, up_to_zero}
use Rattle.identities.proofs.Fields.{muls, prod_nonzero}
use Rattle.identities.proofs.Products.{product_up_to}
use Rattle.expression.specs.Expr.{Expr, evaluate}
use Rattle.expression.specs.Value.{Environment, poly_of, value_ops, value_at}
use Rattle.backend.specs.Circuit.{Circuit, rows_of, num_challenges, num_poly, num_groups, copied, num_copied, perm_number, z_number}
use Rattle.backend.specs.Constraints.{max_degree}
use Rattle.preprocessor.specs.Compose.{num_z, constraint_cut, identity_factor, permutation_factor, start_constraint, part_constraint, identity_tree, params_of, permutation_tree}
use Rattle.prover.specs.Log.{Log}
use Rattle.prover.specs.Columns.{given_polys, permutation_polys, m_polys, h_polys, z_polys, all_polys, copied_at, permutation_at, identity_factor_at, permutation_factor_at, z_at, composed_environment}
use Rattle.prover.proofs.Lengths.{given_length, permutations_length, m_length, h_length}
use Rattle.hyperplonk_spec.specs.Meaning.{Embeds, Admitted, NoZeroFactor}
use Rattle.hyperplonk_spec.specs.Composed.{column_at_is, next_in, over_part}
use Rattle.hyperplonk_spec.specs.Copies.{over_cells, Balanced, ButForZ, with_z, AnyZ, ZeroIn, MustClose}
use Rattle.hyperplonk_spec.proofs.Embeds.{embeds_add}
use Rattle.hyperplonk_spec.proofs.ConstraintZero.{start_zero, part_zero}
use Rattle.completeness.proofs.Cuts.{degree_two, z_pos}
use Rattle.completeness.proofs.ReadColumns.{copied_below, copied_poly, poly_permutation, beta_value, gamma_value}
use Rattle.completeness.proofs.ComposedZero.{embeds_in}
use Rattle.completeness.proofs.DemandThreeOf.{k_positive, k_below_21}
use Rattle.completeness.proofs.Copies.{parts_all, closes_when}
use Rattle.completeness.proofs.PaperZ.{cut_in}

-- the constraints' parts are N, and cover the copied columns
constraint_parts : (c : Circuit) → concat (take (num_z c) (constraint_cut c)) ≡ range (num_copied c)
unfolding params_of num_z
constraint_parts c =
    let d = degree_two c in
    let l = cut_length (max_degree c - 1) (range (num_copied c)) in
    let e : ceil_div (length (range (num_copied c))) (max_degree c - 1) ≡ ceil_div (num_copied c) (max_degree c - 1) =
    ap (λ (m : ℕ). ceil_div m (max_degree c - 1)) (below_length (num_copied c)) in
    ap concat (take_all (ceil_div (num_copied c) (max_degree c - 1)) (cut (max_degree c - 1) (range (num_copied c))) (omega arith))
    ∙ concat_cut (max_degree c - 1) (range (num_copied c)) (omega arith)

module _ (𝓕 : Field) where
  open 𝓕 use {F, zero as nil, one, add, mul}

  module _ (g : Log 𝓕) (α : F) (y : ℕ → F) where
    -- ---- any z can be put there
    pub any_z : AnyZ 𝓕 g α y
    unfolding with_z composed_environment all_polys z_polys
    any_z =
        record {
          but_for_z = λ z.
              record {
                same_k = refl;
                same_el = refl;
                same_challenges = refl;
                same_columns = λ q b l.
                    ap (λ (p : ℕ → F). p b) (same (map z (range (num_z g.circuit))) (map (z_at 𝓕 g) (range (num_z g.circuit))) q l);
              };
          reads_z = λ z i b l.
              let G : ℕ = num_groups g.circuit in
              ap (λ (p : ℕ → F). p b)
              (get_past (given_polys 𝓕 g) _ (z_number g.circuit i) (num_copied g.circuit + (G + (G + i))) (λ r. nil) (let e = given_length 𝓕 g in omega arith)
              ∙ get_past (permutation_polys 𝓕 g) _ (num_copied g.circuit + (G + (G + i))) (G + (G + i)) (λ r. nil) (let e = permutations_length 𝓕 g in omega arith)
              ∙ get_past (m_polys 𝓕 g) _ (G + (G + i)) (G + i) (λ r. nil) (let e = m_length 𝓕 g in omega arith)
              ∙ get_past (h_polys 𝓕 g) _ (G + i) i (λ r. nil) (let e = h_length 𝓕 g in omega arith)
              ∙ get_map z (range (num_z g.circuit)) i 0 (λ r. nil) (let e = below_length (num_z g.circuit) in omega arith)
              ∙ ap z (below_get (num_z g.circuit) i 0 l));
          own_z = refl;
        }
      where
        -- the columns before z
        front : List (ℕ → F)
        front = given_polys 𝓕 g ++ (permutation_polys 𝓕 g ++ (m_polys 𝓕 g ++ h_polys 𝓕 g))

        ends : (us : List (ℕ → F))
            → given_polys 𝓕 g ++ (permutation_polys 𝓕 g ++ (m_polys 𝓕 g ++ (h_polys 𝓕 g ++ us)))
            ≡ (given_polys 𝓕 g ++ (permutation_polys 𝓕 g ++ (m_polys 𝓕 g ++ h_polys 𝓕 g))) ++ us
        ends us = simp append_assoc

        front_length : length (given_polys 𝓕 g ++ (permutation_polys 𝓕 g ++ (m_polys 𝓕 g ++ h_polys 𝓕 g))) ≡ z_number g.circuit 0
        front_length = simp (length-append, given_length, permutations_length, m_length, h_length) (omega arith)

        same : (zs ws : List (ℕ → F)) (q : ℕ) → q < z_number g.circuit 0
            → get_or (given_polys 𝓕 g ++ (permutation_polys 𝓕 g ++ (m_polys 𝓕 g ++ (h_polys 𝓕 g ++ zs)))) q (λ r. nil)
            ≡ get_or (given_polys 𝓕 g ++ (permutation_polys 𝓕 g ++ (m_polys 𝓕 g ++ (h_polys 𝓕 g ++ ws)))) q (λ r. nil)
        same zs ws q l = before zs ∙ sym (before ws)
          where
            before : (us : List (ℕ → F))
                → get_or (given_polys 𝓕 g ++ (permutation_polys 𝓕 g ++ (m_polys 𝓕 g ++ (h_polys 𝓕 g ++ us)))) q (λ r. nil) ≡ get_or front q (λ r. nil)
            before us =
                ap (λ (ps : List (ℕ → F)). get_or ps q (λ r. nil)) (ends us)
                ∙ get_left front us q (λ r. nil) (let e = front_length in omega arith)

    -- ---- what the constraints read
    module _ (ad : Admitted 𝓕 g) (s : Environment 𝓕) (bz : ButForZ 𝓕 g α y s) where
      abbrev c : Circuit
      c = g.circuit

      abbrev N : ℕ
      N = num_z g.circuit

      embeds : Embeds 𝓕 s.el
      embeds = subst (Embeds 𝓕) (sym bz.same_el) (embeds_in 𝓕 g ad α y)

      k_is : s.k ≡ g.circuit.k
      unfolding composed_environment
      k_is = bz.same_k

      el_is : (m : ℕ) → s.el m ≡ g.el m
      unfolding composed_environment
      el_is m = ap (λ (f : ℕ → F). f m) bz.same_el

      beta_is : get_or s.challenges (num_challenges g.circuit) nil ≡ g.β
      unfolding composed_environment
      beta_is = ap (λ (xs : List F). get_or xs (num_challenges g.circuit) nil) bz.same_challenges ∙ beta_value 𝓕 g ad α

      gamma_is : get_or s.challenges (num_challenges g.circuit + 1) nil ≡ g.γ
      unfolding composed_environment
      gamma_is = ap (λ (xs : List F). get_or xs (num_challenges g.circuit + 1) nil) bz.same_challenges ∙ gamma_value 𝓕 g ad α

      copied_is : (i b : ℕ) → i < num_copied g.circuit → poly_of 𝓕 s.polys (get_or (copied g.circuit) i 0) b ≡ copied_at 𝓕 g i b
      unfolding composed_environment
      copied_is i b l =
          bz.same_columns (get_or (copied g.circuit) i 0) b
          (let q = all_get (λ q. q < num_poly g.circuit) (copied g.circuit) (copied_below g.circuit) i 0 l in omega arith)
          ∙ copied_poly 𝓕 g i b l

      permutation_is : (i b : ℕ) → i < num_copied g.circuit → poly_of 𝓕 s.polys (perm_number g.circuit i) b ≡ permutation_at 𝓕 g i b
      unfolding composed_environment
      permutation_is i b l = bz.same_columns (perm_number g.circuit i) b (omega arith) ∙ poly_permutation 𝓕 g i b l

      identity_is : (i b : ℕ) → i < num_copied g.circuit → value_at 𝓕 s (identity_factor g.circuit i) b ≡ identity_factor_at 𝓕 g i b
      unfolding identity_tree params_of identity_factor_at value_at value_ops evaluate rotated iter
      identity_is i b l =
          ap₂ add
          (ap₂ add (copied_is i b l)
          (ap₂ mul beta_is
          (ap₂ add (el_is (i * rows_of g.circuit)) (el_is b) ∙ sym (embeds_add 𝓕 g.el ad.embeds (i * rows_of g.circuit) b))))
          gamma_is

      factor_is : (i b : ℕ) → i < num_copied g.circuit → value_at 𝓕 s (permutation_factor g.circuit i) b ≡ permutation_factor_at 𝓕 g i b
      unfolding permutation_tree params_of permutation_factor_at value_at value_ops evaluate rotated iter
      factor_is i b l = ap₂ add (ap₂ add (copied_is i b l) (ap₂ mul beta_is (permutation_is i b l))) gamma_is

      -- ---- the constraints, as the crate identities has them
      part : ℕ → List ℕ
      part j = get_or (constraint_cut g.circuit) j []

      part_in : (j : ℕ) → All (λ t. t < num_copied g.circuit) (part j)
      unfolding part params_of
      part_in j =
          all_get_d (All (λ t. t < num_copied g.circuit)) (cut (max_degree g.circuit - 1) (range (num_copied g.circuit))) j [] tt
          (cut_in (max_degree g.circuit - 1) (num_copied g.circuit))

      over : (ℕ → ℕ → F) → ℕ → ℕ → F
      over f j b = Algebra.product 𝓕 (map (λ t. f t b) (part j))

      abbrev A : ℕ → ℕ → F
      A j b = over (identity_factor_at 𝓕 g) j b

      abbrev B : ℕ → ℕ → F
      B j b = over (permutation_factor_at 𝓕 g) j b

      abbrev z : ℕ → ℕ → F
      z j b = column_at_is 𝓕 s g.circuit (z_number g.circuit j) b

      over_is : (e : ℕ → Expr) (f : ℕ → ℕ → F) → ((t b : ℕ) → t < num_copied g.circuit → value_at 𝓕 s (e t) b ≡ f t b) → (j b : ℕ)
          → over_part 𝓕 s g.circuit e j b ≡ over f j b
      unfolding over part
      over_is e f h j b =
          ap (Algebra.product 𝓕) (map_same (λ t. t < num_copied g.circuit) (λ t. value_at 𝓕 s (e t) b) (λ t. f t b) (λ t l. h t b l) (part j) (part_in j))

      next_is : (j b : ℕ) → j < N → next_in 𝓕 s g.circuit j b ≡ Running.z_after 𝓕 g.circuit.k N A B z j b
      unfolding next_in
      next_is j b l =
          ap (λ (k : ℕ). cond (ltb (suc j) N) (z (suc j) b) (z 0 (next_row k b))) k_is ∙ go (ℕ_discrete (suc j) N)
        where
          go : (d : Dec (suc j ≡ N)) → cond (ltb (suc j) N) (z (suc j) b) (z 0 (next_row g.circuit.k b)) ≡ ite d (z 0 (next_row g.circuit.k b)) (z (suc j) b)
          go (yes e) = ap (λ (t : Bool). cond t (z (suc j) b) (z 0 (next_row g.circuit.k b))) (le-ltb (suc j) N (omega arith))
          go (no n) = ap (λ (t : Bool). cond t (z (suc j) b) (z 0 (next_row g.circuit.k b))) (lt-ltb (suc j) N (omega arith))

      met : ZeroIn 𝓕 g α y s (start_constraint g.circuit) → ((i : ℕ) → i < N → ZeroIn 𝓕 g α y s (part_constraint g.circuit i)) → Met 𝓕 g.circuit.k N A B z
      met st ps =
          record {
            start = (start_zero 𝓕 s g.circuit embeds (subst (λ (k : ℕ). 0 < k) (sym k_is) (k_positive 𝓕 g ad))).at_one.0 (st 1 (pow-lt {i = 0} {j = g.circuit.k} (k_positive 𝓕 g ad)));
            parts = λ j b l m.
                sym (ap (mul (z j b)) (over_is (identity_factor g.circuit) (identity_factor_at 𝓕 g) identity_is j b))
                ∙ (part_zero 𝓕 s g.circuit embeds j b l).0 (ps j l b m)
                ∙ ap₂ mul (next_is j b l) (over_is (permutation_factor g.circuit) (permutation_factor_at 𝓕 g) factor_is j b);
          }

      nonzero : NoZeroFactor 𝓕 g → NoZero 𝓕 g.circuit.k N A B
      unfolding over
      nonzero nz j b l p m e =
          prod_nonzero 𝓕 (λ r. permutation_factor_at 𝓕 g (get_or (part j) r 0) b) (length (part j))
          (λ r w. nz (get_or (part j) r 0) (all_get (λ t. t < num_copied g.circuit) (part j) (part_in j) r 0 w) b m p)
          (sym (product_up_to 𝓕 (λ t. permutation_factor_at 𝓕 g t b) (part j)) ∙ e)

      -- over all parts and rows
      cells_all : (f : ℕ → ℕ → F) → up_to mul one (λ b. up_to mul one (λ j. over f j (suc b)) N) (2 ^ g.circuit.k - 1) ≡ over_cells 𝓕 g f
      unfolding over part
      cells_all f =
          up_to_cong mul one (λ b. up_to mul one (λ j. over f j (suc b)) N) (λ b. up_to mul one (λ i. f i (suc b)) (num_copied g.circuit)) (2 ^ g.circuit.k - 1)
          (λ b l. parts_all 𝓕 (λ i. f i (suc b)) (num_copied g.circuit) N (constraint_cut g.circuit) (constraint_parts g.circuit))
          ∙ up_to_swap mul one (muls 𝓕) (λ b i. f i (suc b)) (2 ^ g.circuit.k - 1) (num_copied g.circuit)

      balanced : NoZeroFactor 𝓕 g → ZeroIn 𝓕 g α y s (start_constraint g.circuit) → ((i : ℕ) → i < N → ZeroIn 𝓕 g α y s (part_constraint g.circuit i)) → Balanced 𝓕 g
      balanced nz st ps = go (ℕ_discrete (num_copied g.circuit) 0)
        where
          none : (f : ℕ → ℕ → F) → num_copied g.circuit ≡ 0 → over_cells 𝓕 g f ≡ one
          none f e = ap (up_to mul one (λ i. up_to mul one (λ b. f i (suc b)) (2 ^ g.circuit.k - 1))) e ∙ up_to_zero mul one (λ i. up_to mul one (λ b. f i (suc b)) (2 ^ g.circuit.k - 1))

          go : Dec (num_copied g.circuit ≡ 0) → Balanced 𝓕 g
          go (yes e) = none (identity_factor_at 𝓕 g) e ∙ sym (none (permutation_factor_at 𝓕 g) e)
          go (no n) =
              sym (cells_all (identity_factor_at 𝓕 g))
              ∙ must_balance 𝓕 g.circuit.k N A B (k_positive 𝓕 g ad) (k_below_21 𝓕 g ad) (nonzero nz) z (z_pos g.circuit (omega arith)) (met st ps)
              ∙ cells_all (permutation_factor_at 𝓕 g)

    pub must_close : MustClose 𝓕 g α y
    must_close ad nz s bz st ps =
        let b : Balanced 𝓕 g = balanced ad s bz nz st ps in
        (b, (closes_when 𝓕 g ad nz).1 b)
