-- Groups over any field: the counts of a group of s inputs add up to s × rows and turn the table into the inputs; its h sums to zero
-- and is the one value that meets its constraint; a group of one is a lookup.
use mathlib.Core.Path.{◌≡◌, refl, sym, ap, ap₂, ◌∙◌}
use mathlib.Core.Logic.{◌≢◌, ◌⊎◌, ◌↔◌, inl, inr, ⊎_elim, ite, if_pos, if_neg}
use mathlib.Core.Bool.{Bool, true, false, cond, ◌&&◌, ◌||◌}
use mathlib.Core.List.{List, [], ◌∷◌, ◌++◌, map, map-map, append-nil}
use mathlib.Core.Option.{Option, none, some}
use Prim.Native.Nat.{ℕ, ◌+◌, ◌*◌, ◌≤◌, ◌<◌}
use native.Mathlib.Nat.{add-zero, zero-add, add_comm, suc-mul, zero-mul}
use native.Mathlib.Numerals.{add-one}
use native.Mathlib.Omega.{arith}
use lib.ListN.{length, get_or, length-append}
use Rattle.field.specs.Algebra.{Field, add_mul, product, product_append, mul_zero, one_mul, sum}
use Rattle.field.specs.Algebra as Algebra
use Rattle.field.proofs.Solve.{var, ◌:+◌, ◌:*◌, minus, solve}
use Rattle.bh.specs.Sums.{up_to}
use Rattle.lists.specs.Lists.{tabulate, range, all_of, any_of, count_of, total, concat, is_at, All}
use Rattle.lists.proofs.All.{all_from, all_weaken, map_same}
use Rattle.lists.proofs.Tests.{false_true, by_test, cond_ite, all_true, true_all, all_each, all_not, any_at, any_append}
use Rattle.lists.proofs.Columns.{tabulate_length, below_length}
use Rattle.lists.proofs.Searches.{any_stop, count_le}
use Rattle.lists.proofs.Some.{or_cases, some_at, some_tabulate}
use Rattle.lists.proofs.Walks.{any_map, any_lists}
use Rattle.backend.specs.Constraints.{omit_one}
use Rattle.identities.specs.Counts.{last_row, multiplicities, Stands, IsLast}
use Rattle.identities.specs.Lookup.{num}
use Rattle.identities.proofs.Totals.{up_to_cong, up_to_op, up_to_unit, up_to_units, up_to_add, nats, le_total}
use Rattle.identities.proofs.Fields.{adds, muls, mul_nonzero, mul_cancel, inv_mul_self}
use Rattle.identities.proofs.Counts.{last_is, count_turns}
use Rattle.identities.proofs.Lookup.{sum_neg, count_field}
use Rattle.prover.specs.Lookup.{
  sum_counts,
  same,
  last_equal,
  multiplicity,
  covered,
  h_at,
  group_multiplicity,
  group_covered,
  group_h_at,
  omitted_sum,
  GroupHolds,
  sum_rows,
  Turns,
}
use Rattle.prover.specs.Denominators.{some_zero, lookup_denominators, group_denominators}
use Rattle.prover.proofs.Multiplicity.{counts_agree, covered_stand, stand_covered, counts_sum}
use Rattle.prover.proofs.Denominators.{is_zero, nil_when, some_zero_is, product_tabulate}

-- ---- whole numbers as elements
module _ (𝓕 : Field) where
  open 𝓕 use {F, zero as nil, one, add}

  num_add : (m n : ℕ) → num 𝓕 (m + n) ≡ add (num 𝓕 m) (num 𝓕 n)
  unfolding num
  num_add m n = up_to_add add nil (adds 𝓕) (λ i. one) m n

  num_zero : num 𝓕 0 ≡ nil
  unfolding num up_to
  num_zero = refl

-- ---- totals over a list of inputs
module _ {A : Type 0} where
  -- the totals over the rows, one input after another
  pub total_rows : (rows : ℕ) (f : A → ℕ → ℕ) (xs : List A)
      → sum_counts rows (λ r. total (map (λ x. f x r) xs)) ≡ total (map (λ x. sum_counts rows (f x)) xs)
  unfolding total
  total_rows rows f [] = up_to_unit ◌+◌ 0 nats rows
  total_rows rows f (x ∷ xs) =
      up_to_op ◌+◌ 0 nats (f x) (λ r. total (map (λ x. f x r) xs)) rows
      ∙ ap (λ (n : ℕ). sum_counts rows (f x) + n) (total_rows rows f xs)

  -- a choice of a total or 0
  pub total_cond : (t : Bool) (f : A → ℕ) (xs : List A) → cond t (total (map f xs)) 0 ≡ total (map (λ x. cond t (f x) 0) xs)
  unfolding total
  total_cond true f xs = refl
  total_cond false f [] = refl
  total_cond false f (x ∷ xs) = total_cond false f xs ∙ sym (zero-add (total (map (λ (y : A). 0) xs)))

  -- as many of each
  pub total_same : (n : ℕ) (f : A → ℕ) (xs : List A) → All (λ x. f x ≡ n) xs → total (map f xs) ≡ length xs * n
  unfolding total
  total_same n f [] a = sym (zero-mul n)
  total_same n f (x ∷ xs) a =
      ap₂ ◌+◌ a.0 (total_same n f xs a.1) ∙ add_comm n (length xs * n) ∙ sym (suc-mul (length xs) n)

  pub total_below : (n : ℕ) (f : A → ℕ) → ((x : A) → f x ≤ n) → (xs : List A) → total (map f xs) ≤ length xs * n
  unfolding total
  total_below n f h [] = omega arith
  total_below n f h (x ∷ xs) =
      let a = h x in
      let b = total_below n f h xs in
      let c = suc-mul (length xs) n in
      omega arith

  module _ (𝓕 : Field) where
    open 𝓕 use {F, zero as nil, one, add, mul, neg, inv}

    pub list_rows : (rows : ℕ) (f : A → ℕ → F) (xs : List A)
        → sum_rows 𝓕 rows (λ r. sum 𝓕 (map (λ x. f x r) xs)) ≡ sum 𝓕 (map (λ x. sum_rows 𝓕 rows (f x)) xs)
    unfolding sum
    list_rows rows f [] = up_to_unit add nil (adds 𝓕) rows
    list_rows rows f (x ∷ xs) =
        up_to_op add nil (adds 𝓕) (f x) (λ r. sum 𝓕 (map (λ x. f x r) xs)) rows
        ∙ ap (add (sum_rows 𝓕 rows (f x))) (list_rows rows f xs)

    -- a total of counts, as an element
    pub num_total : (f : A → ℕ) (y : F) (xs : List A)
        → sum 𝓕 (map (λ x. mul (num 𝓕 (f x)) y) xs) ≡ mul (num 𝓕 (total (map f xs))) y
    unfolding sum total
    num_total f y [] = sym (ap (λ (x : F). mul x y) (num_zero 𝓕) ∙ Algebra.zero_mul 𝓕 y)
    num_total f y (x ∷ xs) =
        ap (add (mul (num 𝓕 (f x)) y)) (num_total f y xs)
        ∙ sym (ap (λ (z : F). mul z y) (num_add 𝓕 (f x) (total (map f xs))) ∙ add_mul 𝓕 (num 𝓕 (f x)) (num 𝓕 (total (map f xs))) y)

module _ (𝓕 : Field) where
  open 𝓕 use {F, zero as nil, one, add, mul, neg, inv}

  -- ---- the counts
  module _ (rows : ℕ) (inputs : List (ℕ → F)) (table : ℕ → F) where
    pub group_each : group_covered 𝓕 rows inputs table ≡ true → All (λ input. covered 𝓕 rows input table ≡ true) inputs
    unfolding group_covered
    group_each e = all_true (λ input. covered 𝓕 rows input table) inputs e

    -- "a group of s lookups has s × 2^k"
    pub group_sum : group_covered 𝓕 rows inputs table ≡ true
        → sum_counts rows (group_multiplicity 𝓕 rows inputs table) ≡ length inputs * rows
    unfolding group_multiplicity
    group_sum e =
        total_rows rows (λ input j. multiplicity 𝓕 rows input table j) inputs
        ∙ total_same rows (λ input. sum_counts rows (multiplicity 𝓕 rows input table)) inputs
        (all_weaken (λ input. covered 𝓕 rows input table ≡ true) (λ input. sum_counts rows (multiplicity 𝓕 rows input table) ≡ rows)
        (λ input c. counts_sum 𝓕 rows input table c) inputs (group_each e))

    -- no count is above s × rows
    pub group_count_le : (j : ℕ) → group_multiplicity 𝓕 rows inputs table j ≤ length inputs * rows
    unfolding group_multiplicity multiplicity
    group_count_le j =
        total_below rows (λ input. count_of (λ b. is_at j (last_equal 𝓕 rows table (input b))) (range rows))
        (λ input.
        let a = count_le (λ b. is_at j (last_equal 𝓕 rows table (input b))) (range rows) in
        let l = below_length rows in
        omega arith)
        inputs

    -- for one input: the counts at the rows where the table is v
    one_turns : (v : F) (input : ℕ → F) → covered 𝓕 rows input table ≡ true
        → sum_counts rows (λ r. cond (same 𝓕 (table r) v) (multiplicity 𝓕 rows input table r) 0)
        ≡ sum_counts rows (λ r. cond (same 𝓕 (input r) v) 1 0)
    one_turns v input c =
        up_to_cong ◌+◌ 0 (λ r. cond (same 𝓕 (table r) v) (multiplicity 𝓕 rows input table r) 0)
        (λ r. ite (𝓕.decide (table r) v) (multiplicities 𝓕.decide rows rows input table r) 0) rows
        (λ r l.
        ap (λ (n : ℕ). cond (same 𝓕 (table r) v) n 0) (counts_agree 𝓕 rows input table r)
        ∙ cond_ite (𝓕.decide (table r) v) (multiplicities 𝓕.decide rows rows input table r) 0)
        ∙ count_turns 𝓕.decide rows rows input table (covered_stand 𝓕 rows input table c) v
        ∙ up_to_cong ◌+◌ 0 (λ r. ite (𝓕.decide (input r) v) 1 0) (λ r. cond (same 𝓕 (input r) v) 1 0) rows
        (λ r l. sym (cond_ite (𝓕.decide (input r) v) 1 0))

    -- the counts turn the table into the inputs
    pub group_turns : group_covered 𝓕 rows inputs table ≡ true → Turns 𝓕 rows inputs table (group_multiplicity 𝓕 rows inputs table)
    unfolding Turns group_multiplicity
    group_turns e v =
        up_to_cong ◌+◌ 0 (λ r. cond (same 𝓕 (table r) v) (total (map (λ input. multiplicity 𝓕 rows input table r) inputs)) 0)
        (λ r. total (map (λ input. cond (same 𝓕 (table r) v) (multiplicity 𝓕 rows input table r) 0) inputs)) rows
        (λ r l. total_cond (same 𝓕 (table r) v) (λ input. multiplicity 𝓕 rows input table r) inputs)
        ∙ total_rows rows (λ input r. cond (same 𝓕 (table r) v) (multiplicity 𝓕 rows input table r) 0) inputs
        ∙ ap total
        (map_same (λ input. covered 𝓕 rows input table ≡ true)
        (λ input. sum_counts rows (λ r. cond (same 𝓕 (table r) v) (multiplicity 𝓕 rows input table r) 0))
        (λ input. sum_counts rows (λ r. cond (same 𝓕 (input r) v) 1 0))
        (λ input c. one_turns v input c) inputs (group_each e))

    -- where the counts of v are not 0, v stands in the table
    stands : (m : ℕ → ℕ) (v : F) → 0 < sum_counts rows (λ r. cond (same 𝓕 (table r) v) (m r) 0) → Stands rows table v
    stands m v l = go (last_row 𝓕.decide table rows v) (last_is 𝓕.decide table v rows)
      where
        go : (o : Option ℕ) → IsLast table rows v o → Stands rows table v
        go none k = absurd (bad z)
          where
            z : sum_counts rows (λ r. cond (same 𝓕 (table r) v) (m r) 0) ≡ 0
            z =
                up_to_units ◌+◌ 0 nats (λ r. cond (same 𝓕 (table r) v) (m r) 0) rows
                (λ r b. cond_ite (𝓕.decide (table r) v) (m r) 0 ∙ if_neg (𝓕.decide (table r) v) (k r b) (m r) 0)

            bad : sum_counts rows (λ r. cond (same 𝓕 (table r) v) (m r) 0) ≡ 0 → ⊥
            bad z = omega arith
        go (some q) k = (q, k.0, k.1)

    -- an input counts at its own value
    one_here : (input : ℕ → F) (b : ℕ) → b < rows → 0 < sum_counts rows (λ r. cond (same 𝓕 (input r) (input b)) 1 0)
    one_here input b l =
        let q = le_total (λ r. cond (same 𝓕 (input r) (input b)) 1 0) rows b l in
        let p : ◌≡◌ {A = ℕ} (cond (same 𝓕 (input b) (input b)) 1 0) 1 =
        cond_ite (𝓕.decide (input b) (input b)) 1 0 ∙ if_pos (𝓕.decide (input b) (input b)) refl 1 0 in
        omega arith

    -- each input that is counted stands in the table
    each_stands : (m : ℕ → ℕ) (is : List (ℕ → F))
        → ((v : F)
        → total (map (λ input. sum_counts rows (λ r. cond (same 𝓕 (input r) v) 1 0)) is)
        ≤ sum_counts rows (λ r. cond (same 𝓕 (table r) v) (m r) 0))
        → All (λ input. covered 𝓕 rows input table ≡ true) is
    unfolding total
    each_stands m [] h = tt
    each_stands m (i ∷ is) h = (
      stand_covered 𝓕 rows i table (λ b l. stands m (i b) (let p = one_here i b l in let q = h (i b) in omega arith)),
      each_stands m is (λ v. let q = h v in omega arith),
    )

    -- whatever turns the table into the inputs, each input stands in the table
    pub turns_covered : (m : ℕ → ℕ) → Turns 𝓕 rows inputs table m → group_covered 𝓕 rows inputs table ≡ true
    unfolding Turns group_covered
    turns_covered m t =
        true_all (λ input. covered 𝓕 rows input table) inputs (each_stands m inputs (λ v. let e = t v in omega arith))

    -- covered exactly if some column of whole counts turns the table into the inputs
    pub group_covered_turns : (group_covered 𝓕 rows inputs table ≡ true) ↔ ((m : ℕ → ℕ) × Turns 𝓕 rows inputs table m)
    group_covered_turns = (λ e. (group_multiplicity 𝓕 rows inputs table, group_turns e), λ t. turns_covered t.0 t.1)

    -- not covered exactly if none does
    pub group_uncovered : (group_covered 𝓕 rows inputs table ≡ false) ↔ ((m : ℕ → ℕ) → Turns 𝓕 rows inputs table m → ⊥)
    group_uncovered = (
      λ e m t. false_true (sym e ∙ turns_covered m t),
      λ h. by_test (group_covered 𝓕 rows inputs table) (λ e. absurd (h (group_multiplicity 𝓕 rows inputs table) (group_turns e))) (λ e. e),
    )

    -- ---- Haböck's identity
    -- what is summed over all inputs, by the counts at the table's rows
    pub group_total : (g : F → F) → group_covered 𝓕 rows inputs table ≡ true
        → sum 𝓕 (map (λ input. sum_rows 𝓕 rows (λ b. g (input b))) inputs)
        ≡ sum_rows 𝓕 rows (λ r. mul (num 𝓕 (group_multiplicity 𝓕 rows inputs table r)) (g (table r)))
    unfolding group_multiplicity
    group_total g e =
        ap (sum 𝓕)
        (map_same (λ input. covered 𝓕 rows input table ≡ true) (λ input. sum_rows 𝓕 rows (λ b. g (input b)))
        (λ input. sum_rows 𝓕 rows (λ r. mul (num 𝓕 (multiplicity 𝓕 rows input table r)) (g (table r)))) one_total inputs (group_each e))
        ∙ sym (list_rows 𝓕 rows (λ input r. mul (num 𝓕 (multiplicity 𝓕 rows input table r)) (g (table r))) inputs)
        ∙ up_to_cong add nil (λ r. sum 𝓕 (map (λ input. mul (num 𝓕 (multiplicity 𝓕 rows input table r)) (g (table r))) inputs))
        (λ r. mul (num 𝓕 (total (map (λ input. multiplicity 𝓕 rows input table r) inputs))) (g (table r))) rows
        (λ r l. num_total 𝓕 (λ input. multiplicity 𝓕 rows input table r) (g (table r)) inputs)
      where
        one_total : (input : ℕ → F) → covered 𝓕 rows input table ≡ true
            → sum_rows 𝓕 rows (λ b. g (input b)) ≡ sum_rows 𝓕 rows (λ r. mul (num 𝓕 (multiplicity 𝓕 rows input table r)) (g (table r)))
        one_total input c =
            count_field 𝓕 rows rows input table g (covered_stand 𝓕 rows input table c)
            ∙ up_to_cong add nil (λ r. mul (num 𝓕 (multiplicities 𝓕.decide rows rows input table r)) (g (table r)))
            (λ r. mul (num 𝓕 (multiplicity 𝓕 rows input table r)) (g (table r))) rows
            (λ r l. ap (λ (n : ℕ). mul (num 𝓕 n) (g (table r))) (sym (counts_agree 𝓕 rows input table r)))

    module _ (γ : F) where
      pub group_identity : group_covered 𝓕 rows inputs table ≡ true
          → sum 𝓕 (map (λ input. sum_rows 𝓕 rows (λ b. inv (add γ (input b)))) inputs)
          ≡ sum_rows 𝓕 rows (λ r. mul (num 𝓕 (group_multiplicity 𝓕 rows inputs table r)) (inv (add γ (table r))))
      group_identity e = group_total (λ x. inv (add γ x)) e

      -- so h sums to zero
      pub group_h_sum : group_covered 𝓕 rows inputs table ≡ true
          → sum_rows 𝓕 rows (group_h_at 𝓕 γ inputs table (λ r. num 𝓕 (group_multiplicity 𝓕 rows inputs table r))) ≡ nil
      unfolding group_h_at
      group_h_sum e =
          up_to_op add nil (adds 𝓕) f (λ b. neg (g b)) rows
          ∙ ap₂ add (list_rows 𝓕 rows (λ input b. inv (add γ (input b))) inputs ∙ group_identity e) (sum_neg 𝓕 g rows)
          ∙ 𝓕.add_neg (sum_rows 𝓕 rows g)
        where
          f : ℕ → F
          f b = sum 𝓕 (map (λ input. inv (add γ (input b))) inputs)

          g : ℕ → F
          g r = mul (num 𝓕 (group_multiplicity 𝓕 rows inputs table r)) (inv (add γ (table r)))

  -- ---- the constraint, cleared of all denominators
  -- the sum of the products without one entry, of one entry more
  pub omitted_more : (x : F) (xs : List F) → omitted_sum 𝓕 (x ∷ xs) ≡ add (product 𝓕 xs) (mul x (omitted_sum 𝓕 xs))
  unfolding omitted_sum omit_one sum product
  omitted_more x xs = ap (add (product 𝓕 xs)) (go (omit_one xs))
    where
      go : (yss : List (List F)) → sum 𝓕 (map (product 𝓕) (map (λ ys. x ∷ ys) yss)) ≡ mul x (sum 𝓕 (map (product 𝓕) yss))
      go [] = sym (mul_zero 𝓕 x)
      go (ys ∷ yss) = ap (add (mul x (product 𝓕 ys))) (go yss) ∙ sym (𝓕.mul_add x (product 𝓕 ys) (sum 𝓕 (map (product 𝓕) yss)))

  pub omitted_none : omitted_sum 𝓕 [] ≡ nil
  unfolding omitted_sum omit_one sum
  omitted_none = refl

  -- the sum of the inverses, cleared of its denominators
  inverses : (xs : List F) → All (λ x. x ≢ nil) xs → mul (sum 𝓕 (map inv xs)) (product 𝓕 xs) ≡ omitted_sum 𝓕 xs
  unfolding sum product
  inverses [] a = Algebra.zero_mul 𝓕 one ∙ sym omitted_none
  inverses (x ∷ xs) a =
      solve 𝓕 (i ∷ S ∷ x ∷ p ∷ []) ((var 0 :+ var 1) :* (var 2 :* var 3)) ((var 0 :* var 2) :* var 3 :+ var 2 :* (var 1 :* var 3)) refl
      ∙ ap₂ (λ (u w : F). add (mul u p) (mul x w)) (inv_mul_self 𝓕 x a.0) (inverses xs a.1)
      ∙ ap (λ (u : F). add u (mul x (omitted_sum 𝓕 xs))) (one_mul 𝓕 p)
      ∙ sym (omitted_more x xs)
    where
      i : F
      i = inv x

      S : F
      S = sum 𝓕 (map inv xs)

      p : F
      p = product 𝓕 xs

  pub product_nonzero : (xs : List F) → All (λ x. x ≢ nil) xs → product 𝓕 xs ≢ nil
  unfolding product
  product_nonzero [] a = 𝓕.one_ne_zero
  product_nonzero (x ∷ xs) a = mul_nonzero 𝓕 x (product 𝓕 xs) a.0 (product_nonzero xs a.1)

  module _ (γ : F) (inputs : List (ℕ → F)) (table m : ℕ → F) (b : ℕ)
      (h : All (λ x. x ≢ nil) (map (λ input. add γ (input b)) inputs)) (q : add γ (table b) ≢ nil) where
    abbrev I : List F
    I = map (λ input. add γ (input b)) inputs

    abbrev T : F
    T = add γ (table b)

    pub group_h_holds : GroupHolds 𝓕 γ inputs table m (group_h_at 𝓕 γ inputs table m b) b
    unfolding group_h_at
    group_h_holds =
        solve 𝓕 (S ∷ m b ∷ inv T ∷ product 𝓕 I ∷ T ∷ []) (((var 0 :+ minus (var 1 :* var 2)) :* var 3) :* var 4)
        ((var 0 :* var 3) :* var 4 :+ minus ((var 1 :* var 3) :* (var 2 :* var 4))) refl
        ∙ ap₂ (λ (x y : F). add (mul x T) (neg (mul (mul (m b) (product 𝓕 I)) y))) cleared (inv_mul_self 𝓕 T q)
        ∙ ap (λ (x : F). add (mul (omitted_sum 𝓕 I) T) (neg x)) (𝓕.mul_one (mul (m b) (product 𝓕 I)))
      where
        S : F
        S = sum 𝓕 (map (λ input. inv (add γ (input b))) inputs)

        cleared : mul S (product 𝓕 I) ≡ omitted_sum 𝓕 I
        cleared =
            ap (λ (xs : List F). mul (sum 𝓕 xs) (product 𝓕 I)) (sym (map-map inv (λ (input : ℕ → F). add γ (input b)) inputs))
            ∙ inverses I h

    -- no other value does
    pub group_h_only : (x : F) → GroupHolds 𝓕 γ inputs table m x b → x ≡ group_h_at 𝓕 γ inputs table m b
    group_h_only x e =
        mul_cancel 𝓕 x (group_h_at 𝓕 γ inputs table m b) (product 𝓕 I) (product_nonzero I h)
        (mul_cancel 𝓕 (mul x (product 𝓕 I)) (mul (group_h_at 𝓕 γ inputs table m b) (product 𝓕 I)) T q (e ∙ sym group_h_holds))

  -- ---- a group of one
  module _ (input table : ℕ → F) where
    pub one_multiplicity : (rows j : ℕ) → group_multiplicity 𝓕 rows (input ∷ []) table j ≡ multiplicity 𝓕 rows input table j
    unfolding group_multiplicity total
    one_multiplicity rows j = add-zero (multiplicity 𝓕 rows input table j)

    pub one_covered : (rows : ℕ) → group_covered 𝓕 rows (input ∷ []) table ≡ covered 𝓕 rows input table
    unfolding group_covered all_of
    one_covered rows = go (covered 𝓕 rows input table)
      where
        go : (t : Bool) → (t && true) ≡ t
        go true = refl
        go false = refl

    pub one_h : (γ : F) (m : ℕ → F) (b : ℕ) → group_h_at 𝓕 γ (input ∷ []) table m b ≡ h_at 𝓕 γ input table m b
    unfolding group_h_at h_at sum
    one_h γ m b = ap (λ (x : F). add x (neg (mul (m b) (inv (add γ (table b)))))) (𝓕.add_zero (inv (add γ (input b))))

    pub one_denominators : (rows : ℕ) (γ : F)
        → group_denominators 𝓕 rows γ (input ∷ []) table ≡ lookup_denominators 𝓕 rows γ input table
    unfolding group_denominators lookup_denominators concat
    one_denominators rows γ =
        ap (λ (xs : List F). xs ++ tabulate (λ b. add γ (table b)) rows) (append-nil (tabulate (λ b. add γ (input b)) rows))

    pub one_zero : (rows : ℕ) (γ : F)
        → some_zero 𝓕 (group_denominators 𝓕 rows γ (input ∷ []) table) ≡ some_zero 𝓕 (lookup_denominators 𝓕 rows γ input table)
    one_zero rows γ = ap (some_zero 𝓕) (one_denominators rows γ)

  -- ---- a zero denominator
  -- the product of all denominators of the inputs, row by row
  product_inputs : (rows : ℕ) (γ : F) (inputs : List (ℕ → F))
      → product 𝓕 (concat (map (λ input. tabulate (λ b. add γ (input b)) rows) inputs))
      ≡ up_to mul one (λ b. product 𝓕 (map (λ input. add γ (input b)) inputs)) rows
  unfolding concat product
  product_inputs rows γ [] = sym (up_to_unit mul one (muls 𝓕) rows)
  product_inputs rows γ (i ∷ is) =
      product_append 𝓕 (tabulate (λ b. add γ (i b)) rows) (concat (map (λ input. tabulate (λ b. add γ (input b)) rows) is))
      ∙ ap₂ mul (product_tabulate 𝓕 (λ b. add γ (i b)) rows) (product_inputs rows γ is)
      ∙ sym (up_to_op mul one (muls 𝓕) (λ b. add γ (i b)) (λ b. product 𝓕 (map (λ input. add γ (input b)) is)) rows)

  -- of a group: the product of all its denominators, row by row
  pub group_zero : (rows : ℕ) (γ : F) (inputs : List (ℕ → F)) (table : ℕ → F)
      → some_zero 𝓕 (group_denominators 𝓕 rows γ inputs table)
      ≡ same 𝓕 (up_to mul one (λ b. mul (product 𝓕 (map (λ input. add γ (input b)) inputs)) (add γ (table b))) rows) nil
  unfolding group_denominators
  group_zero rows γ inputs table =
      some_zero_is 𝓕 (ins ++ outs)
      ∙ ap (λ (x : F). same 𝓕 x nil)
      (product_append 𝓕 ins outs
      ∙ ap₂ mul (product_inputs rows γ inputs) (product_tabulate 𝓕 (λ b. add γ (table b)) rows)
      ∙ sym (up_to_op mul one (muls 𝓕) (λ b. product 𝓕 (map (λ input. add γ (input b)) inputs)) (λ b. add γ (table b)) rows))
    where
      ins : List F
      ins = concat (map (λ input. tabulate (λ b. add γ (input b)) rows) inputs)

      outs : List F
      outs = tabulate (λ b. add γ (table b)) rows

  columns_length : (rows : ℕ) (γ : F) (is : List (ℕ → F))
      → length (concat (map (λ input. tabulate (λ b. add γ (input b)) rows) is)) ≡ length is * rows
  unfolding concat
  columns_length rows γ [] = sym (zero-mul rows)
  columns_length rows γ (i ∷ is) =
      length-append (tabulate (λ b. add γ (i b)) rows) (concat (map (λ input. tabulate (λ b. add γ (input b)) rows) is))
      ∙ ap₂ ◌+◌ (tabulate_length (λ b. add γ (i b)) rows) (columns_length rows γ is) ∙ add_comm rows (length is * rows)
      ∙ sym (suc-mul (length is) rows)

  -- how many denominators there are
  pub group_length : (rows : ℕ) (γ : F) (inputs : List (ℕ → F)) (table : ℕ → F)
      → length (group_denominators 𝓕 rows γ inputs table) ≡ (length inputs + 1) * rows
  unfolding group_denominators
  group_length rows γ inputs table =
      length-append (concat (map (λ input. tabulate (λ b. add γ (input b)) rows) inputs)) (tabulate (λ b. add γ (table b)) rows)
      ∙ ap₂ ◌+◌ (columns_length rows γ inputs) (tabulate_length (λ b. add γ (table b)) rows)
      ∙ sym (suc-mul (length inputs) rows)
      ∙ ap (λ (n : ℕ). n * rows) (sym (add-one (length inputs)))

  -- a denominator is zero exactly if there is an input and a row, or a row of the table
  module _ (rows : ℕ) (γ : F) (inputs : List (ℕ → F)) (table : ℕ → F) (d : ℕ → F) where
    abbrev is_nil : F → Bool
    is_nil x = same 𝓕 x nil

    abbrev of_column : (ℕ → F) → List F
    of_column f = tabulate (λ b. add γ (f b)) rows

    abbrev AtRow : (ℕ → F) → Type 0
    AtRow f = (b : ℕ) × (b < rows) × (add γ (f b) ≡ nil)

    column_row : (f : ℕ → F) → any_of is_nil (of_column f) ≡ true → AtRow f
    column_row f h = let r = some_tabulate is_nil (λ b. add γ (f b)) rows h in (r.0, r.1, nil_when 𝓕 (add γ (f r.0)) r.2)

    row_column : (f : ℕ → F) → AtRow f → any_of is_nil (of_column f) ≡ true
    row_column f h = sym (any_stop is_nil (λ b. add γ (f b)) rows h.0 (is_zero 𝓕 (add γ (f h.0)) h.2) h.1)

    -- the test, one column after another
    group_tests : some_zero 𝓕 (group_denominators 𝓕 rows γ inputs table)
        ≡ (any_of (λ input. any_of is_nil (of_column input)) inputs || any_of is_nil (of_column table))
    unfolding some_zero group_denominators
    group_tests =
        any_append is_nil (concat (map of_column inputs)) (of_column table)
        ∙ ap (λ (t : Bool). t || any_of is_nil (of_column table))
        (sym (any_lists is_nil (map of_column inputs)) ∙ any_map (any_of is_nil) of_column inputs)

    pub group_some : (some_zero 𝓕 (group_denominators 𝓕 rows γ inputs table) ≡ true)
        ↔ (((i : ℕ) × (i < length inputs) × ((b : ℕ) × (b < rows) × (add γ (get_or inputs i d b) ≡ nil)))
        ⊎ ((b : ℕ) × (b < rows) × (add γ (table b) ≡ nil)))
    group_some = (
      λ e.
          ⊎_elim
          (λ h. let r = some_at (λ input. any_of is_nil (of_column input)) d inputs h in inl (r.0, r.1, column_row (get_or inputs r.0 d) r.2))
          (λ h. inr (column_row table h))
          (or_cases (any_of (λ input. any_of is_nil (of_column input)) inputs) (any_of is_nil (of_column table)) (sym group_tests ∙ e)),
      λ s. group_tests ∙ ⊎_elim left right s,
    )
      where
        left : (i : ℕ) × (i < length inputs) × AtRow (get_or inputs i d)
            → (any_of (λ input. any_of is_nil (of_column input)) inputs || any_of is_nil (of_column table)) ≡ true
        left h =
            ap (λ (t : Bool). t || any_of is_nil (of_column table))
            (any_at (λ input. any_of is_nil (of_column input)) d inputs h.0 h.1 (row_column (get_or inputs h.0 d) h.2))

        right : AtRow table → (any_of (λ input. any_of is_nil (of_column input)) inputs || any_of is_nil (of_column table)) ≡ true
        right h =
            ap (λ (t : Bool). any_of (λ input. any_of is_nil (of_column input)) inputs || t) (row_column table h)
            ∙ go (any_of (λ input. any_of is_nil (of_column input)) inputs)
          where
            go : (t : Bool) → (t || true) ≡ true
            go true = refl
            go false = refl

  -- ---- several groups, each with its inputs and its table
  module _ {G : Type 0} (rows : ℕ) (ins : G → List (ℕ → F)) (tab : G → ℕ → F) (d : G) (gs : List G) where
    -- not all are covered exactly if for one of them no column of whole counts turns its table into its inputs
    pub groups_refused : (all_of (λ g. group_covered 𝓕 rows (ins g) (tab g)) gs ≡ false)
        ↔ ((j : ℕ) × (j < length gs) × ((m : ℕ → ℕ) → Turns 𝓕 rows (ins (get_or gs j d)) (tab (get_or gs j d)) m → ⊥))
    groups_refused = (
      λ e.
          let r = all_not (λ g. group_covered 𝓕 rows (ins g) (tab g)) d gs e in
          (r.0, r.1, (group_uncovered rows (ins (get_or gs r.0 d)) (tab (get_or gs r.0 d))).0 r.2),
      λ n.
          by_test (all_of (λ g. group_covered 𝓕 rows (ins g) (tab g)) gs)
          (λ e.
          false_true
          (sym ((group_uncovered rows (ins (get_or gs n.0 d)) (tab (get_or gs n.0 d))).1 n.2)
          ∙ all_each (λ g. group_covered 𝓕 rows (ins g) (tab g)) d gs e n.0 n.1))
          (λ e. e),
    )

    -- all are exactly if for each some column does
    pub groups_counted : (all_of (λ g. group_covered 𝓕 rows (ins g) (tab g)) gs ≡ true)
        ↔ ((i : ℕ) → i < length gs → (m : ℕ → ℕ) × Turns 𝓕 rows (ins (get_or gs i d)) (tab (get_or gs i d)) m)
    groups_counted = (
      λ e i l.
          (group_covered_turns rows (ins (get_or gs i d)) (tab (get_or gs i d))).0
          (all_each (λ g. group_covered 𝓕 rows (ins g) (tab g)) d gs e i l),
      λ h.
          true_all (λ g. group_covered 𝓕 rows (ins g) (tab g)) gs
          (all_from (λ g. group_covered 𝓕 rows (ins g) (tab g) ≡ true) gs d
          (λ i l. (group_covered_turns rows (ins (get_or gs i d)) (tab (get_or gs i d))).1 (h i l))),
    )
