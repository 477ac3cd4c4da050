-- When the lookup, start and part constraints are zero: LookupZero, StartZero and PartZero of Composed.
use mathlib.Core.Path.{◌≡◌, refl, sym, ap, ap₂, ◌∙◌}
use mathlib.Core.Logic.{◌↔◌}
use mathlib.Core.Bool.{Bool, true, false, cond}
use mathlib.Core.List.{List, [], ◌∷◌, map}
use Prim.Native.Nat.{ℕ, suc, ◌+◌, ◌^◌, ◌<◌}
use native.Mathlib.Nat.{two-pow-succ, one-le-pow, mod-eq_of_lt}
use native.Mathlib.Omega.{arith}
use lib.ListN.{length, get_or, length-map}
use lib.Dec.{ltb, eqb, lit<}
use lib.IntN.{pos}
use borrow.Author.Tests.{ne_eqb}
use Rattle.field.specs.Algebra.{Field, zero_add, add_zero, add_assoc, add_comm, mul_assoc, mul_comm, one_mul, zero_mul, mul_one}
use Rattle.field.specs.Algebra as Algebra
use Rattle.field.proofs.Solve.{var, nought, ◌:+◌, minus, solve}
use Rattle.bh.specs.Rows.{rotated, iter, next_row, row_at, mod_z, lagrange_row}
use Rattle.identities.proofs.Fields.{sub_zero}
use Rattle.lists.specs.Lists.{All}
use Rattle.lists.proofs.All.{all_map}
use Rattle.expression.specs.Expr.{Expr, evaluate, at, distribute_powers, product_from, product_of}
use Rattle.expression.specs.Value.{Environment, poly_of, value_ops, value_at}
use Rattle.backend.specs.Circuit.{Circuit, Pair, num_challenges, groups_of, m_number, h_number, z_number}
use Rattle.backend.specs.Constraints.{beta_of, inputs_of, tables_of, side_of, omit_one, sum_from, sum_of, numerator_tree, group_tree, group_with, lookup_constraint}
use Rattle.prover.specs.Lookup.{omitted_sum}
use Rattle.preprocessor.specs.Compose.{num_z, constraint_cut, next_z, identity_factor, permutation_factor, start_constraint, next_tree, params_of, part_tree, start_tree}
use Rattle.hyperplonk_spec.specs.Meaning.{Embeds}
use Rattle.hyperplonk_spec.proofs.Embeds.{embeds_one}
use Rattle.hyperplonk_spec.specs.Composed.{input_in, inputs_in, table_in, next_in, LookupZero, StartZero, PartZero}

lagrange_1 : (k : ℕ) → 0 < k → lagrange_row k (pos 1) ≡ 1
unfolding lagrange_row mod_z row_at iter
lagrange_1 ℕ.zero l = absurd (omega arith)
lagrange_1 (suc n) l =
    let h : 1 < 2 ^ suc n = omega (arith, two-pow-succ n, one-le-pow n 2 (lit< tt)) in
    ap (row_at (suc n)) (mod-eq_of_lt h)

module _ (𝓕 : Field) where
  open 𝓕 use {F, zero, one, add, mul, neg}

  -- (x − t) + y = 0 exactly when x = t − y
  moved : (x t y : F) → (add (add x (neg t)) y ≡ zero) ↔ (x ≡ add t (neg y))
  moved x t y = (
    λ e.
        solve 𝓕 (x ∷ t ∷ y ∷ []) (var 0) (((var 0 :+ minus (var 1)) :+ var 2) :+ (var 1 :+ minus (var 2))) refl
        ∙ ap (λ (v : F). add v (add t (neg y))) e
        ∙ zero_add 𝓕 (add t (neg y)),
    λ e.
        ap (λ (v : F). add (add v (neg t)) y) e
        ∙ solve 𝓕 (t ∷ y ∷ []) (((var 0 :+ minus (var 1)) :+ minus (var 0)) :+ var 1) nought refl,
  )

  module _ (s : Environment 𝓕) (c : Circuit) where
    -- ---- a group's constraint
    abbrev values : List Expr → ℕ → List F
    values es b = map (λ e. value_at 𝓕 s e b) es

    products_value : (e : Expr) (es : List Expr) (b : ℕ) → value_at 𝓕 s (product_from e es) b ≡ mul (value_at 𝓕 s e b) (Algebra.product 𝓕 (values es b))
    unfolding value_at value_ops evaluate product_from Algebra.product
    products_value e [] b = sym (mul_one 𝓕 (value_at 𝓕 s e b))
    products_value e (f ∷ es) b =
        products_value (Expr.product e f) es b
        ∙ mul_assoc 𝓕 (value_at 𝓕 s e b) (value_at 𝓕 s f b) (Algebra.product 𝓕 (values es b))

    sums_value : (e : Expr) (es : List Expr) (b : ℕ) → value_at 𝓕 s (sum_from e es) b ≡ add (value_at 𝓕 s e b) (Algebra.sum 𝓕 (values es b))
    unfolding value_at value_ops evaluate sum_from Algebra.sum
    sums_value e [] b = sym (add_zero 𝓕 (value_at 𝓕 s e b))
    sums_value e (f ∷ es) b =
        sums_value (Expr.sum e f) es b
        ∙ add_assoc 𝓕 (value_at 𝓕 s e b) (value_at 𝓕 s f b) (Algebra.sum 𝓕 (values es b))

    -- lists that are not empty: their products, and the sum of these
    abbrev Some : List Expr → Type 0
    Some es = 0 < length es

    some_value : (es : List Expr) (b : ℕ) → Some es → value_at 𝓕 s (product_of es) b ≡ Algebra.product 𝓕 (values es b)
    unfolding product_of Algebra.product
    some_value [] b l = absurd (omega arith)
    some_value (e ∷ es) b l = products_value e es b

    all_value : (ess : List (List Expr)) (b : ℕ) → All Some ess
        → values (map product_of ess) b ≡ map (λ es. Algebra.product 𝓕 (values es b)) ess
    all_value [] b a = refl
    all_value (es ∷ ess) b a = ap₂ (λ (v : F) (vs : List F). v ∷ vs) (some_value es b a.0) (all_value ess b a.1)

    sum_value : (e : Expr) (es : List Expr) (b : ℕ) → value_at 𝓕 s (sum_of (e ∷ es)) b ≡ Algebra.sum 𝓕 (values (e ∷ es) b)
    unfolding sum_of Algebra.sum
    sum_value e es b = sums_value e es b

    -- of two or more, those with one left out are not empty
    omit_some : (x : Expr) (xs : List Expr) → All Some (map (λ ys. x ∷ ys) (omit_one xs))
    omit_some x xs = all_map Some (λ ys. x ∷ ys) (λ ys. omega arith) (omit_one xs)

    omit_values : (es : List Expr) (b : ℕ) → omit_one (values es b) ≡ map (λ fs. values fs b) (omit_one es)
    unfolding omit_one
    omit_values [] b = refl
    omit_values (e ∷ es) b =
        ap (λ (l : List (List F)). values es b ∷ l)
        (ap (map (λ (ys : List F). value_at 𝓕 s e b ∷ ys)) (omit_values es b) ∙ heads (omit_one es))
      where
        heads : (l : List (List Expr))
            → map (λ (ys : List F). value_at 𝓕 s e b ∷ ys) (map (λ fs. values fs b) l) ≡ map (λ fs. values fs b) (map (λ ys. e ∷ ys) l)
        heads [] = refl
        heads (x ∷ xs) = ap (λ (l : List (List F)). (value_at 𝓕 s e b ∷ values x b) ∷ l) (heads xs)

    numerator_value : (t : Expr) (is : List Expr) (b : ℕ) → Some is
        → value_at 𝓕 s (numerator_tree t is) b ≡ mul (omitted_sum 𝓕 (values is b)) (value_at 𝓕 s t b)
    unfolding numerator_tree omitted_sum omit_one Algebra.sum Algebra.product value_at value_ops evaluate
    numerator_value t [] b l = absurd (omega arith)
    numerator_value t (i ∷ []) b l = sym (ap (λ (v : F). mul v (value_at 𝓕 s t b)) one_left ∙ one_mul 𝓕 (value_at 𝓕 s t b))
      where
        one_left : Algebra.sum 𝓕 (map (Algebra.product 𝓕) (omit_one (values (i ∷ []) b))) ≡ one
        one_left = add_zero 𝓕 one
    numerator_value t (i ∷ (j ∷ is)) b l =
        ap (mul (value_at 𝓕 s t b)) (of_sum ∙ ap (Algebra.sum 𝓕) (products (omit_one (i ∷ (j ∷ is))) ∙ ap (map (Algebra.product 𝓕)) (sym (omit_values (i ∷ (j ∷ is)) b))))
        ∙ mul_comm 𝓕 (value_at 𝓕 s t b) _
      where
        products : (l : List (List Expr)) → map (λ es. Algebra.product 𝓕 (values es b)) l ≡ map (Algebra.product 𝓕) (map (λ fs. values fs b) l)
        products [] = refl
        products (x ∷ xs) = ap (λ (l : List F). Algebra.product 𝓕 (values x b) ∷ l) (products xs)

        of_sum : value_at 𝓕 s (sum_of (map product_of (omit_one (i ∷ (j ∷ is))))) b
            ≡ Algebra.sum 𝓕 (map (λ es. Algebra.product 𝓕 (values es b)) (omit_one (i ∷ (j ∷ is))))
        of_sum =
            sum_value (product_of (j ∷ is)) (map product_of (map (λ ys. i ∷ ys) (omit_one (j ∷ is)))) b
            ∙ ap (Algebra.sum 𝓕) (all_value (omit_one (i ∷ (j ∷ is))) b (omega arith, omit_some i (j ∷ is)))

    group_zero : (m h : Expr) (is : List Expr) (t : Expr) (b : ℕ) → Some is
        → (value_at 𝓕 s (group_tree m h is t) b ≡ zero)
        ↔ (mul (mul (value_at 𝓕 s h b) (Algebra.product 𝓕 (values is b))) (value_at 𝓕 s t b)
        ≡ add (mul (omitted_sum 𝓕 (values is b)) (value_at 𝓕 s t b)) (neg (mul (value_at 𝓕 s m b) (Algebra.product 𝓕 (values is b)))))
    unfolding group_tree value_at value_ops evaluate
    group_zero m h is t b l =
        rw (products_value h is b, products_value m is b, numerator_value t is b l) (moved _ _ _)

    sides_value : (group : List (List Pair)) (b : ℕ)
        → values (map (λ l. side_of (num_challenges c) (inputs_of l)) group) b
        ≡ map (λ (input : ℕ → F). add (get_or s.challenges (num_challenges c + 1) zero) (input b)) (map (input_in 𝓕 s c) group)
    unfolding input_in value_at value_ops evaluate
    sides_value [] b = refl
    sides_value (l ∷ ls) b =
        ap₂ (λ (v : F) (vs : List F). v ∷ vs)
        (add_comm 𝓕 (value_at 𝓕 s (distribute_powers (inputs_of l) (beta_of c)) b) (get_or s.challenges (num_challenges c + 1) zero))
        (sides_value ls b)

    pub lookup_zero : LookupZero 𝓕 s c
    unfolding lookup_constraint group_with inputs_in table_in value_at value_ops evaluate rotated iter
    lookup_zero j b l =
        let group : List (List Pair) = get_or (groups_of c) j [] in
        let is : List Expr = map (λ l. side_of (num_challenges c) (inputs_of l)) group in
        let t : Expr = side_of (num_challenges c) (tables_of (get_or group 0 [])) in
        let z = group_zero (at (m_number c j)) (at (h_number c j)) is t b (let q = length-map group (λ l. side_of (num_challenges c) (inputs_of l)) in omega arith) in
        rw (
          add_comm 𝓕 (get_or s.challenges (num_challenges c + 1) zero) (table_in 𝓕 s c j b),
          sym (sides_value group b),
        )
        z

    product_from_is : (e : Expr) (f : ℕ → Expr) (part : List ℕ) (b : ℕ)
        → value_at 𝓕 s (product_from e (map f part)) b
        ≡ mul (value_at 𝓕 s e b) (Algebra.product 𝓕 (map (λ t. value_at 𝓕 s (f t) b) part))
    unfolding value_at value_ops evaluate product_from Algebra.product
    product_from_is e f [] b = sym (mul_one 𝓕 (value_at 𝓕 s e b))
    product_from_is e f (t ∷ ts) b =
        product_from_is (Expr.product e (f t)) f ts b
        ∙ mul_assoc 𝓕 (value_at 𝓕 s e b) (value_at 𝓕 s (f t) b) (Algebra.product 𝓕 (map (λ u. value_at 𝓕 s (f u) b) ts))

    -- "products fold from the first factor"
    pub product_value : Embeds 𝓕 s.el → (f : ℕ → Expr) (part : List ℕ) (b : ℕ)
        → value_at 𝓕 s (product_of (map f part)) b ≡ Algebra.product 𝓕 (map (λ t. value_at 𝓕 s (f t) b) part)
    unfolding value_at value_ops evaluate product_of Algebra.product
    product_value h f [] b = embeds_one 𝓕 s.el h
    product_value h f (t ∷ ts) b = product_from_is (f t) f ts b

    next_value : (i b : ℕ) → value_at 𝓕 s (next_z c i) b ≡ next_in 𝓕 s c i b
    unfolding next_tree params_of next_in value_at value_ops evaluate rotated iter
    next_value i b = go (ltb (suc i) (num_z c))
      where
        go : (t : Bool)
            → value_at 𝓕 s (cond t (Expr.poly (z_number c (suc i)) (pos 0)) (Expr.poly (z_number c 0) (pos 1))) b
            ≡ cond t (poly_of 𝓕 s.polys (z_number c (suc i)) b) (poly_of 𝓕 s.polys (z_number c 0) (next_row s.k b))
        go true = refl
        go false = refl

    pub part_zero : PartZero 𝓕 s c
    unfolding value_at value_ops evaluate part_tree params_of rotated iter
    part_zero h i b l =
        rw (← next_value i b, ← product_value h (identity_factor c) (get_or (constraint_cut c) i []) b, ← product_value h (permutation_factor c) (get_or (constraint_cut c) i []) b)
        (sub_zero 𝓕 _ _)

    value_start : Embeds 𝓕 s.el → 0 < s.k → (b : ℕ)
        → value_at 𝓕 s (start_constraint c) b
        ≡ mul (cond (eqb b 1) one zero) (add (poly_of 𝓕 s.polys (z_number c 0) b) (neg one))
    unfolding value_at value_ops evaluate start_tree params_of rotated iter
    value_start h l b =
        rw (lagrange_1 s.k l, h.el_suc 0, h.el_zero, zero_add 𝓕 one)

    pub start_zero : StartZero 𝓕 s c
    start_zero h l =
        record {
          at_one = rw (value_start h l 1, one_mul 𝓕 (add (poly_of 𝓕 s.polys (z_number c 0) 1) (neg one))) (sub_zero 𝓕 _ _);
          elsewhere =
              λ b n.
              let v : F = add (poly_of 𝓕 s.polys (z_number c 0) b) (neg one) in
              value_start h l b ∙ ap (λ (t : Bool). mul (cond t one zero) v) (ne_eqb b 1 n) ∙ zero_mul 𝓕 v;
        }
