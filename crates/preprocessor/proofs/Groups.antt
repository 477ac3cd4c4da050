-- How many nodes the constraint of a group takes, an Item counted as `item`. Proved.
use mathlib.Core.Path.{◌≡◌, refl, ap, ◌∙◌}
use mathlib.Core.List.{List, [], ◌∷◌, map}
use Prim.Native.Nat.{ℕ, suc, ◌+◌, ◌*◌, ◌<◌}
use native.Mathlib.Nat.{suc-mul, mul-add}
use native.Mathlib.Omega.{arith}
use lib.ListN.{length, length-map}
use Rattle.lists.specs.Lists.{total, All}
use Rattle.lists.proofs.All.{all_mapped}
use Rattle.expression.specs.Expr.{Expr, at, product_from, product_of}
use Rattle.expression.specs.Walks.{weight}
use Rattle.backend.specs.Constraints.{omit_one, sum_from, sum_of, numerator_tree, group_tree}
use Rattle.preprocessor.specs.Count.{nodes_in, group_nodes}

module _ (item : ℕ) where
  -- the nodes of expressions and of as many sums or products
  abbrev pub joined : List Expr → ℕ
  joined es = nodes_in item es + length es

  pub product_weight : (e : Expr) (es : List Expr) → weight item (product_from e es) ≡ weight item e + joined es
  unfolding product_from weight nodes_in
  product_weight e [] = omega arith
  product_weight e (f ∷ es) = let q = product_weight (Expr.product e f) es in omega arith

  pub sum_weight : (e : Expr) (es : List Expr) → weight item (sum_from e es) ≡ weight item e + joined es
  unfolding sum_from weight nodes_in
  sum_weight e [] = omega arith
  sum_weight e (f ∷ es) = let q = sum_weight (Expr.sum e f) es in omega arith

  pub product_joined : (es : List Expr) → 0 < length es → weight item (product_of es) + 1 ≡ joined es
  unfolding product_of nodes_in
  product_joined [] h = absurd (omega arith)
  product_joined (e ∷ es) h = let q = product_weight e es in omega arith

  pub sum_joined : (es : List Expr) → 0 < length es → weight item (sum_of es) + 1 ≡ joined es
  unfolding sum_of nodes_in
  sum_joined [] h = absurd (omega arith)
  sum_joined (e ∷ es) h = let q = sum_weight e es in omega arith

  -- ---- with one left out
  more_joined : (x : Expr) (xss : List (List Expr))
      → total (map joined (map (λ ys. x ∷ ys) xss)) ≡ length xss * (weight item x + 1) + total (map joined xss)
  unfolding total nodes_in
  more_joined x [] = omega arith
  more_joined x (xs ∷ xss) =
      let q = more_joined x xss in
      let m = suc-mul (length xss) (weight item x + 1) in
      omega arith

  omit_many : (es : List Expr) → length (omit_one es) ≡ length es
  unfolding omit_one
  omit_many [] = refl
  omit_many (x ∷ xs) = ap suc (length-map (omit_one xs) (λ ys. x ∷ ys) ∙ omit_many xs)

  omit_joined : (es : List Expr) → total (map joined (omit_one es)) + joined es ≡ length es * joined es
  unfolding omit_one total nodes_in
  omit_joined [] = refl
  omit_joined (x ∷ xs) =
      let p = more_joined x (omit_one xs) in
      let q = omit_joined xs in
      let l : length (omit_one xs) * (weight item x + 1) ≡ length xs * (weight item x + 1) = ap (λ (n : ℕ). n * (weight item x + 1)) (omit_many xs) in
      let m = suc-mul (length xs) (weight item x + nodes_in item xs + suc (length xs)) in
      let d : length xs * (weight item x + nodes_in item xs + suc (length xs)) ≡ length xs * (weight item x + 1) + length xs * joined xs =
      ap (λ (n : ℕ). length xs * n) (same (weight item x) (nodes_in item xs) (length xs)) ∙ mul-add (length xs) (weight item x + 1) (joined xs) in
      omega arith
    where
      same : (a b c : ℕ) → a + b + suc c ≡ a + 1 + (b + c)
      same a b c = omega arith

  omit_long : (es : List Expr) → All (λ ys. suc (length ys) ≡ length es) (omit_one es)
  unfolding omit_one
  omit_long [] = tt
  omit_long (x ∷ xs) = (
    refl,
    all_mapped (λ ys. suc (length ys) ≡ length xs) (λ ys. suc (length ys) ≡ suc (length xs)) (λ ys. x ∷ ys) (λ ys e. ap suc e) (omit_one xs)
        (omit_long xs),
  )

  products_joined : (n : ℕ) (xss : List (List Expr)) → All (λ ys. suc (length ys) ≡ suc (suc n)) xss
      → joined (map product_of xss) ≡ total (map joined xss)
  unfolding total nodes_in
  products_joined n [] a = refl
  products_joined n (xs ∷ xss) a =
      let h = a.0 in
      let p = product_joined xs (omega arith) in
      let q = products_joined n xss a.1 in
      omega arith

  numerator_weight : (t : Expr) (is : List Expr) → weight item (numerator_tree t is) + joined is ≡ weight item t + length is * joined is
  unfolding numerator_tree omit_one nodes_in weight
  numerator_weight t [] = omega arith
  numerator_weight t (i ∷ []) = omega arith
  numerator_weight t (i ∷ (j ∷ is)) =
      let es : List Expr = i ∷ (j ∷ is) in
      let a = sum_joined (map product_of (omit_one es)) (some i (j ∷ is)) in
      let b = products_joined (length is) (omit_one es) (omit_long es) in
      let c = omit_joined es in
      plain (weight item (sum_of (map product_of (omit_one es)))) (joined (map product_of (omit_one es))) (total (map joined (omit_one es))) (joined es)
      (length es * joined es)
      (weight item t)
      a
      b
      c
    where
      some : (x : Expr) (xs : List Expr) → 0 < length (map product_of (omit_one (x ∷ xs)))
      some x xs = omega arith

      plain : (s j o c m t : ℕ) → s + 1 ≡ j → j ≡ o → o + c ≡ m → suc (t + s) + c ≡ t + m
      plain s j o c m t a b d = omega arith

  pub group_weight : (m h : ℕ) (is : List Expr) (t : Expr)
      → weight item (group_tree (at m) (at h) is t) ≡ group_nodes (length is) (nodes_in item is) (weight item t)
  unfolding group_tree group_nodes weight
  group_weight m h is t =
      let a = product_weight (at h) is in
      let b = product_weight (at m) is in
      let c = numerator_weight t is in
      let e = suc-mul (length is) (joined is) in
      omega arith
