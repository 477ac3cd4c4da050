-- The constraint of a group as its parts are written one behind the other, and the room that they take. Proved.
use mathlib.Core.Path.{◌≡◌, refl, sym, ap, ◌∙◌, subst}
use mathlib.Core.List.{List, [], ◌∷◌, ◌++◌, map}
use Prim.Native.Nat.{ℕ, zero, suc, ◌+◌, ◌-◌, ◌≤◌, ◌<◌}
use native.Mathlib.Decide.{dec_lt}
use native.Mathlib.Numerals.{add-one}
use native.Mathlib.Omega.{arith}
use lib.ListN.{length, get_or}
use Rattle.lists.specs.Lists.{tabulate}
use Rattle.lists.proofs.Columns.{tabulate_length, tabulate_suc, tabulate_first, tabulate_cong, tabulate_of, get_tabulate, map_tabulate}
use Rattle.expression.specs.Expr.{Expr, at, product_from, product_of}
use Rattle.expression.specs.Flat.{body, size}
use Rattle.expression.specs.Written.{Pushed, ExprWritten}
use Rattle.expression.proofs.Visits.{size_is}
use Rattle.expression.proofs.Written.{written_as, written_factor, written_sum, written_product, written_minus}
use Rattle.backend.specs.Constraints.{omit_one, sum_from, sum_of, numerator_tree, group_tree}
use Rattle.preprocessor.specs.Compose.{number_of_m, number_of_h}
use Rattle.preprocessor.specs.ComposeWords.{input_sides, table_side, group_from_words}
use Rattle.preprocessor.specs.Count.{nodes_in}
use Rattle.preprocessor.specs.declared.CircuitParams.{CircuitParams}
use Rattle.preprocessor.proofs.Groups.{joined, product_weight, product_joined, sum_joined}
use Rattle.preprocessor.proofs.Nodes.{nodes_append, nodes_one}

-- ---- with one left out
-- number i of those besides number k
unfoldable pub besides : ℕ → ℕ → ℕ
besides zero i = suc i
besides (suc k) zero = zero
besides (suc k) (suc i) = suc (besides k i)

besides_low : (k i : ℕ) → i < k → besides k i ≡ i
unfolding besides
besides_low zero i h = absurd (omega arith)
besides_low (suc k) zero h = refl
besides_low (suc k) (suc i) h = ap suc (besides_low k i (omega arith))

besides_high : (k i : ℕ) → k ≤ i → besides k i ≡ i + 1
unfolding besides
besides_high zero i h = omega arith
besides_high (suc k) zero h = absurd (omega arith)
besides_high (suc k) (suc i) h = let q = besides_high k i (omega arith) in omega arith

pub besides_is : (k i r : ℕ) → (i < k → r ≡ i) → (k ≤ i → r ≡ i + 1) → r ≡ besides k i
besides_is k i r low high = go (dec_lt i k)
  where
    go : Dec (i < k) → r ≡ besides k i
    go (yes h) = low h ∙ sym (besides_low k i h)
    go (no h) = high (omega arith) ∙ sym (besides_high k i (omega arith))

-- it is one of n
pub besides_below : (k i n : ℕ) → i + 1 < n → besides k i < n
unfolding besides
besides_below zero i n h = omega arith
besides_below (suc k) zero n h = omega arith
besides_below (suc k) (suc i) zero h = absurd (omega arith)
besides_below (suc k) (suc i) (suc n) h = let q = besides_below k i n (omega arith) in omega arith

pub omit_is : {A : Type 0} (f : ℕ → A) (n : ℕ) → omit_one (tabulate f n) ≡ tabulate (λ k. tabulate (λ i. f (besides k i)) (n - 1)) n
unfolding omit_one besides tabulate
omit_is f zero = refl
omit_is {A} f (suc n) =
    ap omit_one (tabulate_first f n)
    ∙ ap (λ (xss : List (List A)). tabulate (λ i. f (suc i)) n ∷ map (λ ys. f 0 ∷ ys) xss) (omit_is (λ i. f (suc i)) n)
    ∙ ap (λ (xss : List (List A)). tabulate (λ i. f (suc i)) n ∷ xss)
    (map_tabulate (λ ys. f 0 ∷ ys) (λ k. tabulate (λ i. f (suc (besides k i))) (n - 1)) n
    ∙ tabulate_cong (λ k. f 0 ∷ tabulate (λ i. f (suc (besides k i))) (n - 1)) (λ k. tabulate (λ i. f (besides (suc k) i)) n) n (λ k l. each k n l))
    ∙ sym (tabulate_first (λ k. tabulate (λ i. f (besides k i)) n) n)
    ∙ ap (λ (m : ℕ). tabulate (λ k. tabulate (λ i. f (besides k i)) m) (suc n)) (let q : n ≡ suc n - 1 = omega arith in q)
  where
    each : (k n : ℕ) → k < n → f 0 ∷ tabulate (λ i. f (suc (besides k i))) (n - 1) ≡ tabulate (λ i. f (besides (suc k) i)) n
    each k zero l = absurd (omega arith)
    each k (suc n) l =
        ap (λ (m : ℕ). f 0 ∷ tabulate (λ i. f (suc (besides k i))) m) (let q : suc n - 1 ≡ n = omega arith in q)
        ∙ sym (tabulate_first (λ i. f (besides (suc k) i)) n)

module _ {A : Type 0} (f : ℕ → A) (n : ℕ) where
  pub omit_nth : (k : ℕ) → k < n → get_or (omit_one (tabulate f n)) k [] ≡ tabulate (λ i. f (besides k i)) (n - 1)
  omit_nth k h =
      ap (λ (xss : List (List A)). get_or xss k []) (omit_is f n) ∙ get_tabulate (λ k. tabulate (λ i. f (besides k i)) (n - 1)) n k [] h

  omit_length : length (omit_one (tabulate f n)) ≡ n
  omit_length = ap length (omit_is f n) ∙ tabulate_length (λ k. tabulate (λ i. f (besides k i)) (n - 1)) n

pub products_are : (f : ℕ → Expr) (n : ℕ)
    → map product_of (omit_one (tabulate f n)) ≡ tabulate (λ k. product_of (get_or (omit_one (tabulate f n)) k [])) n
products_are f n =
    let xss : List (List Expr) = omit_one (tabulate f n) in
    ap (map product_of) (sym (tabulate_of xss [])) ∙ map_tabulate product_of (λ k. get_or xss k []) (length xss)
    ∙ ap (tabulate (λ k. product_of (get_or xss k []))) (omit_length f n)

-- ---- the table alone, or times the sum of the products
numerator_two : (t a b : Expr) (xs : List Expr) → numerator_tree t (a ∷ (b ∷ xs)) ≡ Expr.product t (sum_of (map product_of (omit_one (a ∷ (b ∷ xs)))))
unfolding numerator_tree
numerator_two t a b xs = refl

module _ (t : Expr) (f : ℕ → Expr) where
  pub numerator_few : (n : ℕ) → n < 2 → numerator_tree t (tabulate f n) ≡ t
  unfolding numerator_tree tabulate
  numerator_few zero h = refl
  numerator_few (suc zero) h = refl
  numerator_few (suc (suc n)) h = absurd (omega arith)

  pub numerator_many : (n : ℕ) → 2 ≤ n → numerator_tree t (tabulate f n) ≡ Expr.product t (sum_of (map product_of (omit_one (tabulate f n))))
  numerator_many zero h = absurd (omega arith)
  numerator_many (suc zero) h = absurd (omega arith)
  numerator_many (suc (suc n)) h =
      let e = tabulate_first f (suc n) ∙ ap (λ (xs : List Expr). f 0 ∷ xs) (tabulate_first (λ i. f (suc i)) n) in
      ap (numerator_tree t) e ∙ numerator_two t (f 0) (f 1) (tabulate (λ i. f (suc (suc i))) n)
      ∙ sym (ap (λ (xs : List Expr). Expr.product t (sum_of (map product_of (omit_one xs)))) e)

  pub sums_room : (n : ℕ) → 2 ≤ n → size (numerator_tree t (tabulate f n)) ≡ size t + size (sum_of (map product_of (omit_one (tabulate f n)))) + 1
  unfolding body
  sums_room n h = ap size (numerator_many n h) ∙ omega arith

  pub table_room : (n : ℕ) → size t ≤ size (numerator_tree t (tabulate f n))
  table_room n = go (dec_lt n 2)
    where
      go : Dec (n < 2) → size t ≤ size (numerator_tree t (tabulate f n))
      go (yes h) = let e = ap size (numerator_few n h) in omega arith
      go (no h) = let e = sums_room n (omega arith) in omega arith

-- ---- room
module _ (f : ℕ → Expr) where
  joined_next : (i : ℕ) → joined 1 (tabulate f (suc i)) ≡ joined 1 (tabulate f i) + size (f i) + 1
  joined_next i =
      let a = ap (nodes_in 1) (tabulate_suc f i) ∙ nodes_append 1 (tabulate f i) (f i ∷ []) in
      let b = nodes_one 1 (f i) ∙ size_is (f i) in
      let c = tabulate_length f i in
      let d = tabulate_length f (suc i) in
      omega arith

  joined_room : (i n : ℕ) → i < n → joined 1 (tabulate f i) + size (f i) + 1 ≤ joined 1 (tabulate f n)
  joined_room i zero h = absurd (omega arith)
  joined_room i (suc n) h = go (dec_lt i n) (joined_room i n)
    where
      go : Dec (i < n) → (i < n → joined 1 (tabulate f i) + size (f i) + 1 ≤ joined 1 (tabulate f n))
          → joined 1 (tabulate f i) + size (f i) + 1 ≤ joined 1 (tabulate f (suc n))
      go (yes l) r = let q = r l in let e = joined_next n in omega arith
      go (no l) r =
          let e : i ≡ n = omega arith in
          let q = joined_next n in
          subst (λ (m : ℕ). joined 1 (tabulate f m) + size (f m) + 1 ≤ joined 1 (tabulate f (suc n))) (sym e) (omega arith)

  from_size : (e : Expr) (n : ℕ) → size (product_from e (tabulate f n)) ≡ size e + joined 1 (tabulate f n)
  from_size e n =
      sym (size_is (product_from e (tabulate f n))) ∙ product_weight 1 e (tabulate f n) ∙ ap (λ (m : ℕ). m + joined 1 (tabulate f n)) (size_is e)

  some : (n : ℕ) → 0 < n → 0 < length (tabulate f n)
  some n h = let q = tabulate_length f n in omega arith

  product_size : (n : ℕ) → 0 < n → size (product_of (tabulate f n)) + 1 ≡ joined 1 (tabulate f n)
  product_size n h =
      ap (λ (m : ℕ). m + 1) (sym (size_is (product_of (tabulate f n)))) ∙ product_joined 1 (tabulate f n) (some n h)

  sum_size : (n : ℕ) → 0 < n → size (sum_of (tabulate f n)) + 1 ≡ joined 1 (tabulate f n)
  sum_size n h = ap (λ (m : ℕ). m + 1) (sym (size_is (sum_of (tabulate f n)))) ∙ sum_joined 1 (tabulate f n) (some n h)

  pub from_room : (e : Expr) (i n : ℕ) → i < n → size (product_from e (tabulate f i)) + size (f i) + 1 ≤ size (product_from e (tabulate f n))
  from_room e i n h =
      let a = from_size e i in
      let b = from_size e n in
      let c = joined_room i n h in
      omega arith

  pub first_from_room : (e : Expr) (n : ℕ) → size e ≤ size (product_from e (tabulate f n))
  first_from_room e n = let b = from_size e n in omega arith

  pub product_room : (i n : ℕ) → 0 < i → i < n → size (product_of (tabulate f i)) + size (f i) + 1 ≤ size (product_of (tabulate f n))
  product_room i n o h =
      let a = product_size i o in
      let b = product_size n (omega arith) in
      let c = joined_room i n h in
      omega arith

  pub first_product_room : (n : ℕ) → 0 < n → size (f 0) ≤ size (product_of (tabulate f n))
  first_product_room n h =
      let b = product_size n h in
      let c = joined_room 0 n h in
      omega arith

  pub sum_room : (i n : ℕ) → 0 < i → i < n → size (sum_of (tabulate f i)) + size (f i) + 1 ≤ size (sum_of (tabulate f n))
  sum_room i n o h =
      let a = sum_size i o in
      let b = sum_size n (omega arith) in
      let c = joined_room i n h in
      omega arith

  pub first_sum_room : (n : ℕ) → 0 < n → size (f 0) ≤ size (sum_of (tabulate f n))
  first_sum_room n h =
      let b = sum_size n h in
      let c = joined_room 0 n h in
      omega arith

-- ---- what is written
module _ (f : ℕ → Expr) {from at x : ℕ} {d d1 : List ℕ} where
  pub from_none : {e : Expr} → ExprWritten from e at d d1 x → ExprWritten from (product_from e (tabulate f 0)) at d d1 x
  unfolding product_from tabulate
  from_none w = w

  pub from_all : (e : Expr) (i n : ℕ) → i ≡ n → ExprWritten from (product_from e (tabulate f i)) at d d1 x
      → ExprWritten from (product_from e (tabulate f n)) at d d1 x
  from_all e i n h w = subst (λ (m : ℕ). ExprWritten from (product_from e (tabulate f m)) at d d1 x) h w

  pub sum_first : ExprWritten from (f 0) at d d1 x → ExprWritten from (sum_of (tabulate f 1)) at d d1 x
  unfolding sum_of sum_from tabulate
  sum_first w = w

  pub sum_all : (i n : ℕ) → i ≡ n → ExprWritten from (sum_of (tabulate f i)) at d d1 x → ExprWritten from (sum_of (tabulate f n)) at d d1 x
  sum_all i n h w = subst (λ (m : ℕ). ExprWritten from (sum_of (tabulate f m)) at d d1 x) h w

sum_end : (e f : Expr) (fs : List Expr) → sum_from e (fs ++ (f ∷ [])) ≡ Expr.sum (sum_from e fs) f
unfolding sum_from
sum_end e f [] = refl
sum_end e f (g ∷ fs) = sum_end (Expr.sum e g) f fs

module _ (f : ℕ → Expr) {from at x y next : ℕ} {d d1 d2 d3 : List ℕ} where
  -- one factor more
  pub from_more : (e : Expr) (i : ℕ) → ExprWritten from (product_from e (tabulate f i)) at d d1 x → ExprWritten from (f i) x d1 d2 y
      → Pushed from y 9 (x - 1) (y - 1) 0 d2 d3 next
      → ExprWritten from (product_from e (tabulate f (i + 1))) at d d3 next
  from_more e i v w p =
      written_as (ap (λ (m : ℕ). product_from e (tabulate f m)) (add-one i) ∙ ap (product_from e) (tabulate_suc f i)) (written_factor e (tabulate f i) v w p)

  -- one term more
  pub sum_more : (i : ℕ) → 0 < i → ExprWritten from (sum_of (tabulate f i)) at d d1 x → ExprWritten from (f i) x d1 d2 y
      → Pushed from y 8 (x - 1) (y - 1) 0 d2 d3 next
      → ExprWritten from (sum_of (tabulate f (i + 1))) at d d3 next
  unfolding sum_of
  sum_more zero h v w p = absurd (omega arith)
  sum_more (suc m) h v w p =
      let fs : List Expr = tabulate (λ i. f (suc i)) m in
      written_as
      (ap (λ (n : ℕ). sum_of (tabulate f n)) (add-one (suc m)) ∙ ap sum_of (tabulate_suc f (suc m) ∙ ap (λ (l : List Expr). l ++ (f (suc m) ∷ [])) (tabulate_first f m))
      ∙ sum_end (f 0) (f (suc m)) fs)
      (written_sum (written_as (sym (ap sum_of (tabulate_first f m))) v) w p)

-- ---- the whole constraint
module _ (v : CircuitParams) (nodes widths pairs : List ℕ) (j first n : ℕ) where
  abbrev inputs : List Expr
  inputs = input_sides nodes widths pairs v.num_challenges first n

  abbrev table : Expr
  table = table_side nodes widths pairs v.num_challenges first

  pub group_size : size (group_from_words v nodes widths pairs j first n)
      ≡ size (product_from (at (number_of_h v j)) inputs) + size table + size (numerator_tree table inputs) + size (product_from (at (number_of_m v j)) inputs) + 4
  unfolding group_from_words group_tree body
  group_size = omega arith

  module _ {from node a b p t s d e next : ℕ} {d0 d1 d2 d3 d4 d5 d6 d7 d8 : List ℕ} where
    pub group_written : ExprWritten from (product_from (at (number_of_h v j)) inputs) node d0 d1 a → ExprWritten from table a d1 d2 b
        → Pushed from b 9 (a - 1) (b - 1) 0 d2 d3 p
        → ExprWritten from (numerator_tree table inputs) p d3 d4 t
        → Pushed from t 7 (t - 1) 0 0 d4 d5 s
        → Pushed from s 8 (p - 1) (s - 1) 0 d5 d6 d
        → ExprWritten from (product_from (at (number_of_m v j)) inputs) d d6 d7 e
        → Pushed from e 8 (d - 1) (e - 1) 0 d7 d8 next
        → ExprWritten from (group_from_words v nodes widths pairs j first n) node d0 d8 next
    unfolding group_from_words group_tree
    group_written wa wb wp wt ws wd we wn = written_sum (written_minus (written_product wa wb wp) wt ws wd) we wn
