-- The parts of the copied columns, and the constraints of the permutation. Proved.
use mathlib.Core.Path.{◌≡◌, refl, sym, ap, ap₂, ◌∙◌, subst}
use mathlib.Core.Bool.{Bool, true, false, cond}
use mathlib.Core.List.{List, map}
use Prim.Native.Nat.{ℕ, zero, suc, ◌+◌, ◌-◌, ◌*◌, ◌≤◌, ◌<◌, min}
use native.Mathlib.Nat.{mul-le-mul, mul-le-mul_left}
use native.Mathlib.Omega.{arith}
use lib.Dec.{ltb}
use lib.IntN.{pos}
use lib.ListN.{length, take, drop, length-take, length-drop}
use mir.Val.{Fits}
use mir.Syntax.{w64}
use borrow.Author.Tests.{lt-ltb, le-ltb}
use Rattle.lists.specs.Lists.{tabulate, range}
use Rattle.lists.proofs.Columns.{tabulate_length, tabulate_first, map_tabulate, below_length}
use Rattle.lists.proofs.Totals.{ceil_below, ceil_le, get_cut}
use Rattle.lists.proofs.Runs.{drop_tabulate, take_min}
use Rattle.lists.proofs.All.{all_tabulate}
use Rattle.expression.specs.Expr.{Expr, minus, at, product_of}
use Rattle.expression.specs.Flat.{body, size}
use Rattle.expression.specs.Written.{Pushed, ExprWritten}
use Rattle.expression.proofs.Written.{written_as, written_minus, written_poly, written_product, written_lagrange, written_constant}
use Rattle.preprocessor.specs.Compose.{chunk, identity_tree, permutation_tree, next_tree, part_tree, start_tree, number_of_z}
use Rattle.preprocessor.specs.ComposeWords.{Limits}
use Rattle.preprocessor.specs.declared.CircuitParams.{CircuitParams}
use Rattle.preprocessor.proofs.Lists.{product_size}

-- a label is a word
label_small : (v : CircuitParams) → Limits v → (i : ℕ) → i < v.num_permutation_polys → i * v.rows ≤ 75497472
label_small v l i h =
    let m : i * v.rows ≤ 72 * 1048576 = mul-le-mul {n₂ = 72} {m₂ = 1048576} (omega arith) l.few_rows in
    omega arith

pub label_fits : (v : CircuitParams) → Limits v → (i : ℕ) → i < v.num_permutation_polys → Fits w64 (i * v.rows)
label_fits v l i h = omega (arith, label_small v l i h)

-- N is at most n
pub parts_few : (v : CircuitParams) → Limits v → v.num_chunks ≤ v.num_permutation_polys
parts_few v l =
    subst (λ (x : ℕ). x ≤ v.num_permutation_polys) (sym l.parts_are)
    (ceil_le v.num_permutation_polys v.chunk_size v.num_permutation_polys l.some_part (many v.chunk_size l.some_part))
  where
    many : (d : ℕ) → 0 < d → v.num_permutation_polys ≤ v.num_permutation_polys * d
    many d h = let m : v.num_permutation_polys * 1 ≤ v.num_permutation_polys * d = mul-le-mul_left v.num_permutation_polys h in omega arith

module _ (v : CircuitParams) (l : Limits v) (i : ℕ) (h : i < v.num_chunks) where
  -- part i is not empty
  pub part_start : i * v.chunk_size < v.num_permutation_polys
  part_start = ceil_below v.num_permutation_polys v.chunk_size i l.some_part (subst (λ (n : ℕ). i < n) l.parts_are h)

  part_run : chunk v i ≡ take v.chunk_size (drop (i * v.chunk_size) (range v.num_permutation_polys))
  part_run = get_cut v.chunk_size (range v.num_permutation_polys) i l.some_part

  pub part_length : length (chunk v i) ≡ min v.chunk_size (v.num_permutation_polys - i * v.chunk_size)
  part_length =
      ap length part_run
      ∙ length-take v.chunk_size (drop (i * v.chunk_size) (range v.num_permutation_polys))
      ∙ ap (min v.chunk_size) (length-drop (i * v.chunk_size) (range v.num_permutation_polys) ∙ ap (λ (n : ℕ). n - i * v.chunk_size) (below_length v.num_permutation_polys))

  pub part_pos : 0 < length (chunk v i)
  part_pos = let a = part_start in let b = l.some_part in omega (arith, part_length)

  pub part_end : i * v.chunk_size + length (chunk v i) ≤ v.num_permutation_polys
  part_end = let a = part_start in omega (arith, part_length)

  part_is : chunk v i ≡ tabulate (λ j. i * v.chunk_size + j) (length (chunk v i))
  part_is =
      part_run
      ∙ ap (take v.chunk_size) (drop_tabulate (λ j. j) (i * v.chunk_size) v.num_permutation_polys (let a = part_start in omega arith))
      ∙ take_min (λ j. i * v.chunk_size + j) v.chunk_size (v.num_permutation_polys - i * v.chunk_size)
      ∙ ap (tabulate (λ j. i * v.chunk_size + j)) (sym part_length)

  part_map : (f : ℕ → Expr) → map f (chunk v i) ≡ tabulate (λ j. f (i * v.chunk_size + j)) (length (chunk v i))
  part_map f =
      ap (map f) part_is ∙ map_tabulate f (λ j. i * v.chunk_size + j) (length (chunk v i))

  module _ (names : List ℕ) where
    pub part_tree_is : (count : ℕ) → count ≡ length (chunk v i)
        → part_tree v names i
        ≡ minus (Expr.product (at (number_of_z v i)) (product_of (tabulate (λ j. identity_tree v names (i * v.chunk_size + j)) count)))
        (Expr.product (next_tree v i) (product_of (tabulate (λ j. permutation_tree v names (i * v.chunk_size + j)) count)))
    unfolding part_tree
    part_tree_is count e =
        ap₂
        (λ (a b : List Expr). minus (Expr.product (at (number_of_z v i)) (product_of a)) (Expr.product (next_tree v i) (product_of b)))
        (part_map (identity_tree v names) ∙ ap (tabulate (λ j. identity_tree v names (i * v.chunk_size + j))) (sym e))
        (part_map (permutation_tree v names) ∙ ap (tabulate (λ j. permutation_tree v names (i * v.chunk_size + j))) (sym e))

-- ---- the nodes
pub identity_size : (v : CircuitParams) (names : List ℕ) (i : ℕ) → size (identity_tree v names i) ≡ 9
unfolding identity_tree body
identity_size v names i = refl

pub permutation_size : (v : CircuitParams) (names : List ℕ) (i : ℕ) → size (permutation_tree v names i) ≡ 7
unfolding permutation_tree body
permutation_size v names i = refl

pub next_size : (v : CircuitParams) (i : ℕ) → size (next_tree v i) ≡ 1
unfolding next_tree body
next_size v i = go (ltb (suc i) v.num_chunks)
  where
    go : (t : Bool) → size (cond t (at (number_of_z v (suc i))) (Expr.poly (number_of_z v 0) (pos 1))) ≡ 1
    go true = refl
    go false = refl

at_size : (q : ℕ) → size (at q) ≡ 1
unfolding body
at_size q = refl

-- z · p − y · q
sides_size : (z y p q : Expr) (m : ℕ) → size z ≡ 1 → size y ≡ 1 → size p + 1 ≡ m * 10 → size q + 1 ≡ m * 8
    → size (minus (Expr.product z p) (Expr.product y q)) ≡ m * 18 + 4
unfolding body
sides_size z y p q m a b c d = omega arith

pub column_product : (s : ℕ) (f : ℕ → Expr) (n : ℕ) → 0 < n → ((i : ℕ) → size (f i) ≡ s)
    → size (product_of (tabulate f n)) + 1 ≡ n * (s + 1)
column_product s f zero h q = absurd (omega arith)
column_product s f (suc n) h q =
    let g : ℕ → Expr = λ i. f (suc i) in
    ap (λ (l : List Expr). size (product_of l) + 1) (tabulate_first f n)
    ∙ product_size s (f 0) (tabulate g n) (q 0, all_tabulate (λ (e : Expr). size e ≡ s) g n (λ i l. q (suc i)))
    ∙ ap (λ (m : ℕ). suc m * (s + 1)) (tabulate_length g n)

pub part_size_is : (v : CircuitParams) (l : Limits v) (i : ℕ) (h : i < v.num_chunks) (names : List ℕ)
    → size (part_tree v names i) ≡ length (chunk v i) * 18 + 4
part_size_is v l i h names =
    let m : ℕ = length (chunk v i) in
    let a = column_product 9 (λ j. identity_tree v names (i * v.chunk_size + j)) m (part_pos v l i h) (λ j. identity_size v names (i * v.chunk_size + j)) in
    let b = column_product 7 (λ j. permutation_tree v names (i * v.chunk_size + j)) m (part_pos v l i h) (λ j. permutation_size v names (i * v.chunk_size + j)) in
    ap size (part_tree_is v l i h names m refl)
    ∙ sides_size (at (number_of_z v i)) (next_tree v i) (product_of (tabulate (λ j. identity_tree v names (i * v.chunk_size + j)) m)) (product_of (tabulate (λ j. permutation_tree v names (i * v.chunk_size + j)) m)) m (at_size (number_of_z v i)) (next_size v i) a b

pub start_size : (v : CircuitParams) → size (start_tree v) ≡ 6
unfolding start_tree body
start_size v = refl

-- ---- what is written
next_by : (v : CircuitParams) (i : ℕ) (t : Bool) → ltb (suc i) v.num_chunks ≡ t
    → next_tree v i ≡ cond t (at (number_of_z v (suc i))) (Expr.poly (number_of_z v 0) (pos 1))
unfolding next_tree
next_by v i t e = ap (λ (s : Bool). cond s (at (number_of_z v (suc i))) (Expr.poly (number_of_z v 0) (pos 1))) e

module _ (v : CircuitParams) (i : ℕ) {from n next : ℕ} {d d1 : List ℕ} where
  -- the following part's z
  pub next_written : (q : ℕ) → q ≡ number_of_z v (suc i) → suc i < v.num_chunks → ExprWritten from (at q) n d d1 next → ExprWritten from (next_tree v i) n d d1 next
  next_written q e h w = written_as (next_by v i true (lt-ltb (suc i) v.num_chunks h) ∙ ap at (sym e)) w

  -- the first z with rotation 1
  pub around_written : (q : ℕ) → q ≡ number_of_z v 0 → v.num_chunks ≤ suc i → Pushed from n 5 q 0 2147483649 d d1 next
      → ExprWritten from (next_tree v i) n d d1 next
  around_written q e h p =
      written_as (next_by v i false (le-ltb (suc i) v.num_chunks h) ∙ ap (λ (z : ℕ). Expr.poly z (pos 1)) (sym e))
      (written_poly {q = q} {r = pos 1} p)

module _ (v : CircuitParams) {from n x y z u w next : ℕ} {d d1 d2 d3 d4 d5 d6 : List ℕ} where
  pub start_written : (q : ℕ) → q ≡ number_of_z v 0 → Pushed from n 3 0 0 2147483649 d d1 x → ExprWritten from (at q) x d1 d2 y
      → Pushed from y 1 0 0 1 d2 d3 z
      → Pushed from z 7 (z - 1) 0 0 d3 d4 u
      → Pushed from u 8 (y - 1) (u - 1) 0 d4 d5 w
      → Pushed from w 9 (x - 1) (w - 1) 0 d5 d6 next
      → ExprWritten from (start_tree v) n d d6 next
  unfolding start_tree
  start_written q e a b p r s t =
      written_as (ap (λ (z : ℕ). Expr.product (Expr.lagrange (pos 1)) (minus (at z) (Expr.constant 1))) (sym e))
      (written_product (written_lagrange {i = pos 1} a) (written_minus b (written_constant p) r s) t)

module _ (v : CircuitParams) (l : Limits v) (i : ℕ) (h : i < v.num_chunks) (names : List ℕ) (count : ℕ) {from n x y z next : ℕ}
    {d d1 d2 d3 d4 : List ℕ} where
  pub part_written : count ≡ length (chunk v i)
      → ExprWritten from (Expr.product (at (number_of_z v i)) (product_of (tabulate (λ j. identity_tree v names (i * v.chunk_size + j)) count))) n d d1 x
      → ExprWritten from (Expr.product (next_tree v i) (product_of (tabulate (λ j. permutation_tree v names (i * v.chunk_size + j)) count))) x d1 d2 y
      → Pushed from y 7 (y - 1) 0 0 d2 d3 z
      → Pushed from z 8 (x - 1) (z - 1) 0 d3 d4 next
      → ExprWritten from (part_tree v names i) n d d4 next
  part_written e a b p q = written_as (part_tree_is v l i h names count e) (written_minus a b p q)
