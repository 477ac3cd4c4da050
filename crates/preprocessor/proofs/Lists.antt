-- Lists of expressions by their numbers, written as `distribute_powers` and as products. Proved.
use mathlib.Core.Path.{◌≡◌, refl, sym, ap, ◌∙◌, subst}
use mathlib.Core.List.{List, [], ◌∷◌, ◌++◌}
use Prim.Native.Nat.{ℕ, zero, suc, ◌+◌, ◌-◌, ◌*◌, ◌≤◌, ◌<◌}
use native.Mathlib.Decide.{dec_lt}
use native.Mathlib.Nat.{add-zero}
use native.Mathlib.Numerals.{add-one}
use native.Mathlib.Omega.{arith}
use lib.ListN.{length, get_or, drop, drop_of_length-le}
use lib.Seq.{drop-cons}
use Rattle.lists.specs.Lists.{tabulate, All}
use Rattle.lists.proofs.Columns.{tabulate_suc, tabulate_first}
use Rattle.expression.specs.Expr.{Expr, Exprs, exprs_of, distribute_powers, product_from, product_of}
use Rattle.expression.specs.Flat.{body, sizes, extra, size}
use Rattle.expression.specs.Written.{Pushed, ExprWritten, WrittenBase, WrittenList}
use Rattle.expression.proofs.Written.{written_as, written_constant, written_factor, written_distribute, list_last, list_more}
use Rattle.preprocessor.specs.ComposeWords.{exprs_from}

-- expression i of a list
abbrev pub nth : List Expr → ℕ → Expr
nth es i = get_or es i (Expr.constant 0)

-- ---- the expressions of a list of n from number i on, whose own is e
module _ (es : List Expr) (n : ℕ) (long : length es ≡ n) (i : ℕ) (e : Expr) (same : nth es i ≡ e) where
  from_more : i + 1 < n → exprs_from es i ≡ Exprs.more e (exprs_from es (i + 1))
  unfolding exprs_from exprs_of
  from_more h =
      ap (exprs_of (nth es i))
      (drop-cons es (suc i) (Expr.constant 0) (omega arith)
      ∙ ap (λ (j : ℕ). nth es j ∷ drop (suc j) es) (sym (add-one i)))
      ∙ ap (λ (f : Expr). Exprs.more f (exprs_of (nth es (i + 1)) (drop (suc (i + 1)) es))) same

  from_last : n ≤ i + 1 → exprs_from es i ≡ Exprs.last e
  unfolding exprs_from exprs_of
  from_last h = ap (exprs_of (nth es i)) (drop_of_length-le es {i = suc i} (omega arith)) ∙ ap Exprs.last same

  pub more_sizes : i + 1 < n
      → (sizes (exprs_from es i) ≡ size e + sizes (exprs_from es (i + 1))) × (extra (exprs_from es i) ≡ extra (exprs_from es (i + 1)) + 1)
  unfolding body
  more_sizes h = (ap sizes (from_more h), ap extra (from_more h) ∙ omega arith)

  last_sizes : n ≤ i + 1 → (sizes (exprs_from es i) ≡ size e) × (extra (exprs_from es i) ≡ 0)
  unfolding body
  last_sizes h = (ap sizes (from_last h), ap extra (from_last h))

  -- there is room for the first
  pub first_room : size e ≤ sizes (exprs_from es i)
  first_room = go (dec_lt (i + 1) n)
    where
      go : Dec (i + 1 < n) → size e ≤ sizes (exprs_from es i)
      go (yes h) = omega (arith, (more_sizes h).0)
      go (no h) = omega (arith, (last_sizes (omega arith)).0)

  module _ {b : Expr} {from at x next base : ℕ} {d d1 d2 : List ℕ} where
    pub end_from : n ≤ i + 1 → ExprWritten from e at d d1 x → WrittenBase from b x d1 d2 next base
        → WrittenList from (exprs_from es i) b at d d2 next base
    end_from h v w = subst (λ (l : Exprs). WrittenList from l b at d d2 next base) (sym (from_last h)) (list_last v w)

  module _ {b : Expr} {from at x y next base : ℕ} {d d1 d2 d3 : List ℕ} where
    pub more_from : i + 1 < n → ExprWritten from e at d d1 x → WrittenList from (exprs_from es (i + 1)) b x d1 d2 y base
        → Pushed from y 12 (x - 1) (y - 1) 1 d2 d3 next
        → WrittenList from (exprs_from es i) b at d d3 next base
    more_from h v w p =
        subst (λ (l : Exprs). WrittenList from l b at d d3 next base) (sym (from_more h)) (list_more v w p)

-- ---- by powers of b
module _ (b : Expr) {from at next : ℕ} {d d1 : List ℕ} where
  pub powers_none : (es : List Expr) → length es ≡ 0 → Pushed from at 1 0 0 0 d d1 next → ExprWritten from (distribute_powers es b) at d d1 next
  unfolding distribute_powers
  powers_none [] h p = written_constant p
  powers_none (e ∷ es) h p = absurd (omega arith)

  pub powers_one : (es : List Expr) → length es ≡ 1 → ExprWritten from (nth es 0) at d d1 next → ExprWritten from (distribute_powers es b) at d d1 next
  unfolding distribute_powers
  powers_one [] h w = absurd (omega arith)
  powers_one (e ∷ []) h w = w
  powers_one (e ∷ (f ∷ es)) h w = absurd (omega arith)

module _ (b : Expr) {from at x next base : ℕ} {d d1 d2 : List ℕ} where
  pub powers_many : (es : List Expr) → 1 < length es → WrittenList from (exprs_from es 0) b at d d1 x base
      → Pushed from x 11 base (x - 1) 0 d1 d2 next
      → ExprWritten from (distribute_powers es b) at d d2 next
  unfolding distribute_powers exprs_from
  powers_many [] h w p = absurd (omega arith)
  powers_many (e ∷ []) h w p = absurd (omega arith)
  powers_many (e ∷ (f ∷ es)) h w p = written_distribute e f es w p

-- the nodes of a list by powers of b
pub one_size : (b : Expr) (es : List Expr) → length es ≡ 1 → size (distribute_powers es b) ≡ size (nth es 0)
unfolding distribute_powers
one_size b [] h = absurd (omega arith)
one_size b (e ∷ []) h = refl
one_size b (e ∷ (f ∷ es)) h = absurd (omega arith)

pub many_size : (b : Expr) (es : List Expr) → 1 < length es
    → size (distribute_powers es b) ≡ sizes (exprs_from es 0) + size b + extra (exprs_from es 0) + 2
unfolding distribute_powers exprs_from body
many_size b [] h = absurd (omega arith)
many_size b (e ∷ []) h = absurd (omega arith)
many_size b (e ∷ (f ∷ es)) h = omega arith

-- ---- products
module _ (f : ℕ → Expr) {from at next : ℕ} {d d1 : List ℕ} where
  pub product_one : ExprWritten from (f 0) at d d1 next → ExprWritten from (product_of (tabulate f 1)) at d d1 next
  unfolding product_of product_from tabulate
  product_one w = w

  pub product_all : (j n : ℕ) → j ≡ n → ExprWritten from (product_of (tabulate f j)) at d d1 next → ExprWritten from (product_of (tabulate f n)) at d d1 next
  product_all j n e w = subst (λ (m : ℕ). ExprWritten from (product_of (tabulate f m)) at d d1 next) e w

-- factors that are numbered from `first` on
module _ (f : ℕ → Expr) (first : ℕ) {from at next : ℕ} {d d1 : List ℕ} where
  pub product_first : ExprWritten from (f first) at d d1 next → ExprWritten from (product_of (tabulate (λ j. f (first + j)) 1)) at d d1 next
  product_first w = product_one (λ j. f (first + j)) (written_as (ap f (add-zero first)) w)

module _ (f : ℕ → Expr) {from at x y next : ℕ} {d d1 d2 d3 : List ℕ} where
  -- one factor more
  more_factors : (j : ℕ) → 0 < j → ExprWritten from (product_of (tabulate f j)) at d d1 x → ExprWritten from (f j) x d1 d2 y
      → Pushed from y 9 (x - 1) (y - 1) 0 d2 d3 next
      → ExprWritten from (product_of (tabulate f (suc j))) at d d3 next
  unfolding product_of
  more_factors zero h v w p = absurd (omega arith)
  more_factors (suc m) h v w p =
      let fs : List Expr = tabulate (λ i. f (suc i)) m in
      written_as (ap product_of (tabulate_suc f (suc m) ∙ ap (λ (l : List Expr). l ++ (f (suc m) ∷ [])) (tabulate_first f m)))
      (written_factor (f 0) fs (written_as (sym (ap product_of (tabulate_first f m))) v) w p)

  pub product_more : (j : ℕ) → 0 < j → ExprWritten from (product_of (tabulate f j)) at d d1 x → ExprWritten from (f j) x d1 d2 y
      → Pushed from y 9 (x - 1) (y - 1) 0 d2 d3 next
      → ExprWritten from (product_of (tabulate f (j + 1))) at d d3 next
  product_more j h v w p = product_all f (suc j) (j + 1) (sym (add-one j)) (more_factors j h v w p)

-- the nodes of a product whose factors have s each
module _ (s : ℕ) where
  from_size : (e : Expr) (fs : List Expr) → All (λ f. size f ≡ s) fs → size (product_from e fs) ≡ size e + length fs * (s + 1)
  unfolding product_from body
  from_size e [] h = omega arith
  from_size e (f ∷ fs) (p, h) = let q = from_size (Expr.product e f) fs h in omega arith

  pub product_size : (e : Expr) (fs : List Expr) → All (λ f. size f ≡ s) (e ∷ fs)
      → size (product_of (e ∷ fs)) + 1 ≡ length (e ∷ fs) * (s + 1)
  unfolding product_of
  product_size e fs (p, h) = let q = from_size e fs h in omega arith
