-- Question 18 by the words: the numbers, and the tables of each group.
use mathlib.Core.Path.{◌≡◌, refl, sym, ap, ap₂, ◌∙◌}
use mathlib.Core.Bool.{Bool, true, false, ◌&&◌, ◌||◌, and-true, and-false, and_assoc}
use mathlib.Core.List.{List, [], ◌∷◌, ◌++◌}
use Prim.Native.Nat.{ℕ, zero, suc, ◌+◌, ◌-◌, ◌*◌, ◌/◌, ◌≤◌, ◌<◌}
use native.Mathlib.Nat.{add-zero}
use native.Mathlib.Numerals.{add-one}
use native.Mathlib.Omega.{arith}
use lib.Dec.{eqb}
use lib.ListN.{length, get_or, take, drop}
use lib.Seq.{drop-cons}
use borrow.Author.Tests.{eq-eqb, ne_eqb}
use Rattle.lists.specs.Lists.{tabulate, range, all_of, split, total}
use Rattle.lists.proofs.Lists.{split_length}
use Rattle.lists.proofs.Columns.{map_tabulate, map_below, tabulate_length, tabulate_of, get_tabulate, tabulate_cong}
use Rattle.lists.proofs.Parts.{total_within, total_next}
use Rattle.lists.proofs.Tests.{all_append}
use Rattle.lists.proofs.Walks.{all_map, Walked, walk_none, walk_more, walk_done, walk_fails}
use Rattle.expression.specs.Expr.{Expr}
use Rattle.expression.specs.Nodes.{expr_of}
use Rattle.expression.specs.Same.{same_expr, same_list}
use Rattle.backend.specs.Circuit.{Pair, pair_at, pairs_of}
use Rattle.backend.specs.Constraints.{tables_of}
use Rattle.backend.specs.Questions.{numbers_follow, group_numbers_good, tables_alike}
use Rattle.backend.specs.Degrees.{lookup_numbered, group_from}
use Rattle.backend.proofs.Degree.{group_numbered}

-- ---- the numbers
-- before number i, and after the one before it
pub record Followed (ns : List ℕ) (i : ℕ) : Type 0 where
  pub some : 1 ≤ i
  pub upto : i ≤ length ns
  pub rest : group_numbers_good ns ≡ numbers_follow (get_or ns (i - 1) 0) (drop i ns)

pub numbers_none : (ns : List ℕ) → length ns ≡ 0 → true ≡ group_numbers_good ns
unfolding group_numbers_good
numbers_none [] e = refl
numbers_none (n ∷ ns) e = absurd (omega arith)

pub numbers_first : (ns : List ℕ) → (length ns ≡ 0 → ⊥) → (get_or ns 0 0 ≡ 0 → ⊥) → false ≡ group_numbers_good ns
unfolding group_numbers_good
numbers_first [] s n = absurd (s refl)
numbers_first (g ∷ gs) s n = sym (ap (λ (t : Bool). t && numbers_follow g gs) (ne_eqb g 0 n))

pub followed_first : (ns : List ℕ) → (length ns ≡ 0 → ⊥) → get_or ns 0 0 ≡ 0 → Followed ns 1
unfolding group_numbers_good
followed_first [] s e = absurd (s refl)
followed_first (g ∷ gs) s e =
    record { some = omega arith; upto = omega arith; rest = ap (λ (t : Bool). t && numbers_follow g gs) (eq-eqb g 0 e) }

module _ (ns : List ℕ) (i : ℕ) (v : Followed ns i) (l : i < length ns) where
  next : group_numbers_good ns
      ≡ ((eqb (get_or ns i 0) (get_or ns (i - 1) 0) || eqb (get_or ns i 0) (suc (get_or ns (i - 1) 0))) && numbers_follow (get_or ns i 0) (drop (suc i) ns))
  unfolding numbers_follow
  next = v.rest ∙ ap (numbers_follow (get_or ns (i - 1) 0)) (drop-cons ns i 0 l)

  pub breaks_low : get_or ns i 0 < get_or ns (i - 1) 0 → false ≡ group_numbers_good ns
  breaks_low h =
      sym (next ∙ ap (λ (t : Bool). t && numbers_follow (get_or ns i 0) (drop (suc i) ns))
      (ap₂ ◌||◌ (ne_eqb (get_or ns i 0) (get_or ns (i - 1) 0) (λ e. omega arith)) (ne_eqb (get_or ns i 0) (suc (get_or ns (i - 1) 0)) (λ e. omega arith))))

  pub breaks_high : get_or ns (i - 1) 0 ≤ get_or ns i 0 → 1 < get_or ns i 0 - get_or ns (i - 1) 0 → false ≡ group_numbers_good ns
  breaks_high g h =
      sym (next ∙ ap (λ (t : Bool). t && numbers_follow (get_or ns i 0) (drop (suc i) ns))
      (ap₂ ◌||◌ (ne_eqb (get_or ns i 0) (get_or ns (i - 1) 0) (λ e. omega arith)) (ne_eqb (get_or ns i 0) (suc (get_or ns (i - 1) 0)) (λ e. omega arith))))

  pub followed_more : get_or ns (i - 1) 0 ≤ get_or ns i 0 → get_or ns i 0 - get_or ns (i - 1) 0 ≤ 1 → Followed ns (i + 1)
  followed_more g h =
      record {
        some = omega arith;
        upto = omega arith;
        rest =
            next
            ∙ ap (λ (t : Bool). t && numbers_follow (get_or ns i 0) (drop (suc i) ns)) (one_of (get_or ns i 0) (get_or ns (i - 1) 0) g h)
            ∙ ap₂ (λ (a n : ℕ). numbers_follow (get_or ns a 0) (drop n ns)) (let q : i ≡ i + 1 - 1 = omega arith in q) (sym (add-one i));
      }
    where
      one_of : (a b : ℕ) → b ≤ a → a - b ≤ 1 → (eqb a b || eqb a (suc b)) ≡ true
      one_of a b p q = go (a - b) refl
        where
          or_true : (t : Bool) → (t || true) ≡ true
          or_true true = refl
          or_true false = refl

          go : (d : ℕ) → d ≡ a - b → (eqb a b || eqb a (suc b)) ≡ true
          go zero e = ap (λ (t : Bool). t || eqb a (suc b)) (eq-eqb a b (omega arith))
          go (suc d) e = ap (λ (t : Bool). eqb a b || t) (eq-eqb a (suc b) (omega arith)) ∙ or_true (eqb a b)

pub followed_all : (ns : List ℕ) (i : ℕ) → Followed ns i → length ns ≤ i → true ≡ group_numbers_good ns
unfolding numbers_follow
followed_all ns i v l =
    let u = v.upto in
    sym (v.rest ∙ ap (numbers_follow (get_or ns (i - 1) 0)) (drop_all ns i l))
  where
    drop_all : (xs : List ℕ) (n : ℕ) → length xs ≤ n → drop n xs ≡ []
    drop_all [] zero h = refl
    drop_all [] (suc n) h = refl
    drop_all (x ∷ xs) zero h = absurd (omega arith)
    drop_all (x ∷ xs) (suc n) h = drop_all xs n (omega arith)

-- ---- lists of trees
same_tabulated : (f g : ℕ → Expr) (n : ℕ) → same_list (tabulate f n) (tabulate g n) ≡ all_of (λ t. same_expr (f t) (g t)) (range n)
unfolding tabulate same_list all_of
same_tabulated f g zero = refl
same_tabulated f g (suc n) =
    same_end (tabulate f n) (tabulate g n) (f n) (g n) (tabulate_length f n ∙ sym (tabulate_length g n))
    ∙ ap (λ (t : Bool). t && same_expr (f n) (g n)) (same_tabulated f g n)
    ∙ sym (all_append (λ t. same_expr (f t) (g t)) (range n) (n ∷ []) ∙ ap (λ (t : Bool). all_of (λ t. same_expr (f t) (g t)) (range n) && t) (and-true (same_expr (f n) (g n))))
  where
    same_end : (xs ys : List Expr) (x y : Expr) → length xs ≡ length ys
        → same_list (xs ++ (x ∷ [])) (ys ++ (y ∷ [])) ≡ (same_list xs ys && same_expr x y)
    same_end [] [] x y e = and-true (same_expr x y)
    same_end [] (b ∷ ys) x y e = absurd (omega arith)
    same_end (a ∷ xs) [] x y e = absurd (omega arith)
    same_end (a ∷ xs) (b ∷ ys) x y e =
        ap (λ (t : Bool). same_expr a b && t) (same_end xs ys x y (omega arith)) ∙ sym (and_assoc (same_expr a b) (same_list xs ys) (same_expr x y))

unlike : (xs ys : List Expr) → (length xs ≡ length ys → ⊥) → same_list xs ys ≡ false
unfolding same_list
unlike [] [] n = absurd (n refl)
unlike [] (y ∷ ys) n = refl
unlike (x ∷ xs) [] n = refl
unlike (x ∷ xs) (y ∷ ys) n = ap (λ (t : Bool). same_expr x y && t) (unlike xs ys (λ e. n (ap suc e))) ∙ and-false (same_expr x y)

module _ (nodes widths body : List ℕ) where
  -- table t of lookup i
  abbrev pub table_of : ℕ → ℕ → Expr
  table_of i t = expr_of nodes (get_or body ((total (take i widths) + t) * 2 + 1) 0)

  tables_numbered : (i : ℕ) → tables_of (lookup_numbered nodes widths body i) ≡ tabulate (table_of i) (get_or widths i 0)
  tables_numbered i = map_tabulate (λ (p : Pair). p.table) (λ t. pair_at nodes body (total (take i widths) + t)) (get_or widths i 0)

  abbrev pub same_tables : ℕ → ℕ → Bool
  same_tables i f = same_list (tables_of (lookup_numbered nodes widths body i)) (tables_of (lookup_numbered nodes widths body f))

  pub tables_same : (i f : ℕ) → get_or widths i 0 ≡ get_or widths f 0
      → all_of (λ t. same_expr (table_of i t) (table_of f t)) (range (get_or widths i 0)) ≡ same_tables i f
  tables_same i f e =
      sym (ap₂ same_list (tables_numbered i) (tables_numbered f ∙ ap (tabulate (table_of f)) (sym e)) ∙ same_tabulated (table_of i) (table_of f) (get_or widths i 0))

  pub tables_unlike : (i f : ℕ) → (get_or widths i 0 ≡ get_or widths f 0 → ⊥) → false ≡ same_tables i f
  tables_unlike i f n =
      sym
      (ap₂ same_list (tables_numbered i) (tables_numbered f)
      ∙ unlike (tabulate (table_of i) (get_or widths i 0)) (tabulate (table_of f) (get_or widths f 0))
      (λ e. n (sym (tabulate_length (table_of i) (get_or widths i 0)) ∙ e ∙ tabulate_length (table_of f) (get_or widths f 0))))

  -- a group of n lookups from `first` on
  pub group_alike_is : (first n : ℕ) → 0 < n → all_of (λ i. same_tables (first + i) first) (range n) ≡ tables_alike (group_from nodes widths body first n)
  unfolding tables_alike
  group_alike_is first n h =
      let N : ℕ → List Pair = lookup_numbered nodes widths body in
      let head : get_or (group_from nodes widths body first n) 0 [] ≡ N first =
      get_tabulate (λ i. N (first + i)) n 0 [] h ∙ ap N (add-zero first) in
      sym
      (ap (λ (l : List Pair). all_of (λ m. same_list (tables_of m) (tables_of l)) (group_from nodes widths body first n)) head
      ∙ ap (all_of (λ m. same_list (tables_of m) (tables_of (N first)))) (sym (map_below (λ i. N (first + i)) n))
      ∙ all_map (λ m. same_list (tables_of m) (tables_of (N first))) (λ i. N (first + i)) (range n))

  -- all groups
  abbrev pub alike_numbered : List ℕ → ℕ → Bool
  alike_numbered sizes j = tables_alike (group_from nodes widths body (total (take j sizes)) (get_or sizes j 0))

  pub groups_alike_is : (sizes : List ℕ) → total widths ≡ length body / 2 → total sizes ≡ length widths
      → all_of (alike_numbered sizes) (range (length sizes)) ≡ all_of tables_alike (split sizes (split widths (pairs_of nodes body)))
  groups_alike_is sizes p q =
      let groups : List (List (List Pair)) = split sizes (split widths (pairs_of nodes body)) in
      let len : length groups ≡ length sizes = split_length sizes (split widths (pairs_of nodes body)) in
      sym
      (ap (all_of tables_alike)
      (sym (tabulate_of groups []) ∙ ap (tabulate (λ j. get_or groups j [])) len
      ∙ tabulate_cong (λ j. get_or groups j []) (λ j. group_from nodes widths body (total (take j sizes)) (get_or sizes j 0)) (length sizes)
      (λ j l. group_numbered nodes widths body sizes p q j l)
      ∙ sym (map_below (λ j. group_from nodes widths body (total (take j sizes)) (get_or sizes j 0)) (length sizes)))
      ∙ all_map tables_alike (λ j. group_from nodes widths body (total (take j sizes)) (get_or sizes j 0)) (range (length sizes)))

  -- where table t of lookup i stands, whose first pair is `first`
  pub place_fits : total widths ≡ length body / 2 → (i t first : ℕ) → first ≡ total (take i widths) → t < get_or widths i 0
      → (first + t) * 2 + 1 < length body
  place_fits e i t first p l =
      let w = total_within widths i in
      omega arith

  pub same_at : (i f t first second : ℕ) (r : Bool) → first ≡ total (take i widths) → second ≡ total (take f widths)
      → r ≡ same_expr (expr_of nodes (get_or body ((first + t) * 2 + 1) 0)) (expr_of nodes (get_or body ((second + t) * 2 + 1) 0))
      → r ≡ same_expr (table_of i t) (table_of f t)
  same_at i f t first second r p q e =
      e
      ∙ ap₂ (λ (a b : ℕ). same_expr (expr_of nodes (get_or body ((a + t) * 2 + 1) 0)) (expr_of nodes (get_or body ((b + t) * 2 + 1) 0)))
      p q

  -- the groups before group j are alike, and its lookups are those from `first` on
  pub record Likened (sizes : List ℕ) (first j : ℕ) : Type 0 where
    pub walked : Walked (alike_numbered sizes) (λ j. j) (length sizes) j
    pub first_is : first ≡ total (take j sizes)

  module _ (sizes : List ℕ) where
    pub likened_none : Likened sizes 0 0
    unfolding total
    likened_none = record { walked = walk_none (alike_numbered sizes) (λ j. j) (length sizes); first_is = refl }

    module _ (first j : ℕ) (v : Likened sizes first j) (l : j < length sizes) (r : Bool)
        (e : r ≡ tables_alike (group_from nodes widths body first (get_or sizes j 0))) where
      told : alike_numbered sizes j ≡ r
      told = sym (e ∙ ap (λ (f : ℕ). tables_alike (group_from nodes widths body f (get_or sizes j 0))) v.first_is)

      pub likened_more : r ≡ true → Likened sizes (first + get_or sizes j 0) (j + 1)
      likened_more t =
          record {
            walked = walk_more (alike_numbered sizes) (λ j. j) (length sizes) j v.walked l (told ∙ t);
            first_is =
                ap (λ (f : ℕ). f + get_or sizes j 0) v.first_is ∙ sym (total_next sizes j l) ∙ ap (λ (i : ℕ). total (take i sizes)) (sym (add-one j));
          }

      pub likened_fails : r ≡ false → total widths ≡ length body / 2 → total sizes ≡ length widths
          → false ≡ all_of tables_alike (split sizes (split widths (pairs_of nodes body)))
      likened_fails t p q = walk_fails (alike_numbered sizes) (λ j. j) (length sizes) j l (told ∙ t) ∙ groups_alike_is sizes p q

    pub likened_all : (first j : ℕ) → Likened sizes first j → length sizes ≤ j → total widths ≡ length body / 2 → total sizes ≡ length widths
        → true ≡ all_of tables_alike (split sizes (split widths (pairs_of nodes body)))
    likened_all first j v l p q = walk_done (alike_numbered sizes) (λ j. j) (length sizes) j v.walked l ∙ groups_alike_is sizes p q

    -- its lookups are there
    pub likened_fits : (first j : ℕ) → Likened sizes first j → total sizes ≡ length widths → first + get_or sizes j 0 ≤ length widths
    likened_fits first j v q = let w = total_within sizes j in let f = v.first_is in omega arith
