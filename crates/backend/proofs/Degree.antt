-- The degrees of lookup constraints, question 10 and D, by the degrees of the expressions in the sections.
use mathlib.Core.Path.{◌≡◌, refl, sym, ap, ap₂, ◌∙◌}
use mathlib.Core.Bool.{Bool, true, false, ◌&&◌, ◌||◌, and-false, beq}
use mathlib.Core.List.{List, [], ◌∷◌, ◌++◌, map, map-append, map-map}
use mathlib.Core.Option.{none}
use Prim.Native.Nat.{ℕ, zero, suc, ◌+◌, ◌-◌, ◌*◌, ◌/◌, ◌≤◌, ◌<◌, min, max}
use native.Mathlib.Nat.{max-zero, zero-add, add-zero, add_assoc, not-suc-le-zero}
use native.Mathlib.Numerals.{add-one}
use native.Mathlib.Omega.{arith}
use lib.Dec.{eqb, leb, ltb, eqb-suc-zero, leb-zero, leb-suc-suc}
use lib.ListN.{length, get_or, take, drop}
use borrow.Author.Tests.{leb-true, le-leb, lt-leb, ltb-true}
use Rattle.lists.specs.Lists.{tabulate, all_of, count_of, maximum, split, total, All}
use Rattle.lists.proofs.Tests.{all_append, all_each, and_left, and_right, and_both}
use Rattle.lists.proofs.Columns.{map_tabulate, tabulate_suc, tabulate_cong, tabulate_of, tabulate_length, get_tabulate}
use Rattle.lists.proofs.All.{all_mapped}
use Rattle.lists.proofs.Lists.{split_length}
use Rattle.lists.proofs.Parts.{get_split, total_within, total_next as total-next-of}
use Rattle.lists.proofs.Totals.{maximum_append}
use Rattle.lists.proofs.Walks.{all_map, total_next}
use Rattle.lists.proofs.Searches.{tabulate_part}
use Rattle.lists.proofs.Once.{same_tests}
use Rattle.expression.specs.Expr.{Expr, degree, evaluate, values, running, degree_ops, exprs_of, distribute_powers, product_from, product_of, at}
use Rattle.expression.specs.Nodes.{expr_of}
use Rattle.backend.specs.Circuit.{Circuit, Pair, word, pair_at, pairs_of, stated_of, num_challenges, num_groups_in, group_sizes, num_groups, groups_of, m_number, h_number}
use Rattle.backend.specs.Layout.{node_count, nodes_hold, kind_is, in_place, is_root, once, laid_out}
use Rattle.backend.specs.Constraints.{inputs_of, tables_of, side_of, omit_one, sum_from, sum_of, numerator_tree, group_tree, group_with, lookup_constraint, lookup_constraints, least_d, max_degree}
use Rattle.backend.specs.Questions.{at_most, q10}
use Rattle.backend.specs.Degrees.{degree_of, group_degree, lookup_from, side_degree, lookup_numbered, group_from, groups_degree, degrees_fit, largest_degree}

max_assoc : (a b d : ℕ) → max (max a b) d ≡ max a (max b d)
max_assoc a b d = omega arith

-- a base of degree 0 leaves the largest
running_zero : (acc : ℕ) (ns : List ℕ) → running degree_ops 0 0 acc ns ≡ max acc (maximum ns)
unfolding running degree_ops maximum
running_zero acc [] = sym (max-zero acc)
running_zero acc (n ∷ ns) =
    ap (λ (m : ℕ). running degree_ops 0 0 (max acc m) ns) (zero-add n) ∙ running_zero (max acc n) ns ∙ max_assoc acc n (maximum ns)

degrees_of : (e : Expr) (es : List Expr) → values degree_ops (exprs_of e es) ≡ map degree (e ∷ es)
unfolding evaluate exprs_of degree
degrees_of e [] = refl
degrees_of e (f ∷ es) = ap (λ (ns : List ℕ). degree e ∷ ns) (degrees_of f es)

pub powers_degree : (es : List Expr) (i : ℕ) → degree (distribute_powers es (Expr.challenge i)) ≡ degree_of es
unfolding evaluate exprs_of degree distribute_powers maximum degree_ops
powers_degree [] i = refl
powers_degree (e ∷ []) i = sym (max-zero (degree e))
powers_degree (e ∷ (f ∷ es)) i =
    ap (running degree_ops 0 0 (degree e)) (degrees_of f es) ∙ running_zero (degree e) (map degree (f ∷ es))

-- ---- a group's constraint
product_degree : (e : Expr) (es : List Expr) → degree (product_from e es) ≡ degree e + total (map degree es)
unfolding product_from total degree evaluate degree_ops
product_degree e [] = sym (add-zero (degree e))
product_degree e (f ∷ es) = product_degree (Expr.product e f) es ∙ add_assoc (degree e) (degree f) (total (map degree es))

sum_degree : (d : ℕ) (e : Expr) (es : List Expr) → degree e ≤ d → All (λ f. degree f ≤ d) es → degree (sum_from e es) ≤ d
unfolding sum_from degree evaluate degree_ops
sum_degree d e [] h a = h
sum_degree d e (f ∷ es) h a = sum_degree d (Expr.sum e f) es (let q = a.0 in omega arith) a.1

list_degree : (es : List Expr) → degree (product_of es) ≤ total (map degree es)
unfolding product_of total degree evaluate degree_ops
list_degree [] = omega arith
list_degree (e ∷ es) = let q = product_degree e es in omega arith

-- with one left out
omit_degree : (d : ℕ) (es : List Expr) → d ≡ total (map degree es) → All (λ fs. total (map degree fs) ≤ d) (omit_one es)
unfolding omit_one total
omit_degree d [] e = tt
omit_degree d (x ∷ xs) e = (
  omega arith,
  all_mapped (λ fs. total (map degree fs) ≤ total (map degree xs)) (λ fs. total (map degree fs) ≤ d) (λ ys. x ∷ ys) (λ ys q. let p = q in omega arith)
      (omit_one xs)
      (omit_degree (total (map degree xs)) xs refl),
)

numerator_degree : (t : Expr) (is : List Expr) → degree (numerator_tree t is) ≤ degree t + total (map degree is)
unfolding numerator_tree sum_of total degree evaluate degree_ops
numerator_degree t [] = omega arith
numerator_degree t (i ∷ []) = omega arith
numerator_degree t (i ∷ (j ∷ is)) =
    let d : ℕ = total (map degree (i ∷ (j ∷ is))) in
    let a = omit_degree d (i ∷ (j ∷ is)) refl in
    let q = products (omit_one (i ∷ (j ∷ is))) a in
    omega arith
  where
    products : (xss : List (List Expr)) → All (λ fs. total (map degree fs) ≤ total (map degree (i ∷ (j ∷ is)))) xss
        → degree (sum_of (map product_of xss)) ≤ total (map degree (i ∷ (j ∷ is)))
    products [] a = omega arith
    products (xs ∷ xss) a =
        sum_degree (total (map degree (i ∷ (j ∷ is)))) (product_of xs) (map product_of xss) (let p = list_degree xs in let q = a.0 in omega arith)
        (all_mapped (λ fs. total (map degree fs) ≤ total (map degree (i ∷ (j ∷ is)))) (λ f. degree f ≤ total (map degree (i ∷ (j ∷ is)))) product_of
        (λ fs q. let p = list_degree fs in omega arith) xss a.1)

pub tree_degree : (m h : ℕ) (is : List Expr) (t : Expr) → degree (group_tree (at m) (at h) is t) ≡ 1 + total (map degree is) + degree t
unfolding group_tree degree evaluate degree_ops
tree_degree m h is t =
    let a = product_degree (at h) is in
    let b = numerator_degree t is in
    let c = product_degree (at m) is in
    omega arith

side_is : (user : ℕ) (es : List Expr) → degree (side_of user es) ≡ degree_of es
unfolding degree evaluate degree_ops
side_is user es = max-zero (degree (distribute_powers es (Expr.challenge user))) ∙ powers_degree es user

sides_are : (user : ℕ) (group : List (List Pair)) → map degree (map (λ l. side_of user (inputs_of l)) group) ≡ map (λ l. degree_of (inputs_of l)) group
sides_are user [] = refl
sides_are user (l ∷ ls) = ap₂ (λ (n : ℕ) (ns : List ℕ). n ∷ ns) (side_is user (inputs_of l)) (sides_are user ls)

pub group_degree_is : (user m h : ℕ) (group : List (List Pair)) → degree (group_with user m h group) ≡ group_degree group
unfolding group_with
group_degree_is user m h group =
    tree_degree m h (map (λ l. side_of user (inputs_of l)) group) (side_of user (tables_of (get_or group 0 [])))
    ∙ ap₂ (λ (ns : List ℕ) (t : ℕ). 1 + total ns + t) (sides_are user group) (side_is user (tables_of (get_or group 0 [])))

-- there are as many groups as sizes
pub groups_length : (c : Circuit) → length (groups_of c) ≡ num_groups c
unfolding groups_of num_groups group_sizes
groups_length c = split_length (group_sizes c.groups) c.lookups ∙ tabulate_length (λ j. count_of (λ g. eqb g j) c.groups) (num_groups_in c.groups)

module _ (c : Circuit) where
  pub constraint_degree : (j : ℕ) → degree (lookup_constraint c j) ≡ group_degree (get_or (groups_of c) j [])
  unfolding lookup_constraint
  constraint_degree j = group_degree_is (num_challenges c) (m_number c j) (h_number c j) (get_or (groups_of c) j [])

  lookup_degrees : map degree (lookup_constraints c) ≡ map group_degree (groups_of c)
  unfolding lookup_constraints
  lookup_degrees =
      map_tabulate degree (lookup_constraint c) (num_groups c)
      ∙ tabulate_cong (λ j. degree (lookup_constraint c j)) (λ j. group_degree (get_or (groups_of c) j [])) (num_groups c)
      (λ j l. constraint_degree j)
      ∙ ap (tabulate (λ j. group_degree (get_or (groups_of c) j []))) (sym (groups_length c))
      ∙ sym (map_tabulate group_degree (λ j. get_or (groups_of c) j []) (length (groups_of c)))
      ∙ ap (map group_degree) (tabulate_of (groups_of c) [])

  pub ten_is : q10 c ≡ degrees_fit c.stated c.constraints (groups_of c)
  unfolding q10 degrees_fit
  ten_is =
      ap (λ (t : Bool). t && all_of (λ e. at_most c.stated (degree e)) c.constraints)
      (all_append (λ e. leb (degree e) 1024) c.constraints (lookup_constraints c)
      ∙ ap (λ (t : Bool). all_of (λ e. leb (degree e) 1024) c.constraints && t)
      (sym (all_map (λ n. leb n 1024) degree (lookup_constraints c)) ∙ ap (all_of (λ n. leb n 1024)) lookup_degrees ∙ all_map (λ n. leb n 1024) (λ g. group_degree g) (groups_of c)))

  pub d_is : max_degree c ≡ largest_degree c.stated c.constraints (groups_of c)
  unfolding max_degree largest_degree
  d_is =
      ap (λ (ns : List ℕ). maximum (least_d c.stated ∷ ns))
      (map-append degree c.constraints (lookup_constraints c) ∙ ap (λ (ns : List ℕ). map degree c.constraints ++ ns) lookup_degrees)

-- ---- by the largest degree, 1025 where it is more
all_largest : (d : ℕ) (ns : List ℕ) → all_of (λ n. leb n d) ns ≡ leb (maximum ns) d
unfolding all_of maximum
all_largest d [] = sym (leb-zero d)
all_largest d (n ∷ ns) = ap (λ (t : Bool). leb n d && t) (all_largest d ns) ∙ both n (maximum ns)
  where
    both : (m k : ℕ) → (leb m d && leb k d) ≡ leb (max m k) d
    both m k =
        same_tests (leb m d && leb k d) (leb (max m k) d)
        (λ e.
        let x = leb-true m d (and_left (leb m d) (leb k d) e) in
        let y = leb-true k d (and_right (leb m d) (leb k d) e) in
        le-leb (max m k) d (omega arith))
        (λ e. let x = leb-true (max m k) d e in and_both (leb m d) (leb k d) (le-leb m d (omega arith)) (le-leb k d (omega arith)))

pub all_most : {A : Type 0} (f : A → ℕ) (d : ℕ) (xs : List A) → all_of (λ x. leb (f x) d) xs ≡ leb (maximum (map f xs)) d
all_most f d xs = sym (all_map (λ n. leb n d) f xs) ∙ all_largest d (map f xs)

module _ (stated : ℕ) (constraints : List Expr) (groups : List (List (List Pair))) where
  abbrev pub users : ℕ
  users = degree_of constraints

  abbrev pub looks : ℕ
  looks = maximum (map (λ g. group_degree g) groups)

  pub users_high : (u : ℕ) → u ≡ min 1025 users → 1024 < u → false ≡ degrees_fit (stated_of stated) constraints groups
  unfolding degrees_fit
  users_high u e l =
      ap (λ (t : Bool). t && all_of (λ g. leb (group_degree g) 1024) groups && all_of (λ x. at_most (stated_of stated) (degree x)) constraints)
      (sym (all_most degree 1024 constraints ∙ lt-leb users 1024 (omega arith)))

  pub looks_high : (k : ℕ) → k ≡ min 1025 looks → 1024 < k → false ≡ degrees_fit (stated_of stated) constraints groups
  unfolding degrees_fit
  looks_high k e l =
      sym
      (ap (λ (t : Bool). all_of (λ x. leb (degree x) 1024) constraints && t && all_of (λ x. at_most (stated_of stated) (degree x)) constraints)
      (all_most (λ g. group_degree g) 1024 groups ∙ lt-leb looks 1024 (omega arith))
      ∙ ap (λ (t : Bool). t && all_of (λ x. at_most (stated_of stated) (degree x)) constraints) (and-false (all_of (λ x. leb (degree x) 1024) constraints)))

  within_stated : (w : ℕ) → all_of (λ x. at_most (stated_of w) (degree x)) constraints ≡ (eqb w 0 || ltb users w)
  unfolding stated_of all_of
  within_stated zero = every constraints
    where
      every : (xs : List Expr) → all_of (λ x. at_most none (degree x)) xs ≡ true
      every [] = refl
      every (x ∷ xs) = every xs
  within_stated (suc d) = all_most degree d constraints ∙ sym (leb_suc users d)
    where
      leb_suc : (m n : ℕ) → (eqb (suc n) 0 || ltb m (suc n)) ≡ leb m n
      leb_suc m n = ap₂ ◌||◌ (eqb-suc-zero n) (leb-suc-suc m n)

  pub users_low : (u k : ℕ) → u ≡ min 1025 users → k ≡ min 1025 looks → u ≤ 1024 → k ≤ 1024
      → (eqb stated 0 || ltb u stated) ≡ degrees_fit (stated_of stated) constraints groups
  unfolding degrees_fit
  users_low u k e f l m =
      let g : u ≡ users = omega arith in
      ap (λ (n : ℕ). eqb stated 0 || ltb n stated) g ∙ sym (within_stated stated)
      ∙ ap (λ (t : Bool). t && all_of (λ x. at_most (stated_of stated) (degree x)) constraints)
      (sym
      (and_both (all_of (λ x. leb (degree x) 1024) constraints) (all_of (λ g. leb (group_degree g) 1024) groups)
      (all_most degree 1024 constraints ∙ le-leb users 1024 (omega arith))
      (all_most (λ g. group_degree g) 1024 groups ∙ le-leb looks 1024 (omega arith))))

cap_max : (a b : ℕ) → max (min 1025 a) (min 1025 b) ≡ min 1025 (max a b)
cap_max a b = omega arith

cap_more : (x a b : ℕ) → max x (min 1025 (max a b)) ≡ max (max x (min 1025 a)) (min 1025 b)
cap_more x a b = ap (max x) (sym (cap_max a b)) ∙ sym (max_assoc x (min 1025 a) (min 1025 b))

-- ---- the largest of a column of degrees, 1025 where it is more
pub record Most (g : ℕ → ℕ) (n d i : ℕ) : Type 0 where
  pub upto : i ≤ n
  pub so_far : d ≡ min 1025 (maximum (tabulate g i))

module _ (g : ℕ → ℕ) (n : ℕ) where
  pub most_none : Most g n 0 0
  unfolding tabulate maximum
  most_none = record { upto = omega arith; so_far = refl }

  largest_next : (i : ℕ) → maximum (tabulate g (i + 1)) ≡ max (maximum (tabulate g i)) (g i)
  unfolding maximum
  largest_next i =
      ap (λ (m : ℕ). maximum (tabulate g m)) (add-one i) ∙ ap maximum (tabulate_suc g i) ∙ maximum_append (tabulate g i) (g i ∷ [])
      ∙ ap (max (maximum (tabulate g i))) (max-zero (g i))

  pub most_more : (d i e m : ℕ) → Most g n d i → i < n → e ≡ min 1025 (g i) → m ≡ max d e → Most g n m (i + 1)
  most_more d i e m v l p q =
      record { upto = omega arith; so_far = q ∙ ap₂ max v.so_far p ∙ cap_max (maximum (tabulate g i)) (g i) ∙ ap (min 1025) (sym (largest_next i)) }

  pub most_all : (d i : ℕ) → Most g n d i → n ≤ i → d ≡ min 1025 (maximum (tabulate g n))
  most_all d i v l =
      let u = v.upto in
      let e : i ≡ n = omega arith in
      v.so_far ∙ ap (λ (j : ℕ). min 1025 (maximum (tabulate g j))) e

-- ---- roots
module _ (nodes : List ℕ) where
  pub root_in : (roots : List ℕ) → all_of (is_root nodes) roots ≡ true → (i : ℕ) → i < length roots → get_or roots i 0 * 4 + 4 ≤ length nodes
  root_in roots h i l =
      let r : ℕ = get_or roots i 0 in
      let q = ltb-true r (node_count nodes) (and_left (ltb r (node_count nodes)) (beq (kind_is nodes 12 r) false) (all_each (is_root nodes) 0 roots h i l)) in
      omega arith

  module _ (xs ys : List ℕ) (h : laid_out nodes (xs ++ ys) ≡ true) where
    all_roots : all_of (is_root nodes) (xs ++ ys) ≡ true
    unfolding laid_out
    all_roots =
        and_right (nodes_hold nodes (in_place nodes)) (all_of (is_root nodes) (xs ++ ys))
        (and_left (nodes_hold nodes (in_place nodes) && all_of (is_root nodes) (xs ++ ys)) (nodes_hold nodes (once nodes (xs ++ ys))) h)

    pub left_roots : all_of (is_root nodes) xs ≡ true
    left_roots = and_left (all_of (is_root nodes) xs) (all_of (is_root nodes) ys) (sym (all_append (is_root nodes) xs ys) ∙ all_roots)

    pub right_roots : all_of (is_root nodes) ys ≡ true
    right_roots = and_right (all_of (is_root nodes) xs) (all_of (is_root nodes) ys) (sym (all_append (is_root nodes) xs ys) ∙ all_roots)

  pub roots_degree : (roots : List ℕ) → maximum (tabulate (λ i. degree (expr_of nodes (get_or roots i 0))) (length roots)) ≡ degree_of (map (expr_of nodes) roots)
  roots_degree roots =
      ap maximum
      (sym (map_tabulate (λ r. degree (expr_of nodes r)) (λ i. get_or roots i 0) (length roots)) ∙ ap (map (λ r. degree (expr_of nodes r))) (tabulate_of roots 0)
      ∙ sym (map-map degree (expr_of nodes) roots))

  -- ---- groups of lookups
  module _ (widths body : List ℕ) where
    inputs_degree : (start n : ℕ) → degree_of (inputs_of (lookup_from nodes body start n)) ≡ side_degree nodes body start 0 n
    inputs_degree start n =
        ap (λ (es : List Expr). maximum (map degree es)) (map_tabulate (λ (p : Pair). p.input) (λ i. pair_at nodes body (start + i)) n)
        ∙ ap maximum
        (map_tabulate degree (λ i. expr_of nodes (word body ((start + i) * 2))) n
        ∙ tabulate_cong (λ i. degree (expr_of nodes (word body ((start + i) * 2)))) (λ i. degree (expr_of nodes (word body ((start + i) * 2 + 0)))) n
        (λ i l. ap (λ (j : ℕ). degree (expr_of nodes (word body j))) (sym (add-zero ((start + i) * 2)))))

    tables_degree : (start n : ℕ) → degree_of (tables_of (lookup_from nodes body start n)) ≡ side_degree nodes body start 1 n
    tables_degree start n =
        ap (λ (es : List Expr). maximum (map degree es)) (map_tabulate (λ (p : Pair). p.table) (λ i. pair_at nodes body (start + i)) n)
        ∙ ap maximum (map_tabulate degree (λ i. expr_of nodes (word body ((start + i) * 2 + 1))) n)

    -- the degree of lookup i's inputs
    abbrev pub input_degree : ℕ → ℕ
    input_degree i = degree_of (inputs_of (lookup_numbered nodes widths body i))

    -- the sum over the first i of a group's n lookups, whose next pair is `start`; 1025 or more where it is more
    pub record Added (first n sum start i : ℕ) : Type 0 where
      pub upto : i ≤ n
      pub low : sum ≤ i * 1025
      pub next : start ≡ total (take (first + i) widths)
      pub so_far : min 1025 sum ≡ min 1025 (total (tabulate (λ i. input_degree (first + i)) i))

    module _ (first n : ℕ) where
      pub added_none : (start : ℕ) → start ≡ total (take first widths) → Added first n 0 start 0
      unfolding tabulate total
      added_none start e =
          record { upto = omega arith; low = omega arith; next = e ∙ ap (λ (i : ℕ). total (take i widths)) (sym (add-zero first)); so_far = refl }

      pub added_room : total widths ≡ length body / 2 → first + n ≤ length widths → (sum start i : ℕ) → Added first n sum start i → i < n
          → start + get_or widths (first + i) 0 ≤ length body / 2
      added_room e r sum start i v l = let q = total_within widths (first + i) in let s = v.next in omega arith

      pub added_more : first + n ≤ length widths → (sum start i d : ℕ) → Added first n sum start i → i < n
          → d ≡ min 1025 (side_degree nodes body start 0 (get_or widths (first + i) 0))
          → Added first n (sum + d) (start + get_or widths (first + i) 0) (i + 1)
      added_more r sum start i d v l e =
          record {
            upto = omega arith;
            low = (let q = v.low in omega arith);
            next =
                ap (λ (s : ℕ). s + get_or widths (first + i) 0) v.next ∙ sym (total-next-of widths (first + i) (omega arith))
                ∙ ap (λ (i : ℕ). total (take i widths)) (let q : suc (first + i) ≡ first + (i + 1) = omega arith in q);
            so_far =
                (let p : d ≡ min 1025 (input_degree (first + i)) =
                e ∙ ap (λ (s : ℕ). min 1025 (side_degree nodes body s 0 (get_or widths (first + i) 0))) v.next
                ∙ ap (min 1025) (sym (inputs_degree (total (take (first + i) widths)) (get_or widths (first + i) 0))) in
                let q = v.so_far in
                let s = total_next (λ i. input_degree (first + i)) i in
                omega arith);
          }

      abbrev table_degree : ℕ
      table_degree = side_degree nodes body (total (take first widths)) 1 (get_or widths first 0)

      first_lookup : 0 < n → degree_of (tables_of (get_or (group_from nodes widths body first n) 0 [])) ≡ table_degree
      first_lookup h =
          ap (λ (l : List Pair). degree_of (tables_of l))
          (get_tabulate (λ i. lookup_numbered nodes widths body (first + i)) n 0 [] h
          ∙ ap (lookup_numbered nodes widths body) (add-zero first))
          ∙ tables_degree (total (take first widths)) (get_or widths first 0)

      all_inputs : total (map (λ l. degree_of (inputs_of l)) (group_from nodes widths body first n)) ≡ total (tabulate (λ i. input_degree (first + i)) n)
      all_inputs = ap total (map_tabulate (λ (l : List Pair). degree_of (inputs_of l)) (λ i. lookup_numbered nodes widths body (first + i)) n)

      module _ (some : 0 < n) (sum start i t start₀ : ℕ) (v : Added first n sum start i) (done : n ≤ i) (at₀ : start₀ ≡ total (take first widths))
          (q : t ≡ min 1025 (side_degree nodes body start₀ 1 (get_or widths first 0))) where
        both_sides : min 1025 (1 + sum + t) ≡ min 1025 (group_degree (group_from nodes widths body first n))
        both_sides =
            let u = v.upto in
            let e : i ≡ n = omega arith in
            let s : min 1025 sum ≡ min 1025 (total (map (λ l. degree_of (inputs_of l)) (group_from nodes widths body first n))) =
            v.so_far ∙ ap (λ (j : ℕ). min 1025 (total (tabulate (λ i. input_degree (first + i)) j))) e ∙ ap (min 1025) (sym all_inputs) in
            let p : t ≡ min 1025 (degree_of (tables_of (get_or (group_from nodes widths body first n) 0 []))) =
            q ∙ ap (λ (s : ℕ). min 1025 (side_degree nodes body s 1 (get_or widths first 0))) at₀ ∙ ap (min 1025) (sym (first_lookup some)) in
            omega arith

        pub sides_low : 1 + sum + t < 1025 → 1 + sum + t ≡ min 1025 (group_degree (group_from nodes widths body first n))
        sides_low l = let e : 1 + sum + t ≡ min 1025 (1 + sum + t) = omega arith in e ∙ both_sides

        pub sides_high : 1025 ≤ 1 + sum + t → 1025 ≡ min 1025 (group_degree (group_from nodes widths body first n))
        sides_high l = let e : ◌≡◌ {A = ℕ} 1025 (min 1025 (1 + sum + t)) = omega arith in e ∙ both_sides

    -- ---- all groups
    -- lookup i of the body, by the widths
    pub lookup_numbered_is : total widths ≡ length body / 2 → (i : ℕ) → i < length widths
        → get_or (split widths (pairs_of nodes body)) i [] ≡ lookup_numbered nodes widths body i
    lookup_numbered_is e i l =
        get_split widths (pairs_of nodes body) i l
        ∙ tabulate_part (pair_at nodes body) (length body / 2) (total (take i widths)) (get_or widths i 0) (let q = total_within widths i in omega arith)

    -- the degree of group j
    abbrev pub degree_numbered : List ℕ → ℕ → ℕ
    degree_numbered sizes j = group_degree (group_from nodes widths body (total (take j sizes)) (get_or sizes j 0))

    -- the search before group j, whose lookups are those from `first` on and whose pairs are those from `start` on
    pub record Grouped (sizes : List ℕ) (degree first start j : ℕ) : Type 0 where
      pub most : Most (degree_numbered sizes) (length sizes) degree j
      pub first_is : first ≡ total (take j sizes)
      pub start_is : start ≡ total (take first widths)

    pub grouped_none : (sizes : List ℕ) → Grouped sizes 0 0 0 0
    unfolding total
    grouped_none sizes = record { most = most_none (degree_numbered sizes) (length sizes); first_is = refl; start_is = refl }

    pub grouped_more : (sizes : List ℕ) (degree first start j e m next : ℕ) → Grouped sizes degree first start j → j < length sizes
        → e ≡ min 1025 (group_degree (group_from nodes widths body first (get_or sizes j 0)))
        → m ≡ max degree e
        → next ≡ total (take (first + get_or sizes j 0) widths)
        → Grouped sizes m (first + get_or sizes j 0) next (j + 1)
    grouped_more sizes degree first start j e m next v l p q r =
        record {
          most =
              most_more (degree_numbered sizes) (length sizes) degree j e m v.most l
              (p ∙ ap (λ (f : ℕ). min 1025 (group_degree (group_from nodes widths body f (get_or sizes j 0)))) v.first_is) q;
          first_is =
              ap (λ (f : ℕ). f + get_or sizes j 0) v.first_is ∙ sym (total-next-of sizes j l) ∙ ap (λ (i : ℕ). total (take i sizes)) (sym (add-one j));
          start_is = r;
        }

    module _ (sizes : List ℕ) (pairs_all : total widths ≡ length body / 2) (lookups-all : total sizes ≡ length widths) where
      abbrev groups : List (List (List Pair))
      groups = split sizes (split widths (pairs_of nodes body))

      -- group j, by the sizes
      pub group_numbered : (j : ℕ) → j < length sizes → get_or groups j [] ≡ group_from nodes widths body (total (take j sizes)) (get_or sizes j 0)
      group_numbered j l =
          let ls : List (List Pair) = split widths (pairs_of nodes body) in
          let first : ℕ = total (take j sizes) in
          let n : ℕ = get_or sizes j 0 in
          let len : length ls ≡ length widths = split_length widths (pairs_of nodes body) in
          let fits : first + n ≤ length widths = let q = total_within sizes j in omega arith in
          get_split sizes ls j l
          ∙ ap (λ (xs : List (List Pair)). take n (drop first xs)) (sym (tabulate_of ls []))
          ∙ tabulate_part (λ i. get_or ls i []) (length ls) first n (omega arith)
          ∙ tabulate_cong (λ i. get_or ls (first + i) []) (λ i. lookup_numbered nodes widths body (first + i)) n
          (λ i h. lookup_numbered_is pairs_all (first + i) (omega arith))

      pub groups_degree_is : maximum (tabulate (degree_numbered sizes) (length sizes)) ≡ groups_degree groups
      groups_degree_is =
          let len : length groups ≡ length sizes = split_length sizes (split widths (pairs_of nodes body)) in
          ap maximum
          (tabulate_cong (degree_numbered sizes) (λ j. group_degree (get_or groups j [])) (length sizes) (λ j l. ap (λ g. group_degree g) (sym (group_numbered j l)))
          ∙ ap (tabulate (λ j. group_degree (get_or groups j []))) (sym len)
          ∙ sym (map_tabulate (λ g. group_degree g) (λ j. get_or groups j []) (length groups))
          ∙ ap (map (λ g. group_degree g)) (tabulate_of groups []))

      pub grouped_all : (degree first start j : ℕ) → Grouped sizes degree first start j → length sizes ≤ j → degree ≡ min 1025 (groups_degree groups)
      grouped_all degree first start j v l =
          most_all (degree_numbered sizes) (length sizes) degree j v.most l ∙ ap (min 1025) groups_degree_is

      -- its lookups are there, and few
      pub grouped_fits : (degree first start j : ℕ) → Grouped sizes degree first start j → first + get_or sizes j 0 ≤ length widths
      grouped_fits degree first start j v = let q = total_within sizes j in let f = v.first_is in omega arith

-- ---- D, where question 10 is answered yes
module _ (stated : ℕ) (constraints : List Expr) (groups : List (List (List Pair))) (h : degrees_fit (stated_of stated) constraints groups ≡ true) where
  fit_users : maximum (map degree constraints) ≤ 1024
  unfolding degrees_fit
  fit_users =
      leb-true (maximum (map degree constraints)) 1024
      (sym (all_most degree 1024 constraints)
      ∙ and_left (all_of (λ e. leb (degree e) 1024) constraints) (all_of (λ g. leb (group_degree g) 1024) groups)
      (and_left (all_of (λ e. leb (degree e) 1024) constraints && all_of (λ g. leb (group_degree g) 1024) groups)
      (all_of (λ e. at_most (stated_of stated) (degree e)) constraints)
      h))

  fit_looks : groups_degree groups ≤ 1024
  unfolding degrees_fit
  fit_looks =
      leb-true (groups_degree groups) 1024
      (sym (all_most (λ g. group_degree g) 1024 groups)
      ∙ and_right (all_of (λ e. leb (degree e) 1024) constraints) (all_of (λ g. leb (group_degree g) 1024) groups)
      (and_left (all_of (λ e. leb (degree e) 1024) constraints && all_of (λ g. leb (group_degree g) 1024) groups)
      (all_of (λ e. at_most (stated_of stated) (degree e)) constraints)
      h))

  pub d_of : (least u k m r : ℕ) → least ≡ least_d (stated_of stated) → u ≡ min 1025 (degree_of constraints) → k ≡ min 1025 (groups_degree groups)
      → m ≡ max u k
      → r ≡ max least m
      → r ≡ largest_degree (stated_of stated) constraints groups
  unfolding largest_degree maximum
  d_of least u k m r p q s t w =
      w ∙ ap₂ max p (t ∙ ap₂ max (q ∙ exact (degree_of constraints) fit_users) (s ∙ exact (groups_degree groups) fit_looks))
      ∙ ap (max (least_d (stated_of stated))) (sym (maximum_append (map degree constraints) (map (λ g. group_degree g) groups)))
    where
      exact : (n : ℕ) → n ≤ 1024 → min 1025 n ≡ n
      exact n l = omega arith

-- what D starts from, by word 1
pub least_high : (w : ℕ) → 3 < w → w - 1 ≡ least_d (stated_of w)
unfolding least_d stated_of
least_high zero l = absurd (not-suc-le-zero l)
least_high (suc d) l = omega arith

pub least_low : (w : ℕ) → w ≤ 3 → 2 ≡ least_d (stated_of w)
unfolding least_d stated_of
least_low zero l = refl
least_low (suc d) l = omega arith
