-- What the entry points answer after each test.
use mathlib.Core.Path.{◌≡◌, refl, sym, ap, ◌∙◌}
use mathlib.Core.Bool.{Bool, true, false, cond, ◌&&◌}
use mathlib.Core.List.{List, []}
use Prim.Native.Nat.{ℕ, ◌+◌, ◌*◌, ◌/◌, ◌^◌, ◌≤◌, ◌<◌, min}
use native.Mathlib.Omega.{arith}
use native.Mathlib.Nat.{zero-add}
use lib.Pow.{pow_mono}
use lib.Dec.{eqb, ltb, leb}
use lib.ListN.{length, get_or}
use borrow.Author.Tests.{leb-true, ltb-true, eqb-true, lt-ltb, le-ltb}
use Rattle.field.specs.Field.{𝔾, val}
use Rattle.bh.specs.Rows.{place_of}
use Rattle.lists.specs.Lists.{tabulate, write_at, all_of, within, concat}
use Rattle.lists.proofs.Tests.{false_true, and_left, and_right, and_both, all_each}
use Rattle.expression.specs.Expr.{degree}
use Rattle.expression.specs.Nodes.{expr_of}
use Rattle.expression.specs.Value.{value_at}
use Rattle.expression.specs.Reader.{LayoutSmall}
use Rattle.expression.specs.Point.{environment_of}
use Rattle.expression.specs.Queries.{used_queries, queries_into, query_words}
use Rattle.expression.specs.declared.poly.Layout.{Layout}
use Rattle.oracle_entry.specs.Entry.{there, degree_at, queries_at, layout_from, value_word, fit, values_into}

pub chosen : {A : Type 0} (t : Bool) (x y : A) → t ≡ true → x ≡ cond t x y
chosen t x y e = sym (ap (λ (b : Bool). cond b x y) e)

pub other : {A : Type 0} (t : Bool) (x y : A) → t ≡ false → y ≡ cond t x y
other t x y e = sym (ap (λ (b : Bool). cond b x y) e)

pub and_no : (a b : Bool) → b ≡ false → (a && b) ≡ false
and_no true b e = e
and_no false b e = refl

pub no_and : (a b : Bool) → a ≡ false → (a && b) ≡ false
no_and true b e = false_true (sym e)
no_and false b e = refl

-- ---- the degree
pub degree_there : (nodes : List ℕ) (n r : ℕ) → n < length nodes / 4 → r ≡ min 1025 (degree (expr_of nodes n)) → r ≡ degree_at nodes n
unfolding degree_at
degree_there nodes n r h e = e ∙ chosen (there nodes n) _ 0 (lt-ltb n (length nodes / 4) h)

pub degree_none : (nodes : List ℕ) (n : ℕ) → length nodes / 4 ≤ n → 0 ≡ degree_at nodes n
unfolding degree_at
degree_none nodes n h = other (there nodes n) _ 0 (le-ltb n (length nodes / 4) h)

-- ---- the queries
pub queries_there : (nodes : List ℕ) (n polys k : ℕ) → (there nodes n && (leb polys 1048576 && leb k 1048576)) ≡ true
    → used_queries (expr_of nodes n) polys k ≡ queries_at nodes n polys k
unfolding queries_at
queries_there nodes n polys k e = chosen _ _ [] e

pub queries_none : (nodes : List ℕ) (n polys k : ℕ) → (there nodes n && (leb polys 1048576 && leb k 1048576)) ≡ false
    → [] ≡ queries_at nodes n polys k
unfolding queries_at
queries_none nodes n polys k e = other _ _ [] e

either_way : {A : Type 0} (t : Bool) (x : A) → x ≡ cond t x x
either_way true x = refl
either_way false x = refl

pub none_written : (d : List ℕ) → d ≡ queries_into [] d
unfolding queries_into query_words concat
none_written d = either_way (leb 0 (length d)) d

pub queries_small : (nodes : List ℕ) (n polys k : ℕ) → (there nodes n && (leb polys 1048576 && leb k 1048576)) ≡ true
    → (n * 4 + 4 ≤ length nodes) × ((polys ≤ 1048576) × (k ≤ 1048576))
queries_small nodes n polys k e =
    let h : n < length nodes / 4 = ltb-true n (length nodes / 4) (and_left _ _ e) in
    let s : (leb polys 1048576 && leb k 1048576) ≡ true = and_right (there nodes n) _ e in
    (omega arith, (leb-true polys 1048576 (and_left _ _ s), leb-true k 1048576 (and_right (leb polys 1048576) _ s)))

-- ---- the values
pub layout_small : (k : ℕ) (ws : List ℕ) → k ≤ 20 → (eqb (length ws) 7 && all_of (λ w. ltb w 1048577) ws) ≡ true
    → LayoutSmall (layout_from k ws)
layout_small k ws h e =
    record {
      rows = let w : 2 ^ k ≤ 2 ^ 20 = pow_mono {i = k} {j = 20} h in omega arith;
      instances = word 0 (omega arith);
      preprocess = word 1 (omega arith);
      start = let w : get_or ws 2 0 ≤ 1048576 = word 2 (omega arith) in omega arith;
      witness = word 3 (omega arith);
      permutations = word 4 (omega arith);
      skipped = word 5 (omega arith);
      rest = word 6 (omega arith);
    }
  where
    seven : length ws ≡ 7
    seven = eqb-true (length ws) 7 (and_left _ _ e)

    word : (i : ℕ) → i < 7 → get_or ws i 0 ≤ 1048576
    word i l =
        let b : get_or ws i 0 < 1048577 =
        ltb-true (get_or ws i 0) 1048577 (all_each (λ w. ltb w 1048577) 0 ws (and_right (eqb (length ws) 7) _ e) i (omega (arith, seven))) in
        omega arith

-- from the buffer's start on
pub from_zero : (a b : ℕ) → a ≤ b → 0 + a ≤ b
from_zero a b h = omega arith

pub zero_on : (a b : ℕ) → a ≡ b → a ≡ 0 + b
zero_on a b e = e ∙ sym (zero-add b)

-- the word at row b
pub value_word_is : (nodes circuit witness columns challenges : List ℕ) (l : Layout) (k : ℕ) (eq : List ℕ) (n b place e : ℕ) (x : 𝔾.F) (r : ℕ)
    → place ≡ place_of k b → e ≡ get_or eq b 0
    → x
    ≡ value_at 𝔾 (environment_of circuit witness columns challenges l (record { k = k; row = b; place = place; eq = e })) (expr_of nodes n) b
    → r ≡ val x
    → r ≡ value_word nodes circuit witness columns challenges l k eq n b
unfolding value_word
value_word_is nodes circuit witness columns challenges l k eq n b place e x r p q v m =
    m ∙ ap val v
    ∙ ap
    (λ (z : ℕ).
    val (value_at 𝔾 (environment_of circuit witness columns challenges l (record { k = k; row = b; place = z; eq = e })) (expr_of nodes n) b))
    p
    ∙ ap
    (λ (z : ℕ).
    val
    (value_at 𝔾
    (environment_of circuit witness columns challenges l (record { k = k; row = b; place = place_of k b; eq = z }))
    (expr_of nodes n)
    b))
    q

-- what stands in the buffer after each test
module _ (k : ℕ) (nodes circuit witness columns challenges layout eq : List ℕ) (n : ℕ) (out : List ℕ) where
  abbrev after : List ℕ
  after = values_into k nodes circuit witness columns challenges layout eq n out

  stays : fit k layout nodes n out ≡ false → out ≡ after
  unfolding values_into
  stays e = other (fit k layout nodes n out) _ out e

  pub bad_k : (leb 1 k && leb k 20) ≡ false → out ≡ after
  unfolding fit
  bad_k e = stays (no_and _ _ e)

  pub bad_layout : (eqb (length layout) 7 && all_of (λ w. ltb w 1048577) layout) ≡ false → out ≡ after
  unfolding fit
  bad_layout e = stays (and_no (within 1 20 k) _ (no_and _ _ e))

  module _ (rows : ℕ) (size : rows ≡ 2 ^ k) where
    same_room : (there nodes n && leb rows (length out)) ≡ (there nodes n && leb (2 ^ k) (length out))
    same_room = ap (λ (r : ℕ). there nodes n && leb r (length out)) size

    pub no_room : (there nodes n && leb rows (length out)) ≡ false → out ≡ after
    unfolding fit
    no_room e =
        stays
        (and_no (within 1 20 k) _
        (and_no (eqb (length layout) 7 && all_of (λ w. ltb w 1048577) layout) _ (sym same_room ∙ e)))

    pub has_room : (there nodes n && leb rows (length out)) ≡ true → (n * 4 + 4 ≤ length nodes) × (2 ^ k ≤ length out)
    has_room e =
        let h : n < length nodes / 4 = ltb-true n (length nodes / 4) (and_left _ _ e) in
        (omega arith, leb-true (2 ^ k) (length out) (and_right (there nodes n) _ (sym same_room ∙ e)))

    pub all_there : (leb 1 k && leb k 20) ≡ true → (eqb (length layout) 7 && all_of (λ w. ltb w 1048577) layout) ≡ true
        → (there nodes n && leb rows (length out)) ≡ true
        → (l : Layout) → l ≡ layout_from k layout
        → (d : List ℕ) → d ≡ write_at out 0 (tabulate (value_word nodes circuit witness columns challenges l k eq n) (2 ^ k))
        → d ≡ after
    unfolding fit values_into
    all_there a b c l p d e =
        e
        ∙ ap (λ (x : Layout). write_at out 0 (tabulate (value_word nodes circuit witness columns challenges x k eq n) (2 ^ k))) p
        ∙ chosen (fit k layout nodes n out) _ out (and_both _ _ a (and_both _ _ b (sym same_room ∙ c)))
