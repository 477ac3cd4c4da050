-- What a node's words say, kind by kind.
use mathlib.Core.Path.{◌≡◌, refl, sym, ap, ap₂, ◌∙◌}
use mathlib.Core.Bool.{Bool, true, false, cond, not, ◌&&◌, ◌||◌, and-true, and-false}
use mathlib.Core.List.{List, [], ◌∷◌, ◌++◌}
use Prim.Native.Nat.{ℕ, zero, suc, ◌+◌, ◌-◌, ◌*◌, ◌≤◌, ◌<◌}
use native.Mathlib.Nat.{add-zero}
use native.Mathlib.Decide.{dec_lt}
use native.Mathlib.Omega.{arith}
use lib.Dec.{eqb, leb}
use lib.IntN.{pos, negsuc, nat_abs}
use lib.ListN.{get_or, get_or-eq_default}
use borrow.Author.Tests.{lt-ltb, le-ltb, ne_eqb, not-true, not-false}
use Rattle.lists.specs.Lists.{all_of}
use Rattle.lists.proofs.Tests.{all_append, and_both}
use Rattle.expression.specs.Nodes.{word_of, Kind, kinds, kind_of, decode_signed}
use Rattle.backend.specs.Layout.{Name, plain, as_item, named, shaped, by_words, right, long_enough, in_place, nodes_hold, is_root, once, laid_out, in_range}

-- w is none of m + 1, …, m + n
abbrev pub Not : ℕ → ℕ → ℕ → Type 0
Not w m zero = Unit {0}
Not w m (suc n) = Not w m n × (w ≡ suc (n + m) → ⊥)

pub above : (w m n : ℕ) → Not w m n → m < w → n + m < w
above w m zero h l = omega arith
above w m (suc n) h l = let q = above w m n h.0 l in let r = h.1 in omega arith

-- a number above 12 is no kind
pub past_kinds : (w : ℕ) → 12 < w → kind_of w ≡ Kind.is_none
unfolding kind_of
past_kinds w l = get_or-eq_default kinds Kind.is_none {n = w} l

pub no_kind : (w : ℕ) → Not w 0 12 → kind_of w ≡ Kind.is_none
unfolding kind_of
no_kind w h = go (dec_lt w 13)
  where
    go : Dec (w < 13) → get_or kinds w Kind.is_none ≡ Kind.is_none
    go (yes l) = ap (λ (n : ℕ). get_or kinds n Kind.is_none) (zero_of (dec_lt 0 w))
      where
        zero_of : Dec (0 < w) → w ≡ 0
        zero_of (yes p) = absurd (let q = above w 0 12 h p in omega arith)
        zero_of (no n) = omega arith
    go (no n) = past_kinds w (omega arith)

-- only kinds 7 to 12 name nodes
pub leaf : (w a b v : ℕ) → Not w 6 6 → named (kind_of w) a b v ≡ []
unfolding kind_of
leaf zero a b v h = refl
leaf (suc zero) a b v h = refl
leaf (suc (suc zero)) a b v h = refl
leaf (suc (suc (suc zero))) a b v h = refl
leaf (suc (suc (suc (suc zero)))) a b v h = refl
leaf (suc (suc (suc (suc (suc zero))))) a b v h = refl
leaf (suc (suc (suc (suc (suc (suc zero)))))) a b v h = refl
leaf (suc (suc (suc (suc (suc (suc (suc w))))))) a b v h = go (dec_lt w 6)
  where
    go : Dec (w < 6) → named (kind_of (suc (suc (suc (suc (suc (suc (suc w)))))))) a b v ≡ []
    go (yes l) = absurd (let q = above (suc (suc (suc (suc (suc (suc (suc w))))))) 6 6 h (omega arith) in omega arith)
    go (no n) = ap (λ (k : Kind). named k a b v) (past_kinds (suc (suc (suc (suc (suc (suc (suc w))))))) (omega arith))

-- ---- node n in its place, by its kind
module _ (nodes : List ℕ) (n : ℕ) where
  -- what is left to ask of a node of kind k that has the right shape
  abbrev pub rest : ℕ → ℕ → ℕ → ℕ → Bool
  rest k a b v = (not (eqb k 11) || eqb (word_of nodes b 3) 1) && all_of (right nodes n) (named (kind_of k) a b v)

  kind_word : word_of nodes n 0 ≡ get_or nodes (n * 4) 0
  kind_word = ap (λ (i : ℕ). get_or nodes i 0) (add-zero (n * 4))

  pub in_place_by : (s : Bool)
      → s ≡ shaped (kind_of (get_or nodes (n * 4) 0)) (get_or nodes (n * 4 + 1) 0) (get_or nodes (n * 4 + 2) 0) (get_or nodes (n * 4 + 3) 0)
      → (s && rest (get_or nodes (n * 4) 0) (get_or nodes (n * 4 + 1) 0) (get_or nodes (n * 4 + 2) 0) (get_or nodes (n * 4 + 3) 0))
      ≡ in_place nodes n
  in_place_by s e =
      ap (λ (t : Bool). t && rest (get_or nodes (n * 4) 0) (get_or nodes (n * 4 + 1) 0) (get_or nodes (n * 4 + 2) 0) (get_or nodes (n * 4 + 3) 0)) e
      ∙ ap
      (λ (w : ℕ).
      shaped (kind_of w) (get_or nodes (n * 4 + 1) 0) (get_or nodes (n * 4 + 2) 0) (get_or nodes (n * 4 + 3) 0)
      && rest w (get_or nodes (n * 4 + 1) 0) (get_or nodes (n * 4 + 2) 0) (get_or nodes (n * 4 + 3) 0))
      (sym kind_word)
      ∙ regroup (shaped (kind_of (word_of nodes n 0)) (word_of nodes n 1) (word_of nodes n 2) (word_of nodes n 3)) (long_enough nodes n)
      (all_of (right nodes n) (by_words named nodes n))
    where
      regroup : (x y z : Bool) → (x && (y && z)) ≡ (x && y && z)
      regroup true y z = refl
      regroup false y z = refl

  pub not_shaped : (s : Bool)
      → s ≡ shaped (kind_of (get_or nodes (n * 4) 0)) (get_or nodes (n * 4 + 1) 0) (get_or nodes (n * 4 + 2) 0) (get_or nodes (n * 4 + 3) 0)
      → s ≡ false
      → false ≡ in_place nodes n
  not_shaped s e f =
      ap (λ (t : Bool). t && rest (get_or nodes (n * 4) 0) (get_or nodes (n * 4 + 1) 0) (get_or nodes (n * 4 + 2) 0) (get_or nodes (n * 4 + 3) 0)) (sym f)
      ∙ in_place_by s e

  -- the answer r of the search, when the node has the right shape and is of kind k
  pub in_place_at : (k : ℕ) (s r : Bool)
      → s ≡ shaped (kind_of (get_or nodes (n * 4) 0)) (get_or nodes (n * 4 + 1) 0) (get_or nodes (n * 4 + 2) 0) (get_or nodes (n * 4 + 3) 0)
      → s ≡ true
      → get_or nodes (n * 4) 0 ≡ k
      → r ≡ rest k (get_or nodes (n * 4 + 1) 0) (get_or nodes (n * 4 + 2) 0) (get_or nodes (n * 4 + 3) 0)
      → r ≡ in_place nodes n
  in_place_at k s r e t h q =
      q ∙ ap (λ (w : ℕ). rest w (get_or nodes (n * 4 + 1) 0) (get_or nodes (n * 4 + 2) 0) (get_or nodes (n * 4 + 3) 0)) (sym h)
      ∙ ap (λ (u : Bool). u && rest (get_or nodes (n * 4) 0) (get_or nodes (n * 4 + 1) 0) (get_or nodes (n * 4 + 2) 0) (get_or nodes (n * 4 + 3) 0)) (sym t)
      ∙ in_place_by s e

  module _ (k a b v : ℕ) where
    pub rest_one : (x : Bool) → named (kind_of k) a b v ≡ plain a ∷ [] → eqb k 11 ≡ false → x ≡ right nodes n (plain a) → x ≡ rest k a b v
    unfolding all_of
    rest_one x e f p =
        p ∙ sym (and-true _) ∙ ap₂ (λ (t : Bool) (xs : List Name). (not t || eqb (word_of nodes b 3) 1) && all_of (right nodes n) xs) (sym f) (sym e)

    pub rest_two : (x y : Bool) → named (kind_of k) a b v ≡ plain a ∷ plain b ∷ [] → eqb k 11 ≡ false → x ≡ right nodes n (plain a)
        → y ≡ right nodes n (plain b)
        → (x && y) ≡ rest k a b v
    unfolding all_of
    rest_two x y e f p q =
        ap₂ ◌&&◌ p (q ∙ sym (and-true _))
        ∙ ap₂ (λ (t : Bool) (xs : List Name). (not t || eqb (word_of nodes b 3) 1) && all_of (right nodes n) xs) (sym f) (sym e)

  pub rest_leaf : (k a b v : ℕ) → Not k 6 6 → true ≡ rest k a b v
  unfolding all_of
  rest_leaf k a b v h =
      ap₂ (λ (t : Bool) (xs : List Name). (not t || eqb (word_of nodes b 3) 1) && all_of (right nodes n) xs)
      (sym (ne_eqb k 11 (λ e. let q = above k 6 6 h (omega arith) in omega arith)))
      (sym (leaf k a b v h))

  pub rest_powers : (a b v : ℕ) (x y : Bool) → x ≡ right nodes n (plain a)
      → y ≡ (right nodes n (as_item b) && eqb (word_of nodes b 3) 1)
      → (x && y) ≡ rest 11 a b v
  unfolding kind_of all_of
  rest_powers a b v x y p q = ap₂ ◌&&◌ p q ∙ turn (right nodes n (plain a)) (right nodes n (as_item b)) (eqb (word_of nodes b 3) 1)
    where
      turn : (x y z : Bool) → (x && (y && z)) ≡ (z && (x && (y && true)))
      turn true true true = refl
      turn true true false = refl
      turn true false true = refl
      turn true false false = refl
      turn false y true = refl
      turn false y false = refl

  pub rest_item : (a b v : ℕ) (x y : Bool) → x ≡ right nodes n (plain a) → y ≡ right nodes n (as_item b)
      → (x && (eqb v 0 || y)) ≡ rest 12 a b v
  unfolding kind_of all_of
  rest_item a b v x y p q = ap₂ (λ (s t : Bool). s && (eqb v 0 || t)) p q ∙ ap (λ (t : Bool). right nodes n (plain a) && t) (last (eqb v 0))
    where
      last : (t : Bool) → (t || right nodes n (as_item b)) ≡ all_of (right nodes n) (cond t [] (as_item b ∷ []))
      last true = refl
      last false = sym (and-true (right nodes n (as_item b)))

-- ---- node n's words, its kind known
module _ (nodes : List ℕ) (n : ℕ) where
  pub by_kind : {B : Type 0} (f : Kind → ℕ → ℕ → ℕ → B) (w : ℕ) → get_or nodes (n * 4) 0 ≡ w
      → f (kind_of w) (get_or nodes (n * 4 + 1) 0) (get_or nodes (n * 4 + 2) 0) (get_or nodes (n * 4 + 3) 0) ≡ by_words f nodes n
  by_kind f w e =
      ap (λ (k : ℕ). f (kind_of k) (get_or nodes (n * 4 + 1) 0) (get_or nodes (n * 4 + 2) 0) (get_or nodes (n * 4 + 3) 0)) (sym e ∙ sym (kind_word nodes n))

-- ---- question 7, part by part
module _ (nodes xs ys : List ℕ) where
  no_roots : all_of (is_root nodes) (xs ++ ys) ≡ false → laid_out nodes (xs ++ ys) ≡ false
  unfolding laid_out
  no_roots e = go (nodes_hold nodes (in_place nodes)) (all_of (is_root nodes) (xs ++ ys)) e
    where
      go : (a b : Bool) → b ≡ false → (a && b && nodes_hold nodes (once nodes (xs ++ ys))) ≡ false
      go a b f = ap (λ (t : Bool). a && t && nodes_hold nodes (once nodes (xs ++ ys))) f ∙ ap (λ (t : Bool). t && nodes_hold nodes (once nodes (xs ++ ys))) (and-false a)

  module _ (a : Bool) (p : a ≡ nodes_hold nodes (in_place nodes)) where
    pub not_in_place : not a ≡ true → false ≡ laid_out nodes (xs ++ ys)
    unfolding laid_out
    not_in_place e =
        ap (λ (t : Bool). t && all_of (is_root nodes) (xs ++ ys) && nodes_hold nodes (once nodes (xs ++ ys))) (sym (not-true a e) ∙ p)

    module _ (b : Bool) (q : b ≡ all_of (is_root nodes) xs) where
      pub not_root : not b ≡ true → false ≡ laid_out nodes (xs ++ ys)
      unfolding laid_out
      not_root e =
          sym (no_roots (all_append (is_root nodes) xs ys ∙ ap (λ (t : Bool). t && all_of (is_root nodes) ys) (sym q ∙ not-true b e)))

      module _ (d : Bool) (r : d ≡ all_of (is_root nodes) ys) where
        pub not_root_too : not d ≡ true → false ≡ laid_out nodes (xs ++ ys)
        unfolding laid_out
        not_root_too e =
            sym
            (no_roots
            (all_append (is_root nodes) xs ys ∙ ap (λ (t : Bool). all_of (is_root nodes) xs && t) (sym r ∙ not-true d e) ∙ and-false (all_of (is_root nodes) xs)))

        pub named_last : (t : Bool) → t ≡ nodes_hold nodes (once nodes (xs ++ ys)) → not a ≡ false → not b ≡ false → not d ≡ false
            → t ≡ laid_out nodes (xs ++ ys)
        unfolding laid_out
        named_last t e f g h =
            e
            ∙ ap₂ (λ (x y : Bool). x && y && nodes_hold nodes (once nodes (xs ++ ys))) (sym (not-false a f) ∙ p)
            (sym (all_append (is_root nodes) xs ys ∙ and_both _ _ (sym q ∙ not-false b g) (sym r ∙ not-false d h)))

-- ---- question 8
near_low : (v k : ℕ) → v < 2147483648 → leb (2147483648 - v) k ≡ leb (nat_abs (decode_signed v)) k
near_low v k l =
    ap (λ (n : ℕ). leb n k)
    (sym (ap (λ (t : Bool). nat_abs (cond t (negsuc (2147483648 - suc v)) (pos (v - 2147483648)))) (lt-ltb v 2147483648 l) ∙ (let q : suc (2147483648 - suc v) ≡ 2147483648 - v = omega arith in q)))

near_high : (v k : ℕ) → 2147483648 ≤ v → leb (v - 2147483648) k ≡ leb (nat_abs (decode_signed v)) k
near_high v k l =
    ap (λ (t : Bool). leb (nat_abs (cond t (negsuc (2147483648 - suc v)) (pos (v - 2147483648)))) k) (sym (le-ltb v 2147483648 l))

pub near : (v k : ℕ) → leb ((v - 2147483648) + (2147483648 - v)) k ≡ leb (nat_abs (decode_signed v)) k
near v k = go (dec_lt v 2147483648)
  where
    go : Dec (v < 2147483648) → leb ((v - 2147483648) + (2147483648 - v)) k ≡ leb (nat_abs (decode_signed v)) k
    go (yes l) = ap (λ (n : ℕ). leb n k) (let q : (v - 2147483648) + (2147483648 - v) ≡ 2147483648 - v = omega arith in q) ∙ near_low v k l
    go (no n) =
        let g : 2147483648 ≤ v = omega arith in
        ap (λ (m : ℕ). leb m k) (let q : (v - 2147483648) + (2147483648 - v) ≡ v - 2147483648 = omega arith in q) ∙ near_high v k g

-- kinds but 4, 5 and 6 name no number
pub no_number_is : (polys user k w a b v : ℕ) → Not w 3 3 → true ≡ in_range polys user k (kind_of w) a b v
unfolding kind_of
no_number_is polys user k zero a b v h = refl
no_number_is polys user k (suc zero) a b v h = refl
no_number_is polys user k (suc (suc zero)) a b v h = refl
no_number_is polys user k (suc (suc (suc zero))) a b v h = refl
no_number_is polys user k (suc (suc (suc (suc zero)))) a b v h = absurd (h.0.0.1 refl)
no_number_is polys user k (suc (suc (suc (suc (suc zero))))) a b v h = absurd (h.0.1 refl)
no_number_is polys user k (suc (suc (suc (suc (suc (suc zero)))))) a b v h = absurd (h.1 refl)
no_number_is polys user k (suc (suc (suc (suc (suc (suc (suc zero))))))) a b v h = refl
no_number_is polys user k (suc (suc (suc (suc (suc (suc (suc (suc zero)))))))) a b v h = refl
no_number_is polys user k (suc (suc (suc (suc (suc (suc (suc (suc (suc zero))))))))) a b v h = refl
no_number_is polys user k (suc (suc (suc (suc (suc (suc (suc (suc (suc (suc zero)))))))))) a b v h = refl
no_number_is polys user k (suc (suc (suc (suc (suc (suc (suc (suc (suc (suc (suc zero))))))))))) a b v h = refl
no_number_is polys user k (suc (suc (suc (suc (suc (suc (suc (suc (suc (suc (suc (suc zero)))))))))))) a b v h = refl
no_number_is polys user k (suc (suc (suc (suc (suc (suc (suc (suc (suc (suc (suc (suc (suc w))))))))))))) a b v h =
    ap (λ (t : Kind). in_range polys user k t a b v)
    (sym (past_kinds (suc (suc (suc (suc (suc (suc (suc (suc (suc (suc (suc (suc (suc w))))))))))))) (omega arith)))
