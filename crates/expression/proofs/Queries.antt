-- The used queries, one candidate after another.
use mathlib.Core.Path.{◌≡◌, refl, sym, ap, ap₂, ◌∙◌, subst⁻¹}
use mathlib.Core.Bool.{Bool, true, false, cond}
use mathlib.Core.List.{List, [], ◌∷◌, ◌++◌, map, map-append, append_assoc, append-nil}
use Prim.Native.Nat.{ℕ, ◌+◌, ◌-◌, ◌*◌, ◌/◌, ◌%◌, ◌≤◌, ◌<◌}
use native.Mathlib.Nat.{mul-le-mul, div-add-mod', mod-lt, zero-add}
use native.Mathlib.Numerals.{add-one}
use native.Mathlib.Omega.{arith}
use lib.Dec.{lit<}
use lib.ListN.{length, set, length-append, length-set}
use borrow.Author.Tests.{le-leb, lt-leb}
use Rattle.lists.specs.Lists.{tabulate, filter, count_of, concat, write_prefix, write_at}
use Rattle.lists.proofs.Lists.{concat_append, pairs_length}
use Rattle.lists.proofs.Columns.{tabulate_suc, tabulate_append}
use Rattle.lists.proofs.Tests.{filter_append, count_append}
use Rattle.lists.proofs.Over.{write_at_none, write_at_snoc, write_at_write_prefix, length_write_at}
use Rattle.expression.specs.Expr.{Query}
use Rattle.expression.specs.Nodes.{encode_signed}
use Rattle.expression.specs.Queries.{query_of, query_words, queries_into}
use Rattle.expression.proofs.Signed.{kept_signed}

-- polys × (2k + 1) is small
pub end_small : (polys k : ℕ) → polys ≤ 1048576 → k ≤ 1048576 → polys * (k + k + 1) ≤ 2199024304128
end_small polys k h l = mul-le-mul h (let e : k + k + 1 ≤ 2097153 = omega arith in e)

-- candidate i
abbrev pub candidate : ℕ → ℕ → Query
candidate k i = query_of (i / (k + k + 1)) (2147483648 - k + i % (k + k + 1))

pair_words : (q w : ℕ) (x : Query) → x ≡ query_of q w → query_words (x ∷ []) ≡ q ∷ w ∷ []
unfolding query_words concat
pair_words q w x e =
    ap (λ (y : Query). y.polynomial ∷ encode_signed y.rotation ∷ []) e ∙ ap (λ (v : ℕ). q ∷ v ∷ []) (kept_signed w)

module _ (p : Query → Bool) (f : ℕ → Query) where
  one : (x : Query) (t : Bool) → p x ≡ t → filter p (x ∷ []) ≡ cond t (x ∷ []) []
  unfolding filter
  one x t e = ap (λ (b : Bool). cond b (x ∷ []) []) e

  step : (i : ℕ) (t : Bool) → p (f i) ≡ t → filter p (tabulate f (i + 1)) ≡ filter p (tabulate f i) ++ cond t (f i ∷ []) []
  step i t e =
      ap (λ (n : ℕ). filter p (tabulate f n)) (add-one i) ∙ ap (filter p) (tabulate_suc f i)
      ∙ filter_append p (tabulate f i) (f i ∷ [])
      ∙ ap (λ (l : List Query). filter p (tabulate f i) ++ l) (one (f i) t e)

  pub count_start : 0 ≡ count_of p (tabulate f 0)
  unfolding tabulate filter
  count_start = refl

  pub count_yes : (c i : ℕ) → p (f i) ≡ true → c ≡ count_of p (tabulate f i) → c + 1 ≡ count_of p (tabulate f (i + 1))
  count_yes c i t h =
      ap (λ (n : ℕ). n + 1) h
      ∙ sym (ap length (step i true t) ∙ length-append (filter p (tabulate f i)) (f i ∷ []))

  pub count_no : (c i : ℕ) → p (f i) ≡ false → c ≡ count_of p (tabulate f i) → c ≡ count_of p (tabulate f (i + 1))
  count_no c i t h = h ∙ sym (ap length (step i false t ∙ append-nil (filter p (tabulate f i))))

  pub count_below : (i m : ℕ) → i ≤ m → count_of p (tabulate f i) ≤ count_of p (tabulate f m)
  count_below i m h =
      subst⁻¹ (λ (n : ℕ). count_of p (tabulate f i) ≤ n)
      (ap (λ (n : ℕ). count_of p (tabulate f n)) (let e : m ≡ i + (m - i) = omega arith in e)
      ∙ ap (count_of p) (tabulate_append f i (m - i))
      ∙ count_append p (tabulate f i) (tabulate (λ j. f (i + j)) (m - i)))
      (let e : count_of p (tabulate f i) ≤ count_of p (tabulate f i) + count_of p (tabulate (λ j. f (i + j)) (m - i)) = omega arith in e)

  words_length : (xs : List Query) → length (query_words xs) ≡ length xs * 2
  unfolding query_words
  words_length xs = pairs_length (λ q. q.polynomial) (λ q. encode_signed q.rotation) xs

  words_append : (xs ys : List Query) → query_words (xs ++ ys) ≡ query_words xs ++ query_words ys
  unfolding query_words
  words_append xs ys =
      ap concat (map-append (λ q. q.polynomial ∷ encode_signed q.rotation ∷ []) xs ys)
      ∙ concat_append (map (λ q. q.polynomial ∷ encode_signed q.rotation ∷ []) xs) (map (λ q. q.polynomial ∷ encode_signed q.rotation ∷ []) ys)

  -- d with the words of the candidates before i
  abbrev pub Into : List ℕ → ℕ → List ℕ → ℕ → Type 0
  Into d i out at = (out ≡ write_at d 0 (query_words (filter p (tabulate f i)))) × (at ≡ length (query_words (filter p (tabulate f i))))

  pub into_start : (d : List ℕ) → Into d 0 d 0
  unfolding tabulate filter query_words concat
  into_start d = (sym (write_at_none d 0), refl)

  pub into_no : (d out : List ℕ) (i at : ℕ) → p (f i) ≡ false → Into d i out at → Into d (i + 1) out at
  into_no d out i at t h =
      let e = sym (step i false t ∙ append-nil (filter p (tabulate f i))) in
      (h.0 ∙ ap (λ (l : List Query). write_at d 0 (query_words l)) e, h.1 ∙ ap (λ (l : List Query). length (query_words l)) e)

  module _ (d out : List ℕ) (i at m : ℕ) (t : p (f i) ≡ true) (h : Into d i out at) (l : i < m)
      (room : count_of p (tabulate f m) * 2 ≤ length d) where
    pub into_room : at + 1 < length out
    into_room =
        let c = count_below (i + 1) m (omega arith) in
        let e = count_yes (count_of p (tabulate f i)) i t refl in
        let w = words_length (filter p (tabulate f i)) in
        let a = h.1 in
        let o = ap length h.0 in
        let n = length_write_at d 0 (query_words (filter p (tabulate f i))) (omega arith) in
        omega arith

    pub into_yes : (q w : ℕ) → f i ≡ query_of q w → Into d (i + 1) (set (set out at q) (at + 1) w) (at + 2)
    into_yes q w e = (
      ap₂ (λ (o : List ℕ) (a : ℕ). set (set o a q) (a + 1) w) h.0 (h.1 ∙ sym (zero-add (length S)))
          ∙ ap (λ (o : List ℕ). set o (0 + length S + 1) w) (write_at_snoc d 0 S q (omega (arith, fits)))
          ∙ ap (λ (a : ℕ). set (write_at d 0 (S ++ (q ∷ []))) a w)
          (let z : 0 + length S + 1 ≡ 0 + length (S ++ (q ∷ [])) = omega (arith, longer) in z)
          ∙ write_at_snoc d 0 (S ++ (q ∷ [])) w (omega (arith, fits, longer))
          ∙ ap (write_at d 0) (append_assoc S (q ∷ []) (w ∷ []) ∙ sym next),
      (let z = ap length next in
          let y = length-append S (q ∷ w ∷ []) in
          let a = h.1 in
          omega arith),
    )
      where
        S : List ℕ
        S = query_words (filter p (tabulate f i))

        pair : query_words (f i ∷ []) ≡ q ∷ w ∷ []
        pair = pair_words q w (f i) e

        next : query_words (filter p (tabulate f (i + 1))) ≡ S ++ (q ∷ w ∷ [])
        next =
            ap query_words (step i true t) ∙ words_append (filter p (tabulate f i)) (f i ∷ []) ∙ ap (λ (l : List ℕ). S ++ l) pair

        longer : length (S ++ (q ∷ [])) ≡ length S + 1
        longer = length-append S (q ∷ [])

        fits : length S + 1 < length d
        fits =
            let a = h.1 in
            let r = into_room in
            let o = ap length h.0 in
            let c = count_below (i + 1) m (omega arith) in
            let b = count_yes (count_of p (tabulate f i)) i t refl in
            let n = words_length (filter p (tabulate f i)) in
            omega arith

-- what is left of the whole: the buffer when it has room, and when it has not
pub into_all : (qs : List Query) (d out : List ℕ) → length qs ≤ length d / 2 → out ≡ write_at d 0 (query_words qs) → out ≡ queries_into qs d
unfolding queries_into
into_all qs d out h e =
    e ∙ sym (write_at_write_prefix (query_words qs) d)
    ∙ sym
    (ap (λ (t : Bool). cond t (write_prefix (query_words qs) d) d)
    (le-leb (length (query_words qs)) (length d)
    (let w = words_length (λ q. true) (λ i. query_of 0 0) qs in
    let v = div-add-mod' (length d) 2 in
    omega arith)))

pub into_none : (qs : List Query) (d : List ℕ) → length d / 2 < length qs → d ≡ queries_into qs d
unfolding queries_into
into_none qs d h =
    sym
    (ap (λ (t : Bool). cond t (write_prefix (query_words qs) d) d)
    (lt-leb (length (query_words qs)) (length d)
    (let w = words_length (λ q. true) (λ i. query_of 0 0) qs in
    let v = div-add-mod' (length d) 2 in
    let u = mod-lt (length d) {m = 2} (lit< tt) in
    omega arith)))

-- the count that fits leaves room for the words
pub room_is : (qs : List Query) (c n : ℕ) → c ≡ length qs → c ≤ n / 2 → length qs * 2 ≤ n
room_is qs c n e h = let v = div-add-mod' n 2 in omega arith

pub into_keeps : (d out : List ℕ) (at q w : ℕ) → length out ≡ length d → length (set (set out at q) (at + 1) w) ≡ length d
into_keeps d out at q w e = simp length-set e
