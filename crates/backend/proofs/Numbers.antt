-- Laws of the bodies: sums of the rounds, the widths and the cycle lengths; 3 and 4 at the bodies; 5, 6 and 9.
use mathlib.Core.Path.{◌≡◌, refl, sym, ap, ap₂, ◌∙◌}
use mathlib.Core.Bool.{Bool, true, false, not, ◌&&◌, ◌||◌}
use mathlib.Core.List.{List, [], ◌∷◌, map}
use Prim.Native.Nat.{ℕ, suc, ◌+◌, ◌-◌, ◌*◌, ◌/◌, ◌^◌, ◌≤◌, ◌<◌, min}
use native.Mathlib.Omega.{arith, min_cases}
use native.Mathlib.Nat.{mul-one, add-zero, mul-div_cancel, min-eq_left}
use lib.ListN.{length, get_or, take, drop, length-map, length-drop}
use lib.Seq.{take_all, length-take-le}
use lib.Dec.{eqb, leb, ltb, leb-suc-suc}
use lib.Pow.{pow_pos}
use borrow.Author.Tests.{not-true, not-false, lt-leb, leb-true, eqb-true, ne_eqb}
use Rattle.field.specs.Prime.{P}
use Rattle.lists.specs.Lists.{tabulate, all_of, total, split}
use Rattle.lists.proofs.Tests.{false_true, and_left, and_right, all_true}
use Rattle.lists.proofs.All.{all_weaken}
use Rattle.lists.proofs.Lists.{split_length}
use Rattle.lists.proofs.Columns.{tabulate_length, tabulate_cong, tabulate_of, map_tabulate}
use Rattle.lists.proofs.Runs.{take_tabulate}
use Rattle.lists.proofs.Walks.{all_map, all_same, all_parts}
use Rattle.expression.specs.Nodes.{word_of, expr_of}
use Rattle.backend.specs.Circuit.{Section, entry, entries, word_k, body_of, word, word_each, Round, round_at, Pair, pair_at, circuit_of, num_witness, num_challenges, num_poly}
use Rattle.backend.specs.Layout.{kind_is}
use Rattle.backend.specs.Questions.{q3_bodies, q4_bodies, rounds_good, small, small_value, values_small, q5, q6, q9}
use Rattle.backend.specs.Laid.{ContentsValid, BodiesValid}
use Rattle.backend.proofs.Sections.{body_length}

-- ---- a section's words, entry by entry

-- the first word of each entry
each_first : (body : List ℕ) (size n : ℕ) → word_each body size 0 n ≡ tabulate (λ i. word body (i * size)) n
each_first body size n = tabulate_cong _ _ n (λ i _. ap (word body) (add-zero (i * size)))

-- entries of one word
pub each_one : (body : List ℕ) → word_each body 1 0 (length body) ≡ body
each_one body =
    tabulate_cong _ (λ i. get_or body i 0) (length body) (λ i _. ap (word body) (add-zero (i * 1) ∙ mul-one i)) ∙ tabulate_of body 0

-- ---- sums

-- of a section of one word an entry
pub single_sum : (body words : List ℕ) → words ≡ body → (limit r : ℕ) → r ≡ min (total (word_each words 1 0 (length words))) limit
    → r ≡ min (total body) limit
single_sum body words is limit r e = e ∙ ap (λ (ns : List ℕ). min (total ns) limit) (each_one words ∙ is)

-- the words of the rounds, two a round
module _ (ws : List ℕ) (l : ContentsValid ws) (words : List ℕ) (is : words ≡ body_of ws Section.rounds) where
  round_count : length words / 2 ≡ entries ws Section.rounds
  round_count =
      ap (λ (ns : List ℕ). length ns / 2) is ∙ ap (λ (n : ℕ). n / 2) (body_length ws l Section.rounds)
      ∙ mul-div_cancel (entries ws Section.rounds) (omega arith)

  -- there is a round
  pub some_rounds : 1 ≤ length words / 2
  some_rounds = let e = round_count in let h = l.some_rounds in omega arith

  -- a function of the words and of their half, taken for the body and its entries
  of_rounds : {A : Type 0} (f : List ℕ → ℕ → A) → f words (length words / 2) ≡ f (body_of ws Section.rounds) (entries ws Section.rounds)
  of_rounds f = ap₂ f is round_count

  pub witness_sum : (limit r : ℕ) → r ≡ min (total (word_each words 2 0 (length words / 2))) limit → r ≡ min (num_witness (circuit_of ws)) limit
  unfolding num_witness circuit_of
  witness_sum limit r e =
      e
      ∙ ap (λ (ns : List ℕ). min (total ns) limit)
      (of_rounds (λ body n. word_each body 2 0 n) ∙ each_first (body_of ws Section.rounds) 2 (entries ws Section.rounds)
      ∙ sym (map_tabulate (λ (r : Round). r.witness) (round_at (body_of ws Section.rounds)) (entries ws Section.rounds)))

  pub user_sum : (limit r : ℕ) → r ≡ min (total (word_each words 2 1 (length words / 2))) limit → r ≡ min (num_challenges (circuit_of ws)) limit
  unfolding num_challenges circuit_of
  user_sum limit r e =
      e
      ∙ ap (λ (ns : List ℕ). min (total ns) limit)
      (of_rounds (λ body n. word_each body 2 1 n)
      ∙ sym (map_tabulate (λ (r : Round). r.challenges) (round_at (body_of ws Section.rounds)) (entries ws Section.rounds)))

-- as many words as entries
single_length : (ws : List ℕ) → ContentsValid ws → (s : Section) → entry (word_k ws) s ≡ 1 → length (body_of ws s) ≡ entries ws s
single_length ws l s e = body_length ws l s ∙ ap (λ (e : ℕ). entries ws s * e) e ∙ mul-one (entries ws s)

-- ---- tests

below_leb : (w m : ℕ) → ltb w (suc m) ≡ leb w m
below_leb w m = leb-suc-suc w m

pub narrow_widths : (ws words : List ℕ) → words ≡ body_of ws Section.widths → (r : Bool) → r ≡ all_of (λ w. ltb w 9) words
    → r ≡ all_of (λ w. leb w 8) (body_of ws Section.widths)
narrow_widths ws words is r e =
    e ∙ ap (all_of (λ (w : ℕ). ltb w 9)) is
    ∙ all_same (λ (w : ℕ). ltb w 9) (λ (w : ℕ). leb w 8) (λ w. below_leb w 8) (body_of ws Section.widths)

-- what 4 compares with, and what it counts, when the sum stops one past it
leb_min : (n m : ℕ) → leb (min n (m + 1)) m ≡ leb n m
leb_min n m =
    min_cases n (m + 1) (leb (min n (m + 1)) m ≡ leb n m) (λ _ e. ap (λ (x : ℕ). leb x m) e)
    (λ h e. lt-leb (min n (m + 1)) m (omega arith) ∙ sym (lt-leb n m (omega arith)))

eqb_min : (n m : ℕ) → eqb m (min n (m + 1)) ≡ eqb m n
eqb_min n m =
    min_cases n (m + 1) (eqb m (min n (m + 1)) ≡ eqb m n) (λ _ e. ap (eqb m) e)
    (λ h e. ne_eqb m (min n (m + 1)) (λ q. omega arith) ∙ sym (ne_eqb m n (λ q. omega arith)))

pub three_bodies : (ws : List ℕ) (w u s : ℕ) (n : Bool) → w ≡ min (num_witness (circuit_of ws)) 33 → u ≡ min (num_challenges (circuit_of ws)) 17
    → n ≡ all_of (λ w. leb w 8) (body_of ws Section.widths) → s ≡ min (total (body_of ws Section.lengths)) 4097
    → (leb w 32 && leb u 16 && n && leb s 4096) ≡ q3_bodies ws
unfolding q3_bodies
three_bodies ws w u s n a b c d =
    ap₂ ◌&&◌
    (ap₂ ◌&&◌
    (ap₂ ◌&&◌ (ap (λ (x : ℕ). leb x 32) a ∙ leb_min (num_witness (circuit_of ws)) 32)
    (ap (λ (x : ℕ). leb x 16) b ∙ leb_min (num_challenges (circuit_of ws)) 16))
    c)
    (ap (λ (x : ℕ). leb x 4096) d ∙ leb_min (total (body_of ws Section.lengths)) 4096)

pub four_bodies : (ws : List ℕ) (w l : ℕ) → w ≡ min (total (body_of ws Section.widths)) (get_or ws 15 0 + 1)
    → l ≡ min (total (body_of ws Section.lengths)) (get_or ws 19 0 + 1) → (eqb (get_or ws 15 0) w && eqb (get_or ws 19 0) l) ≡ q4_bodies ws
unfolding q4_bodies
four_bodies ws w l a b =
    ap₂ ◌&&◌ (ap (eqb (get_or ws 15 0)) a ∙ eqb_min (total (body_of ws Section.widths)) (get_or ws 15 0))
    (ap (eqb (get_or ws 19 0)) b ∙ eqb_min (total (body_of ws Section.lengths)) (get_or ws 19 0))

-- yes to both
pub counted : (ws : List ℕ) → q3_bodies ws ≡ true → q4_bodies ws ≡ true → BodiesValid ws
unfolding q3_bodies q4_bodies
counted ws three four =
    let w : Bool = leb (num_witness (circuit_of ws)) 32 in
    let u : Bool = leb (num_challenges (circuit_of ws)) 16 in
    let n : Bool = all_of (λ (w : ℕ). leb w 8) (body_of ws Section.widths) in
    let s : Bool = leb (total (body_of ws Section.lengths)) 4096 in
    let p : Bool = eqb (entries ws Section.pairs) (total (body_of ws Section.widths)) in
    let c : Bool = eqb (entries ws Section.cells) (total (body_of ws Section.lengths)) in
    record {
      few_witness = leb-true (num_witness (circuit_of ws)) 32 (and_left w u (and_left (w && u) n (and_left (w && u && n) s three)));
      few_user = leb-true (num_challenges (circuit_of ws)) 16 (and_right w u (and_left (w && u) n (and_left (w && u && n) s three)));
      narrow =
          all_weaken (λ (w : ℕ). leb w 8 ≡ true) (λ (w : ℕ). w ≤ 8) (λ w e. leb-true w 8 e) (body_of ws Section.widths)
          (all_true (λ (w : ℕ). leb w 8) (body_of ws Section.widths) (and_right (w && u) n (and_left (w && u && n) s three)));
      few_in_cycles = leb-true (total (body_of ws Section.lengths)) 4096 (and_right (w && u && n) s three);
      pairs_are = eqb-true (entries ws Section.pairs) (total (body_of ws Section.widths)) (and_left p c four);
      cells_are = eqb-true (entries ws Section.cells) (total (body_of ws Section.lengths)) (and_right p c four);
    }

-- ---- 5

pub rounds_tested : (ws : List ℕ) → ContentsValid ws → (words : List ℕ) → words ≡ body_of ws Section.rounds → (w u : Bool)
    → w ≡ all_of (ltb 0) (word_each words 2 0 (length words / 2)) → u ≡ all_of (ltb 0) (word_each words 2 1 (length words / 2 - 1))
    → (w && u) ≡ rounds_good (circuit_of ws).rounds
unfolding circuit_of
rounds_tested ws l words is w u a b =
    let body : List ℕ = body_of ws Section.rounds in
    let n : ℕ = entries ws Section.rounds in
    ap₂ ◌&&◌
    (a
    ∙ ap (all_of (ltb 0))
    (of_rounds ws l words is (λ body n. word_each body 2 0 n) ∙ each_first body 2 n ∙ sym (map_tabulate (λ (r : Round). r.witness) (round_at body) n))
    ∙ all_map (ltb 0) (λ (r : Round). r.witness) (tabulate (round_at body) n))
    (b
    ∙ ap (all_of (ltb 0))
    (of_rounds ws l words is (λ body n. word_each body 2 1 (n - 1)) ∙ sym (map_tabulate (λ (r : Round). r.challenges) (round_at body) (n - 1)))
    ∙ all_map (ltb 0) (λ (r : Round). r.challenges) (tabulate (round_at body) (n - 1))
    ∙ ap (all_of (λ (r : Round). ltb 0 r.challenges))
    (sym (ap (λ (m : ℕ). take (m - 1) (tabulate (round_at body) n)) (tabulate_length (round_at body) n) ∙ take_tabulate (round_at body) (n - 1) n (omega arith))))

below_rows : (n rows : ℕ) → 0 < rows → ltb n rows ≡ leb n (rows - 1)
below_rows n rows h = let e : rows ≡ suc (rows - 1) = omega arith in ap (ltb n) e ∙ leb-suc-suc n (rows - 1)

pub five : (ws words : List ℕ) → words ≡ body_of ws Section.instances → (rows : ℕ) (good short : Bool) → good ≡ rounds_good (circuit_of ws).rounds
    → rows ≡ 2 ^ word_k ws → short ≡ all_of (λ w. ltb w rows) words → (good && short) ≡ q5 (circuit_of ws)
unfolding q5 circuit_of
five ws words is rows good short a b e =
    ap₂ ◌&&◌ a
    (e ∙ ap₂ (λ (rows : ℕ) (ns : List ℕ). all_of (λ (w : ℕ). ltb w rows) ns) b is
    ∙ all_same (λ (w : ℕ). ltb w (2 ^ word_k ws)) (λ (w : ℕ). leb w (2 ^ word_k ws - 1)) (λ w. below_rows w (2 ^ word_k ws) (pow_pos (word_k ws)))
    (body_of ws Section.instances))

-- ---- 6

-- a value too large, where it is a Constant's or a scalar
too_large_is : (a b r s : Bool) → r ≡ s → ((a || b) && not r) ≡ true → (not (a || b) || s) ≡ false
too_large_is true b r s q e = sym q ∙ not-true r e
too_large_is false true r s q e = sym q ∙ not-true r e
too_large_is false false r s q e = false_true e

small_or_none : (a b r s : Bool) → r ≡ s → ((a || b) && not r) ≡ false → (not (a || b) || s) ≡ true
small_or_none true b r s q e = sym q ∙ not-false r e
small_or_none false true r s q e = sym q ∙ not-false r e
small_or_none false false r s q e = refl

module _ (nodes : List ℕ) (i : ℕ) (r : Bool) (q : r ≡ ltb (get_or nodes (i * 4 + 3) 0) P) where
  kind_of : get_or nodes (i * 4) 0 ≡ word_of nodes i 0
  kind_of = ap (λ (n : ℕ). get_or nodes n 0) (sym (add-zero (i * 4)))

  pub value_large : ((eqb (get_or nodes (i * 4) 0) 1 || eqb (get_or nodes (i * 4) 0) 10) && not r) ≡ true → small_value nodes i ≡ false
  value_large e = too_large_is (kind_is nodes 1 i) (kind_is nodes 10 i) r (small (word_of nodes i 3)) q (rw kind_of at e)

  pub value_small : ((eqb (get_or nodes (i * 4) 0) 1 || eqb (get_or nodes (i * 4) 0) 10) && not r) ≡ false → small_value nodes i ≡ true
  value_small e = small_or_none (kind_is nodes 1 i) (kind_is nodes 10 i) r (small (word_of nodes i 3)) q (rw kind_of at e)

pub six : (ws : List ℕ) → ContentsValid ws → (preprocess nodes : List ℕ) → preprocess ≡ body_of ws Section.preprocess → nodes ≡ body_of ws Section.nodes
    → (given values : Bool) → given ≡ all_of small preprocess → values ≡ values_small nodes → (given && values) ≡ q6 (circuit_of ws)
unfolding q6 circuit_of
six ws l preprocess nodes p n given values a b =
    let body : List ℕ = body_of ws Section.preprocess in
    let len : length body ≡ entries ws Section.preprocess * 2 ^ word_k ws = body_length ws l Section.preprocess in
    ap₂ ◌&&◌
    (a ∙ ap (all_of small) (p ∙ sym (take_all (entries ws Section.preprocess * 2 ^ word_k ws) body (omega arith)))
    ∙ sym (all_parts small (2 ^ word_k ws) body (entries ws Section.preprocess)))
    (b ∙ ap values_small n)

-- ---- 9

-- each part as long as asked, where there are enough
part_lengths : {A : Type 0} (ns : List ℕ) (xs : List A) → total ns ≤ length xs → map (λ ys. length ys) (split ns xs) ≡ ns
unfolding split total
part_lengths [] xs h = refl
part_lengths (n ∷ ns) xs h =
    ap₂ (λ (m : ℕ) (ms : List ℕ). m ∷ ms) (length-take-le n xs (omega arith))
    (part_lengths ns (drop n xs) (let d = length-drop n xs in omega arith))

pub nine : (ws : List ℕ) → ContentsValid ws → BodiesValid ws → (words : List ℕ) → words ≡ body_of ws Section.widths → (wide : Bool)
    → wide ≡ all_of (ltb 0) (word_each words 1 0 (length words))
    → (wide && (ltb 0 (get_or ws 11 0) || ltb 0 (get_or ws 13 0) || ltb 0 (get_or ws 17 0))) ≡ q9 (circuit_of ws)
unfolding q9 circuit_of
nine ws l k words is wide a =
    let widths : List ℕ = body_of ws Section.widths in
    let pairs : List Pair = tabulate (pair_at (body_of ws Section.nodes) (body_of ws Section.pairs)) (entries ws Section.pairs) in
    let enough : total widths ≤ length pairs =
    (let e = tabulate_length (pair_at (body_of ws Section.nodes) (body_of ws Section.pairs)) (entries ws Section.pairs) in
    let w = k.pairs_are in
    omega arith)
    in
    ap₂ ◌&&◌
    (a ∙ ap (all_of (ltb 0)) (each_one words ∙ is ∙ sym (part_lengths widths pairs enough)) ∙ all_map (ltb 0) (λ (l : List Pair). length l) (split widths pairs))
    (ap₂ ◌||◌
    (ap₂ ◌||◌
    (ap (ltb 0) (sym (length-map (body_of ws Section.constraints) (expr_of (body_of ws Section.nodes)) ∙ single_length ws l Section.constraints refl)))
    (ap (ltb 0) (sym (split_length widths pairs ∙ single_length ws l Section.widths refl))))
    (ap (ltb 0) (sym (split_length (body_of ws Section.lengths) _ ∙ single_length ws l Section.lengths refl))))

-- ---- the numbers

pub not_past : (n limit r : ℕ) → r ≡ min n limit → n ≤ limit → r ≡ n
not_past n limit r e h = e ∙ min-eq_left h

pub polys : (ws : List ℕ) (w : ℕ) → ContentsValid ws → w ≡ num_witness (circuit_of ws) → get_or ws 3 0 + get_or ws 5 0 + w ≡ num_poly (circuit_of ws)
unfolding num_poly circuit_of
polys ws w l e =
    ap₂ ◌+◌
    (ap₂ ◌+◌ (sym (single_length ws l Section.instances refl)) (sym (tabulate_length _ (entries ws Section.preprocess))))
    e
