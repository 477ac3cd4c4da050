-- Laws of the table of contents.
use mathlib.Core.Path.{◌≡◌, refl, sym, ap, ap₂, ◌∙◌}
use mathlib.Core.Bool.{Bool, true, false, ◌&&◌, and_assoc, and-true, and-false}
use mathlib.Core.List.{List, [], ◌∷◌}
use Prim.Native.Nat.{ℕ, zero, suc, ◌+◌, ◌-◌, ◌*◌, ◌/◌, ◌%◌, ◌^◌, ◌≤◌, ◌<◌, min}
use native.Mathlib.Omega.{arith, min_cases}
use mathlib.Core.Logic.{◌⊎◌, inl, inr, ⊎_elim}
use native.Mathlib.Decide.{dec_lt}
use native.Mathlib.Nat.{one-mul, zero-mul, mul-mod_right, mod-eq_of_lt, min-eq_left, min-eq_right, min-le_left, le-div_iff_mul-le, div-lt_iff_lt-mul, mul-le-mul_right}
use lib.ListN.{length, get_or, take, drop, length-take, length-drop}
use lib.Dec.{eqb, leb}
use lib.Pow.{pow_pos, pow-lt, pow_mono, pow-add}
use borrow.Author.Tests.{eq-eqb, ne_eqb, eqb-true, leb-true}
use Rattle.lists.specs.Lists.{all_of, within}
use Rattle.lists.proofs.Tests.{and_left, and_right}
use Rattle.backend.specs.Circuit.{Section, sections, place, section_at, entry, entries, contents, word_k, start_of, words_in, body_of}
use Rattle.backend.specs.Questions.{largest_k, q1, q2, q3, follow, q4}
use Rattle.backend.specs.Laid.{ContentsValid, end_of, bounds_of}
use Rattle.backend.specs.declared.Part.{Part}

-- ---- 3

-- the tests of 3 over the nine words that it reads
pub counts_in : (ws : List ℕ) (stated instances preprocess rounds nodes constraints widths lengths cells : ℕ) →
    stated ≡ get_or ws 1 0 → instances ≡ get_or ws 3 0 → preprocess ≡ get_or ws 5 0 → rounds ≡ get_or ws 7 0 → nodes ≡ get_or ws 9 0
    → constraints ≡ get_or ws 11 0 → widths ≡ get_or ws 13 0 → lengths ≡ get_or ws 17 0 → cells ≡ get_or ws 19 0
    → (leb stated 33 && (leb instances 8 && leb preprocess 32 && leb 1 rounds && leb rounds 4)
    && (leb nodes 1024 && leb constraints 32 && leb widths 8)
    && (leb lengths 1024 && leb cells 4096))
    ≡ q3 ws
unfolding q3 all_of
counts_in ws stated instances preprocess rounds nodes constraints widths lengths cells a b c d e f g h i =
    rw (a, b, c, d, e, f, g, h, i) (simp (and_assoc, and-true))

-- ---- the words of an entry

module _ (k s : ℕ) where
  pub shifted : s ≡ 1 → 1 * 2 ^ k % 2 ^ 64 ≡ entry k (section_at s) % 2 ^ 64
  shifted e = ap (λ (n : ℕ). n % 2 ^ 64) (one-mul (2 ^ k)) ∙ ap (λ (s : ℕ). entry k (section_at s) % 2 ^ 64) (sym e)

  pub past : s ≡ 1 → 64 ≤ k → 0 ≡ entry k (section_at s) % 2 ^ 64
  past e h =
      sym (mul-mod_right (2 ^ 64) (2 ^ (k - 64)))
      ∙ ap (λ (n : ℕ). n % 2 ^ 64) (sym (pow-add 2 64 (k - 64)) ∙ ap (λ (j : ℕ). 2 ^ j) (let q : 64 + (k - 64) ≡ k = omega arith in q))
      ∙ ap (λ (s : ℕ). entry k (section_at s) % 2 ^ 64) (sym e)

  pub at_place : (t : ℕ) → s ≡ t → entry k (section_at t) % 2 ^ 64 ≡ entry k (section_at s) % 2 ^ 64
  at_place t e = ap (λ (s : ℕ). entry k (section_at s) % 2 ^ 64) (sym e)

-- the entries of one word
pub single : (k s : ℕ) → (s ≡ 1 → ⊥) → (s ≡ 3 → ⊥) → (s ≡ 2 → ⊥) → (s ≡ 6 → ⊥) → (s ≡ 8 → ⊥) → 1 ≡ entry k (section_at s) % 2 ^ 64
single k zero a b c d e = refl
single k (suc zero) a b c d e = absurd (a refl)
single k (suc (suc zero)) a b c d e = absurd (c refl)
single k (suc (suc (suc zero))) a b c d e = absurd (b refl)
single k (suc (suc (suc (suc zero)))) a b c d e = refl
single k (suc (suc (suc (suc (suc zero))))) a b c d e = refl
single k (suc (suc (suc (suc (suc (suc zero)))))) a b c d e = absurd (d refl)
single k (suc (suc (suc (suc (suc (suc (suc zero))))))) a b c d e = refl
single k (suc (suc (suc (suc (suc (suc (suc (suc zero)))))))) a b c d e = absurd (e refl)
single k (suc (suc (suc (suc (suc (suc (suc (suc (suc zero))))))))) a b c d e = refl
single k (suc (suc (suc (suc (suc (suc (suc (suc (suc (suc s)))))))))) a b c d e = refl

-- an entry has a word or more, and at most 64 bits count them, or the 64 are 0
pub entry_pos : (k s : ℕ) → 0 < entry k (section_at s)
entry_pos k zero = omega arith
entry_pos k (suc zero) = pow_pos k
entry_pos k (suc (suc zero)) = omega arith
entry_pos k (suc (suc (suc zero))) = omega arith
entry_pos k (suc (suc (suc (suc zero)))) = omega arith
entry_pos k (suc (suc (suc (suc (suc zero))))) = omega arith
entry_pos k (suc (suc (suc (suc (suc (suc zero)))))) = omega arith
entry_pos k (suc (suc (suc (suc (suc (suc (suc zero))))))) = omega arith
entry_pos k (suc (suc (suc (suc (suc (suc (suc (suc zero)))))))) = omega arith
entry_pos k (suc (suc (suc (suc (suc (suc (suc (suc (suc zero))))))))) = omega arith
entry_pos k (suc (suc (suc (suc (suc (suc (suc (suc (suc (suc s)))))))))) = omega arith

pub entry_bits : (k s : ℕ) → (entry k (section_at s) < 2 ^ 64) ⊎ (2 ^ 64 ≤ entry k (section_at s)) × (entry k (section_at s) % 2 ^ 64 ≡ 0)
entry_bits k zero = inl (omega arith)
entry_bits k (suc zero) = go (dec_lt k 64)
  where
    go : Dec (k < 64) → (2 ^ k < 2 ^ 64) ⊎ (2 ^ 64 ≤ 2 ^ k) × (2 ^ k % 2 ^ 64 ≡ 0)
    go (yes h) = inl (pow-lt h)
    go (no h) = let g : 64 ≤ k = omega arith in inr (pow_mono g, sym (past k 1 refl g))
entry_bits k (suc (suc zero)) = inl (omega arith)
entry_bits k (suc (suc (suc zero))) = inl (omega arith)
entry_bits k (suc (suc (suc (suc zero)))) = inl (omega arith)
entry_bits k (suc (suc (suc (suc (suc zero))))) = inl (omega arith)
entry_bits k (suc (suc (suc (suc (suc (suc zero)))))) = inl (omega arith)
entry_bits k (suc (suc (suc (suc (suc (suc (suc zero))))))) = inl (omega arith)
entry_bits k (suc (suc (suc (suc (suc (suc (suc (suc zero)))))))) = inl (omega arith)
entry_bits k (suc (suc (suc (suc (suc (suc (suc (suc (suc zero))))))))) = inl (omega arith)
entry_bits k (suc (suc (suc (suc (suc (suc (suc (suc (suc (suc s)))))))))) = inl (omega arith)

-- ---- the words of a section, capped

-- e is an entry's words, size what 64 bits hold of them
module _ (e size count room : ℕ) (some : 0 < e) (bits : (e < 2 ^ 64) ⊎ (2 ^ 64 ≤ e) × (e % 2 ^ 64 ≡ 0)) (is : size ≡ e % 2 ^ 64) (fits : room + 1 < 2 ^ 64) where
  pub none_needed : count ≡ 0 → 0 ≡ min (count * e) (room + 1)
  none_needed h = sym (ap (λ (n : ℕ). min n (room + 1)) (ap (λ (n : ℕ). n * e) h ∙ zero-mul e) ∙ min-eq_left (omega arith))

  pub too_wide : (count ≡ 0 → ⊥) → size ≡ 0 → room + 1 ≡ min (count * e) (room + 1)
  too_wide h z =
      let big : 2 ^ 64 ≤ e = ⊎_elim (λ l. absurd (let q = mod-eq_of_lt l in omega arith)) (λ r. r.0) bits in
      let more : 1 * e ≤ count * e = mul-le-mul_right e (omega arith) in
      sym (min-eq_right (omega (arith, one-mul e)))

  whole_size : (size ≡ 0 → ⊥) → size ≡ e
  whole_size z = ⊎_elim (λ l. is ∙ mod-eq_of_lt l) (λ r. absurd (z (is ∙ r.1))) bits

  pub too_many_is : (size ≡ 0 → ⊥) → room / size < count → room + 1 ≡ min (count * e) (room + 1)
  too_many_is z h =
      let p : 0 < size = omega arith in
      let q : room < count * size = (div-lt_iff_lt-mul p).0 h in
      let r : count * size ≡ count * e = ap (λ (n : ℕ). count * n) (whole_size z) in
      sym (min-eq_right (omega arith))

  pub in_room : (size ≡ 0 → ⊥) → count ≤ room / size → count * size ≤ room
  in_room z h = let p : 0 < size = omega arith in (le-div_iff_mul-le p).0 h

  pub just_so : (size ≡ 0 → ⊥) → count ≤ room / size → count * size ≡ min (count * e) (room + 1)
  just_so z h =
      let q = in_room z h in
      let r : count * size ≡ count * e = ap (λ (n : ℕ). count * n) (whole_size z) in
      sym (ap (λ (n : ℕ). min n (room + 1)) (sym r) ∙ min-eq_left (omega arith))

-- ---- 4

pub record Following (ws : List ℕ) (at s : ℕ) : Type 0 where
  pub few : s ≤ 10
  pub late : contents ≤ at
  pub inside : at ≤ length ws
  pub rest : follow ws contents sections ≡ follow ws at (drop s sections)

pub following_none : (ws : List ℕ) → contents ≤ length ws → Following ws contents 0
following_none ws h = record { few = omega arith; late = omega arith; inside = h; rest = refl }

-- a section at a time
follow_one : (ws : List ℕ) (at s : ℕ) → s < 10
    → follow ws at (drop s sections)
    ≡ (eqb (get_or ws (2 + s * 2) 0) at && follow ws (at + get_or ws (3 + s * 2) 0 * entry (word_k ws) (section_at s)) (drop (s + 1) sections))
unfolding follow
follow_one ws at zero h = refl
follow_one ws at (suc zero) h = refl
follow_one ws at (suc (suc zero)) h = refl
follow_one ws at (suc (suc (suc zero))) h = refl
follow_one ws at (suc (suc (suc (suc zero)))) h = refl
follow_one ws at (suc (suc (suc (suc (suc zero))))) h = refl
follow_one ws at (suc (suc (suc (suc (suc (suc zero)))))) h = refl
follow_one ws at (suc (suc (suc (suc (suc (suc (suc zero))))))) h = refl
follow_one ws at (suc (suc (suc (suc (suc (suc (suc (suc zero)))))))) h = refl
follow_one ws at (suc (suc (suc (suc (suc (suc (suc (suc (suc zero))))))))) h = refl
follow_one ws at (suc (suc (suc (suc (suc (suc (suc (suc (suc (suc s)))))))))) h = absurd (omega arith)

-- past the end nothing follows
follow_past : (ws : List ℕ) (at : ℕ) (ss : List Section) → length ws < at → follow ws at ss ≡ false
unfolding follow
follow_past ws at [] h = ne_eqb at (length ws) (λ e. omega arith)
follow_past ws at (s ∷ ss) h = ap (λ (b : Bool). eqb (start_of ws s) at && b) (follow_past ws (at + words_in ws s) ss (omega arith)) ∙ and-false (eqb (start_of ws s) at)

-- where the sections do not follow, 4 is no
not_laid : (ws : List ℕ) → follow ws contents sections ≡ false → false ≡ q4 ws
unfolding q4
not_laid ws h = sym (ap (λ (b : Bool). b && eqb (entries ws Section.groups) (entries ws Section.widths)) h)

pub too_short : (ws : List ℕ) → length ws < contents → false ≡ q4 ws
too_short ws h = not_laid ws (follow_past ws contents sections h)

module _ (ws : List ℕ) (at s k start count words : ℕ) (f : Following ws at s) (low : s < 10) (k_is : k ≡ word_k ws)
    (start_is : start ≡ get_or ws (2 + s * 2) 0) (count_is : count ≡ get_or ws (3 + s * 2) 0)
    (words_are : words ≡ min (count * entry k (section_at s)) (length ws - at + 1)) where
  counted : count * entry k (section_at s) ≡ get_or ws (3 + s * 2) 0 * entry (word_k ws) (section_at s)
  counted = ap₂ ◌*◌ count_is (ap (λ (k : ℕ). entry k (section_at s)) k_is)

  pub elsewhere : (start ≡ at → ⊥) → false ≡ q4 ws
  elsewhere h =
      not_laid ws (f.rest ∙ follow_one ws at s low ∙ ap (λ (b : Bool). b && follow ws (at + get_or ws (3 + s * 2) 0 * entry (word_k ws) (section_at s)) (drop (s + 1) sections)) (ne_eqb (get_or ws (2 + s * 2) 0) at (λ e. h (start_is ∙ e))))

  pub overrun : length ws - at < words → false ≡ q4 ws
  overrun h =
      let n : ℕ = count * entry k (section_at s) in
      let far : length ws < at + get_or ws (3 + s * 2) 0 * entry (word_k ws) (section_at s) = let i = f.inside in let m = min-le_left n (length ws - at + 1) in omega (arith, counted) in
      not_laid ws (f.rest ∙ follow_one ws at s low ∙ ap (λ (b : Bool). eqb (get_or ws (2 + s * 2) 0) at && b) (follow_past ws _ (drop (s + 1) sections) far) ∙ and-false (eqb (get_or ws (2 + s * 2) 0) at))

  pub following_more : start ≡ at → words ≤ length ws - at → Following ws (at + words) (s + 1)
  following_more e h =
      let n : ℕ = count * entry k (section_at s) in
      let exact : words ≡ n = min_cases n (length ws - at + 1) (words ≡ n) (λ _ q. words_are ∙ q) (λ _ q. absurd (omega (arith, words_are, q))) in
      record {
        few = omega arith;
        late = let l = f.late in omega arith;
        inside = let i = f.inside in omega arith;
        rest =
            f.rest ∙ follow_one ws at s low
            ∙ ap₂ ◌&&◌ (eq-eqb (get_or ws (2 + s * 2) 0) at (sym start_is ∙ e))
            (ap (λ (m : ℕ). follow ws (at + m) (drop (s + 1) sections)) (sym (exact ∙ counted)));
      }

-- at the end, with as many groups as lookups
pub followed : (ws : List ℕ) (at s groups widths : ℕ) → Following ws at s → 10 ≤ s → groups ≡ entries ws Section.groups
    → widths ≡ entries ws Section.widths
    → (eqb at (length ws) && eqb groups widths) ≡ q4 ws
unfolding q4 follow
followed ws at s groups widths f h g w =
    let ten : s ≡ 10 = let w = f.few in omega arith in
    ap₂ ◌&&◌ (sym (f.rest ∙ ap (λ (s : ℕ). follow ws at (drop s sections)) ten)) (ap₂ eqb g w)

-- ---- the sections, once laid

-- a section where it should be, and the rest
follow_head : (ws : List ℕ) (start : ℕ) (s : Section) (ss : List Section) → follow ws start (s ∷ ss) ≡ true
    → (start_of ws s ≡ start) × (follow ws (end_of ws s) ss ≡ true)
unfolding follow
follow_head ws start s ss h =
    let e = eqb-true (start_of ws s) start (and_left (eqb (start_of ws s) start) _ h) in
    (e, ap (λ (n : ℕ). follow ws (n + words_in ws s) ss) e ∙ and_right (eqb (start_of ws s) start) _ h)

follow_end : (ws : List ℕ) (start : ℕ) → follow ws start [] ≡ true → length ws ≡ start
unfolding follow
follow_end ws start h = sym (eqb-true start (length ws) h)

-- yes to 1 to 4
pub laid : (ws : List ℕ) → q1 ws ≡ true → q2 ws ≡ true → q3 ws ≡ true → q4 ws ≡ true → ContentsValid ws
unfolding q1 q2 q3 q4 all_of
laid ws one two three four =
    let chain = and_left (follow ws contents sections) (eqb (entries ws Section.groups) (entries ws Section.widths)) four in
    let c1 = and_right (leb (get_or ws 1 0) 33) _ three in
    let c2 = and_right (leb (get_or ws 3 0) 8) _ c1 in
    let c3 = and_right (leb (get_or ws 5 0) 32) _ c2 in
    let r = and_left (within 1 4 (get_or ws 7 0)) _ c3 in
    let c4 = and_right (within 1 4 (get_or ws 7 0)) _ c3 in
    let c5 = and_right (leb (get_or ws 9 0) 1024) _ c4 in
    let c6 = and_right (leb (get_or ws 11 0) 32) _ c5 in
    let c7 = and_right (leb (get_or ws 13 0) 8) _ c6 in
    let c8 = and_right (leb (get_or ws 17 0) 1024) _ c7 in
    let f0 = follow_head ws contents Section.instances _ chain in
    let f1 = follow_head ws _ Section.preprocess _ f0.1 in
    let f2 = follow_head ws _ Section.rounds _ f1.1 in
    let f3 = follow_head ws _ Section.nodes _ f2.1 in
    let f4 = follow_head ws _ Section.constraints _ f3.1 in
    let f5 = follow_head ws _ Section.widths _ f4.1 in
    let f6 = follow_head ws _ Section.pairs _ f5.1 in
    let f7 = follow_head ws _ Section.lengths _ f6.1 in
    let f8 = follow_head ws _ Section.cells _ f7.1 in
    let f9 = follow_head ws _ Section.groups _ f8.1 in
    record {
      long = leb-true contents (length ws) one;
      k_low = leb-true 1 (word_k ws) (and_left (leb 1 (word_k ws)) _ two);
      k_high = leb-true (word_k ws) largest_k (and_right (leb 1 (word_k ws)) _ two);
      degree = leb-true (get_or ws 1 0) 33 (and_left (leb (get_or ws 1 0) 33) _ three);
      few_instances = leb-true (get_or ws 3 0) 8 (and_left (leb (get_or ws 3 0) 8) _ c1);
      few_preprocess = leb-true (get_or ws 5 0) 32 (and_left (leb (get_or ws 5 0) 32) _ c2);
      some_rounds = leb-true 1 (get_or ws 7 0) (and_left (leb 1 (get_or ws 7 0)) _ r);
      few_rounds = leb-true (get_or ws 7 0) 4 (and_right (leb 1 (get_or ws 7 0)) _ r);
      few_nodes = leb-true (get_or ws 9 0) 1024 (and_left (leb (get_or ws 9 0) 1024) _ c4);
      few_constraints = leb-true (get_or ws 11 0) 32 (and_left (leb (get_or ws 11 0) 32) _ c5);
      few_widths = leb-true (get_or ws 13 0) 8 (and_left (leb (get_or ws 13 0) 8) _ c6);
      few_lengths = leb-true (get_or ws 17 0) 1024 (and_left (leb (get_or ws 17 0) 1024) _ c7);
      few_cells = leb-true (get_or ws 19 0) 4096 (and_left (leb (get_or ws 19 0) 4096) _ c8);
      instances_at = f0.0;
      preprocess_at = f1.0;
      rounds_at = f2.0;
      nodes_at = f3.0;
      constraints_at = f4.0;
      widths_at = f5.0;
      pairs_at = f6.0;
      lengths_at = f7.0;
      cells_at = f8.0;
      groups_at = f9.0;
      whole = follow_end ws _ f9.1;
      groups_are = eqb-true (entries ws Section.groups) (entries ws Section.widths) (and_right (follow ws contents sections) _ four);
    }

-- a section ends where the next begins, the last where the words end
next_start : (ws : List ℕ) → ContentsValid ws → (s : ℕ) → s < 10 → (s ≡ 9 → ⊥) → get_or ws (4 + s * 2) 0 ≡ end_of ws (section_at s)
next_start ws l zero h n = l.preprocess_at
next_start ws l (suc zero) h n = l.rounds_at
next_start ws l (suc (suc zero)) h n = l.nodes_at
next_start ws l (suc (suc (suc zero))) h n = l.constraints_at
next_start ws l (suc (suc (suc (suc zero)))) h n = l.widths_at
next_start ws l (suc (suc (suc (suc (suc zero))))) h n = l.pairs_at
next_start ws l (suc (suc (suc (suc (suc (suc zero)))))) h n = l.lengths_at
next_start ws l (suc (suc (suc (suc (suc (suc (suc zero))))))) h n = l.cells_at
next_start ws l (suc (suc (suc (suc (suc (suc (suc (suc zero)))))))) h n = l.groups_at
next_start ws l (suc (suc (suc (suc (suc (suc (suc (suc (suc zero))))))))) h n = absurd (n refl)
next_start ws l (suc (suc (suc (suc (suc (suc (suc (suc (suc (suc s)))))))))) h n = absurd (omega arith)

place_at : (s : ℕ) → s < 10 → place (section_at s) ≡ s
place_at zero h = refl
place_at (suc zero) h = refl
place_at (suc (suc zero)) h = refl
place_at (suc (suc (suc zero))) h = refl
place_at (suc (suc (suc (suc zero)))) h = refl
place_at (suc (suc (suc (suc (suc zero))))) h = refl
place_at (suc (suc (suc (suc (suc (suc zero)))))) h = refl
place_at (suc (suc (suc (suc (suc (suc (suc zero))))))) h = refl
place_at (suc (suc (suc (suc (suc (suc (suc (suc zero)))))))) h = refl
place_at (suc (suc (suc (suc (suc (suc (suc (suc (suc zero))))))))) h = refl
place_at (suc (suc (suc (suc (suc (suc (suc (suc (suc (suc s)))))))))) h = absurd (omega arith)

part_of : (ws : List ℕ) (s end : ℕ) → s < 10 → end ≡ end_of ws (section_at s)
    → ◌≡◌ {A = Part} (record { start = get_or ws (2 + s * 2) 0; end = end; count = get_or ws (3 + s * 2) 0 }) (bounds_of ws (section_at s))
part_of ws s end h e =
    rw e
    (ap (λ (p : ℕ). record { start = get_or ws (2 + p * 2) 0; end = end_of ws (section_at s); count = get_or ws (3 + p * 2) 0 }) (sym (place_at s h)))

-- a section lies in the words
pub end_inside : (ws : List ℕ) → ContentsValid ws → (s : Section) → end_of ws s ≤ length ws
end_inside ws l Section.groups = omega arith
end_inside ws l Section.cells = omega arith
end_inside ws l Section.lengths = omega arith
end_inside ws l Section.pairs = omega arith
end_inside ws l Section.widths = omega arith
end_inside ws l Section.constraints = omega arith
end_inside ws l Section.nodes = omega arith
end_inside ws l Section.rounds = omega arith
end_inside ws l Section.preprocess = omega arith
end_inside ws l Section.instances = omega arith

-- what `section` ensures of its result
abbrev pub Placed : List ℕ → ℕ → Part → Type 0
Placed ws s p = (p ≡ bounds_of ws (section_at s)) × ((p.start ≤ p.end) × (p.end ≤ length ws))

placed : (ws : List ℕ) (s : ℕ) (p : Part) → ContentsValid ws → p ≡ bounds_of ws (section_at s) → Placed ws s p
placed ws s p l e =
    let a : p.start ≡ start_of ws (section_at s) = ap (λ (p : Part). p.start) e in
    let b : p.end ≡ end_of ws (section_at s) = ap (λ (p : Part). p.end) e in
    let i = end_inside ws l (section_at s) in
    (e, (omega arith, omega arith))

pub last_section : (ws : List ℕ) (s : ℕ) → ContentsValid ws → s < 10 → s ≡ 9
    → Placed ws s (record { start = get_or ws (2 + s * 2) 0; end = length ws; count = get_or ws (3 + s * 2) 0 })
last_section ws s l h e =
    placed ws s _ l (part_of ws s (length ws) h (l.whole ∙ ap (λ (s : ℕ). end_of ws (section_at s)) (sym e)))

pub one_section : (ws : List ℕ) (s : ℕ) → ContentsValid ws → s < 10 → (s ≡ 9 → ⊥)
    → Placed ws s (record { start = get_or ws (2 + s * 2) 0; end = get_or ws (4 + s * 2) 0; count = get_or ws (3 + s * 2) 0 })
one_section ws s l h n = placed ws s _ l (part_of ws s (get_or ws (4 + s * 2) 0) h (next_start ws l s h n))

-- the part of the words between a section's start and its end
pub body_part : (ws : List ℕ) (s : ℕ) (p : Part) → Placed ws s p → take (p.end - p.start) (drop p.start ws) ≡ body_of ws (section_at s)
unfolding body_of
body_part ws s p (e, _) =
    let a : p.start ≡ start_of ws (section_at s) = ap (λ (p : Part). p.start) e in
    let b : p.end ≡ end_of ws (section_at s) = ap (λ (p : Part). p.end) e in
    let n : p.end - p.start ≡ words_in ws (section_at s) = omega arith in
    rw (n, a)

pub body_length : (ws : List ℕ) → ContentsValid ws → (s : Section) → length (body_of ws s) ≡ words_in ws s
unfolding body_of
body_length ws l s =
    length-take (words_in ws s) (drop (start_of ws s) ws)
    ∙ (let q = length-drop (start_of ws s) ws in let i = end_inside ws l s in omega arith)
