-- A run of words written in any order, one word a turn.
use mathlib.Core.Path.{◌≡◌, refl, sym, ap, ap₂, ◌∙◌, subst}
use mathlib.Core.Logic.{◌≢◌}
use mathlib.Core.Bool.{Bool, cond}
use mathlib.Core.List.{List}
use Prim.Native.Nat.{ℕ, suc, ◌+◌, ◌-◌, ◌*◌, ◌/◌, ◌%◌, ◌≤◌, ◌<◌}
use native.Mathlib.Nat.{
  suc-mul,
  mul_comm,
  mul-le-mul,
  mod-lt,
  div-add-mod',
  div-lt_iff_lt-mul,
}
use native.Mathlib.Decide.{dec_lt}
use native.Mathlib.Omega.{arith}
use lib.Dec.{ltb}
use lib.ListN.{length, get_or, set, length-set}
use borrow.Author.Tests.{lt-ltb, le-ltb}
use Rattle.lists.specs.Lists.{tabulate, write_at}
use Rattle.lists.proofs.Columns.{tabulate_cong, tabulate_length, get_tabulate}
use Rattle.lists.proofs.Over.{write_at_before, write_at_inside}
use Rattle.lists.proofs.Parts.{div_row, mod_row}
use Rattle.lists.proofs.Sets.{write_at_tabulate_set, write_at_self}

-- word i of n is written in turn σ i, and turn s writes word ι s
pub record Turns (n : ℕ) (σ ι : ℕ → ℕ) : Type 0 where
  pub inside : (s : ℕ) → s < n → ι s < n
  pub within : (i : ℕ) → i < n → σ i < n
  pub back : (s : ℕ) → s < n → σ (ι s) ≡ s
  pub forth : (i : ℕ) → i < n → ι (σ i) ≡ i

-- after s turns a word is f's where its turn is over, and g's else
abbrev pub turned : (ℕ → ℕ) → (ℕ → ℕ) → (ℕ → ℕ) → ℕ → ℕ → ℕ
turned σ f g s i = cond (ltb (σ i) s) (f i) (g i)

module _ (σ f g : ℕ → ℕ) (s i : ℕ) where
  turn_over : σ i < s → turned σ f g s i ≡ f i
  turn_over l = ap (λ (t : Bool). cond t (f i) (g i)) (lt-ltb (σ i) s l)

  turn_ahead : s ≤ σ i → turned σ f g s i ≡ g i
  turn_ahead l = ap (λ (t : Bool). cond t (f i) (g i)) (le-ltb (σ i) s l)

-- the buffer after s turns
pub record Turned (n : ℕ) (σ f : ℕ → ℕ) (d : List ℕ) (at : ℕ) (m : List ℕ) (s : ℕ) : Type 0 where
  pub upto : s ≤ n
  pub size : length m ≡ length d
  pub now : m ≡ write_at d at (tabulate (turned σ f (λ i. get_or d (at + i) 0) s) n)

module _ (n : ℕ) (σ ι f : ℕ → ℕ) (turns : Turns n σ ι) (d : List ℕ) (at : ℕ) (room : at + n ≤ length d) where
  abbrev before : ℕ → ℕ
  before i = get_or d (at + i) 0

  pub turn_start : Turned n σ f d at d 0
  turn_start =
      record {
        upto = omega arith;
        size = refl;
        now =
            sym
            (ap (write_at d at) (tabulate_cong (turned σ f before 0) before n (λ i l. turn_ahead σ f before 0 i (omega arith)))
            ∙ write_at_self d at n room);
      }

  module _ (m : List ℕ) (s : ℕ) (inv : Turned n σ f d at m s) where
    others : s < n → (i : ℕ) → i < n → i ≢ ι s → turned σ f before s i ≡ turned σ f before (s + 1) i
    others l i h ne = go (dec_lt (σ i) s)
      where
        apart : σ i ≢ s
        apart e = ne (sym (turns.forth i h) ∙ ap ι e)

        go : Dec (σ i < s) → turned σ f before s i ≡ turned σ f before (s + 1) i
        go (yes a) = turn_over σ f before s i a ∙ sym (turn_over σ f before (s + 1) i (omega arith))
        go (no a) =
            turn_ahead σ f before s i (omega arith) ∙ sym (turn_ahead σ f before (s + 1) i (omega (arith, apart)))

    -- the word p takes its value
    pub turn_more : s < n → (p : ℕ) → p ≡ at + ι s → (w : ℕ) → w ≡ f (ι s) → Turned n σ f d at (set m p w) (s + 1)
    turn_more l p q w e =
        let v : w ≡ turned σ f before (s + 1) (ι s) =
        e ∙ sym (turn_over σ f before (s + 1) (ι s) (let b = turns.back s l in omega arith)) in
        record {
          upto = omega arith;
          size = length-set m p w ∙ inv.size;
          now =
              ap₂ (λ (x : List ℕ) (j : ℕ). set x j w) inv.now q
              ∙ ap (set (write_at d at (tabulate (turned σ f before s) n)) (at + ι s)) v
              ∙ write_at_tabulate_set d at (turned σ f before s) (turned σ f before (s + 1)) n (ι s) (omega arith) (turns.inside s l)
              (others l);
        }

    -- what stands before is as it was
    pub turn_before : (j : ℕ) → j < at → get_or m j 0 ≡ get_or d j 0
    turn_before j l =
        ap (λ (x : List ℕ). get_or x j 0) inv.now
        ∙ write_at_before d at (tabulate (turned σ f before s) n) j 0 (omega arith) l

    -- a word whose turn is ahead is as it was
    pub turn_fresh : (i : ℕ) → i < n → s ≤ σ i → get_or m (at + i) 0 ≡ get_or d (at + i) 0
    turn_fresh i l h =
        let words : List ℕ = tabulate (turned σ f before s) n in
        let q = tabulate_length (turned σ f before s) n in
        ap (λ (x : List ℕ). get_or x (at + i) 0) inv.now
        ∙ write_at_inside d at words i 0 (omega arith) (omega arith)
        ∙ get_tabulate (turned σ f before s) n i 0 l
        ∙ turn_ahead σ f before s i h

    pub turn_end : n ≤ s → m ≡ write_at d at (tabulate f n)
    turn_end h =
        inv.now
        ∙ ap (write_at d at)
        (tabulate_cong (turned σ f before s) f n (λ i l. turn_over σ f before s i (let w = turns.within i l in omega arith)))

-- ---- n columns of r words each, a row of all of them after another: turn s writes column s mod n

pub grid_lt : (n r j b : ℕ) → j < n → b < r → j * r + b < n * r
grid_lt n r j b l m =
    let q : suc j * r ≤ n * r = mul-le-mul {m₁ = r} {m₂ = r} l (omega arith) in
    omega (arith, suc-mul j r)

abbrev pub grid_turn : ℕ → ℕ → (ℕ → ℕ) → ℕ → ℕ
grid_turn n r σ i = σ (i % r) * n + i / r

abbrev pub grid_word : ℕ → ℕ → (ℕ → ℕ) → ℕ → ℕ
grid_word n r ι s = s % n * r + ι (s / n)

-- the word of turn t * n + j
pub grid_word_is : (n r : ℕ) (ι : ℕ → ℕ) (t j : ℕ) → j < n → grid_word n r ι (t * n + j) ≡ j * r + ι t
grid_word_is n r ι t j l = ap₂ (λ (x y : ℕ). x * r + ι y) (mod_row t n j l) (div_row t n j l)

pub grid_turns : (n r : ℕ) → 0 < n → 0 < r → (σ ι : ℕ → ℕ) → Turns r σ ι → Turns (n * r) (grid_turn n r σ) (grid_word n r ι)
grid_turns n r pos some σ ι turns =
    record {
      inside = λ s l. grid_lt n r (s % n) (ι (s / n)) (mod-lt s pos) (turns.inside (s / n) (row s l));
      within = λ i l.
          let w = grid_lt r n (σ (i % r)) (i / r) (turns.within (i % r) (mod-lt i some)) (col i l) in
          omega (arith, mul_comm n r);
      back = λ s l.
          let h = turns.inside (s / n) (row s l) in
          ap₂ (λ (x y : ℕ). σ x * n + y) (mod_row (s % n) r (ι (s / n)) h) (div_row (s % n) r (ι (s / n)) h)
          ∙ ap (λ (x : ℕ). x * n + s % n) (turns.back (s / n) (row s l))
          ∙ div-add-mod' s n;
      forth = λ i l.
          let h = col i l in
          ap₂ (λ (x y : ℕ). x * r + ι y) (mod_row (σ (i % r)) n (i / r) h) (div_row (σ (i % r)) n (i / r) h)
          ∙ ap (λ (x : ℕ). i / r * r + x) (turns.forth (i % r) (mod-lt i some))
          ∙ div-add-mod' i r;
    }
  where
    row : (s : ℕ) → s < n * r → s / n < r
    row s l = (div-lt_iff_lt-mul pos).1 (let e = mul_comm n r in omega arith)

    col : (i : ℕ) → i < n * r → i / r < n
    col i l = (div-lt_iff_lt-mul some).1 l

-- ---- from the last turn to the first

-- a turn counted from the end
abbrev pub back_turn : ℕ → (ℕ → ℕ) → ℕ → ℕ
back_turn n σ i = n - 1 - σ i

abbrev pub back_word : ℕ → (ℕ → ℕ) → ℕ → ℕ
back_word n ι s = ι (n - 1 - s)

pub back_turns : (n : ℕ) (σ ι : ℕ → ℕ) → Turns n σ ι → Turns n (back_turn n σ) (back_word n ι)
back_turns n σ ι turns =
    record {
      inside = λ s l. turns.inside (n - 1 - s) (omega arith);
      within = λ i l. let w = turns.within i l in omega arith;
      back = λ s l. let b = turns.back (n - 1 - s) (omega arith) in omega arith;
      forth = λ i l.
          let w = turns.within i l in
          ap ι (let q : n - 1 - (n - 1 - σ i) ≡ σ i = omega arith in q) ∙ turns.forth i l;
    }

-- the buffer where the turns from s on are over
abbrev pub Behind : ℕ → (ℕ → ℕ) → (ℕ → ℕ) → List ℕ → ℕ → List ℕ → ℕ → Type 0
Behind n σ f d at m s = Turned n (back_turn n σ) f d at m (n - s)

module _ (n : ℕ) (σ ι f : ℕ → ℕ) (turns : Turns n σ ι) (d : List ℕ) (at : ℕ) (room : at + n ≤ length d) where
  pub behind_start : (s : ℕ) → s ≡ n → Behind n σ f d at d s
  behind_start s e =
      subst (λ (x : ℕ). Turned n (back_turn n σ) f d at d x) (let q : 0 ≡ n - s = omega arith in q)
      (turn_start n (back_turn n σ) (back_word n ι) f (back_turns n σ ι turns) d at room)

  pub behind_more : (m : List ℕ) (s s' : ℕ) → Behind n σ f d at m s → s ≡ s' + 1 → s' < n → (p : ℕ) → p ≡ at + ι s'
      → (w : ℕ) → w ≡ f (ι s')
      → Behind n σ f d at (set m p w) s'
  behind_more m s s' inv e l p q w v =
      let here : s' ≡ n - 1 - (n - s) = omega arith in
      let on : n - s + 1 ≡ n - s' = omega arith in
      subst (λ (x : ℕ). Turned n (back_turn n σ) f d at (set m p w) x) on
      (turn_more n (back_turn n σ) (back_word n ι) f (back_turns n σ ι turns) d at room m (n - s) inv (omega arith) p
      (q ∙ ap (λ (x : ℕ). at + ι x) here)
      w
      (v ∙ ap (λ (x : ℕ). f (ι x)) here))

  -- a word whose turn is over
  pub behind_word : (m : List ℕ) (s : ℕ) → Behind n σ f d at m s → (i : ℕ) → i < n → s ≤ σ i → get_or m (at + i) 0 ≡ f i
  behind_word m s inv i l h =
      let old : ℕ → ℕ = λ j. get_or d (at + j) 0 in
      let f' : ℕ → ℕ = turned (back_turn n σ) f old (n - s) in
      let w = turns.within i l in
      let q = tabulate_length f' n in
      ap (λ (x : List ℕ). get_or x (at + i) 0) inv.now
      ∙ write_at_inside d at (tabulate f' n) i 0 (omega arith) (omega arith)
      ∙ get_tabulate f' n i 0 l
      ∙ turn_over (back_turn n σ) f old (n - s) i (omega arith)
