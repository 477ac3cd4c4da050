-- The instance columns: a value at its place, and one column after another.
use mathlib.Core.Path.{◌≡◌, refl, sym, ap, ap₂, ◌∙◌}
use mathlib.Core.Logic.{◌≢◌}
use mathlib.Core.List.{List, [], ◌∷◌, ◌++◌, map, map-append}
use Prim.Native.Nat.{ℕ, zero, suc, ◌+◌, ◌*◌, ◌%◌, ◌^◌, ◌≤◌, ◌<◌}
use native.Mathlib.Nat.{suc-mul, mul-le-mul}
use native.Mathlib.Decide.{dec_lt}
use native.Mathlib.Numerals.{add-one}
use native.Mathlib.Omega.{arith}
use lib.ListN.{length, get_or, take, drop, set, replicate, length-take, length-drop, length-map}
use lib.Seq.{get_or-take, get_or-drop, take_all, length-take-le}
use Rattle.field.specs.Prime.{P}
use Rattle.field.specs.Field.{𝔾, el, val}
use Rattle.field.proofs.Elements.{val_zero, val_el_mod}
use Rattle.bh.specs.Rows.{row_at, place_of}
use Rattle.bh.proofs.Order.{row_lt}
use Rattle.bh.proofs.Place.{row_place, place_row}
use Rattle.lists.specs.Lists.{tabulate, write_at, split, total}
use Rattle.lists.proofs.Columns.{tabulate_cong, tabulate_replicate}
use Rattle.lists.proofs.Lists.{get_none, get_map, split_length}
use Rattle.lists.proofs.Parts.{split_more}
use Rattle.lists.proofs.Sets.{write_at_tabulate_set}
use Rattle.prover.specs.Columns.{instance_at}
use Rattle.prover.specs.Words.{words_of}
use Rattle.prover.proofs.Words.{words_none, words_more}

-- the words of the column when the first t values are in place
abbrev pub placed : ℕ → List ℕ → ℕ → ℕ → ℕ
placed k vs t b = val (instance_at 𝔾 k (map el (take t vs)) b)

placed_none : (k : ℕ) (vs : List ℕ) (b : ℕ) → placed k vs 0 b ≡ 0
unfolding instance_at
placed_none k vs b = ap val (nil (place_of k b)) ∙ val_zero
  where
    nil : (p : ℕ) → get_or (𝔾.zero ∷ []) p 𝔾.zero ≡ 𝔾.zero
    nil zero = refl
    nil (suc p) = refl

-- one value more is seen at its own place alone
take_other : (vs : List ℕ) (t p : ℕ) → p ≢ suc t
    → get_or (𝔾.zero ∷ map el (take t vs)) p 𝔾.zero ≡ get_or (𝔾.zero ∷ map el (take (suc t) vs)) p 𝔾.zero
take_other vs t zero h = refl
take_other vs t (suc q) h = go (dec_lt q (length vs)) (dec_lt q t)
  where
    past : (n : ℕ) → length (take n vs) ≤ q → get_or (map el (take n vs)) q 𝔾.zero ≡ 𝔾.zero
    past n l = get_none (map el (take n vs)) q 𝔾.zero (let e = length-map (take n vs) el in omega arith)

    inside : (n : ℕ) → q < n → q < length vs → get_or (map el (take n vs)) q 𝔾.zero ≡ el (get_or vs q 0)
    inside n l m =
        get_map el (take n vs) q 0 𝔾.zero (let e = length-take n vs in omega arith) ∙ ap el (get_or-take n vs q 0 l)

    go : Dec (q < length vs) → Dec (q < t) → get_or (map el (take t vs)) q 𝔾.zero ≡ get_or (map el (take (suc t) vs)) q 𝔾.zero
    go (no m) d =
        past t (let e = length-take t vs in omega arith) ∙ sym (past (suc t) (let e = length-take (suc t) vs in omega arith))
    go (yes m) (yes l) = inside t l m ∙ sym (inside (suc t) (omega arith) m)
    go (yes m) (no l) =
        let n : q ≢ t = λ e. h (ap suc e) in
        past t (let e = length-take t vs in omega arith) ∙ sym (past (suc t) (let e = length-take (suc t) vs in omega (arith, n)))

module _ (k : ℕ) (hk : 0 < k) (lk : k < 21) (vs : List ℕ) (t : ℕ) where
  placed_here : t < length vs → suc t < 2 ^ k → placed k vs (suc t) (row_at k (suc t)) ≡ get_or vs t 0 % P
  unfolding instance_at
  placed_here l m =
      ap (λ (p : ℕ). val (get_or (𝔾.zero ∷ map el (take (suc t) vs)) p 𝔾.zero)) (place_row k hk lk (suc t) m)
      ∙ ap val
      (get_map el (take (suc t) vs) t 0 𝔾.zero (let e = length-take (suc t) vs in omega arith)
      ∙ ap el (get_or-take (suc t) vs t 0 (omega arith)))
      ∙ val_el_mod (get_or vs t 0)

  placed_other : (b : ℕ) → b < 2 ^ k → b ≢ row_at k (suc t) → placed k vs t b ≡ placed k vs (suc t) b
  unfolding instance_at
  placed_other b l n =
      ap val (take_other vs t (place_of k b) (λ e. n (sym (row_place k hk lk b l) ∙ ap (row_at k) e)))

  -- the next value written at its place
  pub place_more : (d : List ℕ) (at : ℕ) (m : List ℕ) (row w : ℕ) → row ≡ row_at k (suc t) → w ≡ get_or vs t 0 % P → at ≤ length d
      → t < length vs → suc t < 2 ^ k → m ≡ write_at d at (tabulate (placed k vs t) (2 ^ k))
      → set m (at + row) w ≡ write_at d at (tabulate (placed k vs (t + 1)) (2 ^ k))
  place_more d at m row w e q h l r now =
      let v : w ≡ placed k vs (suc t) (row_at k (suc t)) = q ∙ sym (placed_here l r) in
      ap₂ (λ (x : List ℕ) (i : ℕ). set x (at + i) w) now e
      ∙ ap (λ (y : ℕ). set (write_at d at (tabulate (placed k vs t) (2 ^ k))) (at + row_at k (suc t)) y) v
      ∙ write_at_tabulate_set d at (placed k vs t) (placed k vs (suc t)) (2 ^ k) (row_at k (suc t)) h (row_lt k hk lk (suc t))
      (λ b lb n. placed_other b lb n)
      ∙ ap (λ (n : ℕ). write_at d at (tabulate (placed k vs n) (2 ^ k))) (sym (add-one t))

pub place_start : (k : ℕ) (vs d : List ℕ) (at : ℕ) (m : List ℕ) → m ≡ write_at d at (replicate (2 ^ k) 0)
    → m ≡ write_at d at (tabulate (placed k vs 0) (2 ^ k))
place_start k vs d at m e =
    e
    ∙ ap (write_at d at)
    (sym (tabulate_replicate 0 (2 ^ k)) ∙ tabulate_cong (λ _. 0) (placed k vs 0) (2 ^ k) (λ b _. sym (placed_none k vs b)))

pub place_end : (k : ℕ) (vs : List ℕ) (t : ℕ) → length vs ≤ t → (d : List ℕ) (at : ℕ)
    → write_at d at (tabulate (placed k vs t) (2 ^ k)) ≡ write_at d at (tabulate (λ b. val (instance_at 𝔾 k (map el vs) b)) (2 ^ k))
place_end k vs t l d at =
    ap (λ (xs : List ℕ). write_at d at (tabulate (λ b. val (instance_at 𝔾 k (map el xs) b)) (2 ^ k))) (take_all t vs l)

-- the values of one column
module _ (xs : List ℕ) (from count : ℕ) (fit : from + count ≤ length xs) where
  pub part_length : length (take count (drop from xs)) ≡ count
  part_length = length-take-le count (drop from xs) (let e = length-drop from xs in omega arith)

  pub part_get : (t : ℕ) → t < count → get_or (take count (drop from xs)) t 0 ≡ get_or xs (from + t) 0
  part_get t l = get_or-take count (drop from xs) t 0 l ∙ get_or-drop from xs t 0

-- ---- one column after another

-- the columns of the first i lengths
abbrev pub polys : ℕ → List ℕ → List ℕ → List (ℕ → 𝔾.F)
polys k ns xs = map (λ vs b. instance_at 𝔾 k (map el vs) b) (split ns xs)

module _ (k : ℕ) (ns xs : List ℕ) (i : ℕ) (lt : i < length ns) where
  polys_more : polys k (take (i + 1) ns) xs
      ≡ polys k (take i ns) xs ++ ((λ b. instance_at 𝔾 k (map el (take (get_or ns i 0) (drop (total (take i ns)) xs))) b) ∷ [])
  polys_more =
      ap (map (λ vs b. instance_at 𝔾 k (map el vs) b)) (split_more ns i lt xs)
      ∙ map-append (λ vs b. instance_at 𝔾 k (map el vs) b) (split (take i ns) xs) (take (get_or ns i 0) (drop (total (take i ns)) xs) ∷ [])

  polys_length : length (polys k (take i ns) xs) ≡ i
  polys_length =
      length-map (split (take i ns) xs) (λ vs b. instance_at 𝔾 k (map el vs) b) ∙ split_length (take i ns) xs
      ∙ length-take-le i ns (omega arith)

  pub instance_more : (d m n : List ℕ) (from at : ℕ) → from ≡ total (take i ns) → at ≡ i * 2 ^ k → at ≤ length d
      → m ≡ write_at d 0 (words_of (2 ^ k) (polys k (take i ns) xs))
      → n ≡ write_at m at (tabulate (λ b. val (instance_at 𝔾 k (map el (take (get_or ns i 0) (drop from xs))) b)) (2 ^ k))
      → n ≡ write_at d 0 (words_of (2 ^ k) (polys k (take (i + 1) ns) xs))
  instance_more d m n from at e a h now new =
      new
      ∙ ap₂ (λ (x : List ℕ) (f : ℕ). write_at x at (tabulate (λ b. val (instance_at 𝔾 k (map el (take (get_or ns i 0) (drop f xs))) b)) (2 ^ k))) now e
      ∙ words_more (2 ^ k) d (polys k (take i ns) xs) (λ b. instance_at 𝔾 k (map el (take (get_or ns i 0) (drop (total (take i ns)) xs))) b) at
      (a ∙ ap (λ (n : ℕ). n * 2 ^ k) (sym polys_length)) h
      ∙ ap (λ (ps : List (ℕ → 𝔾.F)). write_at d 0 (words_of (2 ^ k) ps)) (sym polys_more)

pub instance_start : (k : ℕ) (xs d : List ℕ) → d ≡ write_at d 0 (words_of (2 ^ k) (polys k [] xs))
unfolding split
instance_start k xs d = sym (ap (write_at d 0) (words_none (2 ^ k)) ∙ Rattle.lists.proofs.Over.write_at_none d 0)

-- the words of column i are there
pub words_there : (i n r at len : ℕ) → i < n → at ≡ i * r → n * r ≤ len → at + r ≤ len
words_there i n r at len l e h =
    let m : suc i * r ≤ n * r = mul-le-mul {m₁ = r} {m₂ = r} l (omega arith) in
    omega (arith, suc-mul i r)
