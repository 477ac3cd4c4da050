-- Columns: f 0, f 1, …, f (n - 1).
use mathlib.Core.Path.{◌≡◌, refl, sym, ap, ap₂, ◌∙◌}
use mathlib.Core.List.{List, [], ◌∷◌, ◌++◌, map, append_assoc, append-nil, map-append}
use Prim.Native.Nat.{ℕ, zero, suc, ◌+◌, ◌*◌, ◌≤◌, ◌<◌}
use native.Mathlib.Nat.{not-suc-le-zero, add-zero, add-suc, suc-mul, zero-mul}
use native.Mathlib.Decide.{dec_lt, ℕ_discrete}
use native.Mathlib.Omega.{arith}
use lib.ListN.{length, get_or, take, drop, replicate, length-append}
use lib.Seq.{ext_get_or, take-suc, take-add}
use Rattle.lists.specs.Lists.{tabulate, range, concat}
use Rattle.lists.proofs.Lists.{get_left, get_past, concat_end}

module _ {A : Type 0} where
  pub tabulate_length : (f : ℕ → A) (n : ℕ) → length (tabulate f n) ≡ n
  unfolding tabulate
  tabulate_length f zero = refl
  tabulate_length f (suc n) = simp length-append (omega (arith, tabulate_length f n))

  pub get_tabulate : (f : ℕ → A) (n i : ℕ) (d : A) → i < n → get_or (tabulate f n) i d ≡ f i
  unfolding tabulate
  get_tabulate f zero i d l = absurd (not-suc-le-zero l)
  get_tabulate f (suc n) i d l = go (dec_lt i n) (get_tabulate f n i d)
    where
      go : Dec (i < n) → (i < n → get_or (tabulate f n) i d ≡ f i) → get_or (tabulate f n ++ (f n ∷ [])) i d ≡ f i
      go (yes h) rec = get_left (tabulate f n) (f n ∷ []) i d (let q = tabulate_length f n in omega arith) ∙ rec h
      go (no h) rec =
          let e : i ≡ n = omega arith in
          get_past (tabulate f n) (f n ∷ []) i 0 d (let q = tabulate_length f n in omega arith) ∙ ap f (sym e)

  -- one more, at the end and at the front
  pub tabulate_suc : (f : ℕ → A) (n : ℕ) → tabulate f (suc n) ≡ tabulate f n ++ (f n ∷ [])
  unfolding tabulate
  tabulate_suc f n = refl

  pub tabulate_first : (f : ℕ → A) (n : ℕ) → tabulate f (suc n) ≡ f 0 ∷ tabulate (λ i. f (suc i)) n
  unfolding tabulate
  tabulate_first f zero = refl
  tabulate_first f (suc n) = ap (λ (l : List A). l ++ (f (suc n) ∷ [])) (tabulate_first f n)

  pub tabulate_cong : (f g : ℕ → A) (n : ℕ) → ((i : ℕ) → i < n → f i ≡ g i) → tabulate f n ≡ tabulate g n
  unfolding tabulate
  tabulate_cong f g zero h = refl
  tabulate_cong f g (suc n) h =
      ap₂ (λ (l : List A) (v : A). l ++ (v ∷ [])) (tabulate_cong f g n (λ i l. h i (omega arith))) (h n (omega arith))

  pub tabulate_append : (f : ℕ → A) (m n : ℕ) → tabulate f (m + n) ≡ tabulate f m ++ tabulate (λ i. f (m + i)) n
  unfolding tabulate
  tabulate_append f m zero = ap (tabulate f) (add-zero m) ∙ sym (append-nil (tabulate f m))
  tabulate_append f m (suc n) =
      ap (tabulate f) (add-suc m n)
      ∙ ap (λ (l : List A). l ++ (f (m + n) ∷ [])) (tabulate_append f m n)
      ∙ append_assoc (tabulate f m) (tabulate (λ i. f (m + i)) n) (f (m + n) ∷ [])

  -- a list is the column of its entries
  pub tabulate_of : (xs : List A) (d : A) → tabulate (λ i. get_or xs i d) (length xs) ≡ xs
  tabulate_of xs d =
      ext_get_or d (tabulate (λ i. get_or xs i d) (length xs)) xs (tabulate_length (λ i. get_or xs i d) (length xs))
      (λ i l. get_tabulate (λ i. get_or xs i d) (length xs) i d (let q = tabulate_length (λ i. get_or xs i d) (length xs) in omega arith))

  pub tabulate_take : (xs : List A) (d : A) (n : ℕ) → n ≤ length xs → tabulate (λ i. get_or xs i d) n ≡ take n xs
  unfolding tabulate
  tabulate_take xs d zero l = refl
  tabulate_take xs d (suc n) l =
      ap (λ (r : List A). r ++ (get_or xs n d ∷ [])) (tabulate_take xs d n (omega arith)) ∙ sym (take-suc xs n d (omega arith))

  pub tabulate_replicate : (v : A) (n : ℕ) → tabulate (λ i. v) n ≡ replicate n v
  unfolding tabulate
  tabulate_replicate v zero = refl
  tabulate_replicate v (suc n) = tabulate_first (λ i. v) n ∙ ap (λ (l : List A). v ∷ l) (tabulate_replicate v n)

pub map_tabulate : {A B : Type 0} (f : A → B) (p : ℕ → A) (n : ℕ) → map f (tabulate p n) ≡ tabulate (λ i. f (p i)) n
unfolding tabulate
map_tabulate f p zero = refl
map_tabulate f p (suc n) =
    map-append f (tabulate p n) (p n ∷ []) ∙ ap (λ (l : List _). l ++ (f (p n) ∷ [])) (map_tabulate f p n)

-- ---- the numbers below n
pub below_length : (n : ℕ) → length (range n) ≡ n
below_length n = tabulate_length (λ i. i) n

pub below_get : (n i d : ℕ) → i < n → get_or (range n) i d ≡ i
below_get n i d l = get_tabulate (λ i. i) n i d l

pub map_below : {A : Type 0} (f : ℕ → A) (n : ℕ) → map f (range n) ≡ tabulate f n
map_below f n = map_tabulate f (λ i. i) n

-- ---- columns of one length, one after another
module _ {A : Type 0} (rows : ℕ) (f : ℕ → ℕ → A) where
  pub columns_suc : (n : ℕ) → concat (tabulate (λ j. tabulate (f j) rows) (suc n)) ≡ concat (tabulate (λ j. tabulate (f j) rows) n) ++ tabulate (f n) rows
  unfolding tabulate
  columns_suc n = concat_end (tabulate (λ j. tabulate (f j) rows) n) (tabulate (f n) rows)

  pub columns_length : (n : ℕ) → length (concat (tabulate (λ j. tabulate (f j) rows) n)) ≡ n * rows
  unfolding tabulate concat
  columns_length zero = sym (zero-mul rows)
  columns_length (suc n) =
      ap length (columns_suc n)
      ∙ length-append (concat (tabulate (λ j. tabulate (f j) rows) n)) (tabulate (f n) rows)
      ∙ ap₂ ◌+◌ (columns_length n) (tabulate_length (f n) rows)
      ∙ sym (suc-mul n rows)

  -- row b of column j
  pub get_columns : (n j b : ℕ) (d : A) → j < n → b < rows → get_or (concat (tabulate (λ j. tabulate (f j) rows) n)) (j * rows + b) d ≡ f j b
  get_columns zero j b d l m = absurd (not-suc-le-zero l)
  get_columns (suc n) j b d l m =
      ap (λ (xs : List A). get_or xs (j * rows + b) d) (columns_suc n) ∙ go (ℕ_discrete j n) (get_columns n j b d)
    where
      len : length (concat (tabulate (λ j. tabulate (f j) rows) n)) ≡ n * rows
      len = columns_length n

      inside : j < n → j * rows + b < length (concat (tabulate (λ j. tabulate (f j) rows) n))
      inside h =
          let q : suc j * rows ≤ n * rows = native.Mathlib.Nat.mul-le-mul_right rows h in
          let w = suc-mul j rows in
          let e = len in
          omega arith

      go : Dec (j ≡ n) → (j < n → b < rows → get_or (concat (tabulate (λ j. tabulate (f j) rows) n)) (j * rows + b) d ≡ f j b)
          → get_or (concat (tabulate (λ j. tabulate (f j) rows) n) ++ tabulate (f n) rows) (j * rows + b) d ≡ f j b
      go (yes e) rec =
          get_past (concat (tabulate (λ j. tabulate (f j) rows) n)) (tabulate (f n) rows) (j * rows + b) b d
          (ap (λ (i : ℕ). i * rows + b) e ∙ ap (λ (i : ℕ). i + b) (sym len))
          ∙ get_tabulate (f n) rows b d m
          ∙ ap (λ (i : ℕ). f i b) (sym e)
      go (no h) rec =
          get_left (concat (tabulate (λ j. tabulate (f j) rows) n)) (tabulate (f n) rows) (j * rows + b) d (inside (omega arith))
          ∙ rec (omega arith) m

-- ---- parts of s each
-- the first m parts are the first m * s
pub concat_parts : {A : Type 0} (s : ℕ) (xs : List A) (m : ℕ) → concat (tabulate (λ i. take s (drop (i * s) xs)) m) ≡ take (m * s) xs
unfolding tabulate concat
concat_parts s xs zero = ap (λ (n : ℕ). take n xs) (sym (zero-mul s))
concat_parts s xs (suc m) =
    concat_end (tabulate (λ i. take s (drop (i * s) xs)) m) (take s (drop (m * s) xs))
    ∙ ap (λ (l : List _). l ++ take s (drop (m * s) xs)) (concat_parts s xs m)
    ∙ sym (take-add (m * s) s xs)
    ∙ ap (λ (n : ℕ). take n xs) (sym (suc-mul m s))
