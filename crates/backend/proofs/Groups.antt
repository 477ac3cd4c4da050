-- Groups of lookups, by their numbers: how many there are, how many lookups each has, and what yes to question 18 says.
use mathlib.Core.Path.{◌≡◌, refl, sym, ap, ap₂, ◌∙◌}
use mathlib.Core.Logic.{◌⊎◌, inl, inr}
use mathlib.Core.Bool.{Bool, true, cond, ◌||◌}
use mathlib.Core.List.{List, [], ◌∷◌, map}
use Prim.Native.Nat.{ℕ, zero, suc, ◌+◌, ◌≤◌, ◌<◌}
use native.Mathlib.Omega.{arith}
use native.Mathlib.Decide.{ℕ_discrete}
use lib.Dec.{eqb}
use lib.ListN.{length}
use borrow.Author.Tests.{eq-eqb, ne_eqb, eqb-true}
use Rattle.lists.specs.Lists.{tabulate, count_of, filter, maximum, total, All}
use Rattle.lists.proofs.All.{all_tabulate}
use Rattle.lists.proofs.Columns.{tabulate_length, tabulate_cong}
use Rattle.lists.proofs.Tests.{and_left, and_right, count_append, count_one}
use Rattle.backend.specs.Circuit.{num_groups_in, group_sizes}
use Rattle.backend.proofs.Forest.{total_suc, total_plus}
use Rattle.backend.specs.Questions.{numbers_follow, group_numbers_good}

pub sizes_length : (ns : List ℕ) → length (group_sizes ns) ≡ num_groups_in ns
unfolding group_sizes
sizes_length ns = tabulate_length (λ j. count_of (λ g. eqb g j) ns) (num_groups_in ns)

-- ---- every lookup is in a group
count_head : (p : ℕ → Bool) (g : ℕ) (gs : List ℕ) → count_of p (g ∷ gs) ≡ cond (p g) 1 0 + count_of p gs
count_head p g gs = count_append p (g ∷ []) gs ∙ ap (λ (n : ℕ). n + count_of p gs) (count_one p g)

total_add : (f h : ℕ → ℕ) (n : ℕ) → total (tabulate (λ i. f i + h i) n) ≡ total (tabulate f n) + total (tabulate h n)
total_add f h n = total_plus f h n

total_zeros : (n : ℕ) → total (tabulate (λ i. 0) n) ≡ 0
unfolding tabulate total
total_zeros zero = refl
total_zeros (suc n) = total_suc (λ i. 0) n ∙ ap (λ (m : ℕ). m + 0) (total_zeros n)

-- one number is counted once
total_one : (g n : ℕ) → g < n → total (tabulate (λ j. cond (eqb g j) 1 0) n) ≡ 1
total_one g zero h = absurd (omega arith)
total_one g (suc n) h = total_suc (λ j. cond (eqb g j) 1 0) n ∙ go (ℕ_discrete g n) (total_one g n)
  where
    before : (m : ℕ) → m ≤ g → total (tabulate (λ j. cond (eqb g j) 1 0) m) ≡ 0
    before m l =
        ap total (tabulate_cong (λ j. cond (eqb g j) 1 0) (λ j. 0) m (λ j k. ap (λ (t : Bool). cond t 1 0) (ne_eqb g j (λ e. omega arith))))
        ∙ total_zeros m

    go : Dec (g ≡ n) → (g < n → total (tabulate (λ j. cond (eqb g j) 1 0) n) ≡ 1)
        → total (tabulate (λ j. cond (eqb g j) 1 0) n) + cond (eqb g n) 1 0 ≡ 1
    go (yes e) rec = ap₂ ◌+◌ (before n (omega arith)) (ap (λ (t : Bool). cond t 1 0) (eq-eqb g n e))
    go (no e) rec = ap₂ ◌+◌ (rec (omega arith)) (ap (λ (t : Bool). cond t 1 0) (ne_eqb g n e))

counts_total : (ns : List ℕ) (m : ℕ) → All (λ g. g < m) ns → total (tabulate (λ j. count_of (λ g. eqb g j) ns) m) ≡ length ns
unfolding filter
counts_total [] m a = total_zeros m
counts_total (g ∷ gs) m a =
    ap total (tabulate_cong (λ j. count_of (λ g. eqb g j) (g ∷ gs)) (λ j. cond (eqb g j) 1 0 + count_of (λ g. eqb g j) gs) m (λ j l. count_head (λ g. eqb g j) g gs))
    ∙ total_add (λ j. cond (eqb g j) 1 0) (λ j. count_of (λ g. eqb g j) gs) m
    ∙ ap₂ ◌+◌ (total_one g m a.0) (counts_total gs m a.1)
    ∙ (let q : 1 + length gs ≡ suc (length gs) = omega arith in q)

below_largest : (ns : List ℕ) (m : ℕ) → maximum (map suc ns) ≤ m → All (λ g. g < m) ns
unfolding maximum
below_largest [] m h = tt
below_largest (g ∷ gs) m h = (omega arith, below_largest gs m (omega arith))

pub sizes_total : (ns : List ℕ) → total (group_sizes ns) ≡ length ns
unfolding group_sizes num_groups_in
sizes_total ns = counts_total ns (maximum (map suc ns)) (below_largest ns (maximum (map suc ns)) (omega arith))

-- ---- numbers that follow the rule
rule_step : (g h : ℕ) → (eqb h g || eqb h (suc g)) ≡ true → (h ≡ g) ⊎ (h ≡ suc g)
rule_step g h e = go (ℕ_discrete h g)
  where
    go : Dec (h ≡ g) → (h ≡ g) ⊎ (h ≡ suc g)
    go (yes p) = inl p
    go (no p) = inr (eqb-true h (suc g) (sym (ap (λ (t : Bool). t || eqb h (suc g)) (ne_eqb h g p)) ∙ e))

-- each number from g + 1 to the largest is there; and the largest is no more than g and as many as there are
follow_some : (g : ℕ) (hs : List ℕ) → numbers_follow g hs ≡ true → (j : ℕ) → g < j → j < maximum (map suc hs)
    → 0 < count_of (λ x. eqb x j) hs
unfolding numbers_follow maximum filter
follow_some g [] e j l h = absurd (omega arith)
follow_some g (x ∷ xs) e j l h =
    let r = and_right (eqb x g || eqb x (suc g)) (numbers_follow x xs) e in
    go (rule_step g x (and_left (eqb x g || eqb x (suc g)) (numbers_follow x xs) e)) (ℕ_discrete x j) (follow_some x xs r j)
  where
    go : (x ≡ g) ⊎ (x ≡ suc g) → Dec (x ≡ j) → (x < j → j < maximum (map suc xs) → 0 < count_of (λ x. eqb x j) xs) → 0 < count_of (λ x. eqb x j) (x ∷ xs)
    go d (yes p) rec = let q = count_head (λ x. eqb x j) x xs in let t : ◌≡◌ {A = ℕ} (cond (eqb x j) 1 0) 1 = ap (λ (t : Bool). cond t 1 0) (eq-eqb x j p) in omega arith
    go (inl p) (no n) rec = let q = count_head (λ x. eqb x j) x xs in let r = rec (omega arith) (omega arith) in omega arith
    go (inr p) (no n) rec = let q = count_head (λ x. eqb x j) x xs in let r = rec (omega arith) (omega arith) in omega arith

follow_few : (g : ℕ) (hs : List ℕ) → numbers_follow g hs ≡ true → maximum (map suc hs) ≤ suc (g + length hs)
unfolding numbers_follow maximum
follow_few g [] e = omega arith
follow_few g (x ∷ xs) e =
    let r = follow_few x xs (and_right (eqb x g || eqb x (suc g)) (numbers_follow x xs) e) in
    go (rule_step g x (and_left (eqb x g || eqb x (suc g)) (numbers_follow x xs) e)) r
  where
    go : (x ≡ g) ⊎ (x ≡ suc g) → maximum (map suc xs) ≤ suc (x + length xs) → maximum (map suc (x ∷ xs)) ≤ suc (g + length (x ∷ xs))
    go (inl p) r = omega arith
    go (inr p) r = omega arith

-- no group is empty
pub sizes_some : (ns : List ℕ) → group_numbers_good ns ≡ true → All (λ n. 0 < n) (group_sizes ns)
unfolding group_sizes num_groups_in group_numbers_good maximum
sizes_some ns e = all_tabulate (λ n. 0 < n) (λ j. count_of (λ g. eqb g j) ns) (maximum (map suc ns)) (λ j l. each ns e j l)
  where
    each : (ns : List ℕ) → group_numbers_good ns ≡ true → (j : ℕ) → j < maximum (map suc ns) → 0 < count_of (λ g. eqb g j) ns
    each [] e j l = absurd (omega arith)
    each (g ∷ gs) e j l = go (eqb-true g 0 (and_left (eqb g 0) (numbers_follow g gs) e)) (ℕ_discrete g j)
      where
        go : g ≡ 0 → Dec (g ≡ j) → 0 < count_of (λ g. eqb g j) (g ∷ gs)
        go z (yes p) = let q = count_head (λ x. eqb x j) g gs in let t : ◌≡◌ {A = ℕ} (cond (eqb g j) 1 0) 1 = ap (λ (t : Bool). cond t 1 0) (eq-eqb g j p) in omega arith
        go z (no n) =
            let q = count_head (λ x. eqb x j) g gs in
            let r = follow_some g gs (and_right (eqb g 0) (numbers_follow g gs) e) j (omega arith) (omega arith) in
            omega arith

-- there are no more groups than lookups
pub groups_few : (ns : List ℕ) → group_numbers_good ns ≡ true → num_groups_in ns ≤ length ns
unfolding num_groups_in group_numbers_good maximum
groups_few [] e = omega arith
groups_few (g ∷ gs) e =
    let z = eqb-true g 0 (and_left (eqb g 0) (numbers_follow g gs) e) in
    let r = follow_few g gs (and_right (eqb g 0) (numbers_follow g gs) e) in
    omega arith

-- each number is below how many there are
pub numbers_below : (ns : List ℕ) → group_numbers_good ns ≡ true → All (λ g. g < length ns) ns
unfolding num_groups_in
numbers_below ns e = below_largest ns (length ns) (groups_few ns e)
