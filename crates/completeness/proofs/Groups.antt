-- Groups of lookups: EighteenWhen, GroupsByNumber, TablesAgree and GroupOfOne of Groups; and that each group has a lookup.
use mathlib.Core.Path.{◌≡◌, refl, sym, ap, ap₂, ◌∙◌}
use mathlib.Core.Logic.{◌⊎◌, inl, inr, ⊎_elim}
use mathlib.Core.Bool.{Bool, true, false, cond, ◌||◌}
use mathlib.Core.List.{List, [], ◌∷◌, map}
use Prim.Native.Nat.{ℕ, zero, suc, ◌+◌, ◌≤◌, ◌<◌}
use native.Mathlib.Decide.{ℕ_discrete, dec_lt}
use native.Mathlib.Omega.{arith}
use lib.ListN.{length, get_or, take, drop, length-take, length-drop}
use lib.Dec.{eqb, ltb}
use borrow.Author.Tests.{eq-eqb, ne_eqb, eqb-true, lt-ltb, le-ltb}
use Rattle.lists.specs.Lists.{range, tabulate, filter, all_of, count_of, maximum, total, All}
use Rattle.lists.proofs.All.{all_from, all_get, all_weaken}
use Rattle.lists.proofs.Columns.{tabulate_first, get_tabulate, tabulate_length, map_below}
use Rattle.lists.proofs.Lists.{get_none, split_length}
use Rattle.lists.proofs.Parts.{get_split, total_within}
use Rattle.lists.proofs.Runs.{take_tabulate}
use Rattle.lists.proofs.Some.{or_cases}
use Rattle.lists.proofs.Tests.{and_left, and_right, and_both, all_each, true_all, count_append, count_one}
use Rattle.expression.specs.Expr.{Expr, product_from}
use Rattle.expression.specs.Same.{same_list}
use Rattle.expression.proofs.Same.{same_list_is}
use Rattle.backend.specs.Circuit.{Section, entries, body_of, pair_at, Circuit, Pair, circuit_of, num_lookups, num_groups_in, group_sizes, num_groups, groups_of}
use Rattle.backend.specs.Constraints.{tables_of, numerator_tree, group_tree, group_with}
use Rattle.backend.specs.Questions.{numbers_follow, group_numbers_good, tables_alike, q18}
use Rattle.backend.proofs.Answers.{numbers_many}
use Rattle.backend.proofs.Degree.{groups_length}
use Rattle.backend.proofs.Forest.{total_suc}
use Rattle.backend.proofs.Groups.{sizes_length, sizes_total, sizes_some}
use Rattle.backend.proofs.Passed.{Yes}
use Rattle.prover.specs.Columns.{compressed_at, table_at, group_table}
use Rattle.prover.proofs.Groups.{one_multiplicity, one_covered, one_h, one_denominators}
use Rattle.hyperplonk_spec.specs.Groups.{FollowRule, OneTable, EighteenWhen, GroupsByNumber, TablesAgree, GroupOfOne}

-- ---- the rule
follow_next : (g : ℕ) (gs : List ℕ) → numbers_follow g gs ≡ true → (i : ℕ) → suc i < length (g ∷ gs)
    → (get_or (g ∷ gs) (suc i) 0 ≡ get_or (g ∷ gs) i 0) ⊎ (get_or (g ∷ gs) (suc i) 0 ≡ suc (get_or (g ∷ gs) i 0))
unfolding numbers_follow
follow_next g [] e i l = absurd (omega arith)
follow_next g (h ∷ hs) e zero l =
    ⊎_elim (λ p. inl (eqb-true h g p)) (λ p. inr (eqb-true h (suc g) p))
    (or_cases (eqb h g) (eqb h (suc g)) (and_left (eqb h g || eqb h (suc g)) (numbers_follow h hs) e))
follow_next g (h ∷ hs) e (suc i) l =
    follow_next h hs (and_right (eqb h g || eqb h (suc g)) (numbers_follow h hs) e) i (omega arith)

next_follow : (g : ℕ) (gs : List ℕ)
    → ((i : ℕ) → suc i < length (g ∷ gs)
    → (get_or (g ∷ gs) (suc i) 0 ≡ get_or (g ∷ gs) i 0) ⊎ (get_or (g ∷ gs) (suc i) 0 ≡ suc (get_or (g ∷ gs) i 0)))
    → numbers_follow g gs ≡ true
unfolding numbers_follow
next_follow g [] h = refl
next_follow g (x ∷ xs) h =
    and_both (eqb x g || eqb x (suc g)) (numbers_follow x xs) (step (h 0 (omega arith))) (next_follow x xs (λ i l. h (suc i) (omega arith)))
  where
    or_right : (a b : Bool) → b ≡ true → (a || b) ≡ true
    or_right true b e = refl
    or_right false b e = e

    step : (x ≡ g) ⊎ (x ≡ suc g) → (eqb x g || eqb x (suc g)) ≡ true
    step (inl p) = ap (λ (t : Bool). t || eqb x (suc g)) (eq-eqb x g p)
    step (inr p) = or_right (eqb x g) (eqb x (suc g)) (eq-eqb x (suc g) p)

good_follow : (ns : List ℕ) → group_numbers_good ns ≡ true → FollowRule ns
unfolding group_numbers_good
good_follow [] e = record { first = λ l. refl; next = λ i l. absurd (omega arith) }
good_follow (g ∷ gs) e =
    record {
      first = λ l. eqb-true g 0 (and_left (eqb g 0) (numbers_follow g gs) e);
      next = follow_next g gs (and_right (eqb g 0) (numbers_follow g gs) e);
    }

follow_good : (ns : List ℕ) → FollowRule ns → group_numbers_good ns ≡ true
unfolding group_numbers_good
follow_good [] r = refl
follow_good (g ∷ gs) r =
    and_both (eqb g 0) (numbers_follow g gs) (eq-eqb g 0 (r.first (omega arith))) (next_follow g gs r.next)

-- ---- 18
alike_each : (group : List (List Pair)) → tables_alike group ≡ true → (i : ℕ) → i < length group → tables_of (get_or group i []) ≡ tables_of (get_or group 0 [])
unfolding tables_alike
alike_each group e i l =
    (same_list_is (tables_of (get_or group i [])) (tables_of (get_or group 0 []))).0
    (all_each (λ l. same_list (tables_of l) (tables_of (get_or group 0 []))) [] group e i l)

each_alike : (group : List (List Pair)) → ((i : ℕ) → i < length group → tables_of (get_or group i []) ≡ tables_of (get_or group 0 [])) → tables_alike group ≡ true
unfolding tables_alike
each_alike group h =
    true_all (λ l. same_list (tables_of l) (tables_of (get_or group 0 []))) group
    (all_from (λ l. same_list (tables_of l) (tables_of (get_or group 0 [])) ≡ true) group []
    (λ i l. (same_list_is (tables_of (get_or group i [])) (tables_of (get_or group 0 []))).1 (h i l)))

module _ (c : Circuit) where
  numbers_good_is : q18 c ≡ true → group_numbers_good c.groups ≡ true
  unfolding q18
  numbers_good_is e = and_left (group_numbers_good c.groups) (all_of tables_alike (groups_of c)) e

  pub one_table : q18 c ≡ true → OneTable c
  unfolding q18
  one_table e j l =
      alike_each (get_or (groups_of c) j [])
      (all_each tables_alike [] (groups_of c) (and_right (group_numbers_good c.groups) (all_of tables_alike (groups_of c)) e) j l)

  yes_when : FollowRule c.groups × OneTable c → q18 c ≡ true
  unfolding q18
  yes_when p =
      and_both (group_numbers_good c.groups) (all_of tables_alike (groups_of c)) (follow_good c.groups p.0)
      (true_all tables_alike (groups_of c)
      (all_from (λ group. tables_alike group ≡ true) (groups_of c) [] (λ j l. each_alike (get_or (groups_of c) j []) (p.1 j l))))

pub eighteen_when : EighteenWhen
eighteen_when c = (λ e. (good_follow c.groups (numbers_good_is c e), one_table c e), yes_when c)

-- ---- the lookups of a group
-- those of a list that have the number j
having : {A : Type 0} → ℕ → List ℕ → List A → List A
having j [] ls = []
having j (n ∷ ns) [] = []
having j (n ∷ ns) (l ∷ ls) = cond (eqb n j) (l ∷ having j ns ls) (having j ns ls)

module _ {A : Type 0} where
  -- they are those at the places of j
  map_filter : {B : Type 0} (g : ℕ → B) (p : ℕ → Bool) (s : A → ℕ) (xs : List A) → map g (filter p (map s xs)) ≡ map (λ x. g (s x)) (filter (λ x. p (s x)) xs)
  unfolding filter
  map_filter g p s [] = refl
  map_filter {B = B} g p s (x ∷ xs) = go (p (s x)) (map_filter g p s xs)
    where
      go : (t : Bool) → map g (filter p (map s xs)) ≡ map (λ x. g (s x)) (filter (λ x. p (s x)) xs)
          → map g (cond t (s x ∷ filter p (map s xs)) (filter p (map s xs)))
          ≡ map (λ x. g (s x)) (cond t (x ∷ filter (λ x. p (s x)) xs) (filter (λ x. p (s x)) xs))
      go true ih = ap (λ (ys : List B). g (s x) ∷ ys) ih
      go false ih = ih

at_places : {A : Type 0} (j : ℕ) (d : A) (ns : List ℕ) (ls : List A) → length ns ≡ length ls
    → map (λ i. get_or ls i d) (filter (λ i. eqb (get_or ns i 0) j) (range (length ns))) ≡ having j ns ls
unfolding having filter tabulate
at_places j d [] ls e = refl
at_places j d (n ∷ ns) [] e = absurd (omega arith)
at_places {A = A} j d (n ∷ ns) (l ∷ ls) e =
    ap (λ (is : List ℕ). map (λ i. get_or (l ∷ ls) i d) (filter (λ i. eqb (get_or (n ∷ ns) i 0) j) is))
    (tabulate_first (λ i. i) (length ns) ∙ ap (λ (is : List ℕ). 0 ∷ is) (sym (map_below suc (length ns))))
    ∙ go (eqb n j) (map_filter (λ i. get_or (l ∷ ls) i d) (λ i. eqb (get_or (n ∷ ns) i 0) j) suc (range (length ns)) ∙ at_places j d ns ls (omega arith))
  where
    go : (t : Bool)
        → map (λ i. get_or (l ∷ ls) i d) (filter (λ i. eqb (get_or (n ∷ ns) i 0) j) (map suc (range (length ns)))) ≡ having j ns ls
        → map (λ i. get_or (l ∷ ls) i d) (cond t (0 ∷ filter (λ i. eqb (get_or (n ∷ ns) i 0) j) (map suc (range (length ns)))) (filter (λ i. eqb (get_or (n ∷ ns) i 0) j) (map suc (range (length ns)))))
        ≡ cond t (l ∷ having j ns ls) (having j ns ls)
    go true ih = ap (λ (ys : List A). l ∷ ys) ih
    go false ih = ih

-- how many numbers are j, and how many below j
abbrev equal : ℕ → List ℕ → ℕ
equal j ns = count_of (λ n. eqb n j) ns

abbrev below : ℕ → List ℕ → ℕ
below j ns = count_of (λ n. ltb n j) ns

count_head : (p : ℕ → Bool) (n : ℕ) (ns : List ℕ) → count_of p (n ∷ ns) ≡ cond (p n) 1 0 + count_of p ns
count_head p n ns = count_append p (n ∷ []) ns ∙ ap (λ (m : ℕ). m + count_of p ns) (count_one p n)

count_yes : (p : ℕ → Bool) (n : ℕ) (ns : List ℕ) → p n ≡ true → count_of p (n ∷ ns) ≡ suc (count_of p ns)
count_yes p n ns e =
    count_head p n ns ∙ ap (λ (t : Bool). cond t 1 0 + count_of p ns) e ∙ (let q : 1 + count_of p ns ≡ suc (count_of p ns) = omega arith in q)

count_no : (p : ℕ → Bool) (n : ℕ) (ns : List ℕ) → p n ≡ false → count_of p (n ∷ ns) ≡ count_of p ns
count_no p n ns e =
    count_head p n ns ∙ ap (λ (t : Bool). cond t 1 0 + count_of p ns) e ∙ (let q : 0 + count_of p ns ≡ count_of p ns = omega arith in q)

none_counted : (p : ℕ → Bool) (ns : List ℕ) → All (λ n. p n ≡ false) ns → count_of p ns ≡ 0
unfolding filter
none_counted p [] a = refl
none_counted p (n ∷ ns) a = count_no p n ns a.0 ∙ none_counted p ns a.1

below_next : (j : ℕ) (ns : List ℕ) → below (suc j) ns ≡ below j ns + equal j ns
unfolding filter
below_next j [] = refl
below_next j (n ∷ ns) = go (dec_lt n j) (ℕ_discrete n j) (below_next j ns)
  where
    go : Dec (n < j) → Dec (n ≡ j) → below (suc j) ns ≡ below j ns + equal j ns → below (suc j) (n ∷ ns) ≡ below j (n ∷ ns) + equal j (n ∷ ns)
    go (yes l) d r =
        let a = count_yes (λ n. ltb n (suc j)) n ns (lt-ltb n (suc j) (omega arith)) in
        let b = count_yes (λ n. ltb n j) n ns (lt-ltb n j l) in
        let c = count_no (λ n. eqb n j) n ns (ne_eqb n j (λ e. omega arith)) in
        omega arith
    go (no l) (yes e) r =
        let a = count_yes (λ n. ltb n (suc j)) n ns (lt-ltb n (suc j) (omega arith)) in
        let b = count_no (λ n. ltb n j) n ns (le-ltb n j (omega arith)) in
        let c = count_yes (λ n. eqb n j) n ns (eq-eqb n j e) in
        omega arith
    go (no l) (no e) r =
        let a = count_no (λ n. ltb n (suc j)) n ns (le-ltb n (suc j) (omega arith)) in
        let b = count_no (λ n. ltb n j) n ns (le-ltb n j (omega arith)) in
        let c = count_no (λ n. eqb n j) n ns (ne_eqb n j e) in
        omega arith

below_total : (j : ℕ) (ns : List ℕ) → total (tabulate (λ i. equal i ns) j) ≡ below j ns
unfolding tabulate total
below_total zero ns = sym (none_counted (λ n. ltb n 0) ns (all_zero ns))
  where
    all_zero : (ns : List ℕ) → All (λ n. ltb n 0 ≡ false) ns
    all_zero [] = tt
    all_zero (n ∷ ns) = (le-ltb n 0 (omega arith), all_zero ns)
below_total (suc j) ns =
    total_suc (λ i. equal i ns) j ∙ ap (λ (m : ℕ). m + equal j ns) (below_total j ns) ∙ sym (below_next j ns)

-- numbers that follow g are g or more
follow_above : (g : ℕ) (hs : List ℕ) → numbers_follow g hs ≡ true → All (λ h. g ≤ h) hs
unfolding numbers_follow
follow_above g [] e = tt
follow_above g (h ∷ hs) e =
    let s : g ≤ h =
    ⊎_elim (λ p. let q = eqb-true h g p in omega arith) (λ p. let q = eqb-true h (suc g) p in omega arith)
    (or_cases (eqb h g) (eqb h (suc g)) (and_left (eqb h g || eqb h (suc g)) (numbers_follow h hs) e)) in (
      s,
      all_weaken (λ x. h ≤ x) (λ x. g ≤ x) (λ x q. omega arith) hs
          (follow_above h hs (and_right (eqb h g || eqb h (suc g)) (numbers_follow h hs) e)),
    )

-- so those that have the number j stand one after another, after those with smaller ones
in_a_row : {A : Type 0} (j g : ℕ) (ns : List ℕ) (ls : List A) → numbers_follow g ns ≡ true → length ns ≡ length ls
    → take (equal j ns) (drop (below j ns) ls) ≡ having j ns ls
unfolding having filter numbers_follow
in_a_row j g [] ls e s = refl
in_a_row j g (n ∷ ns) [] e s = absurd (omega arith)
in_a_row {A = A} j g (n ∷ ns) (l ∷ ls) e s =
    let f : numbers_follow n ns ≡ true = and_right (eqb n g || eqb n (suc g)) (numbers_follow n ns) e in
    go (dec_lt n j) (ℕ_discrete n j) (follow_above n ns f) (in_a_row j n ns ls f (omega arith))
  where
    choose : Bool → List A
    choose t = cond t (l ∷ having j ns ls) (having j ns ls)

    part : ℕ → ℕ → List A
    part e b = take e (drop b (l ∷ ls))

    go : Dec (n < j) → Dec (n ≡ j) → All (λ h. n ≤ h) ns → take (equal j ns) (drop (below j ns) ls) ≡ having j ns ls
        → part (equal j (n ∷ ns)) (below j (n ∷ ns)) ≡ choose (eqb n j)
    go (yes m) d a ih =
        ap₂ part (count_no (λ n. eqb n j) n ns (ne_eqb n j (λ e. omega arith))) (count_yes (λ n. ltb n j) n ns (lt-ltb n j m))
        ∙ ih
        ∙ sym (ap choose (ne_eqb n j (λ e. omega arith)))
    go (no m) (yes q) a ih =
        let z : below j ns ≡ 0 = none_counted (λ n. ltb n j) ns (all_weaken (λ h. n ≤ h) (λ h. ltb h j ≡ false) (λ h w. le-ltb h j (omega arith)) ns a) in
        ap₂ part (count_yes (λ n. eqb n j) n ns (eq-eqb n j q)) (count_no (λ n. ltb n j) n ns (le-ltb n j (omega arith)) ∙ z)
        ∙ ap (λ (xs : List A). l ∷ xs) (sym (ap (λ (b : ℕ). take (equal j ns) (drop b ls)) z) ∙ ih)
        ∙ sym (ap choose (eq-eqb n j q))
    go (no m) (no q) a ih =
        let z : equal j ns ≡ 0 = none_counted (λ n. eqb n j) ns (all_weaken (λ h. n ≤ h) (λ h. eqb h j ≡ false) (λ h w. ne_eqb h j (λ e. omega arith)) ns a) in
        ap (λ (e : ℕ). part e (below j (n ∷ ns))) (count_no (λ n. eqb n j) n ns (ne_eqb n j q) ∙ z)
        ∙ sym (ap (λ (e : ℕ). take e (drop (below j ns) ls)) z)
        ∙ ih
        ∙ sym (ap choose (ne_eqb n j q))

good_from : (ns : List ℕ) → group_numbers_good ns ≡ true → numbers_follow 0 ns ≡ true
unfolding group_numbers_good numbers_follow
good_from [] e = refl
good_from (g ∷ gs) e =
    and_both (eqb g 0 || eqb g 1) (numbers_follow g gs)
    (ap (λ (t : Bool). t || eqb g 1) (and_left (eqb g 0) (numbers_follow g gs) e))
    (and_right (eqb g 0) (numbers_follow g gs) e)

-- no number is as large as the groups are many
past_none : (ns : List ℕ) (j : ℕ) → maximum (map suc ns) ≤ j → equal j ns ≡ 0
unfolding maximum filter
past_none [] j l = refl
past_none (n ∷ ns) j l = count_no (λ n. eqb n j) n ns (ne_eqb n j (λ e. omega arith)) ∙ past_none ns j (omega arith)

module _ (c : Circuit) where
  -- group j, by its first lookup and how many it has
  group_part : (j : ℕ) → j < num_groups c
      → get_or (groups_of c) j [] ≡ take (equal j c.groups) (drop (below j c.groups) c.lookups)
  unfolding groups_of group_sizes num_groups
  group_part j l =
      let G : ℕ = num_groups_in c.groups in
      let sizes : List ℕ = tabulate (λ i. equal i c.groups) G in
      get_split sizes c.lookups j (let q = tabulate_length (λ i. equal i c.groups) G in omega arith)
      ∙ ap₂ (λ (n b : ℕ). take n (drop b c.lookups)) (get_tabulate (λ i. equal i c.groups) G j 0 l)
      (ap total (take_tabulate (λ i. equal i c.groups) j G (omega arith)) ∙ below_total j c.groups)

  -- it has as many as its number says, where there are as many numbers as lookups
  group_size : length c.groups ≡ num_lookups c → (j : ℕ) → j < num_groups c → length (get_or (groups_of c) j []) ≡ get_or (group_sizes c.groups) j 0
  unfolding groups_of num_groups
  group_size e j l =
      let sizes : List ℕ = group_sizes c.groups in
      ap length (get_split sizes c.lookups j (let q = sizes_length c.groups in omega arith))
      ∙ length-take (get_or sizes j 0) (drop (total (take j sizes)) c.lookups)
      ∙ (let q = length-drop (total (take j sizes)) c.lookups in
      let w = total_within sizes j in
      let t = sizes_total c.groups in
      omega arith)

  group_has : length c.groups ≡ num_lookups c → q18 c ≡ true → (j : ℕ) → j < num_groups c → 0 < length (get_or (groups_of c) j [])
  unfolding num_groups
  group_has e h j l =
      let p = all_get (λ n. 0 < n) (group_sizes c.groups) (sizes_some c.groups (numbers_good_is c h)) j 0 (let q = sizes_length c.groups in omega arith) in
      let s = group_size e j l in
      omega arith

  by_number : q18 c ≡ true → length c.groups ≡ num_lookups c → (j : ℕ) → get_or (groups_of c) j [] ≡ having j c.groups c.lookups
  unfolding num_groups num_groups_in
  by_number e s j = go (dec_lt j (num_groups c))
    where
      row : take (equal j c.groups) (drop (below j c.groups) c.lookups) ≡ having j c.groups c.lookups
      row = in_a_row j 0 c.groups c.lookups (good_from c.groups (numbers_good_is c e)) s

      go : Dec (j < num_groups c) → get_or (groups_of c) j [] ≡ having j c.groups c.lookups
      go (yes l) = group_part j l ∙ row
      go (no n) =
          get_none (groups_of c) j [] (let q = groups_length c in omega arith)
          ∙ sym (ap (λ (m : ℕ). take m (drop (below j c.groups) c.lookups)) (past_none c.groups j (omega arith)))
          ∙ row

pub groups_by_number : GroupsByNumber
groups_by_number c e s j = by_number c e s j ∙ sym (at_places j [] c.groups c.lookups s)

-- of words, where questions 1 to 11 are yes
module _ (ws : List ℕ) (y : Yes ws) where
  as_many : length (circuit_of ws).groups ≡ num_lookups (circuit_of ws)
  unfolding circuit_of
  as_many =
      numbers_many ws y.laid
      ∙ sym (split_length (body_of ws Section.widths) (tabulate (pair_at (body_of ws Section.nodes) (body_of ws Section.pairs)) (entries ws Section.pairs)))

  pub group_lookups : (j : ℕ) → j < num_groups (circuit_of ws) → length (get_or (groups_of (circuit_of ws)) j []) ≡ get_or (group_sizes (circuit_of ws).groups) j 0
  group_lookups j l = group_size (circuit_of ws) as_many j l

  pub groups_have : (j : ℕ) → j < num_groups (circuit_of ws) → 0 < length (get_or (groups_of (circuit_of ws)) j [])
  groups_have j l = group_has (circuit_of ws) as_many y.eighteen j l

-- ---- the tables of a group are one
pub tables_agree : TablesAgree
unfolding table_at group_table
tables_agree 𝓕 g e j l i m b = ap (λ (es : List Expr). compressed_at 𝓕 g es b) (one_table g.circuit e j l i m)

-- ---- a group of one
pub group_of_one : GroupOfOne
unfolding group_with group_tree numerator_tree product_from
group_of_one =
    record {
      is_one = λ 𝓕 rows input table.
          record {
            m = one_multiplicity 𝓕 input table rows;
            fifteen = one_covered 𝓕 input table rows;
            h = one_h 𝓕 input table;
            denominators = one_denominators 𝓕 input table rows;
          };
      tree = λ user m h l. refl;
    }
