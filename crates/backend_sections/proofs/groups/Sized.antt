-- The sizes of the groups of the first i lookups.
use mathlib.Core.Path.{◌≡◌, refl, sym, ap, ap₂, ◌∙◌}
use mathlib.Core.Bool.{Bool, true, cond}
use mathlib.Core.List.{List, [], ◌∷◌, map, map-append}
use Prim.Native.Nat.{ℕ, zero, suc, ◌+◌, ◌≤◌, ◌<◌, max}
use native.Mathlib.Numerals.{add-one}
use native.Mathlib.Decide.{ℕ_discrete}
use native.Mathlib.Omega.{arith}
use lib.Dec.{eqb}
use lib.ListN.{length, get_or, take, set, replicate, length-set, length-replicate, length-take}
use lib.Seq.{take-suc, take_all, get_or-set_same, get_or-set_other}
use borrow.Author.Tests.{eq-eqb, ne_eqb}
use Rattle.lists.specs.Lists.{tabulate, count_of, filter, maximum}
use Rattle.lists.proofs.Columns.{tabulate_cong, tabulate_take}
use Rattle.lists.proofs.Searches.{count_more, count_le}
use Rattle.lists.proofs.Totals.{maximum_append}
use Rattle.lists.proofs.All.{all_get}
use Rattle.backend.specs.Circuit.{num_groups_in, group_sizes}
use Rattle.backend.specs.Questions.{group_numbers_good}
use Rattle.backend.proofs.Groups.{groups_few, numbers_below}

pub record Sized (ns of : List ℕ) (count i : ℕ) : Type 0 where
  pub upto : i ≤ length ns
  pub many : length of ≡ 8
  pub each : (j : ℕ) → j < 8 → get_or of j 0 ≡ count_of (λ g. eqb g j) (take i ns)
  pub count_is : count ≡ num_groups_in (take i ns)

none_there : (n j : ℕ) → ◌≡◌ {A = ℕ} (get_or (replicate n 0) j 0) 0
none_there zero j = refl
none_there (suc n) zero = refl
none_there (suc n) (suc j) = none_there n j

pub sized_none : (ns of : List ℕ) → of ≡ replicate 8 0 → Sized ns of 0 0
unfolding num_groups_in maximum filter
sized_none ns of e =
    record {
      upto = omega arith;
      many = ap length e ∙ length-replicate {A = ℕ} 8 0;
      each = λ j l. ap (λ (xs : List ℕ). get_or xs j 0) e ∙ none_there 8 j;
      count_is = refl;
    }

groups_more : (ns : List ℕ) (i : ℕ) → i < length ns → num_groups_in (take (i + 1) ns) ≡ max (num_groups_in (take i ns)) (get_or ns i 0 + 1)
unfolding num_groups_in maximum
groups_more ns i l =
    ap (λ (n : ℕ). maximum (map suc (take n ns))) (add-one i)
    ∙ ap (λ (xs : List ℕ). maximum (map suc xs)) (take-suc ns i 0 l)
    ∙ ap maximum (map-append suc (take i ns) (get_or ns i 0 ∷ []))
    ∙ maximum_append (map suc (take i ns)) (suc (get_or ns i 0) ∷ [])
    ∙ (let q : max (suc (get_or ns i 0)) 0 ≡ get_or ns i 0 + 1 = omega arith in ap (max (maximum (map suc (take i ns)))) q)

module _ (ns : List ℕ) (good : group_numbers_good ns ≡ true) (few : length ns ≤ 8) where
  pub number_low : (i : ℕ) → i < length ns → get_or ns i 0 < 8
  number_low i l = let q = all_get (λ g. g < length ns) ns (numbers_below ns good) i 0 l in omega arith

  module _ (of : List ℕ) (count i : ℕ) (v : Sized ns of count i) (l : i < length ns) where
    pub sized_low : get_or of (get_or ns i 0) 0 ≤ 8
    sized_low =
        let q = v.each (get_or ns i 0) (number_low i l) in
        let r = count_le (λ g. eqb g (get_or ns i 0)) (take i ns) in
        let s = length-take i ns in
        omega arith

    pub sized_more : (n : ℕ) → n ≡ max count (get_or ns i 0 + 1) → Sized ns (set of (get_or ns i 0) (get_or of (get_or ns i 0) 0 + 1)) n (i + 1)
    sized_more n e =
        record {
          upto = omega arith;
          many = length-set of g (get_or of g 0 + 1) ∙ v.many;
          each = each;
          count_is = e ∙ ap (λ (m : ℕ). max m (g + 1)) v.count_is ∙ sym (groups_more ns i l);
        }
      where
        g : ℕ
        g = get_or ns i 0

        each : (j : ℕ) → j < 8 → get_or (set of g (get_or of g 0 + 1)) j 0 ≡ count_of (λ x. eqb x j) (take (i + 1) ns)
        each j h = go (ℕ_discrete j g)
          where
            go : Dec (j ≡ g) → get_or (set of g (get_or of g 0 + 1)) j 0 ≡ count_of (λ x. eqb x j) (take (i + 1) ns)
            go (yes p) =
                ap (λ (k : ℕ). get_or (set of g (get_or of g 0 + 1)) k 0) p
                ∙ get_or-set_same of g (get_or of g 0 + 1) 0 (let q = v.many in let r = number_low i l in omega arith)
                ∙ ap (λ (k : ℕ). get_or of k 0 + 1) (sym p)
                ∙ ap₂ ◌+◌ (v.each j h) (ap (λ (t : Bool). cond t 1 0) (sym (eq-eqb g j (sym p))))
                ∙ sym (count_more (λ x. eqb x j) 0 ns i l)
            go (no p) =
                get_or-set_other of g j (get_or of g 0 + 1) 0 p
                ∙ v.each j h
                ∙ sym (count_more (λ x. eqb x j) 0 ns i l ∙ ap (λ (t : Bool). count_of (λ x. eqb x j) (take i ns) + cond t 1 0) (ne_eqb g j (λ q. p (sym q))) ∙ omega arith)

  pub sized_all : (of : List ℕ) (count i : ℕ) → Sized ns of count i → length ns ≤ i
      → (count ≤ 8) × (length of ≡ 8) × (count ≡ num_groups_in ns) × (take count of ≡ group_sizes ns)
  unfolding group_sizes
  sized_all of count i v h =
      let u = v.upto in
      let whole : take i ns ≡ ns = take_all i ns h in
      let c : count ≡ num_groups_in ns = v.count_is ∙ ap num_groups_in whole in
      let f = groups_few ns good in
      let m = v.many in (
        omega arith,
        m,
        c,
        sym (tabulate_take of 0 count (omega arith))
            ∙ tabulate_cong (λ j. get_or of j 0) (λ j. count_of (λ g. eqb g j) ns) count
            (λ j l. v.each j (omega arith) ∙ ap (λ (xs : List ℕ). count_of (λ g. eqb g j) xs) whole)
            ∙ ap (tabulate (λ j. count_of (λ g. eqb g j) ns)) c,
      )
