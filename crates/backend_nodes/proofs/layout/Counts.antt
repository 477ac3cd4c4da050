-- Names counted in one place a node, name by name.
use mathlib.Core.Path.{◌≡◌, refl, sym, ap, ◌∙◌}
use mathlib.Core.Bool.{Bool, true, false, cond}
use mathlib.Core.List.{List, [], ◌∷◌, ◌++◌, map, map-append}
use Prim.Native.Nat.{ℕ, zero, suc, ◌+◌, ◌*◌, ◌≤◌, ◌<◌, ◌^◌}
use native.Mathlib.Nat.{add-zero}
use native.Mathlib.Numerals.{add-one}
use native.Mathlib.Decide.{ℕ_discrete}
use native.Mathlib.Omega.{arith}
use lib.Dec.{eqb}
use lib.ListN.{length, get_or, take, set, replicate, length-map, length-set, length-replicate, get_or-replicate}
use lib.Seq.{take_all, take-suc, length-take-le, get_or-set_same, get_or-set_other}
use borrow.Author.Tests.{eq-eqb, ne_eqb}
use Rattle.lists.specs.Lists.{tabulate, filter, count_of, concat}
use Rattle.lists.proofs.Tests.{count_append, count_one}
use Rattle.lists.proofs.Searches.{count_joined, count_le}
use Rattle.expression.specs.Nodes.{Kind, kind_of, word_of}
use Rattle.backend.specs.Layout.{Name, plain, as_item, named, by_words, names, is_name, node_count}
use Rattle.backend_nodes.specs.Tally.{Room, Tally}
use Rattle.backend_nodes.proofs.layout.Nodes.{by_kind}

-- ---- one name, none, and some after others
one_name : (i n : ℕ) → count_of (is_name i) (plain n ∷ []) ≡ cond (eqb n i) 1 0
one_name i n = count_one (is_name i) (plain n)

pub tally_name : (counts : List ℕ) (n : ℕ) → length counts ≡ 1024 → n < 1024 → Tally counts (plain n ∷ []) (set counts n (get_or counts n 0 + 1))
tally_name counts n s l = record { places = length-set counts n (get_or counts n 0 + 1); each = λ i m. go i (ℕ_discrete i n) }
  where
    go : (i : ℕ) → Dec (i ≡ n) → get_or (set counts n (get_or counts n 0 + 1)) i 0 ≡ get_or counts i 0 + count_of (is_name i) (plain n ∷ [])
    go i (yes e) =
        ap (λ (j : ℕ). get_or (set counts n (get_or counts n 0 + 1)) j 0) e ∙ get_or-set_same counts n (get_or counts n 0 + 1) 0 (omega arith)
        ∙ ap (λ (j : ℕ). get_or counts j 0 + 1) (sym e)
        ∙ ap (λ (k : ℕ). get_or counts i 0 + k) (sym (one_name i n ∙ ap (λ (t : Bool). cond {A = ℕ} t 1 0) (eq-eqb n i (sym e))))
    go i (no ne) =
        get_or-set_other counts n i (get_or counts n 0 + 1) 0 ne ∙ sym (add-zero (get_or counts i 0))
        ∙ ap (λ (k : ℕ). get_or counts i 0 + k) (sym (one_name i n ∙ ap (λ (t : Bool). cond {A = ℕ} t 1 0) (ne_eqb n i (λ e. ne (sym e)))))

pub tally_past : (counts : List ℕ) (n : ℕ) → 1024 ≤ n → Tally counts (plain n ∷ []) counts
tally_past counts n l =
    record {
      places = refl;
      each = λ i m.
          sym (add-zero (get_or counts i 0))
          ∙ ap (λ (k : ℕ). get_or counts i 0 + k) (sym (one_name i n ∙ ap (λ (t : Bool). cond {A = ℕ} t 1 0) (ne_eqb n i (λ e. omega arith))));
    }

pub tally_none : (counts : List ℕ) → Tally counts [] counts
unfolding filter
tally_none counts = record { places = refl; each = λ i l. sym (add-zero (get_or counts i 0)) }

-- the names are these
pub tally_is : (a b : List ℕ) (xs ys : List Name) → Tally a xs b → xs ≡ ys → Tally a ys b
tally_is a b xs ys h e =
    record { places = h.places; each = λ i l. h.each i l ∙ ap (λ (zs : List Name). get_or a i 0 + count_of (is_name i) zs) e }

-- a name as an Item counts as any
pub tally_item : (a b : List ℕ) (n : ℕ) → Tally a (plain n ∷ []) b → Tally a (as_item n ∷ []) b
tally_item a b n h =
    record {
      places = h.places;
      each = λ i l.
          h.each i l ∙ ap (λ (k : ℕ). get_or a i 0 + k) (count_one (is_name i) (plain n) ∙ sym (count_one (is_name i) (as_item n)));
    }

pub tally_both : (a b c : List ℕ) (xs ys : List Name) → Tally a xs b → Tally b ys c → Tally a (xs ++ ys) c
tally_both a b c xs ys h k =
    record {
      places = k.places ∙ h.places;
      each = λ i l. (let e = h.each i l in let f = k.each i l in let g = count_append (is_name i) xs ys in omega arith);
    }

-- the room that is left
pub room_after : (a b : List ℕ) (xs : List Name) (n m : ℕ) → Room a n → Tally a xs b → length xs + m ≤ n → Room b m
room_after a b xs n m r h l =
    record {
      places = h.places ∙ r.places;
      each = λ i k. (let e = h.each i k in let f = r.each i k in let g = count_le (is_name i) xs in omega arith);
    }

pub room_less : (a : List ℕ) (n m : ℕ) → Room a n → m ≤ n → Room a m
room_less a n m r l = record { places = r.places; each = λ i k. (let f = r.each i k in omega arith) }

-- a node names two at most
two_at_most : (k : Kind) (a b v : ℕ) → length (named k a b v) ≤ 2
two_at_most Kind.is_constant a b v = omega arith
two_at_most Kind.is_identity a b v = omega arith
two_at_most Kind.is_lagrange a b v = omega arith
two_at_most Kind.is_eq_xy a b v = omega arith
two_at_most Kind.is_polynomial a b v = omega arith
two_at_most Kind.is_challenge a b v = omega arith
two_at_most Kind.is_negated a b v = omega arith
two_at_most Kind.is_sum a b v = omega arith
two_at_most Kind.is_product a b v = omega arith
two_at_most Kind.is_scaled a b v = omega arith
two_at_most Kind.is_powers a b v = omega arith
two_at_most Kind.is_item a b v = go (eqb v 0)
  where
    go : (t : Bool) → length (plain a ∷ cond t [] (as_item b ∷ [])) ≤ 2
    go true = omega arith
    go false = omega arith
two_at_most Kind.is_none a b v = omega arith

-- the names of a node whose kind is known
module _ (kind first second value : ℕ) (a b : List ℕ) where
  pub tally_kind : (k : ℕ) (xs : List Name) → kind ≡ k → named (kind_of k) first second value ≡ xs → Tally a xs b
      → Tally a (named (kind_of kind) first second value) b
  tally_kind k xs e f h =
      tally_is a b xs (named (kind_of kind) first second value) h (sym (ap (λ (w : ℕ). named (kind_of w) first second value) e ∙ f))

-- ---- the nodes, one after another
module _ (nodes : List ℕ) where
  abbrev pub joined : ℕ → List Name
  joined m = concat (tabulate (by_words named nodes) m)

  joined_few : (i m : ℕ) → count_of (is_name i) (joined m) ≤ m * 2
  unfolding tabulate concat filter
  joined_few i zero = omega arith
  joined_few i (suc m) =
      let f = joined_few i m in
      let e : count_of (is_name i) (joined (suc m)) ≡ count_of (is_name i) (joined m) + count_of (is_name i) (by_words named nodes m) =
      ap (λ (n : ℕ). count_of (is_name i) (joined n)) (sym (add-one m)) ∙ count_joined (is_name i) (by_words named nodes) m in
      let g = count_le (is_name i) (by_words named nodes m) in
      let t : length (by_words named nodes m) ≤ 2 = two_at_most (kind_of (word_of nodes m 0)) (word_of nodes m 1) (word_of nodes m 2) (word_of nodes m 3) in
      omega arith

  joined_room : (a b : List ℕ) (m n k : ℕ) → Room a n → Tally a (joined m) b → m * 2 + k ≤ n → Room b k
  joined_room a b m n k r h l =
      record {
        places = h.places ∙ r.places;
        each = λ i j. (let e = h.each i j in let f = r.each i j in let g = joined_few i m in omega arith);
      }

  -- the names of the first m nodes are counted
  pub record Noded (before after : List ℕ) (m : ℕ) : Type 0 where
    pub upto : m ≤ node_count nodes
    pub tally : Tally before (joined m) after

  pub noded_none : (before : List ℕ) → Noded before before 0
  unfolding tabulate concat
  noded_none before = record { upto = omega arith; tally = tally_none before }

  module _ (before now : List ℕ) (m : ℕ) (v : Noded before now m) (l : m < node_count nodes) where
    pub noded_room : Room before (node_count nodes * 2) → Room now 2
    noded_room r = joined_room before now m (node_count nodes * 2) 2 r v.tally (omega arith)

    pub noded_more : (after : List ℕ)
        → Tally now (named (kind_of (get_or nodes (m * 4) 0)) (get_or nodes (m * 4 + 1) 0) (get_or nodes (m * 4 + 2) 0) (get_or nodes (m * 4 + 3) 0)) after
        → Noded before after (m + 1)
    noded_more after h =
        record {
          upto = omega arith;
          tally =
              record {
                places = h.places ∙ v.tally.places;
                each = λ i k.
                    (let e = v.tally.each i k in
                    let f = (tally_is now after _ (by_words named nodes m) h (by_kind nodes m named (get_or nodes (m * 4) 0) refl)).each i k in
                    let g = count_joined (is_name i) (by_words named nodes) m in
                    omega arith);
              };
        }

  pub noded_all : (before after : List ℕ) (m : ℕ) → Noded before after m → node_count nodes ≤ m → Tally before (joined (node_count nodes)) after
  noded_all before after m v l =
      tally_is before after (joined m) (joined (node_count nodes)) v.tally (ap joined (let u = v.upto in let e : m ≡ node_count nodes = omega arith in e))

-- ---- the roots, one after another
module _ (roots : List ℕ) where
  -- the first i roots are counted
  pub record Rooted (before after : List ℕ) (i : ℕ) : Type 0 where
    pub upto : i ≤ length roots
    pub tally : Tally before (map plain (take i roots)) after

  pub rooted_none : (before : List ℕ) → Rooted before before 0
  rooted_none before = record { upto = omega arith; tally = tally_none before }

  module _ (before now : List ℕ) (i : ℕ) (v : Rooted before now i) (l : i < length roots) where
    pub rooted_room : Room before (length roots) → Room now 1
    rooted_room r =
        room_after before now (map plain (take i roots)) (length roots) 1 r v.tally
        (let e : length (map plain (take i roots)) ≡ i = length-map (take i roots) plain ∙ length-take-le i roots (omega arith) in omega arith)

    pub rooted_more : (after : List ℕ) → Tally now (plain (get_or roots i 0) ∷ []) after → Rooted before after (i + 1)
    rooted_more after h =
        record {
          upto = omega arith;
          tally =
              tally_is before after (map plain (take i roots) ++ (plain (get_or roots i 0) ∷ [])) (map plain (take (i + 1) roots))
              (tally_both before now after (map plain (take i roots)) (plain (get_or roots i 0) ∷ []) v.tally h)
              (sym
              (ap (λ (n : ℕ). map plain (take n roots)) (add-one i) ∙ ap (map plain) (take-suc roots i 0 l)
              ∙ map-append plain (take i roots) (get_or roots i 0 ∷ [])));
        }

  pub rooted_all : (before after : List ℕ) (i : ℕ) → Rooted before after i → length roots ≤ i → Tally before (map plain roots) after
  rooted_all before after i v l =
      tally_is before after (map plain (take i roots)) (map plain roots) v.tally (ap (map plain) (take_all i roots l))

-- ---- all, from nothing
module _ (nodes xs ys : List ℕ) (few : node_count nodes ≤ 1024) (short : length xs + length ys < 2 ^ 63) (none : List ℕ) (z : none ≡ replicate 1024 0) where
  nothing : (i : ℕ) → i < 1024 → get_or none i 0 ≡ 0
  nothing i l = ap (λ (ns : List ℕ). get_or ns i 0) z ∙ get_or-replicate {A = ℕ} 1024 i 0 0 l

  room_none : (n : ℕ) → n < 2 ^ 64 → Room none n
  room_none n l =
      record {
        places = ap length z ∙ length-replicate {A = ℕ} 1024 0;
        each = λ i k. (let e = nothing i k in omega arith);
      }

  pub room_nodes : Room none (node_count nodes * 2)
  room_nodes = room_none (node_count nodes * 2) (omega arith)

  module _ (a : List ℕ) (p : Tally none (joined nodes (node_count nodes)) a) where
    room_roots : Room a (length xs + length ys)
    room_roots =
        joined_room nodes none a (node_count nodes) (2048 + (length xs + length ys)) (length xs + length ys) (room_none (2048 + (length xs + length ys)) (omega arith)) p
        (omega arith)

    pub room_first : Room a (length xs)
    room_first = room_less a (length xs + length ys) (length xs) room_roots (omega arith)

    module _ (b : List ℕ) (q : Tally a (map plain xs) b) where
      pub room_second : Room b (length ys)
      room_second =
          room_after a b (map plain xs) (length xs + length ys) (length ys) room_roots q (let e = length-map xs plain in omega arith)

      pub all_counted : (c : List ℕ) → Tally b (map plain ys) c → (i : ℕ) → i < 1024 → get_or c i 0 ≡ count_of (is_name i) (names nodes (xs ++ ys))
      unfolding names
      all_counted c r i l =
          let e = nothing i l in
          let f = p.each i l in
          let g = q.each i l in
          let h = r.each i l in
          let s = count_append (is_name i) (joined nodes (node_count nodes)) (map plain (xs ++ ys)) in
          let t : count_of (is_name i) (map plain (xs ++ ys)) ≡ count_of (is_name i) (map plain xs) + count_of (is_name i) (map plain ys) =
          ap (λ (zs : List Name). count_of (is_name i) zs) (map-append plain xs ys) ∙ count_append (is_name i) (map plain xs) (map plain ys) in
          omega arith
