-- The first no, question by question.
use mathlib.Core.Path.{◌≡◌, refl, sym, ap, ap₂, ◌∙◌}
use mathlib.Core.Bool.{Bool, true, false, not}
use mathlib.Core.List.{List, ◌++◌, map}
use Prim.Native.Nat.{ℕ, suc, ◌-◌, ◌*◌, ◌/◌, ◌^◌, ◌≤◌, min}
use native.Mathlib.Nat.{mul-div_cancel}
use native.Mathlib.Omega.{arith}
use lib.ListN.{length, get_or, drop}
use borrow.Author.Tests.{not-true, not-false}
use Rattle.lists.specs.Lists.{all_of, tabulate, total, split, first_no}
use Rattle.lists.proofs.Tests.{and_left}
use Rattle.lists.proofs.First.{first_none, first_next, first_number_is, first_yes, first_append, first_refused}
use Rattle.expression.specs.Nodes.{expr_of}
use Rattle.backend.specs.Circuit.{Section, word_k, entries, body_of, pairs_of, cell_at, cells_of, stated_of, circuit_of, num_poly, num_challenges, group_sizes, groups_of}
use Rattle.backend.specs.Layout.{laid_out, nodes_in_range}
use Rattle.backend.specs.Questions.{q1, q2, q3, q4, q3_bodies, q4_bodies, q5, q6, q7, q8, q9, group_numbers_good, tables_alike, q18, q10, cycles_good, q11, layout_questions, body_questions, circuit_questions}
use Rattle.backend.specs.Degrees.{degree_of, groups_degree, degrees_fit}
use Rattle.backend.specs.Laid.{ContentsValid, BodiesValid}
use Rattle.backend.proofs.Sections.{body_length, laid}
use Rattle.backend.proofs.Numbers.{counted}
use Rattle.backend.proofs.Degree.{ten_is}

-- an answer told from its negation
pub says_no : (r q : Bool) → r ≡ q → not r ≡ true → q ≡ false
says_no r q e h = sym e ∙ not-true r h

pub says_yes : (r q : Bool) → r ≡ q → not r ≡ false → q ≡ true
says_yes r q e h = sym e ∙ not-false r h

module _ (ws : List ℕ) where
  pub no_1 : q1 ws ≡ false → 1 ≡ first_no layout_questions ws
  no_1 h = sym (first_number_is _ _ ws h)

  module _ (a : q1 ws ≡ true) where
    pub no_2 : q2 ws ≡ false → 2 ≡ first_no layout_questions ws
    no_2 h = sym (first_next _ _ ws a ∙ first_number_is _ _ ws h)

    module _ (b : q2 ws ≡ true) where
      pub no_3 : q3 ws ≡ false → 3 ≡ first_no layout_questions ws
      no_3 h = sym (first_next _ _ ws a ∙ first_next _ _ ws b ∙ first_number_is _ _ ws h)

      module _ (c : q3 ws ≡ true) where
        pub no_4 : q4 ws ≡ false → 4 ≡ first_no layout_questions ws
        no_4 h = sym (first_next _ _ ws a ∙ first_next _ _ ws b ∙ first_next _ _ ws c ∙ first_number_is _ _ ws h)

        module _ (d : q4 ws ≡ true) where
          pub no_3_bodies : q3_bodies ws ≡ false → 3 ≡ first_no layout_questions ws
          no_3_bodies h =
              sym (first_next _ _ ws a ∙ first_next _ _ ws b ∙ first_next _ _ ws c ∙ first_next _ _ ws d ∙ first_number_is _ _ ws h)

          module _ (e : q3_bodies ws ≡ true) where
            pub no_4_bodies : q4_bodies ws ≡ false → 4 ≡ first_no layout_questions ws
            no_4_bodies h =
                sym
                (first_next _ _ ws a ∙ first_next _ _ ws b ∙ first_next _ _ ws c ∙ first_next _ _ ws d ∙ first_next _ _ ws e
                ∙ first_number_is _ _ ws h)

            pub no_none : q4_bodies ws ≡ true → 0 ≡ first_no layout_questions ws
            no_none h =
                sym
                (first_next _ _ ws a ∙ first_next _ _ ws b ∙ first_next _ _ ws c ∙ first_next _ _ ws d ∙ first_next _ _ ws e
                ∙ first_next _ _ ws h
                ∙ first_none ws)

-- what none tells
pub all_laid : (ws : List ℕ) → first_no layout_questions ws ≡ 0 → ContentsValid ws × BodiesValid ws
all_laid ws h =
    let a = first_yes _ _ ws 0 refl h in
    let b = first_yes _ _ ws 1 refl a.1 in
    let c = first_yes _ _ ws 2 refl b.1 in
    let d = first_yes _ _ ws 3 refl c.1 in
    let e = first_yes _ _ ws 2 refl d.1 in
    let f = first_yes _ _ ws 3 refl e.1 in
    (laid ws a.0 b.0 c.0 d.0, counted ws e.0 f.0)

-- ---- 7, 8 and 11

pub seven : (ws n c p : List ℕ) → n ≡ body_of ws Section.nodes → c ≡ body_of ws Section.constraints → p ≡ body_of ws Section.pairs → (r : Bool)
    → r ≡ laid_out n (c ++ p) → r ≡ q7 (circuit_of ws)
unfolding q7 circuit_of
seven ws n c p a b d r e = e ∙ ap₂ laid_out a (ap₂ ◌++◌ b d)

pub eight : (ws n : List ℕ) → n ≡ body_of ws Section.nodes → (polys user k : ℕ) (r : Bool) → polys ≡ num_poly (circuit_of ws) → user ≡ num_challenges (circuit_of ws)
    → k ≡ word_k ws → r ≡ nodes_in_range polys user k n → r ≡ q8 (circuit_of ws)
unfolding q8 circuit_of
eight ws n a polys user k r p u h e = rw (sym p, sym u, sym a, sym h) e

cell_count : (ws : List ℕ) → ContentsValid ws → length (body_of ws Section.cells) / 2 ≡ entries ws Section.cells
cell_count ws a = ap (λ (n : ℕ). n / 2) (body_length ws a Section.cells) ∙ mul-div_cancel (entries ws Section.cells) (omega arith)

-- the cells are as many as the lengths sum to
pub cells_enough : (ws l c : List ℕ) → ContentsValid ws → BodiesValid ws → l ≡ body_of ws Section.lengths → c ≡ body_of ws Section.cells → total l ≡ length c / 2
cells_enough ws l c a k p q = ap total p ∙ sym k.cells_are ∙ sym (ap (λ (ns : List ℕ). length ns / 2) q ∙ cell_count ws a)

pub eleven : (ws l c : List ℕ) → ContentsValid ws → l ≡ body_of ws Section.lengths → c ≡ body_of ws Section.cells → (polys rows : ℕ) (r : Bool)
    → polys ≡ num_poly (circuit_of ws) → rows ≡ 2 ^ word_k ws → r ≡ cycles_good polys rows (split l (cells_of c)) → r ≡ q11 (circuit_of ws)
unfolding q11 circuit_of
eleven ws l c a p q polys rows r m n e =
    e ∙ ap₂ (λ (lengths : List ℕ) (cells : List ℕ). cycles_good polys rows (split lengths (cells_of cells))) p q
    ∙ ap₂ (λ (polys : ℕ) (rows : ℕ). cycles_good polys rows (split (body_of ws Section.lengths) (cells_of (body_of ws Section.cells)))) m n
    ∙ ap (λ (n : ℕ). cycles_good (num_poly (circuit_of ws)) (2 ^ word_k ws) (split (body_of ws Section.lengths) (tabulate (cell_at (body_of ws Section.cells)) n)))
    (cell_count ws a)

-- ---- 10

pair_count : (ws : List ℕ) → ContentsValid ws → length (body_of ws Section.pairs) / 2 ≡ entries ws Section.pairs
pair_count ws a = ap (λ (n : ℕ). n / 2) (body_length ws a Section.pairs) ∙ mul-div_cancel (entries ws Section.pairs) (omega arith)

-- the pairs are as many as the widths sum to
pub pairs_enough : (ws w p : List ℕ) → ContentsValid ws → BodiesValid ws → w ≡ body_of ws Section.widths → p ≡ body_of ws Section.pairs → total w ≡ length p / 2
pairs_enough ws w p a k d e = ap total d ∙ sym k.pairs_are ∙ sym (ap (λ (ns : List ℕ). length ns / 2) e ∙ pair_count ws a)

-- the degrees, of the sections' expressions
pub user_degree_of : (ws n c : List ℕ) → n ≡ body_of ws Section.nodes → c ≡ body_of ws Section.constraints → (u : ℕ)
    → u ≡ min 1025 (degree_of (map (expr_of n) c)) → u ≡ min 1025 (degree_of (circuit_of ws).constraints)
unfolding circuit_of
user_degree_of ws n c x y u e = e ∙ rw (x, y)

pub groups_degree_of : (ws n w p g : List ℕ) → ContentsValid ws → n ≡ body_of ws Section.nodes → w ≡ body_of ws Section.widths → p ≡ body_of ws Section.pairs
    → g ≡ group_sizes (circuit_of ws).groups
    → (u : ℕ)
    → u ≡ min 1025 (groups_degree (split g (split w (pairs_of n p))))
    → u ≡ min 1025 (groups_degree (groups_of (circuit_of ws)))
unfolding groups_of circuit_of
groups_degree_of ws n w p g a x z q s u e = e ∙ rw (s, x, z, q, pair_count ws a)

pub ten : (ws : List ℕ) (s : ℕ) → s ≡ get_or ws 1 0 → (r : Bool) → r ≡ degrees_fit (stated_of s) (circuit_of ws).constraints (groups_of (circuit_of ws)) → r ≡ q10 (circuit_of ws)
unfolding circuit_of
ten ws s t r e = e ∙ rw t (sym (ten_is (circuit_of ws)))

-- ---- the groups, where 18 is yes
pub groups_read : (ws : List ℕ) → body_of ws Section.groups ≡ (circuit_of ws).groups
unfolding circuit_of
groups_read ws = refl

module _ (ws : List ℕ) (a : ContentsValid ws) where
  pub numbers_many : length (body_of ws Section.groups) ≡ length (body_of ws Section.widths)
  numbers_many = body_length ws a Section.groups ∙ ap (λ (n : ℕ). n * 1) a.groups_are ∙ sym (body_length ws a Section.widths)

  pub numbers_few : length (body_of ws Section.groups) ≤ 8
  numbers_few = let q = body_length ws a Section.groups in let e = a.groups_are in let f = a.few_widths in omega arith

  module _ (e : q18 (circuit_of ws) ≡ true) where
    pub numbers_good_is : group_numbers_good (body_of ws Section.groups) ≡ true
    unfolding q18 circuit_of
    numbers_good_is = and_left (group_numbers_good (body_of ws Section.groups)) (all_of tables_alike (groups_of (circuit_of ws))) e

-- ---- 5 to 11, in their order

module _ (ws : List ℕ) where
  pub no_5 : q5 (circuit_of ws) ≡ false → 5 ≡ first_no body_questions ws
  no_5 h = sym (first_number_is _ _ ws h)

  module _ (a : q5 (circuit_of ws) ≡ true) where
    pub no_6 : q6 (circuit_of ws) ≡ false → 6 ≡ first_no body_questions ws
    no_6 h = sym (first_next _ _ ws a ∙ first_number_is _ _ ws h)

    module _ (b : q6 (circuit_of ws) ≡ true) where
      pub no_7 : q7 (circuit_of ws) ≡ false → 7 ≡ first_no body_questions ws
      no_7 h = sym (first_next _ _ ws a ∙ first_next _ _ ws b ∙ first_number_is _ _ ws h)

      module _ (c : q7 (circuit_of ws) ≡ true) where
        to_8 : first_no body_questions ws ≡ first_no (drop 3 body_questions) ws
        to_8 = first_next _ _ ws a ∙ first_next _ _ ws b ∙ first_next _ _ ws c

        pub no_8 : q8 (circuit_of ws) ≡ false → 8 ≡ first_no body_questions ws
        no_8 h = sym (to_8 ∙ first_number_is _ _ ws h)

        module _ (d : q8 (circuit_of ws) ≡ true) where
          pub no_9 : q9 (circuit_of ws) ≡ false → 9 ≡ first_no body_questions ws
          no_9 h = sym (to_8 ∙ first_next _ _ ws d ∙ first_number_is _ _ ws h)

          module _ (e : q9 (circuit_of ws) ≡ true) where
            to_18 : first_no body_questions ws ≡ first_no (drop 5 body_questions) ws
            to_18 = to_8 ∙ first_next _ _ ws d ∙ first_next _ _ ws e

            pub no_18 : q18 (circuit_of ws) ≡ false → 18 ≡ first_no body_questions ws
            no_18 h = sym (to_18 ∙ first_number_is _ _ ws h)

            module _ (g : q18 (circuit_of ws) ≡ true) where
              pub no_10 : q10 (circuit_of ws) ≡ false → 10 ≡ first_no body_questions ws
              no_10 h = sym (to_18 ∙ first_next _ _ ws g ∙ first_number_is _ _ ws h)

              module _ (f : q10 (circuit_of ws) ≡ true) where
                pub no_11 : q11 (circuit_of ws) ≡ false → 11 ≡ first_no body_questions ws
                no_11 h = sym (to_18 ∙ first_next _ _ ws g ∙ first_next _ _ ws f ∙ first_number_is _ _ ws h)

                pub no_more : q11 (circuit_of ws) ≡ true → 0 ≡ first_no body_questions ws
                no_more h = sym (to_18 ∙ first_next _ _ ws g ∙ first_next _ _ ws f ∙ first_next _ _ ws h ∙ first_none ws)

-- ---- all

pub refused_at : (ws : List ℕ) (r : ℕ) → r ≡ first_no layout_questions ws → (r ≡ 0 → ⊥) → r ≡ first_no circuit_questions ws
unfolding circuit_questions
refused_at ws r e h =
    let s : r ≡ suc (r - 1) = omega arith in
    s ∙ sym (first_refused layout_questions body_questions ws (r - 1) (sym e ∙ s))

pub then_body : (ws : List ℕ) (n r : ℕ) → n ≡ first_no layout_questions ws → n ≡ 0 → r ≡ first_no body_questions ws → r ≡ first_no circuit_questions ws
unfolding circuit_questions
then_body ws n r e z h =
    h
    ∙ sym (first_append layout_questions body_questions ws (sym e ∙ z) (omega arith, (omega arith, (omega arith, (omega arith, (omega arith, (omega arith, tt)))))))
