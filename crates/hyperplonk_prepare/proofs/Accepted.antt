-- What questions 1 to 11 and 18 tell, in the words that the functions ask for.
use mathlib.Core.Path.{◌≡◌, refl, sym, ap, ◌∙◌, subst}
use mathlib.Core.Bool.{Bool, true}
use mathlib.Core.List.{List, ◌++◌, map}
use Prim.Native.Nat.{ℕ, ◌-◌, ◌*◌, ◌/◌, ◌%◌, ◌^◌, ◌≤◌, ◌<◌, max}
use native.Mathlib.Omega.{arith}
use native.Mathlib.Decide.{dec_lt}
use native.Mathlib.Nat.{mul-one, mul-le-mul}
use lib.ListN.{length, get_or}
use lib.Dec.{leb}
use lib.Pow.{pow_pos, pow_mono}
use borrow.Author.Tests.{leb-true}
use Rattle.lists.specs.Lists.{range, all_of, maximum, total, concat, split, ceil_div, All}
use Rattle.lists.proofs.Tests.{and_left, and_right, all_each}
use Rattle.lists.proofs.First.{first_yes, first_both}
use Rattle.lists.proofs.All.{all_from}
use Rattle.lists.proofs.Columns.{below_length}
use Rattle.lists.proofs.Lists.{split_length}
use Rattle.lists.proofs.Totals.{ceil_le, ceil_pos}
use Rattle.lists.proofs.Searches.{count_le}
use Rattle.expression.specs.Expr.{Expr, degree}
use Rattle.backend.specs.Circuit.{Section, entry, entries, word_k, body_of, Cell, cells_of, cells_name, stated_of, circuit_of, rows_of, num_instance, num_witness, num_challenges, num_poly, num_lookups, copied_in, copied, num_copied, group_sizes, num_groups}
use Rattle.backend.specs.Constraints.{lookup_constraints, least_d, max_degree}
use Rattle.backend.specs.Layout.{laid_out}
use Rattle.backend.specs.Questions.{rounds_good, at_most, group_numbers_good, q5, q7, q9, q10, layout_questions, body_questions, circuit_questions}
use Rattle.backend.specs.Laid.{ContentsValid, BodiesValid}
use Rattle.backend.proofs.Sections.{body_length}
use Rattle.backend.proofs.Numbers.{polys}
use Rattle.backend.proofs.Passed.{Yes, yes_all}
use Rattle.backend.proofs.Answers.{groups_read, numbers_many, numbers_good_is}
use Rattle.backend.proofs.Groups.{sizes_length, sizes_total, sizes_some, groups_few}
use Rattle.backend.proofs.Degree.{all_most, root_in, left_roots, right_roots, least_high, least_low}
use Rattle.preprocessor.specs.Compose.{num_z, params_of}
use Rattle.preprocessor.specs.Permutation.{Walkable}
use Rattle.preprocessor.specs.ComposeWords.{IsNode, Limits, Words, ComposeInput, GroupsValid, DecodedFrom}
use Rattle.preprocessor.proofs.Copied.{walkable, cells_of_is}
use Rattle.preprocessor.proofs.Bound.{wide_of}
use Rattle.preprocessor.proofs.Composed.{circuit_decoded}
use Rattle.prover.specs.Lent.{Given}
use Rattle.hyperplonk_prepare.specs.Prepared.{Accepted, layout_from_words}

pub answers : (ws : List ℕ) → Accepted ws → Yes ws
answers ws a = yes_all ws a

pub laid_counted : (ws : List ℕ) → Accepted ws → ContentsValid ws × BodiesValid ws
laid_counted ws a = ((answers ws a).laid, (answers ws a).counted)

-- question 9, of the lookups: "Is each width at least 1"
pub nine : (ws : List ℕ) → Accepted ws → q9 (circuit_of ws) ≡ true
unfolding circuit_questions
nine ws a =
    let r = first_both layout_questions body_questions ws a (omega arith) in
    let r5 = first_yes _ _ ws 4 refl r.1 in
    let r6 = first_yes _ _ ws 5 refl r5.1 in
    let r7 = first_yes _ _ ws 6 refl r6.1 in
    let r8 = first_yes _ _ ws 7 refl r7.1 in
    (first_yes _ _ ws 8 refl r8.1).0

-- ---- over plain numbers and lists

-- the copied columns are some of the polynomials
copied_le : (polys : ℕ) (xs : List Cell) → length (copied_in polys xs) ≤ polys
unfolding copied_in
copied_le polys xs = let q = count_le (cells_name xs) (range polys) in let e = below_length polys in omega arith

ceil_fewer : (n d : ℕ) → 0 < d → ceil_div n d ≤ n
ceil_fewer n d h = ceil_le n d n h (let e = mul-one n in let m : n * 1 ≤ n * d = mul-le-mul (omega arith) h in omega arith)

-- what D starts from
least_in : (w : ℕ) → w ≤ 33 → (2 ≤ least_d (stated_of w)) × (least_d (stated_of w) ≤ 32)
least_in w h = go (dec_lt 3 w)
  where
    go : Dec (3 < w) → (2 ≤ least_d (stated_of w)) × (least_d (stated_of w) ≤ 32)
    go (yes l) = let e = least_high w l in (omega arith, omega arith)
    go (no l) = let e = least_low w (omega arith) in (omega arith, omega arith)

module _ (ws : List ℕ) (a : Accepted ws) where
  pub laid_of : ContentsValid ws
  laid_of = (answers ws a).laid

  pub counted_of : BodiesValid ws
  counted_of = (answers ws a).counted

  -- ---- k and the rows
  pub k_pos : 0 < word_k ws
  k_pos = let h = laid_of.k_low in omega arith

  pub k_few : word_k ws ≤ 10
  k_few = laid_of.k_high

  pub rows_few : 2 ^ word_k ws ≤ 1024
  rows_few = pow_mono k_few

  pub rows_pos : 0 < 2 ^ word_k ws
  rows_pos = pow_pos (word_k ws)

  pub k_is : (circuit_of ws).k ≡ word_k ws
  unfolding circuit_of
  k_is = refl

  pub rows_is : rows_of (circuit_of ws) ≡ 2 ^ word_k ws
  unfolding circuit_of
  rows_is = refl

  -- ---- the bodies, in entries
  single : (s : Section) → entry (word_k ws) s ≡ 1 → length (body_of ws s) ≡ entries ws s
  single s e = body_length ws laid_of s ∙ ap (λ (e : ℕ). entries ws s * e) e ∙ mul-one (entries ws s)

  pub instances_length : length (body_of ws Section.instances) ≡ num_instance (circuit_of ws)
  unfolding circuit_of
  instances_length = refl

  pub instances_entries : entries ws Section.instances ≡ num_instance (circuit_of ws)
  instances_entries = sym (single Section.instances refl) ∙ instances_length

  pub few_instances : num_instance (circuit_of ws) ≤ 8
  few_instances = let e = instances_entries in let h = laid_of.few_instances in omega arith

  pub nodes_length : length (body_of ws Section.nodes) ≡ entries ws Section.nodes * 4
  nodes_length = body_length ws laid_of Section.nodes

  pub nodes_whole : length (body_of ws Section.nodes) % 4 ≡ 0
  nodes_whole = let e = nodes_length in omega arith

  pub widths_length : length (body_of ws Section.widths) ≡ entries ws Section.widths
  widths_length = single Section.widths refl

  pub widths_are : num_lookups (circuit_of ws) ≡ length (body_of ws Section.widths)
  unfolding circuit_of
  widths_are = split_length (body_of ws Section.widths) _

  pub few_lookups : num_lookups (circuit_of ws) ≤ 8
  few_lookups = let e = widths_are in let w = widths_length in let h = laid_of.few_widths in omega arith

  pub lookups_wide : All (λ l. 0 < length l) (circuit_of ws).lookups
  lookups_wide = wide_of (circuit_of ws) (nine ws a)

  pub pairs_length : length (body_of ws Section.pairs) ≡ entries ws Section.pairs * 2
  pairs_length = body_length ws laid_of Section.pairs

  pub pairs_half : length (body_of ws Section.pairs) / 2 ≡ entries ws Section.pairs
  pairs_half = let e = pairs_length in omega arith

  pub pairs_total : total (body_of ws Section.widths) ≡ entries ws Section.pairs
  pairs_total = sym counted_of.pairs_are

  pub cells_length : length (body_of ws Section.cells) ≡ entries ws Section.cells * 2
  cells_length = body_length ws laid_of Section.cells

  pub cells_half : length (body_of ws Section.cells) / 2 ≡ entries ws Section.cells
  cells_half = let e = cells_length in omega arith

  pub cells_total : total (body_of ws Section.lengths) ≡ entries ws Section.cells
  cells_total = sym counted_of.cells_are

  -- ---- question 18: the groups
  pub numbers_follow_is : group_numbers_good (circuit_of ws).groups ≡ true
  numbers_follow_is = ap group_numbers_good (sym (groups_read ws)) ∙ numbers_good_is ws laid_of (answers ws a).eighteen

  numbers_are : length (circuit_of ws).groups ≡ num_lookups (circuit_of ws)
  numbers_are = ap length (sym (groups_read ws)) ∙ numbers_many ws laid_of ∙ sym widths_are

  pub sizes_are : length (group_sizes (circuit_of ws).groups) ≡ num_groups (circuit_of ws)
  unfolding num_groups
  sizes_are = sizes_length (circuit_of ws).groups

  pub sizes_pos : All (λ n. 0 < n) (group_sizes (circuit_of ws).groups)
  sizes_pos = sizes_some (circuit_of ws).groups numbers_follow_is

  pub sizes_sum : total (group_sizes (circuit_of ws).groups) ≡ num_lookups (circuit_of ws)
  sizes_sum = sizes_total (circuit_of ws).groups ∙ numbers_are

  pub fewer_groups : num_groups (circuit_of ws) ≤ num_lookups (circuit_of ws)
  unfolding num_groups
  fewer_groups = let h = groups_few (circuit_of ws).groups numbers_follow_is in let e = numbers_are in omega arith

  pub groups_valid : GroupsValid (circuit_of ws)
  groups_valid = record { some = sizes_pos; all = sizes_sum; few = fewer_groups }

  -- ---- question 5
  pub lengths_short : (i : ℕ) → i < length (body_of ws Section.instances) → get_or (body_of ws Section.instances) i 0 < 2 ^ word_k ws
  unfolding q5 circuit_of
  lengths_short i l =
      let test : ℕ → Bool = λ n. leb n (2 ^ word_k ws - 1) in
      let e =
      leb-true (get_or (body_of ws Section.instances) i 0) (2 ^ word_k ws - 1)
      (all_each test 0 (body_of ws Section.instances)
      (and_right (rounds_good (circuit_of ws).rounds) (all_of test (body_of ws Section.instances)) (answers ws a).five)
      i
      l)
      in
      let p = rows_pos in
      omega arith

  -- ---- the polynomials
  pub few_witness : num_witness (circuit_of ws) ≤ 32
  few_witness = counted_of.few_witness

  pub few_user : num_challenges (circuit_of ws) ≤ 16
  few_user = counted_of.few_user

  pub few_polys : num_poly (circuit_of ws) ≤ 72
  few_polys =
      let e = polys ws (num_witness (circuit_of ws)) laid_of refl in
      let i = laid_of.few_instances in
      let p = laid_of.few_preprocess in
      let w = few_witness in
      omega arith

  pub copied_fewer : num_copied (circuit_of ws) ≤ num_poly (circuit_of ws)
  unfolding copied
  copied_fewer = copied_le (num_poly (circuit_of ws)) (concat (circuit_of ws).cycles)

  pub few_copied : num_copied (circuit_of ws) ≤ 72
  few_copied = let p = copied_fewer in let q = few_polys in omega arith

  -- ---- D
  stated_in : (2 ≤ least_d (circuit_of ws).stated) × (least_d (circuit_of ws).stated ≤ 32)
  unfolding circuit_of
  stated_in = least_in (get_or ws 1 0) laid_of.degree

  degrees_in : maximum (map degree ((circuit_of ws).constraints ++ lookup_constraints (circuit_of ws))) ≤ 1024
  unfolding q10
  degrees_in =
      let es : List Expr = (circuit_of ws).constraints ++ lookup_constraints (circuit_of ws) in
      leb-true (maximum (map degree es)) 1024
      (sym (all_most degree 1024 es)
      ∙ and_left (all_of (λ e. leb (degree e) 1024) es) (all_of (λ e. at_most (circuit_of ws).stated (degree e)) (circuit_of ws).constraints)
      (answers ws a).ten)

  degree_is : max_degree (circuit_of ws)
      ≡ max (least_d (circuit_of ws).stated) (maximum (map degree ((circuit_of ws).constraints ++ lookup_constraints (circuit_of ws))))
  unfolding max_degree maximum
  degree_is = refl

  pub two_degree : 2 ≤ max_degree (circuit_of ws)
  two_degree = let e = degree_is in let s = stated_in.0 in omega arith

  pub degree_most : max_degree (circuit_of ws) ≤ 1024
  degree_most = let e = degree_is in let s = stated_in.1 in let h = degrees_in in omega arith

  pub few_z : num_z (circuit_of ws) ≤ num_copied (circuit_of ws)
  unfolding num_z
  few_z = ceil_fewer (num_copied (circuit_of ws)) (max_degree (circuit_of ws) - 1) (let h = two_degree in omega arith)

  pub some_z : 0 < num_copied (circuit_of ws) → 0 < num_z (circuit_of ws)
  unfolding num_z
  some_z h = ceil_pos (num_copied (circuit_of ws)) (max_degree (circuit_of ws) - 1) h (let q = two_degree in omega arith)

  -- ---- the numbers, the words, and what they are decoded from
  pub limits : Limits (params_of (circuit_of ws))
  unfolding params_of num_z
  limits =
      record {
        few_polys = few_polys;
        few_copied = few_copied;
        few_lookups = few_lookups;
        few_groups = fewer_groups;
        few_user = few_user;
        few_rows = let e = rows_is in let h = rows_few in omega arith;
        some_part = let h = two_degree in omega arith;
        parts_are = refl;
      }

  roots_laid : laid_out (body_of ws Section.nodes) (body_of ws Section.constraints ++ body_of ws Section.pairs) ≡ true
  unfolding q7 circuit_of
  roots_laid = (answers ws a).seven

  pub words : Words (params_of (circuit_of ws)) (body_of ws Section.nodes) (body_of ws Section.constraints)
      (group_sizes (circuit_of ws).groups)
      (body_of ws Section.widths)
      (body_of ws Section.pairs)
  unfolding params_of
  words =
      let nodes : List ℕ = body_of ws Section.nodes in
      let cs : List ℕ = body_of ws Section.constraints in
      let ps : List ℕ = body_of ws Section.pairs in
      record {
        limits = limits;
        all_groups = sym sizes_are;
        some_members = sizes_pos;
        all_members = sizes_sum ∙ widths_are;
        all_lookups = widths_are;
        all_pairs = let e = pairs_length in let t = pairs_total in omega arith;
        constraints_named = all_from (IsNode nodes) cs 0 (λ i l. root_in nodes cs (left_roots nodes cs ps roots_laid) i l);
        pairs_named = all_from (IsNode nodes) ps 0 (λ i l. root_in nodes ps (right_roots nodes cs ps roots_laid) i l);
      }

  pub compose_input : ComposeInput (params_of (circuit_of ws)) (copied (circuit_of ws)) (body_of ws Section.nodes) (body_of ws Section.constraints)
      (group_sizes (circuit_of ws).groups)
      (body_of ws Section.widths)
      (body_of ws Section.pairs)
  unfolding params_of
  compose_input = record { words = words; all_copied = omega arith }

  pub decoded : DecodedFrom (circuit_of ws) (params_of (circuit_of ws)) (copied (circuit_of ws)) (body_of ws Section.nodes)
      (body_of ws Section.constraints)
      (group_sizes (circuit_of ws).groups)
      (body_of ws Section.widths)
      (body_of ws Section.pairs)
  decoded = circuit_decoded ws pairs_half

  -- ---- the cycles
  pub cycles_are : split (body_of ws Section.lengths) (cells_of (body_of ws Section.cells)) ≡ (circuit_of ws).cycles
  unfolding circuit_of
  cycles_are = ap (split (body_of ws Section.lengths)) (sym (cells_of_is (body_of ws Section.cells) (entries ws Section.cells) cells_length))

  pub walks : Walkable (copied (circuit_of ws)) (rows_of (circuit_of ws)) (split (body_of ws Section.lengths) (cells_of (body_of ws Section.cells)))
  walks =
      subst (Walkable (copied (circuit_of ws)) (rows_of (circuit_of ws))) (sym cycles_are)
      (walkable (circuit_of ws) (answers ws a).eleven few_polys)

  -- ---- where the given polynomials stand
  pub given : Given (word_k ws) (layout_from_words ws)
  unfolding layout_from_words
  given =
      record {
        small =
            record {
              rows = let h = rows_few in omega arith;
              instances = let h = laid_of.few_instances in omega arith;
              preprocess = let h = laid_of.few_preprocess in omega arith;
              start = let h = laid_of.few_instances in let s = laid_of.preprocess_at in let t = laid_of.instances_at in omega arith;
              witness = let h = few_witness in omega arith;
              permutations = omega arith;
              skipped = omega arith;
              rest = omega arith;
            };
        rows = refl;
        permutations = refl;
        rest = refl;
      }
