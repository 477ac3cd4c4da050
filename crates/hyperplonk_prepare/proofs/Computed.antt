-- What the functions compute from accepted circuit words is what the definitions say.
use mathlib.Core.Path.{◌≡◌, sym, ap, ap₂, ◌∙◌}
use mathlib.Core.Bool.{Bool, true, ◌&&◌}
use mathlib.Core.List.{List, [], ◌∷◌}
use Prim.Native.Nat.{ℕ, ◌+◌, ◌-◌, ◌*◌, ◌/◌, ◌%◌, ◌^◌, ◌≤◌, ◌<◌, min}
use native.Mathlib.Omega.{arith}
use native.Mathlib.Nat.{mul-le-mul}
use lib.ListN.{length, get_or}
use lib.Dec.{eqb, leb, ltb}
use lib.Seq.{take_all}
use Rattle.std.proofs.lemmas.Grind.{common_steps}
use Rattle.field.specs.Prime.{P}
use Rattle.lists.specs.Lists.{all_of, total, concat, ceil_div, All}
use Rattle.lists.proofs.All.{all_from}
use Rattle.lists.proofs.Columns.{tabulate_length}
use Rattle.lists.proofs.Parts.{concat_split}
use Rattle.expression.specs.declared.poly.Layout.{Layout}
use Rattle.backend.specs.Circuit.{Section, word_k, body_of, word_each, cell_at, cells_of, stated_of, circuit_of, rows_of, num_witness, num_challenges, num_poly, num_lookups, num_groups_in, group_sizes, num_groups, groups_of, copied_in, copied, num_copied}
use Rattle.backend.specs.Constraints.{max_degree}
use Rattle.backend.specs.Degrees.{largest_degree, degrees_fit}
use Rattle.backend.proofs.Numbers.{each_one, not_past}
use Rattle.backend.specs.Questions.{group_numbers_good}
use Rattle.backend.proofs.Answers.{groups_read, numbers_few}
use Rattle.backend.proofs.Degree.{ten_is, d_is}
use Rattle.preprocessor.specs.Compose.{num_z, composed_nodes, params_of}
use Rattle.preprocessor.specs.ComposeWords.{Words, DecodedFrom}
use Rattle.preprocessor.specs.declared.CircuitParams.{CircuitParams}
use Rattle.hyperplonk_spec.specs.Build.{column_words, q12, q13, q14}
use Rattle.hyperplonk_prepare.specs.Prepared.{Accepted, layout_from_words}
use Rattle.hyperplonk_prepare.proofs.Accepted as known

-- ---- over plain lists and numbers

-- where the given polynomials stand
pub layout_is : (ws : List ℕ) (rows witness instances preprocess start : ℕ) → rows ≡ 2 ^ word_k ws → witness ≡ num_witness (circuit_of ws)
    → instances ≡ get_or ws 3 0 → preprocess ≡ get_or ws 5 0 → start ≡ get_or ws 4 0
    → ◌≡◌ {A = Layout}
    (record {
      rows = rows;
      instances = instances;
      preprocess = preprocess;
      start = start;
      witness = witness;
      permutations = 0;
      skipped = 0;
      rest = 0;
    })
    (layout_from_words ws)
unfolding layout_from_words
layout_is ws rows witness instances preprocess start a b c d e = rw (a, b, c, d, e)

-- a sum of numbers that are at most m
total_most : (m : ℕ) (ns : List ℕ) → All (λ n. n ≤ m) ns → total ns ≤ length ns * m
unfolding total
total_most m [] a = omega arith
total_most m (n ∷ ns) a = let h = total_most m ns a.1 in let b = a.0 in omega arith

-- what `div_ceil` answers
pub ceil_is : (n d : ℕ) → 0 < d → n / d + min 1 (n % d) ≡ ceil_div n d
ceil_is n d h = grind (arith, common_steps)

module _ (ws : List ℕ) (a : Accepted ws) where
  -- ---- the copied columns
  pub cells_all : concat (circuit_of ws).cycles ≡ cells_of (body_of ws Section.cells)
  cells_all =
      let body : List ℕ = body_of ws Section.cells in
      ap concat (sym (known.cycles_are ws a)) ∙ concat_split (body_of ws Section.lengths) (cells_of body)
      ∙ take_all (total (body_of ws Section.lengths)) (cells_of body)
      (let e = tabulate_length (cell_at body) (length body / 2) in
      let h = known.cells_half ws a in
      let t = known.cells_total ws a in
      omega arith)

  pub copied_from : (cells : List ℕ) → cells ≡ body_of ws Section.cells → (polys : ℕ) → polys ≡ num_poly (circuit_of ws)
      → copied_in polys (cells_of cells) ≡ copied (circuit_of ws)
  unfolding copied
  copied_from cells q polys e =
      ap₂ (λ (n : ℕ) (body : List ℕ). copied_in n (cells_of body)) e q ∙ ap (copied_in (num_poly (circuit_of ws))) (sym cells_all)

  -- ---- the groups
  pub numbers_from : (numbers : List ℕ) → numbers ≡ body_of ws Section.groups → numbers ≡ (circuit_of ws).groups
  numbers_from numbers q = q ∙ groups_read ws

  pub numbers_good_is : (numbers : List ℕ) → numbers ≡ body_of ws Section.groups → (group_numbers_good numbers ≡ true) × (length numbers ≤ 8)
  numbers_good_is numbers q =
      (ap group_numbers_good (numbers_from numbers q) ∙ known.numbers_follow_is ws a, let h = numbers_few ws (known.laid_of ws a) in let e = ap length q in omega arith)

  pub groups_from : (numbers : List ℕ) → numbers ≡ body_of ws Section.groups → num_groups_in numbers ≡ num_groups (circuit_of ws)
  unfolding num_groups
  groups_from numbers q = ap num_groups_in (numbers_from numbers q)

  pub sizes_from : (numbers : List ℕ) → numbers ≡ body_of ws Section.groups → group_sizes numbers ≡ group_sizes (circuit_of ws).groups
  sizes_from numbers q = ap group_sizes (numbers_from numbers q)

  -- ---- D
  pub degrees_fit_is : (s : ℕ) → s ≡ get_or ws 1 0 → degrees_fit (stated_of s) (circuit_of ws).constraints (groups_of (circuit_of ws)) ≡ true
  unfolding circuit_of
  degrees_fit_is s t = rw t (sym (ten_is (circuit_of ws)) ∙ (known.answers ws a).ten)

  pub degree_from : (s : ℕ) → s ≡ get_or ws 1 0 → (r : ℕ) → r ≡ largest_degree (stated_of s) (circuit_of ws).constraints (groups_of (circuit_of ws))
      → r ≡ max_degree (circuit_of ws)
  unfolding circuit_of
  degree_from s t r e = e ∙ rw t (sym (d_is (circuit_of ws)))

  -- ---- the words that are handed on
  module _ (nodes roots sizes widths pairs : List ℕ) (x : nodes ≡ body_of ws Section.nodes) (y : roots ≡ body_of ws Section.constraints)
      (s : sizes ≡ group_sizes (circuit_of ws).groups)
      (z : widths ≡ body_of ws Section.widths)
      (q : pairs ≡ body_of ws Section.pairs) where
    module _ (v : CircuitParams) (e : v ≡ params_of (circuit_of ws)) where
      pub words_from : Words v nodes roots sizes widths pairs
      words_from = rw (e, x, y, s, z, q) (known.words ws a)

      pub decoded_from : DecodedFrom (circuit_of ws) v (copied (circuit_of ws)) nodes roots sizes widths pairs
      decoded_from = rw (e, x, y, s, z, q) (known.decoded ws a)

  -- ---- the numbers
  pub lookups_are : get_or ws 13 0 ≡ num_lookups (circuit_of ws)
  lookups_are = sym (known.widths_are ws a ∙ known.widths_length ws a)

  pub params_from : (polys copies lookups groups user rows degree parts : ℕ) → polys ≡ num_poly (circuit_of ws) → copies ≡ num_copied (circuit_of ws)
      → lookups ≡ num_lookups (circuit_of ws)
      → groups ≡ num_groups (circuit_of ws)
      → user ≡ num_challenges (circuit_of ws)
      → rows ≡ 2 ^ word_k ws
      → degree ≡ max_degree (circuit_of ws)
      → parts ≡ ceil_div copies (degree - 1)
      → ◌≡◌ {A = CircuitParams}
      (record {
        num_poly = polys;
        num_permutation_polys = copies;
        num_lookups = lookups;
        num_groups = groups;
        num_challenges = user;
        rows = rows;
        chunk_size = degree - 1;
        num_chunks = parts;
      })
      (params_of (circuit_of ws))
  unfolding params_of num_z
  params_from polys copies lookups groups user rows degree parts p c l g u r d z = rw (z, p, c, l, g, u, r ∙ sym (known.rows_is ws a), d)

  -- the column words
  module _ (v : CircuitParams) (e : v ≡ params_of (circuit_of ws)) where
    pub columns_low : (get_or ws 3 0 + v.num_permutation_polys + v.num_lookups * 2 + v.num_groups * 2 + v.num_chunks ≤ 184) × (v.rows ≤ 1024)
    unfolding params_of
    columns_low =
        let i = known.instances_entries ws a in
        let s = known.few_instances ws a in
        let c = known.few_copied ws a in
        let l = known.few_lookups ws a in
        let g = known.fewer_groups ws a in
        let z = known.few_z ws a in
        let t = known.rows_is ws a in
        let r = known.rows_few ws a in
        rw e (omega arith, omega arith)

    pub columns_fit : (get_or ws 3 0 + v.num_permutation_polys + v.num_lookups * 2 + v.num_groups * 2 + v.num_chunks) * v.rows ≤ 188416
    columns_fit = mul-le-mul columns_low.0 columns_low.1

    pub columns_from : (get_or ws 3 0 + v.num_permutation_polys + v.num_lookups * 2 + v.num_groups * 2 + v.num_chunks) * v.rows ≡ column_words (circuit_of ws)
    unfolding params_of column_words
    columns_from =
        ap (λ (v : CircuitParams). (get_or ws 3 0 + v.num_permutation_polys + v.num_lookups * 2 + v.num_groups * 2 + v.num_chunks) * v.rows) e
        ∙ ap (λ (i : ℕ). (i + num_copied (circuit_of ws) + num_lookups (circuit_of ws) * 2 + num_groups (circuit_of ws) * 2 + num_z (circuit_of ws)) * rows_of (circuit_of ws))
        (known.instances_entries ws a)

  -- ---- 12
  pub instances_most : total (body_of ws Section.instances) ≤ 8192
  instances_most =
      let h =
      total_most 1024 (body_of ws Section.instances)
      (all_from (λ n. n ≤ 1024) (body_of ws Section.instances) 0
      (λ i l. let s = known.lengths_short ws a i l in let r = known.rows_few ws a in omega arith))
      in
      let e = known.instances_length ws a in
      let n = known.few_instances ws a in
      omega arith

  pub instances_from : (lengths : List ℕ) → lengths ≡ body_of ws Section.instances → (r : ℕ)
      → r ≡ min (total (word_each lengths 1 0 (length lengths))) 8192
      → r ≡ total (circuit_of ws).instances
  unfolding circuit_of
  instances_from lengths q r e =
      not_past (total (body_of ws Section.instances)) 8192 r (e ∙ ap (λ (ns : List ℕ). min (total ns) 8192) (each_one lengths ∙ q)) instances_most

  pub witness_fit : (columns rows : ℕ) → columns ≡ num_witness (circuit_of ws) → rows ≡ 2 ^ word_k ws → columns * rows ≤ 32768
  witness_fit columns rows c r =
      mul-le-mul (let h = known.few_witness ws a in let w : columns ≤ 32 = omega arith in w)
      (let h = known.rows_few ws a in let w : rows ≤ 1024 = omega arith in w)

  pub twelve : (is ss cs : List ℕ) (values columns rows user : ℕ) → values ≡ total (circuit_of ws).instances
      → columns ≡ num_witness (circuit_of ws)
      → rows ≡ 2 ^ word_k ws
      → user ≡ num_challenges (circuit_of ws)
      → (eqb (length is) values && eqb (length ss) (columns * rows) && eqb (length cs) (user + 2)) ≡ q12 (circuit_of ws) is ss cs
  unfolding q12
  twelve is ss cs values columns rows user v c r u = rw (v, c, r ∙ sym (known.rows_is ws a), u)

  -- ---- 14
  pub fourteen : (words composed columns room : ℕ) → words ≡ column_words (circuit_of ws) → composed ≡ composed_nodes (circuit_of ws)
      → (cs ns : List ℕ) → length cs ≡ columns → length ns ≡ room
      → (leb words columns && leb (composed * 4) room) ≡ q14 (circuit_of ws) cs ns
  unfolding q14
  fourteen words composed columns room w c cs ns x y =
      ap₂ ◌&&◌ (ap₂ leb w (sym x)) (ap₂ (λ (n m : ℕ). leb (n * 4) m) c (sym y))

-- ---- 13
pub thirteen : (is ss cs : List ℕ) (x y z : Bool) → x ≡ all_of (λ w. ltb w P) is → y ≡ all_of (λ w. ltb w P) ss → z ≡ all_of (λ w. ltb w P) cs
    → (x && y && z) ≡ q13 is ss cs
unfolding q13
thirteen is ss cs x y z a b c = ap₂ ◌&&◌ (ap₂ ◌&&◌ a b) c
