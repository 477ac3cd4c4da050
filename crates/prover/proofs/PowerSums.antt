-- The compressed columns: one value by a running power and a running sum, and the columns one after another.
use mathlib.Core.Path.{◌≡◌, refl, sym, ap, ap₂, ◌∙◌}
use mathlib.Core.List.{List, [], ◌∷◌, ◌++◌, map, append-nil, map-append}
use Prim.Native.Nat.{ℕ, suc, ◌+◌, ◌*◌, ◌/◌, ◌%◌, ◌^◌, ◌≤◌, ◌<◌}
use native.Mathlib.Nat.{suc-mul, mul-le-mul, mul_assoc}
use native.Mathlib.Decide.{dec_lt}
use native.Mathlib.Numerals.{add-one}
use native.Mathlib.Omega.{arith}
use lib.ListN.{length, get_or, take, drop, length-drop}
use lib.Seq.{get_or-take, get_or-drop, ext_get_or, length-take-le}
use Rattle.field.specs.Field.{𝔾, el, val, el_zero, el_one}
use Rattle.field.specs.Algebra.{pow, mul_comm}
use Rattle.bh.specs.Sums.{up_to}
use Rattle.lists.specs.Lists.{tabulate, concat, write_at, split, total}
use Rattle.lists.proofs.Columns.{tabulate_length, tabulate_cong, get_tabulate, map_tabulate}
use Rattle.lists.proofs.Lists.{get_none, concat_end, pairs_length, split_length}
use Rattle.lists.proofs.Over.{write_at_none, write_at_write_at, write_at_before}
use Rattle.lists.proofs.Parts.{split_more}
use Rattle.identities.proofs.Totals.{up_to_cong, up_to_suc}
use Rattle.expression.specs.Expr.{Expr, evaluate}
use Rattle.expression.specs.Nodes.{word_of, node_of, kind_of, no_expr, no_exprs, under, expr_of, items_of}
use Rattle.expression.specs.Value.{Environment, value_at}
use Rattle.expression.specs.Point.{environment_of, ops_of, point_of, layout_in}
use Rattle.expression.specs.declared.poly.Layout.{Layout}
use Rattle.expression.proofs.Fuel.{expr_step}
use Rattle.expression.proofs.Step.{under_yes, under_no}
use Rattle.backend.specs.Circuit.{Pair, pair_at, pairs_of}
use Rattle.backend.specs.Constraints.{inputs_of, tables_of}
use Rattle.prover.specs.Columns.{power_sum}
use Rattle.prover.specs.Words.{words_of}
use Rattle.prover.specs.Lent.{Given, roots_of, compressed_in, compressed_polys_in, environment_from_words}
use Rattle.prover.specs.declared.Roots.{Roots}
use Rattle.prover.proofs.Words.{words_none, words_length, words_append}
use Rattle.prover.proofs.Lent.{lent_point, lent_same, compressed_same, compressed_column}

-- ---- a root past the last node

pub no_node : (ws : List ℕ) (n : ℕ) → length ws % 4 ≡ 0 → length ws / 4 ≤ n → expr_of ws n ≡ no_expr
unfolding node_of kind_of
no_node ws n e h =
    expr_step ws n
    ∙ ap (λ (k : ℕ). node_of (kind_of k) (under n no_expr (expr_of ws)) (under n no_exprs (items_of ws)) (word_of ws n 1) (word_of ws n 2) (word_of ws n 3))
    (get_none ws (n * 4 + 0) 0 (omega arith))

-- what `lower` ensures, with as many nodes as there are
pub root_value_is : (circuit witness columns challenges c ws : List ℕ) (n root : ℕ) → n ≡ length ws / 4 → length ws % 4 ≡ 0 → (x : 𝔾.F)
    → x ≡ evaluate (ops_of circuit witness columns challenges c) (under n no_expr (expr_of ws) root)
    → x ≡ value_at 𝔾 (environment_of circuit witness columns challenges (layout_in c) (point_of c)) (expr_of ws root) (point_of c).row
unfolding ops_of value_at
root_value_is circuit witness columns challenges c ws n root q e x h =
    h ∙ ap (evaluate (ops_of circuit witness columns challenges c)) (go (dec_lt root n))
  where
    go : Dec (root < n) → under n no_expr (expr_of ws) root ≡ expr_of ws root
    go (yes l) = under_yes n no_expr (expr_of ws) root l
    go (no g) = under_no n no_expr (expr_of ws) root (omega (arith, g)) ∙ sym (no_node ws root e (omega (arith, q, g)))

-- ---- the sum at a row, by a running power and a running sum

module _ (β : 𝔾.F) (x : ℕ → 𝔾.F) where
  abbrev partial_sum : ℕ → 𝔾.F
  partial_sum i = up_to 𝔾.add 𝔾.zero (λ j. 𝔾.mul (pow 𝔾 β j) (x j)) i

  pub record Summed (sum power : 𝔾.F) (i : ℕ) : Type 0 where
    pub sum_is : sum ≡ partial_sum i
    pub power_is : power ≡ pow 𝔾 β i

  pub sum_start : Summed (el 0) (el 1) 0
  unfolding up_to pow
  sum_start = record { sum_is = el_zero; power_is = el_one }

  pub sum_more : (sum power : 𝔾.F) (i : ℕ) (v term sum' power' : 𝔾.F) → Summed sum power i → v ≡ x i
      → term ≡ 𝔾.mul power v → sum' ≡ 𝔾.add sum term → power' ≡ 𝔾.mul power β → Summed sum' power' (i + 1)
  unfolding pow
  sum_more sum power i v term sum' power' s e t p q =
      record {
        sum_is =
            p ∙ ap₂ 𝔾.add s.sum_is (t ∙ ap₂ 𝔾.mul s.power_is e)
            ∙ sym (up_to_suc 𝔾.add 𝔾.zero (λ j. 𝔾.mul (pow 𝔾 β j) (x j)) i)
            ∙ ap partial_sum (sym (add-one i));
        power_is =
            q ∙ ap (λ (y : 𝔾.F). 𝔾.mul y β) s.power_is
            ∙ mul_comm 𝔾 (pow 𝔾 β i) β
            ∙ ap (pow 𝔾 β) (sym (add-one i));
      }

module _ (s : Environment 𝔾) (β : 𝔾.F) (nodes pairs : List ℕ) (r : Roots) (b : ℕ) where
  abbrev pub root_value : ℕ → 𝔾.F
  root_value j = value_at 𝔾 s (expr_of nodes (get_or pairs ((r.start + j) * 2 + r.side) 0)) b

  pub sum_end : (sum power : 𝔾.F) (i : ℕ) → Summed β root_value sum power i → i ≡ r.width
      → sum ≡ compressed_in 𝔾 s β (roots_of nodes pairs r) b
  unfolding compressed_in roots_of power_sum
  sum_end sum power i h e =
      h.sum_is
      ∙ ap (λ (n : ℕ). partial_sum β root_value n) e
      ∙ up_to_cong 𝔾.add 𝔾.zero (λ j. 𝔾.mul (pow 𝔾 β j) (root_value j))
      (λ j. 𝔾.mul (pow 𝔾 β j) (get_or (tabulate root_value r.width) j 𝔾.zero)) r.width
      (λ j l. ap (𝔾.mul (pow 𝔾 β j)) (sym (get_tabulate root_value r.width j 𝔾.zero l)))
      ∙ ap₂ (λ (xs : List 𝔾.F) (n : ℕ). up_to 𝔾.add 𝔾.zero (λ j. 𝔾.mul (pow 𝔾 β j) (get_or xs j 𝔾.zero)) n) whole
      (sym (ap length (sym whole) ∙ tabulate_length root_value r.width))
    where
      exprs : List Expr
      exprs = tabulate (λ i. expr_of nodes (get_or pairs ((r.start + i) * 2 + r.side) 0)) r.width

      whole : tabulate root_value r.width ≡ map (λ e. value_at 𝔾 s e b) exprs
      whole = sym (map_tabulate (λ e. value_at 𝔾 s e b) (λ i. expr_of nodes (get_or pairs ((r.start + i) * 2 + r.side) 0)) r.width)

-- ---- the expressions of a lookup's roots

module _ (nodes pairs : List ℕ) (start width : ℕ) (fit : (start + width) * 2 ≤ length pairs) where
  abbrev one : List Pair
  one = take width (drop start (pairs_of nodes pairs))

  pairs_there : one ≡ tabulate (λ i. pair_at nodes pairs (start + i)) width
  pairs_there =
      let n : ℕ = length pairs / 2 in
      let all : List Pair = tabulate (pair_at nodes pairs) n in
      let len : length all ≡ n = tabulate_length (pair_at nodes pairs) n in
      let z : Pair = pair_at nodes pairs 0 in
      let this : length (take width (drop start all)) ≡ width =
      length-take-le width (drop start all) (let e = length-drop start all in omega arith) in
      let that : length (tabulate (λ i. pair_at nodes pairs (start + i)) width) ≡ width =
      tabulate_length (λ i. pair_at nodes pairs (start + i)) width in
      ext_get_or z (take width (drop start all)) (tabulate (λ i. pair_at nodes pairs (start + i)) width) (this ∙ sym that)
      (λ i l.
      let m : i < width = omega arith in
      get_or-take width (drop start all) i z m ∙ get_or-drop start all i z
      ∙ get_tabulate (pair_at nodes pairs) n (start + i) z (omega arith)
      ∙ sym (get_tabulate (λ i. pair_at nodes pairs (start + i)) width i z m))

  pub roots_inputs : roots_of nodes pairs (record { start = start; width = width; side = 0 }) ≡ inputs_of one
  unfolding roots_of
  roots_inputs =
      tabulate_cong (λ i. expr_of nodes (get_or pairs ((start + i) * 2 + 0) 0)) (λ i. expr_of nodes (get_or pairs ((start + i) * 2) 0)) width
      (λ i l. ap (λ (j : ℕ). expr_of nodes (get_or pairs j 0)) (omega arith))
      ∙ sym
      (ap (map (λ (p : Pair). p.input)) pairs_there
      ∙ map_tabulate (λ (p : Pair). p.input) (λ i. pair_at nodes pairs (start + i)) width)

  pub roots_tables : roots_of nodes pairs (record { start = start; width = width; side = 1 }) ≡ tables_of one
  unfolding roots_of
  roots_tables =
      sym
      (ap (map (λ (p : Pair). p.table)) pairs_there
      ∙ map_tabulate (λ (p : Pair). p.table) (λ i. pair_at nodes pairs (start + i)) width)

-- ---- one column behind another

pub words_two : (rows : ℕ) (p q : ℕ → 𝔾.F)
    → words_of rows (p ∷ q ∷ []) ≡ tabulate (λ b. val (p b)) rows ++ tabulate (λ b. val (q b)) rows
unfolding words_of concat
words_two rows p q = ap (λ (xs : List ℕ). tabulate (λ b. val (p b)) rows ++ xs) (append-nil (tabulate (λ b. val (q b)) rows))

-- ---- what is written at a row is the column's value there

module _ (k : ℕ) (small : k < 21) (l : Layout) (g : Given k l) (circuit witness challenges : List ℕ) (β : 𝔾.F) where
  abbrev at : List ℕ → List Expr → ℕ → 𝔾.F
  at c es b = compressed_in 𝔾 (environment_from_words circuit witness c challenges l k) β es b

  pub compressed_here : (part d : List ℕ) → ((j : ℕ) → j < l.instances * 2 ^ k → get_or part j 0 ≡ get_or d j 0)
      → (es : List Expr) (row place w : ℕ) → row < 2 ^ k
      → w ≡ val (compressed_in 𝔾 (environment_of circuit witness part challenges l (record { k = k; row = row; place = place; eq = 0 })) β es row)
      → w ≡ val (at d es row)
  compressed_here part d same es row place w h e =
      e
      ∙ ap (λ (s : Environment 𝔾). val (compressed_in 𝔾 s β es row))
      (lent_point circuit witness part challenges l (record { k = k; row = row; place = place; eq = 0 }) refl)
      ∙ ap val
      (compressed_same (environment_from_words circuit witness part challenges l k) (environment_from_words circuit witness d challenges l k) (2 ^ k)
      (lent_same k small l g circuit witness part d challenges same) β es row h)

  -- the same column from a buffer that was written behind the instance columns
  behind_column : (d : List ℕ) (to : ℕ) (s : List ℕ) → l.instances * 2 ^ k ≤ to → to ≤ length d → (es : List Expr)
      → tabulate (λ b. val (at (write_at d to s) es b)) (2 ^ k) ≡ tabulate (λ b. val (at d es b)) (2 ^ k)
  behind_column d to s h room es =
      compressed_column (environment_from_words circuit witness (write_at d to s) challenges l k) (environment_from_words circuit witness d challenges l k)
      (2 ^ k)
      (lent_same k small l g circuit witness (write_at d to s) d challenges (λ j m. write_at_before d to s j 0 room (omega arith)))
      β es

  module _ (nodes pairs : List ℕ) where
    abbrev of : List ℕ → List Pair → List (ℕ → 𝔾.F)
    of c ps = at c (inputs_of ps) ∷ at c (tables_of ps) ∷ []

    abbrev part : ℕ → ℕ → List Pair
    part start width = take width (drop start (pairs_of nodes pairs))

    -- the input, then the table
    pub pair_end : (d m₁ m₂ : List ℕ) (to next start width : ℕ) → (start + width) * 2 ≤ length pairs
        → l.instances * 2 ^ k ≤ to → to + (2 ^ k + 2 ^ k) ≤ length d → next ≡ to + 2 ^ k
        → m₁ ≡ write_at d to (tabulate (λ b. val (at d (roots_of nodes pairs (record { start = start; width = width; side = 0 })) b)) (2 ^ k))
        → m₂ ≡ write_at m₁ next (tabulate (λ b. val (at m₁ (roots_of nodes pairs (record { start = start; width = width; side = 1 })) b)) (2 ^ k))
        → m₂ ≡ write_at d to (words_of (2 ^ k) (of d (part start width)))
    pair_end d m₁ m₂ to next start width fit before room q e₁ e₂ =
        let ins : List Expr = roots_of nodes pairs (record { start = start; width = width; side = 0 }) in
        let tabs : List Expr = roots_of nodes pairs (record { start = start; width = width; side = 1 }) in
        let first : List ℕ = tabulate (λ b. val (at d ins b)) (2 ^ k) in
        let second : List ℕ = tabulate (λ b. val (at d tabs b)) (2 ^ k) in
        let len : length first ≡ 2 ^ k = tabulate_length (λ b. val (at d ins b)) (2 ^ k) in
        e₂
        ∙ ap (λ (m : List ℕ). write_at m next (tabulate (λ b. val (at m tabs b)) (2 ^ k))) e₁
        ∙ ap (write_at (write_at d to first) next) (behind_column d to first before (omega arith) tabs)
        ∙ ap (λ (n : ℕ). write_at (write_at d to first) n second) (let w : next ≡ to + length first = omega arith in w)
        ∙ write_at_write_at d to first second (omega arith)
        ∙ ap (write_at d to)
        (ap₂ (λ (x y : List Expr). tabulate (λ b. val (at d x b)) (2 ^ k) ++ tabulate (λ b. val (at d y b)) (2 ^ k))
        (roots_inputs nodes pairs start width fit)
        (roots_tables nodes pairs start width fit)
        ∙ sym (words_two (2 ^ k) (at d (inputs_of (part start width))) (at d (tables_of (part start width)))))

    -- ---- all lookups
    abbrev all : List ℕ → List (List Pair) → List (ℕ → 𝔾.F)
    all c ls = compressed_polys_in 𝔾 (environment_from_words circuit witness c challenges l k) β ls

    pub all_start : (d : List ℕ) (to : ℕ) → d ≡ write_at d to (words_of (2 ^ k) (all d (split [] (pairs_of nodes pairs))))
    unfolding split compressed_polys_in concat
    all_start d to = sym (ap (write_at d to) (words_none (2 ^ k)) ∙ write_at_none d to)

    all_end : (c : List ℕ) (ls : List (List Pair)) (ps : List Pair) → all c (ls ++ (ps ∷ [])) ≡ all c ls ++ of c ps
    unfolding compressed_polys_in
    all_end c ls ps =
        ap concat (map-append (λ (ps : List Pair). of c ps) ls (ps ∷ [])) ∙ concat_end (map (λ ps. of c ps) ls) (of c ps)

    all_length : (c : List ℕ) (ls : List (List Pair)) → length (words_of (2 ^ k) (all c ls)) ≡ length ls * (2 ^ k + 2 ^ k)
    unfolding compressed_polys_in
    all_length c ls =
        words_length (2 ^ k) (all c ls)
        ∙ ap (λ (n : ℕ). n * 2 ^ k) (pairs_length (λ ps. at c (inputs_of ps)) (λ ps. at c (tables_of ps)) ls)
        ∙ mul_assoc (length ls) 2 (2 ^ k)
        ∙ ap (λ (n : ℕ). length ls * n) (let w : 2 * 2 ^ k ≡ 2 ^ k + 2 ^ k = omega arith in w)

    pub all_more : (ws : List ℕ) (i : ℕ) → i < length ws → (d m m' : List ℕ) (to at' start width : ℕ)
        → l.instances * 2 ^ k ≤ to → at' ≤ length d → start ≡ total (take i ws) → width ≡ get_or ws i 0 → at' ≡ to + i * (2 ^ k + 2 ^ k)
        → m ≡ write_at d to (words_of (2 ^ k) (all d (split (take i ws) (pairs_of nodes pairs))))
        → m' ≡ write_at m at' (words_of (2 ^ k) (of m (part start width)))
        → m' ≡ write_at d to (words_of (2 ^ k) (all d (split (take (i + 1) ws) (pairs_of nodes pairs))))
    all_more ws i lt d m m' to at' start width before room s w q e₁ e₂ =
        let ls : List (List Pair) = split (take i ws) (pairs_of nodes pairs) in
        let ps : List Pair = part start width in
        let front : List ℕ = words_of (2 ^ k) (all d ls) in
        let count : length ls ≡ i = split_length (take i ws) (pairs_of nodes pairs) ∙ length-take-le i ws (omega arith) in
        let len : length front ≡ i * (2 ^ k + 2 ^ k) = all_length d ls ∙ ap (λ (n : ℕ). n * (2 ^ k + 2 ^ k)) count in
        e₂
        ∙ ap (λ (x : List ℕ). write_at x at' (words_of (2 ^ k) (of x ps))) e₁
        ∙ ap (write_at (write_at d to front) at')
        (words_two (2 ^ k) (at (write_at d to front) (inputs_of ps)) (at (write_at d to front) (tables_of ps))
        ∙ ap₂ (λ (x y : List ℕ). x ++ y) (behind_column d to front before (omega arith) (inputs_of ps))
        (behind_column d to front before (omega arith) (tables_of ps))
        ∙ sym (words_two (2 ^ k) (at d (inputs_of ps)) (at d (tables_of ps))))
        ∙ ap (λ (n : ℕ). write_at (write_at d to front) n (words_of (2 ^ k) (of d ps))) (let p : at' ≡ to + length front = omega arith in p)
        ∙ write_at_write_at d to front (words_of (2 ^ k) (of d ps)) (omega arith)
        ∙ ap (write_at d to)
        (sym (words_append (2 ^ k) (all d ls) (of d ps))
        ∙ ap (words_of (2 ^ k))
        (sym (all_end d ls ps)
        ∙ ap (all d)
        (ap₂ (λ (m n : ℕ). ls ++ (part m n ∷ [])) s w ∙ sym (split_more ws i lt (pairs_of nodes pairs)))))

-- what one more lookup needs is there
pub lookup_there : (i n r to at len : ℕ) → i < n → at ≡ to + i * r → to + n * r ≤ len → at + r ≤ len
lookup_there i n r to at len l e h =
    let m : suc i * r ≤ n * r = mul-le-mul {m₁ = r} {m₂ = r} l (omega arith) in
    omega (arith, suc-mul i r)

pub lookup_next : (i r to at r' : ℕ) → at ≡ to + i * (r + r) → r' ≡ r → at + (r' + r') ≡ to + (i + 1) * (r + r)
lookup_next i r to at r' e q =
    let w : (i + 1) * (r + r) ≡ i * (r + r) + (r + r) = ap (λ (x : ℕ). x * (r + r)) (add-one i) ∙ suc-mul i (r + r) in
    omega arith
