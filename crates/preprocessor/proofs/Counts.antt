-- Counts that stop at 2^60, one expression after another, an Item counted as `item`. Proved.
use mathlib.Core.Path.{◌≡◌, refl, sym, ap, ap₂, ◌∙◌}
use mathlib.Core.Bool.{Bool, cond}
use mathlib.Core.List.{List, [], ◌∷◌, map}
use borrow.Author.Tests.{eq-eqb, ne_eqb}
use Prim.Native.Nat.{ℕ, zero, suc, ◌+◌, ◌*◌, ◌≤◌, ◌<◌, min}
use native.Mathlib.Nat.{mul-le-mul_right, suc-mul, mul-one, zero-add}
use native.Mathlib.Decide.{dec_le}
use native.Mathlib.Numerals.{add-one}
use native.Mathlib.Omega.{arith}
use lib.ListN.{length, get_or, take}
use Rattle.lists.specs.Lists.{tabulate, total, All}
use Rattle.lists.proofs.Columns.{tabulate_suc, tabulate_cong, tabulate_length, tabulate_of, map_tabulate}
use Rattle.lists.proofs.All.{all_get}
use Rattle.expression.specs.Expr.{Expr, distribute_powers}
use Rattle.expression.specs.Nodes.{expr_of}
use Rattle.expression.specs.Flat.{largest_size}
use Rattle.expression.specs.Walks.{weight}
use Rattle.backend.specs.Circuit.{Circuit}
use Rattle.preprocessor.specs.Compose.{compose, number_of_m, number_of_h, lookup_tree_of}
use Rattle.preprocessor.specs.ComposeWords.{Limits, side_exprs, side_tree, input_side, table_side, input_sides, group_from_words, groups_from_words, constraints_from_words, num_constraints, permutation_nodes, DecodedFrom}
use Rattle.preprocessor.specs.Count.{nodes_in, list_nodes, group_nodes}
use Rattle.preprocessor.specs.declared.CircuitParams.{CircuitParams}
use Rattle.preprocessor.proofs.Groups.{group_weight}
use Rattle.preprocessor.proofs.ComposeWords.{constraints_length, group_tree_is, input_side_is, table_side_is, side_length, side_weight}
use Rattle.preprocessor.proofs.Composed.{composed_is}
use Rattle.preprocessor.proofs.Nodes.{nodes_append, nodes_one, list_size, challenge_size, compose_size, constraints_nodes}

-- the capped sum of two capped counts
pub capped : (r a b A B : ℕ) → r ≡ min largest_size (a + b) → a ≡ min largest_size A → b ≡ min largest_size B → r ≡ min largest_size (A + B)
capped r a b A B h p q = omega arith

cap_first : (r a n A : ℕ) → r ≡ min largest_size (a + n) → a ≡ min largest_size A → r ≡ min largest_size (A + n)
cap_first r a n A h p = omega arith

cap_more : (r a b A B : ℕ) → r ≡ min largest_size (a + b) → min largest_size a ≡ min largest_size A → b ≡ min largest_size B → r ≡ min largest_size (A + B)
cap_more r a b A B h p q = omega arith

cap_last : (r Y T u : ℕ) → u ≡ min largest_size (Y + T + T) → r ≡ min largest_size (u + 6) → r ≡ min largest_size (Y + T * 2 + 6)
cap_last r Y T u e h = omega arith

cap_times : (n X x : ℕ) → x ≡ min largest_size X → min largest_size (n * x + x) ≡ min largest_size (n * X + X)
cap_times n X x e = go (dec_le X largest_size)
  where
    plain : (a b : ℕ) → (x ≡ X → a ≡ b) → X ≤ largest_size → min largest_size (a + x) ≡ min largest_size (b + X)
    plain a b h l = let d : x ≡ X = omega arith in let q = h d in omega arith

    go : Dec (X ≤ largest_size) → min largest_size (n * x + x) ≡ min largest_size (n * X + X)
    go (yes l) = plain (n * x) (n * X) (λ d. ap (λ (k : ℕ). n * k) d) l
    go (no l) = omega arith

-- root i of w, which stand `step` words apart from s on
pub root_below : (s step w len i : ℕ) → s + w * step < len + step → i < w → s + i * step < len
root_below s step w len i h l =
    let m : suc i * step ≤ w * step = mul-le-mul_right step l in
    let e = suc-mul i step in
    omega arith

-- the permutation's
pub permutation_none : (v : CircuitParams) → v.num_permutation_polys ≡ 0 → permutation_nodes v ≡ 0
unfolding permutation_nodes
permutation_none v h = ap (λ (t : Bool). cond t 0 (6 + v.num_permutation_polys * 18 + v.num_chunks * 4)) (eq-eqb v.num_permutation_polys 0 h)

pub permutation_some : (v : CircuitParams) → (v.num_permutation_polys ≡ 0 → ⊥) → permutation_nodes v ≡ 6 + v.num_permutation_polys * 18 + v.num_chunks * 4
unfolding permutation_nodes
permutation_some v h = ap (λ (t : Bool). cond t 0 (6 + v.num_permutation_polys * 18 + v.num_chunks * 4)) (ne_eqb v.num_permutation_polys 0 h)

module _ (item : ℕ) where
  -- one expression more
  pub nodes_more : (f : ℕ → Expr) (i : ℕ) → nodes_in item (tabulate f (i + 1)) ≡ nodes_in item (tabulate f i) + weight item (f i)
  nodes_more f i =
      ap (λ (n : ℕ). nodes_in item (tabulate f n)) (add-one i) ∙ ap (nodes_in item) (tabulate_suc f i) ∙ nodes_append item (tabulate f i) (f i ∷ [])
      ∙ ap (λ (n : ℕ). nodes_in item (tabulate f i) + n) (nodes_one item (f i))

  pub count_more : (f : ℕ → Expr) (i r sum x : ℕ) → r ≡ min largest_size (sum + x) → sum ≡ min largest_size (nodes_in item (tabulate f i))
      → x ≡ min largest_size (weight item (f i))
      → r ≡ min largest_size (nodes_in item (tabulate f (i + 1)))
  count_more f i r sum x h p q =
      capped r sum x (nodes_in item (tabulate f i)) (weight item (f i)) h p q ∙ ap (min largest_size) (sym (nodes_more f i))

  pub count_none : (f : ℕ → Expr) → 0 ≡ min largest_size (nodes_in item (tabulate f 0))
  unfolding tabulate nodes_in
  count_none f = refl

  pub count_all : (f : ℕ → Expr) (sum i n : ℕ) → i ≡ n → sum ≡ min largest_size (nodes_in item (tabulate f i)) → sum ≡ min largest_size (nodes_in item (tabulate f n))
  count_all f sum i n e h = h ∙ ap (λ (m : ℕ). min largest_size (nodes_in item (tabulate f m))) e

  -- what a list adds
  pub list_none : 1 ≡ min largest_size (list_nodes item 0)
  unfolding list_nodes
  list_none = refl

  pub list_one : 0 ≡ min largest_size (list_nodes item 1)
  unfolding list_nodes
  list_one = refl

  pub list_many : (n r : ℕ) → (n ≡ 0 → ⊥) → (n ≡ 1 → ⊥) → r ≡ min largest_size (n * item + 2) → r ≡ min largest_size (list_nodes item n)
  unfolding list_nodes
  list_many zero r h k e = absurd (h refl)
  list_many (suc zero) r h k e = absurd (k refl)
  list_many (suc (suc n)) r h k e = e

  -- a side
  pub side_counted : (nodes pairs : List ℕ) (beta s w r x y z : ℕ) → r ≡ min largest_size (z + 2) → z ≡ min largest_size (x + y)
      → x ≡ min largest_size (nodes_in item (tabulate (λ i. expr_of nodes (get_or pairs (s + i * 2) 0)) w))
      → y ≡ min largest_size (list_nodes item w)
      → r ≡ min largest_size (weight item (side_tree nodes pairs beta s w))
  unfolding side_exprs
  side_counted nodes pairs beta s w r x y z g h p q =
      let es : List Expr = tabulate (λ i. expr_of nodes (get_or pairs (s + i * 2) 0)) w in
      let e : z ≡ min largest_size (weight item (distribute_powers es (Expr.challenge beta))) =
      capped z x y (nodes_in item es) (list_nodes item w) h p q
      ∙ ap (min largest_size)
      (ap (λ (n : ℕ). nodes_in item es + list_nodes item n) (sym (side_length nodes pairs s w))
      ∙ sym (list_size item (Expr.challenge beta) (challenge_size item beta) es)) in
      let u = side_weight item nodes pairs beta s w in
      plain (weight item (distribute_powers es (Expr.challenge beta))) (weight item (side_tree nodes pairs beta s w)) e u
    where
      plain : (D S : ℕ) → z ≡ min largest_size D → S ≡ D + 2 → r ≡ min largest_size S
      plain D S e u = omega arith

  -- of lookup i, whose pairs begin at s
  module _ (nodes widths pairs : List ℕ) (beta i s w r : ℕ) (es : s ≡ total (take i widths)) (ew : w ≡ get_or widths i 0) where
    pub input_counted : r ≡ min largest_size (weight item (side_tree nodes pairs beta (s * 2) w))
        → r ≡ min largest_size (weight item (input_side nodes widths pairs beta i))
    input_counted e = e ∙ ap (λ (t : Expr). min largest_size (weight item t)) (sym (input_side_is nodes widths pairs beta i s w es ew))

    pub table_counted : r ≡ min largest_size (weight item (side_tree nodes pairs beta (s * 2 + 1) w))
        → r ≡ min largest_size (weight item (table_side nodes widths pairs beta i))
    table_counted e = e ∙ ap (λ (t : Expr). min largest_size (weight item t)) (sym (table_side_is nodes widths pairs beta i s w es ew))

  -- a group: (n + 1) times, then the table twice
  pub group_counted : (n inputs table x y z u r I T : ℕ) → inputs ≡ min largest_size I → table ≡ min largest_size T → x ≡ min largest_size (inputs + n)
      → y ≡ (n + 1) * x
      → z ≡ min largest_size (y + table)
      → u ≡ min largest_size (z + table)
      → r ≡ min largest_size (u + 6)
      → r ≡ min largest_size (group_nodes n I T)
  unfolding group_nodes
  group_counted n inputs table x y z u r I T ei et ex ey ez eu er =
      let Y : ℕ = suc n * (I + n) in
      let e : x ≡ min largest_size (I + n) = cap_first x inputs n I ex ei in
      let f : min largest_size y ≡ min largest_size Y =
      ap (min largest_size) (ey ∙ ap (λ (m : ℕ). m * x) (add-one n) ∙ suc-mul n x) ∙ cap_times n (I + n) x e ∙ ap (min largest_size) (sym (suc-mul n (I + n))) in
      let ez' : z ≡ min largest_size (Y + T) = cap_more z y table Y T ez f et in
      let eu' : u ≡ min largest_size (Y + T + T) = capped u z table (Y + T) T eu ez' et in
      cap_last r Y T u eu' er

  pub group_is : (v : CircuitParams) (nodes sizes widths pairs : List ℕ) (j s n r : ℕ) → total widths * 2 ≤ length pairs
      → total sizes ≡ length widths
      → All (λ n. 0 < n) sizes
      → j < length sizes
      → s ≡ total (take j sizes)
      → n ≡ get_or sizes j 0
      → r ≡ min largest_size (group_nodes n (nodes_in item (input_sides nodes widths pairs v.num_challenges s n)) (weight item (table_side nodes widths pairs v.num_challenges s)))
      → r ≡ min largest_size (weight item (lookup_tree_of v (groups_from_words nodes sizes widths pairs) j))
  unfolding group_from_words
  group_is v nodes sizes widths pairs j s n r enough members positive h es en e =
      let user : ℕ = v.num_challenges in
      e
      ∙ ap (min largest_size)
      (ap (λ (m : ℕ). group_nodes m (nodes_in item (input_sides nodes widths pairs user s n)) (weight item (table_side nodes widths pairs user s)))
      (sym (tabulate_length (λ i. input_side nodes widths pairs user (s + i)) n))
      ∙ sym (group_weight item (number_of_m v j) (number_of_h v j) (input_sides nodes widths pairs user s n) (table_side nodes widths pairs user s))
      ∙ ap₂ (λ (s n : ℕ). weight item (group_from_words v nodes widths pairs j s n)) es en
      ∙ sym (ap (weight item) (group_tree_is nodes sizes widths pairs enough members j h (all_get (λ n. 0 < n) sizes positive j 0 h) v)))

  -- the user's own constraints
  pub own_nodes : (nodes roots : List ℕ)
      → nodes_in item (tabulate (λ i. expr_of nodes (get_or roots (0 + i * 1) 0)) (length roots)) ≡ nodes_in item (map (expr_of nodes) roots)
  own_nodes nodes roots =
      ap (nodes_in item)
      (tabulate_cong (λ i. expr_of nodes (get_or roots (0 + i * 1) 0)) (λ i. expr_of nodes (get_or roots i 0)) (length roots)
      (λ i l. ap (λ (n : ℕ). expr_of nodes (get_or roots n 0)) (zero-add (i * 1) ∙ mul-one i))
      ∙ sym (map_tabulate (expr_of nodes) (λ i. get_or roots i 0) (length roots))
      ∙ ap (map (expr_of nodes)) (tabulate_of roots 0))

  -- all of it
  module _ {c : Circuit} {v : CircuitParams} {names nodes roots sizes widths pairs : List ℕ} where
    counted : Limits v → DecodedFrom c v names nodes roots sizes widths pairs
        → weight item (compose c)
        ≡ nodes_in item (map (expr_of nodes) roots) + nodes_in item (tabulate (lookup_tree_of v (groups_from_words nodes sizes widths pairs)) v.num_groups)
        + permutation_nodes v
        + list_nodes item (num_constraints (length roots) v)
        + 2
        + v.num_groups
        + list_nodes item (suc v.num_groups)
    counted l p =
        let es : List Expr = constraints_from_words v names nodes roots sizes widths pairs in
        let a = ap (weight item) (composed_is p) in
        let b = compose_size item v es in
        let d = constraints_nodes item v l names (map (expr_of nodes) roots) (groups_from_words nodes sizes widths pairs) in
        let e = ap (list_nodes item) (constraints_length v names nodes roots sizes widths pairs) in
        omega arith

    pub composed_counted : (r own looks perm x y z u m k : ℕ) → Limits v → DecodedFrom c v names nodes roots sizes widths pairs
        → own ≡ min largest_size (nodes_in item (tabulate (λ i. expr_of nodes (get_or roots (0 + i * 1) 0)) (length roots)))
        → looks ≡ min largest_size (nodes_in item (tabulate (lookup_tree_of v (groups_from_words nodes sizes widths pairs)) v.num_groups))
        → perm ≡ permutation_nodes v
        → m ≡ min largest_size (list_nodes item (num_constraints (length roots) v))
        → k ≡ min largest_size (list_nodes item (v.num_groups + 1))
        → x ≡ min largest_size (own + looks)
        → y ≡ min largest_size (x + perm)
        → z ≡ min largest_size (y + m)
        → u ≡ min largest_size (z + (v.num_groups + 2))
        → r ≡ min largest_size (u + k)
        → r ≡ min largest_size (weight item (compose c))
    composed_counted r own looks perm x y z u m k l p ho hl hp hm hk hx hy hz hu hr =
        let A : ℕ = nodes_in item (map (expr_of nodes) roots) in
        let B : ℕ = nodes_in item (tabulate (lookup_tree_of v (groups_from_words nodes sizes widths pairs)) v.num_groups) in
        let M : ℕ = list_nodes item (num_constraints (length roots) v) in
        let K : ℕ = list_nodes item (v.num_groups + 1) in
        let ex : x ≡ min largest_size (A + B) = capped x own looks A B hx (ho ∙ ap (min largest_size) (own_nodes nodes roots)) hl in
        let ey : y ≡ min largest_size (A + B + permutation_nodes v) = plain y x perm (A + B) (permutation_nodes v) hy ex hp in
        let ez : z ≡ min largest_size (A + B + permutation_nodes v + M) = capped z y m (A + B + permutation_nodes v) M hz ey hm in
        let eu : u ≡ min largest_size (A + B + permutation_nodes v + M + (v.num_groups + 2)) =
        plain u z (v.num_groups + 2) (A + B + permutation_nodes v + M) (v.num_groups + 2) hu ez refl in
        let er : r ≡ min largest_size (A + B + permutation_nodes v + M + (v.num_groups + 2) + K) =
        capped r u k (A + B + permutation_nodes v + M + (v.num_groups + 2)) K hr eu hk in
        er
        ∙ ap (min largest_size)
        (sum A B (permutation_nodes v) M v.num_groups K ∙ ap (λ (n : ℕ). A + B + permutation_nodes v + M + 2 + v.num_groups + list_nodes item n) (add-one v.num_groups) ∙ sym (counted l p))
      where
        plain : (r a b A B : ℕ) → r ≡ min largest_size (a + b) → a ≡ min largest_size A → b ≡ B → r ≡ min largest_size (A + B)
        plain r a b A B h p q = omega arith

        sum : (A B P M L K : ℕ) → A + B + P + M + (L + 2) + K ≡ A + B + P + M + 2 + L + K
        sum A B P M L K = omega arith
