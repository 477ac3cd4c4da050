-- Few γ make a denominator zero: OddsOf of Insurer.
use mathlib.Core.Path.{◌≡◌, refl, sym, ap, ◌∙◌, subst}
use mathlib.Core.Logic.{◌≢◌, ◌↔◌}
use mathlib.Core.List.{List, [], ◌∷◌, ◌++◌}
use Prim.Native.Nat.{ℕ, zero, suc, ◌+◌, ◌-◌, ◌*◌, ◌≤◌, ◌<◌, min}
use native.Mathlib.Nat.{mul_comm, mul-add, mul-le-mul_left, mul-le-mul_right}
use native.Mathlib.Omega.{arith}
use lib.ListN.{length, get_or, length-append, length-take}
use Rattle.field.specs.Algebra.{Field, add_comm, add_neg, neg_unique}
use Rattle.lists.specs.Lists.{tabulate, total, concat, All}
use Rattle.lists.proofs.All.{all_get, all_from, all_join, all_left, all_right, all_tabulate, all_concat}
use Rattle.lists.proofs.Columns.{columns_length, get_columns}
use Rattle.lists.proofs.Parts.{concat_split}
use Rattle.lists.proofs.Walks.{entry_inside}
use Rattle.backend.specs.Circuit.{Pair, rows_of, num_copied, num_lookups, group_sizes, num_groups, groups_of}
use Rattle.backend.proofs.Degree.{groups_length}
use Rattle.prover.specs.Log.{Log}
use Rattle.prover.specs.Columns.{instance_polys, preprocess_polys, witness_polys, given_polys, user_environment, compressed_at, input_at, table_at, group_table, permutation_at, copied_at, permutation_factor_at}
use Rattle.hyperplonk_spec.specs.Insurer.{drawn, denominators, OddsOf}
use Rattle.hyperplonk_spec.specs.Meaning.{NoneZero}

-- ---- all of a grid
module _ {A : Type 0} (Q : A → Type 0) (rows : ℕ) (f : ℕ → ℕ → A) (n : ℕ) where
  abbrev grid : List A
  grid = concat (tabulate (λ j. tabulate (f j) rows) n)

  all_grid : ((j b : ℕ) → j < n → b < rows → Q (f j b)) → All Q grid
  all_grid h =
      all_concat Q (tabulate (λ j. tabulate (f j) rows) n)
      (all_tabulate (All Q) (λ j. tabulate (f j) rows) n (λ j l. all_tabulate Q (f j) rows (λ b m. h j b l m)))

  grid_all : All Q grid → (j b : ℕ) → j < n → b < rows → Q (f j b)
  grid_all a j b l m =
      subst Q (get_columns rows f n j b (f j b) l m)
      (all_get Q grid a (j * rows + b) (f j b) (let e = columns_length rows f n in entry_inside j n b rows (length grid) l m (omega arith)))

-- all of several lists
all_parts : {A : Type 0} (Q : A → Type 0) (xss : List (List A)) → All Q (concat xss) → All (All Q) xss
unfolding concat
all_parts Q [] a = tt
all_parts Q (xs ∷ xss) a = (all_left Q xs (concat xss) a, all_parts Q xss (all_right Q xs (concat xss) a))

-- ---- over any field
module _ (𝓕 : Field) where
  open 𝓕 use {F, zero as nil, add, mul, neg}

  -- γ + v is zero at one γ only
  away : (γ v : F) → add γ v ≢ nil → γ ≢ neg v
  away γ v n e = n (ap (λ (x : F). add x v) e ∙ add_comm 𝓕 (neg v) v ∙ add_neg 𝓕 v)

  away_from : (γ v : F) → γ ≢ neg v → add γ v ≢ nil
  away_from γ v n e = n (neg_unique 𝓕 v γ (add_comm 𝓕 v γ ∙ e))

  module _ (g : Log 𝓕) where
    abbrev rows : ℕ
    rows = rows_of g.circuit

    abbrev groups : List (List (List Pair))
    groups = groups_of g.circuit

    -- the lookups of all groups
    abbrev members : List (List Pair)
    members = concat groups

    -- what γ is added to, the inverted factors from row 1 on
    abbrev input : ℕ → ℕ → F
    input i b = input_at 𝓕 g (get_or members i []) b

    abbrev table : ℕ → ℕ → F
    table j b = group_table 𝓕 g (get_or groups j []) b

    abbrev factor : ℕ → ℕ → F
    factor i b = add (copied_at 𝓕 g i (suc b)) (mul g.β (permutation_at 𝓕 g i (suc b)))

    -- the γ at which one of them is zero
    abbrev opposite : ℕ → (ℕ → ℕ → F) → ℕ → List F
    opposite r v n = concat (tabulate (λ j. tabulate (λ b. neg (v j b)) r) n)

    pub unlucky : List F
    unlucky = opposite rows input (length members) ++ (opposite rows table (length groups) ++ opposite (rows - 1) factor (num_copied g.circuit))

    members_few : length members ≤ num_lookups g.circuit
    unfolding groups_of
    members_few =
        let sizes : List ℕ = group_sizes g.circuit.groups in
        let e : length members ≡ min (total sizes) (num_lookups g.circuit) =
        ap length (concat_split sizes g.circuit.lookups) ∙ length-take (total sizes) g.circuit.lookups in
        omega arith

    pub few : length unlucky ≤ denominators g.circuit
    unfolding unlucky
    few =
        let M : ℕ = length members in
        let L : ℕ = num_lookups g.circuit in
        let G : ℕ = num_groups g.circuit in
        let n : ℕ = num_copied g.circuit in
        let w : length groups ≡ G = groups_length g.circuit in
        let a = length-append (opposite rows input M) (opposite rows table (length groups) ++ opposite (rows - 1) factor n) in
        let b = length-append (opposite rows table (length groups)) (opposite (rows - 1) factor n) in
        let d = columns_length rows (λ j b. neg (input j b)) M in
        let e = columns_length rows (λ j b. neg (table j b)) (length groups) ∙ ap (λ (x : ℕ). x * rows) w in
        let f = columns_length (rows - 1) (λ j b. neg (factor j b)) n in
        let h : n * (rows - 1) ≤ n * rows = mul-le-mul_left n (omega arith) in
        let k : M * rows ≤ L * rows = mul-le-mul_right rows members_few in
        let q = mul-add rows (L + G) n in
        let r = mul-add rows L G in
        let s = mul_comm n rows in
        let t = mul_comm L rows in
        let u = mul_comm G rows in
        omega arith

    module _ (γ : F) where
      abbrev now : Log 𝓕
      now = drawn 𝓕 g g.β γ

      -- γ is in none of them
      input_now : (l : List Pair) (b : ℕ) → input_at 𝓕 now l b ≡ input_at 𝓕 g l b
      unfolding input_at compressed_at user_environment given_polys instance_polys preprocess_polys witness_polys
      input_now l b = refl

      table_now : (j b : ℕ) → group_table 𝓕 now (get_or groups j []) b ≡ table j b
      unfolding group_table table_at compressed_at user_environment given_polys instance_polys preprocess_polys witness_polys
      table_now j b = refl

      factor_now : (i b : ℕ) → permutation_factor_at 𝓕 now i (suc b) ≡ add γ (factor i b)
      unfolding permutation_factor_at copied_at permutation_at given_polys instance_polys preprocess_polys witness_polys
      factor_now i b = add_comm 𝓕 (factor i b) γ

      abbrev Apart : F → Type 0
      Apart u = γ ≢ u

      -- no γ + input of a lookup is zero
      abbrev NonZero : List Pair → Type 0
      NonZero l = (b : ℕ) → b < rows → add γ (input_at 𝓕 now l b) ≢ nil

      each_member : NoneZero 𝓕 now → All NonZero members
      each_member z =
          all_concat NonZero groups
          (all_from (All NonZero) groups [] (λ j l. all_from NonZero (get_or groups j []) [] (λ i n. z.input_denominators j l i n)))

      none_apart : NoneZero 𝓕 now → All Apart unlucky
      unfolding unlucky
      none_apart z =
          all_join Apart (opposite rows input (length members)) _
          (all_grid Apart rows (λ j b. neg (input j b)) (length members)
          (λ i b l m.
          away γ (input i b) (subst (λ (x : F). add γ x ≢ nil) (input_now (get_or members i []) b) (all_get NonZero members (each_member z) i [] l b m))))
          (all_join Apart (opposite rows table (length groups)) _
          (all_grid Apart rows (λ j b. neg (table j b)) (length groups)
          (λ j b l m. away γ (table j b) (subst (λ (x : F). add γ x ≢ nil) (table_now j b) (z.table_denominators j l b m))))
          (all_grid Apart (rows - 1) (λ j b. neg (factor j b)) (num_copied g.circuit)
          (λ i b l m. away γ (factor i b) (subst (λ (x : F). x ≢ nil) (factor_now i b) (z.factor_denominators_is i l (suc b) (omega arith) (omega arith))))))

      apart_none : All Apart unlucky → NoneZero 𝓕 now
      unfolding unlucky
      apart_none a =
          let first = all_left Apart (opposite rows input (length members)) _ a in
          let rest = all_right Apart (opposite rows input (length members)) _ a in
          let second = all_left Apart (opposite rows table (length groups)) _ rest in
          let third = all_right Apart (opposite rows table (length groups)) _ rest in
          let each : All NonZero members =
          all_from NonZero members []
          (λ i l b m.
          subst (λ (x : F). add γ x ≢ nil) (sym (input_now (get_or members i []) b))
          (away_from γ (input i b) (grid_all Apart rows (λ j b. neg (input j b)) (length members) first i b l m))) in
          record {
            input_denominators = λ j l i n. all_get NonZero (get_or groups j []) (all_get (All NonZero) groups (all_parts NonZero groups each) j [] l) i [] n;
            table_denominators = λ j l b m.
                subst (λ (x : F). add γ x ≢ nil) (sym (table_now j b))
                (away_from γ (table j b) (grid_all Apart rows (λ j b. neg (table j b)) (length groups) second j b l m));
            factor_denominators_is = λ i l b m p. go third i l b m p;
          }
        where
          go : All Apart (opposite (rows - 1) factor (num_copied g.circuit)) → (i : ℕ) → i < num_copied g.circuit → (b : ℕ) → b < rows → 0 < b
              → permutation_factor_at 𝓕 now i b ≢ nil
          go third i l zero m p = absurd (bad p)
            where
              bad : 0 < 0 → ⊥
              bad p = omega arith
          go third i l (suc b) m p =
              subst (λ (x : F). x ≢ nil) (sym (factor_now i b))
              (away_from γ (factor i b) (grid_all Apart (rows - 1) (λ j b. neg (factor j b)) (num_copied g.circuit) third i b l (omega arith)))

      pub none_when : NoneZero 𝓕 now ↔ All Apart unlucky
      none_when = (none_apart, apart_none)

pub odds_of : OddsOf
odds_of 𝓕 g = (unlucky 𝓕 g, few 𝓕 g, none_when 𝓕 g)
