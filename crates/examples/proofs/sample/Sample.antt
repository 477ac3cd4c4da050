-- Demand 3's premises hold of a log of the bench, so its conclusions do: seven readings (angle, current), looked up in an approved table
-- that lists a pair twice; settings copied from the sheet to the knee; and a seal over the angles.
use mathlib.Core.Path.{◌≡◌, refl, sym, ap, ◌∙◌}
use mathlib.Core.Logic.{◌≢◌}
use mathlib.Core.Bool.{Bool, true, not, ◌&&◌}
use mathlib.Core.List.{List, [], ◌∷◌, ◌++◌}
use Prim.Native.Nat.{ℕ, suc, ◌<◌}
use native.Mathlib.Omega.{arith}
use lib.ListN.{get_or, replicate}
use lib.Dec.{eqb, ltb}
use borrow.Author.Tests.{eqb-true, eq-eqb, ltb-true}
use Rattle.field.specs.Field.{𝔾, val}
use Rattle.lists.specs.Lists.{all_of, range, tabulate}
use Rattle.expression.specs.Expr.{Expr}
use Rattle.expression.specs.Value.{value_at}
use Rattle.backend.specs.Circuit.{Pair, rows_of, num_groups, groups_of}
use Rattle.preprocessor.specs.Compose.{CutsAlike, num_z}
use Rattle.prover.specs.Log.{Log}
use Rattle.prover.specs.Columns.{user_environment, lookup_h_at, z_at}
use Rattle.hyperplonk_spec.specs.Build.{Output, log_of, check_build, build_of, lent_build}
use Rattle.hyperplonk_spec.specs.Meaning.{Each, Premises, cell_value, no_cell}
use Rattle.hyperplonk_spec.specs.Demand.{Succeeds}
use Rattle.hyperplonk_spec.specs.Insurer.{Good, Passes, CountsUnspoilt, no_pair, m_word}
use Rattle.field.proofs.Elements.{val_injective}
use Rattle.lists.proofs.Tests.{false_true, and_left, and_right, all_each}
use Rattle.lists.proofs.Columns.{below_length, below_get}
use Rattle.completeness.proofs.DemandThree.{demand_three}
use Rattle.completeness.proofs.RowListedTwice.{row_listed_twice}
use Rattle.examples.specs.Open.{everything}

-- ---- the words

-- k is 3 and no maximum degree is stated; then start and count of each section
abbrev contents : List ℕ
contents =
    3 ∷ 0 ∷ 22 ∷ 1 ∷ 23 ∷ 2 ∷ 39 ∷ 2 ∷ 43 ∷ 19 ∷ 119 ∷ 1 ∷ 120 ∷ 1 ∷ 121 ∷ 2 ∷ 125 ∷ 2 ∷ 127 ∷ 5 ∷ 137 ∷ 1 ∷ []

-- polynomial 0 is the sheet, of two settings; 1 and 2 are the approved angles and currents: rows 4 and 5 list the pair (32, 6) twice
abbrev columns_given : List ℕ
columns_given = 2 ∷ 0 ∷ 28 ∷ 30 ∷ 30 ∷ 32 ∷ 32 ∷ 35 ∷ 40 ∷ 0 ∷ 4 ∷ 5 ∷ 6 ∷ 6 ∷ 6 ∷ 7 ∷ 9 ∷ []

-- round 1: 3 and 4, the angles and currents read, and 5, the knee's settings; then a challenge. Round 2: 6, the seal
abbrev rounds : List ℕ
rounds = 3 ∷ 1 ∷ 1 ∷ 0 ∷ []

-- nodes 0 to 14: seal − (angle + (1 − (Lagrange(0) + Lagrange(1))) × (challenge × seal of the line before)). The lines stand in the row
-- order; row 0 and row 1, the first line, have no line before
abbrev seal_nodes : List ℕ
seal_nodes =
    5 ∷ 6 ∷ 0 ∷ 2147483648 ∷ 5 ∷ 3 ∷ 0 ∷ 2147483648 ∷ 1 ∷ 0 ∷ 0 ∷ 1 ∷ 3 ∷ 0 ∷ 0 ∷ 2147483648 ∷ 3 ∷ 0 ∷ 0 ∷ 2147483649 ∷ 8 ∷ 3 ∷ 4 ∷ 0 ∷ 7 ∷ 5 ∷ 0 ∷ 0 ∷ 8 ∷ 2 ∷ 6 ∷ 0 ∷ 6 ∷ 0 ∷ 0 ∷ 0 ∷ 5 ∷ 6 ∷ 0 ∷ 2147483647 ∷ 9 ∷ 8 ∷ 9 ∷ 0 ∷ 9 ∷ 7 ∷ 10 ∷ 0 ∷ 8 ∷ 1 ∷ 11 ∷ 0 ∷ 7 ∷ 12 ∷ 0 ∷ 0 ∷ 8 ∷ 0 ∷ 13 ∷ 0 ∷ []

-- nodes 15 to 18: angle, approved angle, current, approved current
abbrev reading_nodes : List ℕ
reading_nodes =
    5 ∷ 3 ∷ 0 ∷ 2147483648 ∷ 5 ∷ 1 ∷ 0 ∷ 2147483648 ∷ 5 ∷ 4 ∷ 0 ∷ 2147483648 ∷ 5 ∷ 2 ∷ 0 ∷ 2147483648 ∷ []

-- the constraint; a lookup of two pairs; a cycle of three cells (the sheet's first setting, row 3 of the knee, the angle read at row 6)
-- and one of two (the sheet's second setting, row 5 of the knee); the lookup's group
abbrev roots_and_cycles : List ℕ
roots_and_cycles =
    14 ∷ 2 ∷ 15 ∷ 16 ∷ 17 ∷ 18 ∷ 3 ∷ 2 ∷ 0 ∷ 1 ∷ 5 ∷ 3 ∷ 3 ∷ 6 ∷ 0 ∷ 2 ∷ 5 ∷ 5 ∷ 0 ∷ []

abbrev circuit : List ℕ
circuit = contents ++ (columns_given ++ (rounds ++ (seal_nodes ++ (reading_nodes ++ roots_and_cycles))))

-- the angle to hold and the largest current: they stand at rows 1 and 2
abbrev sheet : List ℕ
sheet = 30 ∷ 9 ∷ []

-- angles, currents, settings of the knee, seal
abbrev witness : List ℕ
witness =
    0 ∷ 28 ∷ 30 ∷ 32 ∷ 32 ∷ 30 ∷ 30 ∷ 32 ∷ 0 ∷ 4 ∷ 5 ∷ 6 ∷ 6 ∷ 5 ∷ 6 ∷ 6 ∷ 0 ∷ 0 ∷ 0 ∷ 30 ∷ 0 ∷ 9 ∷ 0 ∷ 0 ∷ 0 ∷ 28 ∷ 2830 ∷ 28303232 ∷ 283032 ∷ 28303232303230 ∷ 2830323230 ∷ 283032323032 ∷ []

-- the user's, with which the seal's digits are the angles; β; γ
abbrev challenges : List ℕ
challenges = 100 ∷ 1000 ∷ 777 ∷ []

abbrev log : Log 𝔾
log = log_of circuit sheet witness challenges

abbrev build : Output
build = build_of (lent_build circuit sheet witness challenges (replicate 80 9) (replicate 548 9))

-- ---- from a test that is computed to a fact

abbrev same : 𝔾.F → 𝔾.F → Bool
same x y = eqb (val x) (val y)

agree : (x y : 𝔾.F) → same x y ≡ true → x ≡ y
agree x y e = val_injective x y (eqb-true (val x) (val y) e)

apart : (x y : 𝔾.F) → not (same x y) ≡ true → x ≢ y
apart x y e z = false_true (sym (ap not (eq-eqb (val x) (val y) (ap val z))) ∙ e)

-- each entry of a list, and each of the numbers below n, has what its test tells
each : {A : Type 0} (d : A) (xs : List A) (t : A → Bool) (Q : A → Type 0) → ((x : A) → t x ≡ true → Q x) → all_of t xs ≡ true → Each d xs Q
each d xs t Q f e i l = f (get_or xs i d) (all_each t d xs e i l)

each_below : (n : ℕ) (t : ℕ → Bool) (Q : ℕ → Type 0) → ((b : ℕ) → t b ≡ true → Q b) → all_of t (range n) ≡ true → (b : ℕ) → b < n → Q b
each_below n t Q f e b l = f b (ap t (sym (below_get n b 0 l)) ∙ all_each t 0 (range n) e b (rw below_length l))

-- ---- the premises, each a test that is computed

abbrev rows : List ℕ
rows = range (rows_of log.circuit)

-- the value of a user's expression at a row
abbrev valued : Expr → ℕ → 𝔾.F
valued e b = value_at 𝔾 (user_environment 𝔾 log) e b

zeros : all_of (λ e. all_of (λ b. same (valued e b) 𝔾.zero) rows) log.circuit.constraints ≡ true
unfolding everything
zeros = refl

cells : all_of (λ cycle. all_of (λ x. all_of (λ y. same (cell_value 𝔾 log x) (cell_value 𝔾 log y)) cycle) cycle) log.circuit.cycles ≡ true
unfolding everything cell_value
cells = refl

cuts : CutsAlike log.circuit
unfolding everything
cuts = refl

pub premises : Premises 𝔾 log
premises =
    record {
      zero_constraints = each _ _ _ _ (λ e. each_below _ _ _ (λ b. agree (valued e b) 𝔾.zero)) zeros;
      equal_cells = each _ _ _ _ (λ cycle. each no_cell _ _ _ (λ x. each no_cell _ _ _ (λ y. agree (cell_value 𝔾 log x) (cell_value 𝔾 log y)))) cells;
      cuts_alike = cuts;
    }

-- ---- a good log: each reading stands in the table, entry by entry

-- a row of the table that has the pair read at row b
abbrev stands : ℕ → ℕ
stands b = get_or (0 ∷ 1 ∷ 2 ∷ 5 ∷ 5 ∷ 2 ∷ 3 ∷ 5 ∷ []) b 0

abbrev entry_at : ℕ → Pair → Bool
entry_at b p = same (valued p.input b) (valued p.table (stands b))

abbrev listed : ℕ → Bool
listed b = ltb (stands b) (rows_of log.circuit)

abbrev reading_at : List Pair → ℕ → Bool
reading_at l b = listed b && all_of (entry_at b) l

readings : all_of (λ l. all_of (reading_at l) rows) log.circuit.lookups ≡ true
unfolding everything
readings = refl

reading_stands : (l : List Pair) (b : ℕ) → reading_at l b ≡ true
    → (r : ℕ) × (r < rows_of log.circuit) × Each no_pair l (λ p. valued p.input b ≡ valued p.table r)
reading_stands l b e =
    let entries = and_right (listed b) (all_of (entry_at b) l) e in
    (stands b, ltb-true _ _ (and_left _ _ e), each no_pair l (entry_at b) _ (λ p. agree (valued p.input b) (valued p.table (stands b))) entries)

pub good : Good 𝔾 log
good =
    record {
      readings_stand = each _ _ _ _ (λ l. each_below _ _ _ (reading_stands l)) readings;
      zero_constraints = premises.zero_constraints;
      equal_cells = premises.equal_cells;
      cuts_alike = premises.cuts_alike;
    }

-- ---- the building call

-- questions 1 to 14 are yes, and neither 15 nor 17 is given
asked : check_build (lent_build circuit sheet witness challenges (replicate 80 9) (replicate 548 9)) ≡ 0
unfolding everything
asked = refl

number_zero : build.answer.number ≡ 0
unfolding everything
number_zero = refl

answered : (n : ℕ) → n ≢ 0 → build.answer.number ≢ n
answered n h e = h (sym e ∙ number_zero)

not_0 : (n m : ℕ) → n ≡ suc m → n ≢ 0
not_0 n m e z = omega arith

-- so for every α and y the row sum is 0, by demand 3
pub succeeds : Succeeds circuit sheet witness challenges (replicate 80 9) (replicate 548 9) build
succeeds = (demand_three circuit sheet witness challenges (replicate 80 9) (replicate 548 9) asked).otherwise premises (answered 15 (not_0 15 14 refl)) (answered 17 (not_0 17 16 refl))

-- the log is not turned away, neither by a number nor by the sum
pub passes : Passes circuit sheet witness challenges (replicate 80 9) (replicate 548 9)
passes = record { number = number_zero; row_sum = succeeds.row_sum }

-- ---- the columns that it writes, as numbers

-- the sheet's settings, at rows 1 and 2
abbrev sheet_words : List ℕ
sheet_words = 0 ∷ 30 ∷ 9 ∷ 0 ∷ 0 ∷ 0 ∷ 0 ∷ 0 ∷ []

-- the permutation labels of the sheet, the angles and the knee
abbrev label_words : List ℕ
label_words =
    0 ∷ 14 ∷ 21 ∷ 3 ∷ 4 ∷ 5 ∷ 6 ∷ 7 ∷ 8 ∷ 9 ∷ 10 ∷ 11 ∷ 12 ∷ 13 ∷ 19 ∷ 15 ∷ 16 ∷ 17 ∷ 18 ∷ 1 ∷ 20 ∷ 2 ∷ 22 ∷ 23 ∷ []

-- angle + β × current: of the readings, then of the table
abbrev compressed_words_is : List ℕ
compressed_words_is =
    0 ∷ 4028 ∷ 5030 ∷ 6032 ∷ 6032 ∷ 5030 ∷ 6030 ∷ 6032 ∷ 0 ∷ 4028 ∷ 5030 ∷ 6030 ∷ 6032 ∷ 6032 ∷ 7035 ∷ 9040 ∷ []

-- m: the pair (32, 6), read three times, is counted at row 5 and not at row 4
abbrev m_words_is : List ℕ
m_words_is = 1 ∷ 1 ∷ 2 ∷ 1 ∷ 0 ∷ 3 ∷ 0 ∷ 0 ∷ []

-- h: 0 at rows 0 and 1, where input and table are equal and m is 1
abbrev h_words_is : List ℕ
h_words_is =
    0 ∷ 0 ∷ 11613793063161653225 ∷ 10239270693012380631 ∷ 5765115491219596921 ∷ 7984348602008724654 ∷ 13972588867621800611 ∷ 5765115491219596921 ∷ []

-- both z columns: they change where a cell of a cycle stands
abbrev z_words_is : List ℕ
z_words_is =
    0 ∷ 1 ∷ 15920236541031199638 ∷ 10398137493475229824 ∷ 10398137493475229824 ∷ 13806692774987341042 ∷ 6603793697377575670 ∷ 13806692774987341042 ∷ 0 ∷ 15920236541031199638 ∷ 10398137493475229824 ∷ 10398137493475229824 ∷ 10398137493475229824 ∷ 13806692774987341042 ∷ 13806692774987341042 ∷ 13806692774987341042 ∷ []

pub columns_are :
    build.columns ≡ sheet_words ++ (label_words ++ (compressed_words_is ++ (m_words_is ++ (h_words_is ++ z_words_is))))
unfolding everything
columns_are = refl

abbrev lookup : List Pair
lookup = get_or log.circuit.lookups 0 []

-- rows 4 and 5 list one pair
twice : all_of (λ p. same (valued p.table 4) (valued p.table 5)) lookup ≡ true
unfolding everything
twice = refl

pub listed_twice : Each no_pair lookup (λ p. valued p.table 4 ≡ valued p.table 5)
listed_twice = each _ _ _ _ (λ p. agree (valued p.table 4) (valued p.table 5)) twice

-- the words of m: 3 at the last of these two rows, and 0 at the other
pub counts : tabulate (m_word log.circuit build.columns 0) (rows_of log.circuit) ≡ m_words_is
unfolding everything
counts = refl

one_group : ltb 0 (num_groups log.circuit) ≡ true
unfolding everything
one_group = refl

-- and no count is spoilt
pub unspoilt : CountsUnspoilt log build.columns 0
unfolding log_of
unspoilt =
    row_listed_twice circuit sheet witness challenges (replicate 80 9) (replicate 548 9) number_zero 0 (ltb-true _ _ one_group)

-- h is not 0 at row 5, where the count of 3 stands
pub h_moves : lookup_h_at 𝔾 log (get_or (groups_of log.circuit) 0 []) 5 ≢ 𝔾.zero
unfolding everything
h_moves = apart (lookup_h_at 𝔾 log (get_or (groups_of log.circuit) 0 []) 5) 𝔾.zero refl

-- each z column is neither 0 nor 1 at row 2
moves_at_2 : all_of (λ i. not (same (z_at 𝔾 log i 2) 𝔾.zero) && not (same (z_at 𝔾 log i 2) 𝔾.one)) (range (num_z log.circuit)) ≡ true
unfolding everything
moves_at_2 = refl

moves : (x : 𝔾.F) → (not (same x 𝔾.zero) && not (same x 𝔾.one)) ≡ true → (x ≢ 𝔾.zero) × (x ≢ 𝔾.one)
moves x e =
    (apart x 𝔾.zero (and_left (not (same x 𝔾.zero)) (not (same x 𝔾.one)) e), apart x 𝔾.one (and_right (not (same x 𝔾.zero)) (not (same x 𝔾.one)) e))

pub z_moves : (i : ℕ) → i < num_z log.circuit → (z_at 𝔾 log i 2 ≢ 𝔾.zero) × (z_at 𝔾 log i 2 ≢ 𝔾.one)
z_moves = each_below _ _ _ (λ i. moves (z_at 𝔾 log i 2)) moves_at_2
