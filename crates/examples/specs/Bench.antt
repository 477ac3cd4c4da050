-- The bench examples of document 01 (●), one table of theorems over the definitions.
use Rattle.std.specs.Prelude.{◌≡◌, refl, true, false, Some, None, List, [], ◌∷◌, ℕ, zero, suc, ◌-◌, ◌*◌, ◌^◌, pos, negsuc, length, get_or, take, replicate}
use Rattle.std.proofs.Math.Option.{Option, none, some}
use Rattle.field.specs.Field.{𝔾, el, val}
use Rattle.field.specs.Inverse.{inverse_of}
use Rattle.bh.specs.Rows.{prev_row, order, lagrange_row}
use Rattle.lists.specs.Lists.{tabulate, first_no}
use Rattle.backend.specs.Questions.{group_numbers_good, q10, circuit_questions, good_k}
use Rattle.preprocessor.specs.Compose.{constraint_cut, z_cut, CutsAlike, composed_words}
use Rattle.preprocessor.specs.Permutation.{label}
use Rattle.hyperplonk_spec.specs.Build.{check_build, build_of, lent_build}
use Rattle.hyperplonk_spec.specs.RowSum.{check_sum, lent_sum}
use Rattle.hyperplonk_spec.specs.Stages.{m_of}
use Rattle.field.specs.Prime.{P}
use Rattle.field.specs.Parse.{Among, parsed, parsed_number}
use Rattle.expression.specs.Expr.{Expr, at, degree}
use Rattle.expression.specs.Flat.{flat}
use Rattle.expression.specs.Same.{same_expr}
use Rattle.backend.specs.Circuit.{Circuit, Pair, Cell, circuit_of}
use Rattle.backend.specs.Constraints.{group_with}
use Rattle.prover.specs.Lookup.{group_multiplicity, group_h_at}
use Rattle.examples.specs.Open.{everything}

abbrev pub four : ℕ → ℕ → ℕ → ℕ → List ℕ
four a b c d = a ∷ b ∷ c ∷ d ∷ []

-- a circuit of one round of witness columns, with a stated degree, and constraints and cycles only
abbrev pub plain_circuit : ℕ → Option ℕ → ℕ → List Expr → List (List Cell) → Circuit
plain_circuit k stated witness constraints cycles =
    record {
      k = k;
      stated = stated;
      instances = [];
      preprocess = [];
      rounds = record { witness = witness; challenges = 0 } ∷ [];
      nodes = [];
      roots = [];
      constraints = constraints;
      lookups = [];
      cycles = cycles;
      groups = [];
    }

abbrev pub cell : ℕ → ℕ → Cell
cell q b = record { polynomial = q; row = b }

-- ● k=2 order 0,1,2,3.
pub order_2 : order 2 ≡ four 0 1 2 3
unfolding order
order_2 = refl

-- ● k=3 order 0,1,2,4,3,6,7,5.
pub order_3 : order 3 ≡ 0 ∷ 1 ∷ 2 ∷ 4 ∷ 3 ∷ 6 ∷ 7 ∷ 5 ∷ []
unfolding order
order_3 = refl

-- ● k=3: before 1 comes 5.
pub before_1 : prev_row 3 1 ≡ 5
unfolding prev_row
before_1 = refl

-- ● k=3: Lagrange(−1) is row 5.
pub lagrange_last : lagrange_row 3 (negsuc 0) ≡ 5
unfolding lagrange_row
lagrange_last = refl

-- ● k=3: Lagrange(8) is row 0.
pub lagrange_8 : lagrange_row 3 (pos 8) ≡ 0
unfolding lagrange_row
lagrange_8 = refl

-- ● Table 5,7,7,9, inputs 7,7,5,9: m = 1,0,2,1.
pub counts : m_of 2 (four 7 7 5 9) (four 5 7 7 9) (four 8 8 8 8) ≡ record { number = 0; out = four 1 0 2 1 }
unfolding everything
counts = refl

-- ● Input 6 there: 15. The column becomes 0, the word behind it stays.
pub no_counts : m_of 2 (four 7 6 5 9) (four 5 7 7 9) (8 ∷ four 8 8 8 8) ≡ record { number = 15; out = 0 ∷ 0 ∷ 0 ∷ 0 ∷ 8 ∷ [] }
unfolding everything
no_counts = refl

-- ● k=2, cycle (0,1),(1,2): labels 0,6,2,3 and 4,5,1,7.
abbrev pub swapped : Circuit
swapped = plain_circuit 2 none 2 [] ((cell 0 1 ∷ cell 1 2 ∷ []) ∷ [])

pub labels_0 : tabulate (label swapped 0) 4 ≡ four 0 6 2 3
unfolding everything
labels_0 = refl

pub labels_1 : tabulate (label swapped 1) 4 ≡ four 4 5 1 7
unfolding everything
labels_1 = refl

-- ● 2^32 × 2^32 = 4294967295.
pub product_32 : val (𝔾.mul (el (2 ^ 32)) (el (2 ^ 32))) ≡ 4294967295
unfolding everything
product_32 = refl

-- ● Inverse of 2 is 9223372034707292161.
pub half : val (𝔾.inv (el 2)) ≡ 9223372034707292161
unfolding everything
half = refl

-- the field's `inv` of 0 is 0, by convention
pub inverse_0 : val (𝔾.inv (el 0)) ≡ 0
unfolding everything
inverse_0 = refl

-- Item 2 of document 02: "The inverse must answer either a value or "zero"": of 0, of p, which is zero too, and of 2
pub answers_0 : inverse_of 0 ≡ None
answers_0 = refl

pub answers_p : inverse_of 18446744069414584321 ≡ None
answers_p = refl

pub answers_2 : inverse_of 2 ≡ Some 9223372034707292161
unfolding everything
answers_2 = refl

-- ● k=1, one single-cell cycle: z = 0,1. The words of that circuit, built with β = 5 and γ = 7; its columns are the labels 0,1 and z.
abbrev pub single : ℕ → List ℕ
single row = 1 ∷ 0 ∷ 22 ∷ 0 ∷ 22 ∷ 0 ∷ 22 ∷ 1 ∷ 24 ∷ 0 ∷ 24 ∷ 0 ∷ 24 ∷ 0 ∷ 24 ∷ 0 ∷ 24 ∷ 1 ∷ 25 ∷ 1 ∷ 27 ∷ 0 ∷ 1 ∷ 0 ∷ 1 ∷ 0 ∷ row ∷ []

pub z_single : take 4 (build_of (lent_build (single 1) [] (3 ∷ 4 ∷ []) (5 ∷ 7 ∷ []) (four 9 9 9 9) (replicate 200 9))).columns ≡ four 0 1 0 1
unfolding everything
z_single = refl

-- ● n=5, D=5: constraints cut 4,1, z cuts 3,2.
abbrev pub five_copied : Circuit
five_copied =
    plain_circuit 1 (some 5) 5 []
    ((cell 0 1 ∷ []) ∷ (cell 1 1 ∷ []) ∷ (cell 2 1 ∷ []) ∷ (cell 3 1 ∷ []) ∷ (cell 4 1 ∷ []) ∷ [])

pub five_constraints : constraint_cut five_copied ≡ four 0 1 2 3 ∷ (4 ∷ []) ∷ []
unfolding everything
five_constraints = refl

pub five_z : z_cut five_copied ≡ (0 ∷ 1 ∷ 2 ∷ []) ∷ (3 ∷ 4 ∷ []) ∷ []
unfolding everything
five_z = refl

-- with n = 0 there is no z and no cut, and the cuts are alike
pub none_copied : CutsAlike (plain_circuit 1 none 1 (Expr.constant 0 ∷ []) [])
unfolding everything
none_copied = refl

-- ---- the examples that run beside the Rust, where a few words show them

-- k=10 passes, 11 gives 2.
pub k_10 : good_k 10 ≡ true
k_10 = refl

pub k_11 : first_no circuit_questions (11 ∷ replicate 21 0) ≡ 2
unfolding everything
k_11 = refl

-- Row 2^k − 1 passes, row 0 gives 11.
pub row_last : first_no circuit_questions (single 1) ≡ 0
unfolding everything
row_last = refl

pub row_0 : first_no circuit_questions (single 0) ≡ 11
unfolding everything
row_0 = refl

-- Value p − 1 passes, p gives 13.
pub value_last : check_build (lent_build (single 1) [] (3 ∷ (P - 1) ∷ []) (5 ∷ 7 ∷ []) (four 9 9 9 9) (replicate 200 9)) ≡ 0
unfolding everything
value_last = refl

pub value_p : check_build (lent_build (single 1) [] (3 ∷ P ∷ []) (5 ∷ 7 ∷ []) (four 9 9 9 9) (replicate 200 9)) ≡ 13
unfolding everything
value_p = refl

-- the number of a word that is too large, p, where it stands: among the words of a call, of the circuit, of a row sum
pub value_p_told : check_build (lent_build (single 1) [] (3 ∷ P ∷ []) (5 ∷ 7 ∷ []) (four 9 9 9 9) (replicate 200 9)) ≡ parsed_number Among.call_words (parsed P)
unfolding everything
value_p_told = refl

pub preprocess_p_told : first_no circuit_questions
    (1 ∷ 0 ∷ 22 ∷ 0 ∷ 22 ∷ 1 ∷ 24 ∷ 1 ∷ 26 ∷ 0 ∷ 26 ∷ 0 ∷ 26 ∷ 0 ∷ 26 ∷ 0 ∷ 26 ∷ 1 ∷ 27 ∷ 1 ∷ 29 ∷ 0 ∷ P ∷ 0 ∷ 1 ∷ 0 ∷ 1 ∷ 0 ∷ 1 ∷ [])
    ≡ parsed_number Among.circuit_words (parsed P)
unfolding everything
preprocess_p_told = refl

pub summed_p_told : check_sum (lent_sum (single 1) (3 ∷ P ∷ []) (four 0 0 0 0) (composed_words (circuit_of (single 1))) (5 ∷ 7 ∷ 2 ∷ []) (1 ∷ []))
    ≡ parsed_number Among.sum_words (parsed P)
unfolding everything
summed_p_told = refl

-- With word 1 at 0, degree 1024 passes, 1025 gives 10.
pub tower : ℕ → Expr
tower zero = Expr.poly 0 (pos 0)
tower (suc n) = Expr.product (tower n) (Expr.poly 0 (pos 0))

pub degree_1024 : q10 (plain_circuit 1 none 1 (tower 1023 ∷ []) []) ≡ true
unfolding everything tower
degree_1024 = refl

pub degree_1025 : q10 (plain_circuit 1 none 1 (tower 1024 ∷ []) []) ≡ false
unfolding everything tower
degree_1025 = refl

-- ---- Item 3 of document 02: "docs/ fixes the node order for larger ones": docs/DECISIONS.md has these words

-- a lookup of width 1 of polynomial q in the table, polynomial 0
abbrev pub reading : ℕ → List Pair
reading q = record { input = at q; table = at 0 } ∷ []

-- the constraint of two lookups in one group, with m 3 and h 4, β and γ being challenges 0 and 1
abbrev pub two_readings : Expr
two_readings = group_with 0 3 4 (reading 1 ∷ reading 2 ∷ [])

pub group_of_two : flat two_readings 0
    ≡ 5 ∷ 4 ∷ 0 ∷ 2147483648 ∷ 5 ∷ 1 ∷ 0 ∷ 2147483648 ∷ 6 ∷ 1 ∷ 0 ∷ 0 ∷ 8 ∷ 1 ∷ 2 ∷ 0 ∷ 9 ∷ 0 ∷ 3 ∷ 0 ∷ 5 ∷ 2 ∷ 0 ∷ 2147483648 ∷ 6 ∷ 1 ∷ 0 ∷ 0 ∷ 8 ∷ 5 ∷ 6 ∷ 0 ∷ 9 ∷ 4 ∷ 7 ∷ 0 ∷ 5 ∷ 0 ∷ 0 ∷ 2147483648 ∷ 6 ∷ 1 ∷ 0 ∷ 0 ∷ 8 ∷ 9 ∷ 10 ∷ 0 ∷ 9 ∷ 8 ∷ 11 ∷ 0 ∷ 5 ∷ 0 ∷ 0 ∷ 2147483648 ∷ 6 ∷ 1 ∷ 0 ∷ 0 ∷ 8 ∷ 13 ∷ 14 ∷ 0 ∷ 5 ∷ 2 ∷ 0 ∷ 2147483648 ∷ 6 ∷ 1 ∷ 0 ∷ 0 ∷ 8 ∷ 16 ∷ 17 ∷ 0 ∷ 5 ∷ 1 ∷ 0 ∷ 2147483648 ∷ 6 ∷ 1 ∷ 0 ∷ 0 ∷ 8 ∷ 19 ∷ 20 ∷ 0 ∷ 8 ∷ 18 ∷ 21 ∷ 0 ∷ 9 ∷ 15 ∷ 22 ∷ 0 ∷ 7 ∷ 23 ∷ 0 ∷ 0 ∷ 8 ∷ 12 ∷ 24 ∷ 0 ∷ 5 ∷ 3 ∷ 0 ∷ 2147483648 ∷ 5 ∷ 1 ∷ 0 ∷ 2147483648 ∷ 6 ∷ 1 ∷ 0 ∷ 0 ∷ 8 ∷ 27 ∷ 28 ∷ 0 ∷ 9 ∷ 26 ∷ 29 ∷ 0 ∷ 5 ∷ 2 ∷ 0 ∷ 2147483648 ∷ 6 ∷ 1 ∷ 0 ∷ 0 ∷ 8 ∷ 31 ∷ 32 ∷ 0 ∷ 9 ∷ 30 ∷ 33 ∷ 0 ∷ 8 ∷ 25 ∷ 34 ∷ 0 ∷ []
unfolding everything
group_of_two = refl

pub group_of_two_degree : degree two_readings ≡ 4
unfolding everything
group_of_two_degree = refl

-- of three: 60 nodes
pub group_of_three : length (flat (group_with 0 4 5 (reading 1 ∷ reading 2 ∷ reading 3 ∷ [])) 0) ≡ 60 * 4
unfolding everything
group_of_three = refl

-- table 5,7,7,9, inputs 7,7,5,9 and 9,9,7,5 in one group: m = 2,0,3,3, and h with γ = 1
abbrev pub listed : List ℕ → ℕ → 𝔾.F
listed ws b = el (get_or ws b 0)

abbrev pub two_inputs : List (ℕ → 𝔾.F)
two_inputs = listed (four 7 7 5 9) ∷ listed (four 9 9 7 5) ∷ []

pub group_counts : tabulate (group_multiplicity 𝔾 4 two_inputs (listed (four 5 7 7 9))) 4 ≡ four 2 0 3 3
unfolding everything
group_counts = refl

pub group_h : tabulate (λ b. val (group_h_at 𝔾 (el 1) two_inputs (listed (four 5 7 7 9)) (listed (four 2 0 3 3)) b)) 4
    ≡ four 1998397274186579968 14296226653796302849 1537228672451215360 614891468980486144
unfolding everything
group_h = refl

-- numbers 0, 0, 1 pass; 1; 0, 2; 0, 1, 0 do not
pub numbers_pass : group_numbers_good (0 ∷ 0 ∷ 1 ∷ []) ≡ true
unfolding everything
numbers_pass = refl

pub numbers_one : group_numbers_good (1 ∷ []) ≡ false
unfolding everything
numbers_one = refl

pub numbers_left_out : group_numbers_good (0 ∷ 2 ∷ []) ≡ false
unfolding everything
numbers_left_out = refl

pub numbers_back : group_numbers_good (0 ∷ 1 ∷ 0 ∷ []) ≡ false
unfolding everything
numbers_back = refl

-- a Constant 0 and a Constant Scaled by 0 are not one tree
pub zeros_differ : same_expr (Expr.constant 0) (Expr.scaled (Expr.constant 0) 0) ≡ false
unfolding everything
zeros_differ = refl
