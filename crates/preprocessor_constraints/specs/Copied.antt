-- What the copied columns' numbers stand for, and the two sides of a part's constraint.
use Rattle.std.specs.Prelude.{ℕ, ◌+◌, ◌*◌}
use Rattle.lists.specs.Lists.{tabulate}
use Rattle.expression.specs.Expr.{Expr, product_of, at}
use Rattle.preprocessor.specs.Compose.{identity_tree, permutation_tree, number_of_z, next_tree, part_tree}
use Rattle.preprocessor_constraints.specs.declared.factors.Copied.{Copied}
use Rattle.preprocessor_constraints.specs.declared.factors.Side.{Side}
use Rattle.preprocessor_constraints.specs.declared.factors.Side.TheVariants.{Identity, Permutation}

-- what a cell's label is taken from
abbrev pub label_tree : Side → Copied → ℕ → Expr
label_tree Identity w i = Expr.sum (Expr.constant (i * w.numbers.params.rows)) Expr.identity
label_tree Permutation w i = at (w.numbers.params.num_poly + i)

-- how many nodes that takes, with the four that a factor has besides and the product before the next
abbrev pub factor_nodes : Side → ℕ
factor_nodes Identity = 10
factor_nodes Permutation = 8

-- copied column i's factor
abbrev pub factor_tree : Side → Copied → ℕ → Expr
factor_tree Identity w i = identity_tree w.numbers.params w.copied.now i
factor_tree Permutation w i = permutation_tree w.numbers.params w.copied.now i

-- the product of n columns' factors, from column `first` on
abbrev pub factors_tree : Side → Copied → ℕ → ℕ → Expr
factors_tree side w first n = product_of (tabulate (λ j. factor_tree side w (first + j)) n)

-- part i's z on this side: its own, or the next part's
abbrev pub z_tree : Side → Copied → ℕ → Expr
z_tree Identity w i = at (number_of_z w.numbers.params i)
z_tree Permutation w i = next_tree w.numbers.params i

-- the constraint of part i
abbrev pub part_of : Copied → ℕ → Expr
part_of w i = part_tree w.numbers.params w.copied.now i
