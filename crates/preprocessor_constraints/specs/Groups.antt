-- What a group of lookups stands for.
use Rattle.std.specs.Prelude.{List, ℕ}
use Rattle.expression.specs.Expr.{Expr}
use Rattle.preprocessor.specs.ComposeWords.{input_sides, table_side, group_from_words}
use Rattle.preprocessor.specs.declared.CircuitParams.{CircuitParams}
use Rattle.preprocessor_constraints.specs.declared.group.Group.{Group}

-- its inputs, and its first lookup's table
abbrev pub inputs_of : Group → List Expr
inputs_of g = input_sides g.lookups.user.now g.lookups.widths.now g.lookups.pairs.now g.lookups.beta g.members.first g.members.count

abbrev pub table_of : Group → Expr
table_of g = table_side g.lookups.user.now g.lookups.widths.now g.lookups.pairs.now g.lookups.beta g.members.first

-- its constraint, as group j of a circuit with these numbers
abbrev pub group_of : CircuitParams → Group → ℕ → Expr
group_of params g j = group_from_words params g.lookups.user.now g.lookups.widths.now g.lookups.pairs.now j g.members.first g.members.count
