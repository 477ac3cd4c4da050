-- What the lent words of lookups stand for.
use Rattle.std.specs.Prelude.{List, ℕ}
use Rattle.expression.specs.Expr.{Expr}
use Rattle.preprocessor.specs.ComposeWords.{side_exprs, input_side, table_side}
use Rattle.preprocessor_constraints.specs.declared.lookup.LookupSide.{LookupSide}
use Rattle.preprocessor_constraints.specs.declared.lookup.LookupSide.TheVariants.{Input, Table}
use Rattle.preprocessor_constraints.specs.declared.lookup.Lookups.{Lookups}

-- "lookup pairs (input root, table root)": which word of a pair
abbrev pub word_of : LookupSide → ℕ
word_of Input = 0
word_of Table = 1

-- the expressions whose roots are every second word, w of them from s on
abbrev pub exprs_of : Lookups → ℕ → ℕ → List Expr
exprs_of l s w = side_exprs l.user.now l.pairs.now s w

-- the inputs or the tables of lookup i, by powers of beta, and gamma
abbrev pub side_of : LookupSide → Lookups → ℕ → Expr
side_of Input l i = input_side l.user.now l.widths.now l.pairs.now l.beta i
side_of Table l i = table_side l.user.now l.widths.now l.pairs.now l.beta i
