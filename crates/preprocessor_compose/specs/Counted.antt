-- What is counted of an expression.
use Rattle.std.specs.Prelude.{ℕ}
use Rattle.preprocessor_compose.specs.declared.count.Counted.{Counted}
use Rattle.preprocessor_compose.specs.declared.count.Counted.TheVariants.{Nodes, Visits}

-- as how many an Item is counted: it is a node, and an evaluation does not visit it
abbrev pub item_of : Counted → ℕ
item_of Nodes = 1
item_of Visits = 0
