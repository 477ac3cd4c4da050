-- What the lent words that `compose` takes stand for.
use Rattle.std.specs.Prelude.{List, ℕ, length}
use Rattle.expression.specs.Expr.{Expr}
use Rattle.backend.specs.Circuit.{Circuit}
use Rattle.preprocessor.specs.Compose.{zero_tree, outer_trees, compose_tree}
use Rattle.preprocessor.specs.ComposeWords.{constraints_from_words, num_constraints, DecodedFrom}
use Rattle.preprocessor_compose.specs.declared.words.CircuitWords.{CircuitWords}
use Rattle.preprocessor_compose.specs.declared.words.Input.{Input}

-- how many constraints there are
abbrev pub count_of : Input → ℕ
count_of w = num_constraints (length w.words.now.roots.now) w.words.now.params

-- the constraints
abbrev pub constraints_of : Input → List Expr
constraints_of w =
    constraints_from_words w.words.now.params w.copied.now w.words.now.user.now w.words.now.roots.now w.words.now.sizes.now w.words.now.widths.now w.words.now.pairs.now

-- their sum by powers of alpha times EqXY(0); that and the h queries; the composed expression
abbrev pub zero_of : Input → Expr
zero_of w = zero_tree w.words.now.params (constraints_of w)

abbrev pub outer_of : Input → List Expr
outer_of w = outer_trees w.words.now.params (constraints_of w)

abbrev pub tree_of : Input → Expr
tree_of w = compose_tree w.words.now.params (constraints_of w)

-- these are a circuit's words; those, with the numbers of its copied columns
abbrev pub AreWordsOf : Circuit → List ℕ → CircuitWords → Type 0
AreWordsOf c names w = DecodedFrom c w.params names w.user.now w.roots.now w.sizes.now w.widths.now w.pairs.now

abbrev pub IsInputOf : Circuit → Input → Type 0
IsInputOf c w = AreWordsOf c w.copied.now w.words.now
