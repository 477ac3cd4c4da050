-- A node as it is read.
use Rattle.std.specs.Prelude.{List, ℕ}
use Rattle.expression.specs.Nodes.{word_of}
use Rattle.expression.specs.declared.node.Node.{Node}

-- "Node words (kind, first, second, value)"
abbrev pub node_at : List ℕ → ℕ → Node
node_at ws n = record { kind = word_of ws n 0; first = word_of ws n 1; second = word_of ws n 2; value = word_of ws n 3 }
