-- What writing node words leaves: the next free node, and the buffer after. The buffer stands for the words from word `from` on, and what
-- falls outside it is left out.
use Rattle.std.specs.Prelude.{◌≡◌, List, ◌++◌, ℕ, ◌+◌, ◌-◌, ◌*◌}
use Rattle.lists.specs.Lists.{write_window}
use Rattle.expression.specs.Expr.{Expr, Exprs}
use Rattle.expression.specs.Flat.{sizes, extra, size, root, words, flat, flats, chain}

-- node numbers and words are counted up to here
abbrev pub most_words : ℕ
most_words = 4611686018427387904

-- one node's words stand at node `at`
pub record Pushed (from at kind first second value : ℕ) (before after : List ℕ) (next : ℕ) : Type 0 where
  pub number : next ≡ at + 1
  pub buffer : after ≡ write_window from before (at * 4) (words kind first second value)

-- an expression's nodes stand from node `at` on
pub record ExprWritten (from : ℕ) (e : Expr) (at : ℕ) (before after : List ℕ) (next : ℕ) : Type 0 where
  pub number : next ≡ at + size e
  pub buffer : after ≡ write_window from before (at * 4) (flat e at)

-- a node of a kind with one part, which stands before it
pub record WrittenOne (from kind : ℕ) (e : Expr) (value at : ℕ) (before after : List ℕ) (next : ℕ) : Type 0 where
  pub number : next ≡ at + size e + 1
  pub buffer : after ≡ write_window from before (at * 4) (flat e at ++ words kind (root at e) 0 value)

-- a node of a kind with two parts: "left before right"
pub record WrittenPair (from kind : ℕ) (a b : Expr) (at : ℕ) (before after : List ℕ) (next : ℕ) : Type 0 where
  pub number : next ≡ at + size a + size b + 1
  pub buffer : after
      ≡ write_window from before (at * 4) (flat a at ++ (flat b (at + size a) ++ words kind (root at a) (root (at + size a) b) 0))

-- a list's base, and its last Item, whose expression ends before the base; and the base's own node
pub record WrittenBase (from : ℕ) (b : Expr) (at : ℕ) (before after : List ℕ) (next base : ℕ) : Type 0 where
  pub number : next ≡ at + size b + 1
  pub root : base ≡ root at b
  pub buffer : after ≡ write_window from before (at * 4) (flat b at ++ words 12 (at - 1) 0 0)

-- "For a list: expressions in order, base, Items from last to first", and the base's own node
pub record WrittenList (from : ℕ) (es : Exprs) (b : Expr) (at : ℕ) (before after : List ℕ) (next base : ℕ) : Type 0 where
  pub number : next ≡ at + sizes es + size b + extra es + 1
  pub root : base ≡ root (at + sizes es) b
  pub buffer : after
      ≡ write_window from before (at * 4) (flats es at ++ (flat b (at + sizes es) ++ chain es at (at + sizes es + size b)))
