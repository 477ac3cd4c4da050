use Prim.Native.Nat.{◌+◌}
use Rattle.expression.proofs.Written as written
use Rattle.expression.specs.Expr.{Expr}
use Rattle.expression.specs.Flat.{body, size}
use Rattle.preprocessor.proofs.ComposeWords as trees
use Rattle.preprocessor.proofs.Lists as lists
use Rattle.preprocessor.specs.Compose.{outer_trees, compose_tree}
use Rattle.preprocessor_compose.specs.Input.{constraints_of}
use mathlib.Core.Path.{ap}
use native.Mathlib.Omega.{arith}
use Rattle.preprocessor_compose.proofs.words.Input.outer.Goals as goal

pub zero_check-requires : goal.zero_check-requires
zero_check-requires c =
    let a = c.args.self.now in
    let w = a.words.now in
    let v = w.params in
    let hs = constraints_of a in
    let es = outer_trees v hs in
    let b = Expr.challenge (v.num_challenges + 2) in
    let long = trees.outer_length v hs in
    let q = ap size (trees.compose_alone v hs c.if-self-eq0.true) in
    omega (arith, c.requires)

pub returns-then-self-eq0 : goal.returns-then-self-eq0
returns-then-self-eq0 c =
    let a = c.args.self.now in
    let w = a.words.now in
    let v = w.params in
    let hs = constraints_of a in
    let es = outer_trees v hs in
    let b = Expr.challenge (v.num_challenges + 2) in
    let long = trees.outer_length v hs in
    written.written_as (trees.compose_alone v hs c.if-self-eq0.true) c.zero_check.ensures

pub outer_items-l-requires : goal.outer_items-l-requires
unfolding compose_tree body
outer_items-l-requires c =
    let a = c.args.self.now in
    let w = a.words.now in
    let v = w.params in
    let hs = constraints_of a in
    let es = outer_trees v hs in
    let b = Expr.challenge (v.num_challenges + 2) in
    let long = trees.outer_length v hs in
    let q = lists.many_size b es (omega (arith, c.if-self-eq0.false)) in
    record { below = omega arith; room = omega (arith, c.requires) }

pub list_head-requires : goal.list_head-requires
unfolding compose_tree body
list_head-requires c =
    let a = c.args.self.now in
    let w = a.words.now in
    let v = w.params in
    let hs = constraints_of a in
    let es = outer_trees v hs in
    let b = Expr.challenge (v.num_challenges + 2) in
    let long = trees.outer_length v hs in
    let q = lists.many_size b es (omega (arith, c.if-self-eq0.false)) in
    let y = c.outer_items-l.ensures.number in
    omega (arith, c.requires)

pub returns : goal.returns
unfolding compose_tree
returns c =
    let a = c.args.self.now in
    let w = a.words.now in
    let v = w.params in
    let hs = constraints_of a in
    let es = outer_trees v hs in
    let b = Expr.challenge (v.num_challenges + 2) in
    let long = trees.outer_length v hs in
    lists.powers_many b es (omega (arith, c.if-self-eq0.false)) c.outer_items-l.ensures c.list_head.ensures
