use Prim.Native.Nat.{suc, ◌+◌, ◌<◌}
use Rattle.expression.specs.Expr.{Expr}
use Rattle.expression.specs.Flat.{body}
use Rattle.preprocessor.proofs.ComposeWords as trees
use Rattle.preprocessor.proofs.Lists as lists
use Rattle.preprocessor.specs.Compose.{zero_tree, outer_trees, number_of_h}
use Rattle.preprocessor_compose.specs.Input.{constraints_of}
use lib.IntN.{pos}
use mathlib.Core.Path.{◌≡◌}
use native.Mathlib.Omega.{arith}
use Rattle.preprocessor_compose.proofs.words.Input.+outer_items.Goals as goal

pub outer_items-l-requires : goal.outer_items-l-requires
unfolding body
outer_items-l-requires t c =
    let a = c.args.self.now in
    let w = a.words.now in
    let v = w.params in
    let hs = constraints_of a in
    let es = outer_trees v hs in
    let long = trees.outer_length v hs in
    let e = Expr.poly (number_of_h v c.args.i) (pos 0) in
    let same = trees.query_nth v hs c.args.i c.if-i-params.true in
    let m : c.args.i + 1 < suc v.num_groups = omega (arith, c.if-i-params.true) in
    let q = lists.more_sizes es (suc v.num_groups) long c.args.i e same m in
    let x = c.query-x.ensures.number in
    (omega (arith, c.if-i-params.true), (omega (arith, c.if-i-params.true), omega (arith, c.requires.room)))

pub item-next-requires : goal.item-next-requires
unfolding body
item-next-requires t c =
    let a = c.args.self.now in
    let w = a.words.now in
    let v = w.params in
    let hs = constraints_of a in
    let es = outer_trees v hs in
    let long = trees.outer_length v hs in
    let e = Expr.poly (number_of_h v c.args.i) (pos 0) in
    let same = trees.query_nth v hs c.args.i c.if-i-params.true in
    let m : c.args.i + 1 < suc v.num_groups = omega (arith, c.if-i-params.true) in
    let q = lists.more_sizes es (suc v.num_groups) long c.args.i e same m in
    let x = c.query-x.ensures.number in
    let y = c.outer_items-l.ensures.number in
    omega (arith, c.requires.room)

pub returns-then-i-params : goal.returns-then-i-params
returns-then-i-params t c =
    let a = c.args.self.now in
    let w = a.words.now in
    let v = w.params in
    let hs = constraints_of a in
    let es = outer_trees v hs in
    let long = trees.outer_length v hs in
    let e = Expr.poly (number_of_h v c.args.i) (pos 0) in
    let same = trees.query_nth v hs c.args.i c.if-i-params.true in
    let m : c.args.i + 1 < suc v.num_groups = omega (arith, c.if-i-params.true) in
    lists.more_from es (suc v.num_groups) long c.args.i e same m c.query-x.ensures c.outer_items-l.ensures c.item-next.ensures

pub zero_check-x-requires : goal.zero_check-x-requires
zero_check-x-requires t c =
    let a = c.args.self.now in
    let w = a.words.now in
    let v = w.params in
    let hs = constraints_of a in
    let es = outer_trees v hs in
    let long = trees.outer_length v hs in
    let last : c.args.i ≡ v.num_groups = omega (arith, c.requires.below, c.if-i-params.false) in
    let e = zero_tree v hs in
    let same = trees.zero_nth v hs c.args.i last in
    let r = lists.first_room es (suc v.num_groups) long c.args.i e same in
    omega (arith, c.requires.room)

pub list_end-requires : goal.list_end-requires
list_end-requires t c =
    let a = c.args.self.now in
    let w = a.words.now in
    let v = w.params in
    let hs = constraints_of a in
    let es = outer_trees v hs in
    let long = trees.outer_length v hs in
    let last : c.args.i ≡ v.num_groups = omega (arith, c.requires.below, c.if-i-params.false) in
    let e = zero_tree v hs in
    let same = trees.zero_nth v hs c.args.i last in
    let r = lists.first_room es (suc v.num_groups) long c.args.i e same in
    let x = c.zero_check-x.ensures.number in
    omega (arith, c.requires.room)

pub returns : goal.returns
returns t c =
    let a = c.args.self.now in
    let w = a.words.now in
    let v = w.params in
    let hs = constraints_of a in
    let es = outer_trees v hs in
    let long = trees.outer_length v hs in
    let last : c.args.i ≡ v.num_groups = omega (arith, c.requires.below, c.if-i-params.false) in
    let e = zero_tree v hs in
    let same = trees.zero_nth v hs c.args.i last in
    lists.end_from es (suc v.num_groups) long c.args.i e same (omega arith) c.zero_check-x.ensures c.list_end.ensures
