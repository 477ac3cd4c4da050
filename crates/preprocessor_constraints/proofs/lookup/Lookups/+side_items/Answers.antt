use Prim.Native.Nat.{◌+◌, ◌*◌}
use Rattle.expression.specs.Flat.{body}
use Rattle.expression.specs.Nodes.{expr_of}
use Rattle.preprocessor.proofs.ComposeWords as trees
use Rattle.preprocessor.proofs.Lists as lists
use Rattle.preprocessor.specs.ComposeWords.{side_exprs}
use lib.ListN.{get_or}
use mathlib.Core.Path.{refl}
use native.Mathlib.Omega.{arith}
use Rattle.preprocessor_constraints.proofs.lookup.Lookups.+side_items.Goals as goal

pub copy_expr-x-requires : goal.copy_expr-x-requires
copy_expr-x-requires t c =
    let a = c.args.self.now in
    let es = side_exprs a.user.now a.pairs.now c.args.roots.first c.args.roots.count in
    let long = trees.side_length a.user.now a.pairs.now c.args.roots.first c.args.roots.count in
    let n = get_or a.pairs.now (c.args.roots.first + c.args.i * 2) 0 in
    let same = trees.side_nth a.user.now a.pairs.now c.args.roots.first c.args.roots.count c.args.i n c.requires.below refl in
    let e = expr_of a.user.now n in
    let r = lists.first_room es c.args.roots.count long c.args.i e same in
    (trees.root_node a.user.now a.pairs.now (c.args.roots.first + c.args.i * 2) n a.pairs_named (omega (arith, c.requires)) refl, omega (arith, c.requires.room))

pub side_items-l-requires : goal.side_items-l-requires
side_items-l-requires t c =
    let a = c.args.self.now in
    let es = side_exprs a.user.now a.pairs.now c.args.roots.first c.args.roots.count in
    let long = trees.side_length a.user.now a.pairs.now c.args.roots.first c.args.roots.count in
    let n = get_or a.pairs.now (c.args.roots.first + c.args.i * 2) 0 in
    let same = trees.side_nth a.user.now a.pairs.now c.args.roots.first c.args.roots.count c.args.i n c.requires.below refl in
    let e = expr_of a.user.now n in
    let q = lists.more_sizes es c.args.roots.count long c.args.i e same c.if-i-roots.true in
    let x = c.copy_expr-x.ensures.number in
    (omega (arith, c.if-i-roots.true), (c.requires.bound, (c.if-i-roots.true, omega (arith, c.requires.room))))

pub item-next-requires : goal.item-next-requires
unfolding body
item-next-requires t c =
    let a = c.args.self.now in
    let es = side_exprs a.user.now a.pairs.now c.args.roots.first c.args.roots.count in
    let long = trees.side_length a.user.now a.pairs.now c.args.roots.first c.args.roots.count in
    let n = get_or a.pairs.now (c.args.roots.first + c.args.i * 2) 0 in
    let same = trees.side_nth a.user.now a.pairs.now c.args.roots.first c.args.roots.count c.args.i n c.requires.below refl in
    let e = expr_of a.user.now n in
    let q = lists.more_sizes es c.args.roots.count long c.args.i e same c.if-i-roots.true in
    let x = c.copy_expr-x.ensures.number in
    let y = c.side_items-l.ensures.number in
    omega (arith, c.requires.room)

pub returns-then-i-roots : goal.returns-then-i-roots
returns-then-i-roots t c =
    let a = c.args.self.now in
    let es = side_exprs a.user.now a.pairs.now c.args.roots.first c.args.roots.count in
    let long = trees.side_length a.user.now a.pairs.now c.args.roots.first c.args.roots.count in
    let n = get_or a.pairs.now (c.args.roots.first + c.args.i * 2) 0 in
    let same = trees.side_nth a.user.now a.pairs.now c.args.roots.first c.args.roots.count c.args.i n c.requires.below refl in
    let e = expr_of a.user.now n in
    lists.more_from es c.args.roots.count long c.args.i e same c.if-i-roots.true c.copy_expr-x.ensures c.side_items-l.ensures c.item-next.ensures

pub list_end-requires : goal.list_end-requires
list_end-requires t c =
    let a = c.args.self.now in
    let es = side_exprs a.user.now a.pairs.now c.args.roots.first c.args.roots.count in
    let long = trees.side_length a.user.now a.pairs.now c.args.roots.first c.args.roots.count in
    let n = get_or a.pairs.now (c.args.roots.first + c.args.i * 2) 0 in
    let same = trees.side_nth a.user.now a.pairs.now c.args.roots.first c.args.roots.count c.args.i n c.requires.below refl in
    let e = expr_of a.user.now n in
    let r = lists.first_room es c.args.roots.count long c.args.i e same in
    let x = c.copy_expr-x.ensures.number in
    omega (arith, c.requires.room)

pub returns : goal.returns
returns t c =
    let a = c.args.self.now in
    let es = side_exprs a.user.now a.pairs.now c.args.roots.first c.args.roots.count in
    let long = trees.side_length a.user.now a.pairs.now c.args.roots.first c.args.roots.count in
    let n = get_or a.pairs.now (c.args.roots.first + c.args.i * 2) 0 in
    let same = trees.side_nth a.user.now a.pairs.now c.args.roots.first c.args.roots.count c.args.i n c.requires.below refl in
    let e = expr_of a.user.now n in
    lists.end_from es c.args.roots.count long c.args.i e same c.if-i-roots.false c.copy_expr-x.ensures c.list_end.ensures
