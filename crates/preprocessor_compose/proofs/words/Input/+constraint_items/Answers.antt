use Prim.Native.Nat.{◌+◌, ◌<◌}
use Rattle.expression.specs.Expr.{Expr}
use Rattle.expression.specs.Flat.{body}
use Rattle.preprocessor.proofs.ComposeWords as trees
use Rattle.preprocessor.proofs.Lists as lists
use Rattle.preprocessor.specs.ComposeWords.{num_constraints}
use Rattle.preprocessor_compose.specs.Input.{constraints_of}
use lib.ListN.{length, get_or}
use mathlib.Core.Path.{refl}
use native.Mathlib.Omega.{arith}
use Rattle.preprocessor_compose.proofs.words.Input.+constraint_items.Goals as goal

pub constraint-x-requires-clause-room : goal.constraint-x-requires-clause-room
constraint-x-requires-clause-room t c =
    let a = c.args.self.now in
    let w = a.words.now in
    let v = w.params in
    let es = constraints_of a in
    let n = num_constraints (length w.roots.now) v in
    let long = trees.constraints_length v a.copied.now w.user.now w.roots.now w.sizes.now w.widths.now w.pairs.now in
    let e = get_or es c.args.i (Expr.constant 0) in
    let r = lists.first_room es n long c.args.i e refl in
    omega (arith, c.requires.room)

pub constraint_items-l-requires : goal.constraint_items-l-requires
constraint_items-l-requires t c =
    let a = c.args.self.now in
    let w = a.words.now in
    let v = w.params in
    let es = constraints_of a in
    let n = num_constraints (length w.roots.now) v in
    let long = trees.constraints_length v a.copied.now w.user.now w.roots.now w.sizes.now w.widths.now w.pairs.now in
    let e = get_or es c.args.i (Expr.constant 0) in
    let m : c.args.i + 1 < n = omega (arith, c.if-i-n.true, c.num_constraints-n.ensures) in
    let q = lists.more_sizes es n long c.args.i e refl m in
    let x = c.constraint-x.ensures.number in
    (omega arith, (m, omega (arith, c.requires.room)))

pub item-next-requires : goal.item-next-requires
unfolding body
item-next-requires t c =
    let a = c.args.self.now in
    let w = a.words.now in
    let v = w.params in
    let es = constraints_of a in
    let n = num_constraints (length w.roots.now) v in
    let long = trees.constraints_length v a.copied.now w.user.now w.roots.now w.sizes.now w.widths.now w.pairs.now in
    let e = get_or es c.args.i (Expr.constant 0) in
    let m : c.args.i + 1 < n = omega (arith, c.if-i-n.true, c.num_constraints-n.ensures) in
    let q = lists.more_sizes es n long c.args.i e refl m in
    let x = c.constraint-x.ensures.number in
    let y = c.constraint_items-l.ensures.number in
    omega (arith, c.requires.room)

pub returns-then-i-n : goal.returns-then-i-n
returns-then-i-n t c =
    let a = c.args.self.now in
    let w = a.words.now in
    let v = w.params in
    let es = constraints_of a in
    let n = num_constraints (length w.roots.now) v in
    let long = trees.constraints_length v a.copied.now w.user.now w.roots.now w.sizes.now w.widths.now w.pairs.now in
    let e = get_or es c.args.i (Expr.constant 0) in
    let m : c.args.i + 1 < n = omega (arith, c.if-i-n.true, c.num_constraints-n.ensures) in
    lists.more_from es n long c.args.i e refl m c.constraint-x.ensures c.constraint_items-l.ensures c.item-next.ensures

pub list_end-requires : goal.list_end-requires
list_end-requires t c =
    let a = c.args.self.now in
    let w = a.words.now in
    let v = w.params in
    let es = constraints_of a in
    let n = num_constraints (length w.roots.now) v in
    let long = trees.constraints_length v a.copied.now w.user.now w.roots.now w.sizes.now w.widths.now w.pairs.now in
    let e = get_or es c.args.i (Expr.constant 0) in
    let r = lists.first_room es n long c.args.i e refl in
    let x = c.constraint-x.ensures.number in
    omega (arith, c.requires.room)

pub returns : goal.returns
returns t c =
    let a = c.args.self.now in
    let w = a.words.now in
    let v = w.params in
    let es = constraints_of a in
    let n = num_constraints (length w.roots.now) v in
    let long = trees.constraints_length v a.copied.now w.user.now w.roots.now w.sizes.now w.widths.now w.pairs.now in
    let e = get_or es c.args.i (Expr.constant 0) in
    lists.end_from es n long c.args.i e refl (omega (arith, c.if-i-n.false, c.num_constraints-n.ensures)) c.constraint-x.ensures c.list_end.ensures
