use Prim.Native.Nat.{ℕ, ◌+◌, ◌*◌}
use Rattle.expression.proofs.Written as written
use Rattle.expression.specs.Expr.{Expr}
use Rattle.expression.specs.Flat.{body, size}
use Rattle.preprocessor.proofs.ComposeWords as trees
use Rattle.preprocessor.proofs.Lists as lists
use Rattle.preprocessor.specs.ComposeWords.{side_exprs}
use lib.ListN.{get_or}
use mathlib.Core.Path.{◌≡◌, refl, ap, ◌∙◌}
use native.Mathlib.Omega.{arith}
use Rattle.preprocessor_constraints.proofs.lookup.Lookups.side_powers.Goals as goal

zeroth : (s : ℕ) → s ≡ s + 0 * 2
zeroth s = omega arith

pub returns-then-roots-eq0 : goal.returns-then-roots-eq0
returns-then-roots-eq0 c =
    let a = c.args.self.now in
    let es = side_exprs a.user.now a.pairs.now c.args.roots.first c.args.roots.count in
    let long = trees.side_length a.user.now a.pairs.now c.args.roots.first c.args.roots.count in
    let b = Expr.challenge a.beta in
    lists.powers_none b es (long ∙ c.if-roots-eq0.true) c.push_node.ensures

pub copy_expr-requires : goal.copy_expr-requires
copy_expr-requires c =
    let a = c.args.self.now in
    let es = side_exprs a.user.now a.pairs.now c.args.roots.first c.args.roots.count in
    let long = trees.side_length a.user.now a.pairs.now c.args.roots.first c.args.roots.count in
    let b = Expr.challenge a.beta in
    let n : ℕ = get_or a.pairs.now c.args.roots.first 0 in
    let at0 : n ≡ get_or a.pairs.now (c.args.roots.first + 0 * 2) 0 = ap (λ (k : ℕ). get_or a.pairs.now k 0) (zeroth c.args.roots.first) in
    let same = trees.side_nth a.user.now a.pairs.now c.args.roots.first c.args.roots.count 0 n (omega (arith, c.if-roots-eq1.true)) at0 in
    let q = lists.one_size b es (long ∙ c.if-roots-eq1.true) in
    (trees.root_node a.user.now a.pairs.now c.args.roots.first n a.pairs_named (omega (arith, c.requires.bound, c.if-roots-eq1.true)) refl, omega (arith, c.requires.room, ap size same))

pub returns-then-roots-eq1 : goal.returns-then-roots-eq1
returns-then-roots-eq1 c =
    let a = c.args.self.now in
    let es = side_exprs a.user.now a.pairs.now c.args.roots.first c.args.roots.count in
    let long = trees.side_length a.user.now a.pairs.now c.args.roots.first c.args.roots.count in
    let b = Expr.challenge a.beta in
    let n : ℕ = get_or a.pairs.now c.args.roots.first 0 in
    let at0 : n ≡ get_or a.pairs.now (c.args.roots.first + 0 * 2) 0 = ap (λ (k : ℕ). get_or a.pairs.now k 0) (zeroth c.args.roots.first) in
    let same = trees.side_nth a.user.now a.pairs.now c.args.roots.first c.args.roots.count 0 n (omega (arith, c.if-roots-eq1.true)) at0 in
    lists.powers_one b es (long ∙ c.if-roots-eq1.true) (written.written_as same c.copy_expr.ensures)

pub side_items-l-requires-clause-room : goal.side_items-l-requires-clause-room
unfolding body
side_items-l-requires-clause-room c =
    let a = c.args.self.now in
    let es = side_exprs a.user.now a.pairs.now c.args.roots.first c.args.roots.count in
    let long = trees.side_length a.user.now a.pairs.now c.args.roots.first c.args.roots.count in
    let b = Expr.challenge a.beta in
    let q = lists.many_size b es (omega (arith, c.if-roots-eq0.false, c.if-roots-eq1.false)) in
    omega (arith, c.requires.room)

pub list_head-requires : goal.list_head-requires
unfolding body
list_head-requires c =
    let a = c.args.self.now in
    let es = side_exprs a.user.now a.pairs.now c.args.roots.first c.args.roots.count in
    let long = trees.side_length a.user.now a.pairs.now c.args.roots.first c.args.roots.count in
    let b = Expr.challenge a.beta in
    let q = lists.many_size b es (omega (arith, c.if-roots-eq0.false, c.if-roots-eq1.false)) in
    let y = c.side_items-l.ensures.number in
    omega (arith, c.requires.room)

pub returns : goal.returns
returns c =
    let a = c.args.self.now in
    let es = side_exprs a.user.now a.pairs.now c.args.roots.first c.args.roots.count in
    let long = trees.side_length a.user.now a.pairs.now c.args.roots.first c.args.roots.count in
    let b = Expr.challenge a.beta in
    lists.powers_many b es (omega (arith, c.if-roots-eq0.false, c.if-roots-eq1.false)) c.side_items-l.ensures c.list_head.ensures
