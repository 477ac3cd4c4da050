use Prim.Native.Nat.{suc, ◌+◌, ◌-◌}
use Rattle.expression.proofs.Written as written
use Rattle.expression.specs.Flat.{size}
use Rattle.preprocessor.proofs.ComposeWords as trees
use Rattle.preprocessor.proofs.Parts as parts
use lib.ListN.{length, get_or}
use mathlib.Core.Path.{◌≡◌, refl, ap}
use native.Mathlib.Omega.{arith}
use Rattle.preprocessor_compose.proofs.words.Input.constraint.Goals as goal

pub copy_expr-requires : goal.copy_expr-requires
copy_expr-requires c =
    let a = c.args.self.now in
    let w = a.words.now in
    let v = w.params in
    let n = get_or w.roots.now c.args.i 0 in
    let q = ap size (trees.own_nth v a.copied.now w.user.now w.roots.now w.sizes.now w.widths.now w.pairs.now c.args.i n c.if-i-own.true refl) in
    (trees.root_node w.user.now w.roots.now c.args.i n w.fits.constraints_named c.if-i-own.true refl, omega (arith, c.requires.room))

pub returns-then-i-own : goal.returns-then-i-own
returns-then-i-own c =
    let a = c.args.self.now in
    let w = a.words.now in
    let v = w.params in
    written.written_as (trees.own_nth v a.copied.now w.user.now w.roots.now w.sizes.now w.widths.now w.pairs.now c.args.i _ c.if-i-own.true refl) c.copy_expr.ensures

pub invariant_of-members : goal.invariant_of-members
invariant_of-members c =
    let a = c.args.self.now in
    let w = a.words.now in
    let v = w.params in
    let j = c.args.i - length w.roots.now in
    let g = trees.group_in v w.user.now w.roots.now w.sizes.now w.widths.now w.pairs.now w.fits j c.sum_before-first.result _ c.if-j-params.true c.sum_before-first.ensures refl in
    record { fits = omega (arith, g.0.all_members) }

pub invariant_of-group : goal.invariant_of-group
invariant_of-group c =
    let a = c.args.self.now in
    let w = a.words.now in
    let v = w.params in
    let j = c.args.i - length w.roots.now in
    let g = trees.group_in v w.user.now w.roots.now w.sizes.now w.widths.now w.pairs.now w.fits j c.sum_before-first.result _ c.if-j-params.true c.sum_before-first.ensures refl in
    record { some = g.0.some; all_members = g.0.all_members }

pub lookup_constraint-requires-clause-room : goal.lookup_constraint-requires-clause-room
lookup_constraint-requires-clause-room c =
    let a = c.args.self.now in
    let w = a.words.now in
    let v = w.params in
    let j = c.args.i - length w.roots.now in
    let t = ap size (trees.lookup_nth v a.copied.now w.user.now w.roots.now w.sizes.now w.widths.now w.pairs.now c.args.i j c.sum_before-first.result _ (omega (arith, c.if-i-own.false)) c.if-j-params.true w.fits.all_groups w.fits.some_members w.fits.all_members w.fits.all_pairs c.sum_before-first.ensures refl) in
    omega (arith, c.requires.room)

pub returns-then-j-params : goal.returns-then-j-params
returns-then-j-params c =
    let a = c.args.self.now in
    let w = a.words.now in
    let v = w.params in
    let j = c.args.i - length w.roots.now in
    written.written_as (trees.lookup_nth v a.copied.now w.user.now w.roots.now w.sizes.now w.widths.now w.pairs.now c.args.i j c.sum_before-first.result _ (omega (arith, c.if-i-own.false)) c.if-j-params.true w.fits.all_groups w.fits.some_members w.fits.all_members w.fits.all_pairs c.sum_before-first.ensures refl) c.lookup_constraint.ensures

pub start_constraint-requires : goal.start_constraint-requires
start_constraint-requires c =
    let a = c.args.self.now in
    let w = a.words.now in
    let v = w.params in
    let q = ap size (trees.start_nth v a.copied.now w.user.now w.roots.now w.sizes.now w.widths.now w.pairs.now c.args.i (omega (arith, c.if-i-own.false, c.if-j-params.false, c.if-p-eq0.true)) c.requires.below) in
    let r = parts.start_size v in
    omega (arith, c.requires.room)

pub returns-then-p-eq0 : goal.returns-then-p-eq0
returns-then-p-eq0 c =
    let a = c.args.self.now in
    let w = a.words.now in
    let v = w.params in
    written.written_as (trees.start_nth v a.copied.now w.user.now w.roots.now w.sizes.now w.widths.now w.pairs.now c.args.i (omega (arith, c.if-i-own.false, c.if-j-params.false, c.if-p-eq0.true)) c.requires.below) c.start_constraint.ensures

pub part_constraint-requires : goal.part_constraint-requires
part_constraint-requires c =
    let a = c.args.self.now in
    let w = a.words.now in
    let v = w.params in
    let p = c.args.i - length w.roots.now - v.num_groups - 1 in
    let e : c.args.i ≡ length w.roots.now + (v.num_groups + suc p) = omega (arith, c.if-i-own.false, c.if-j-params.false, c.if-p-eq0.false) in
    let h = trees.part_below v a.copied.now w.user.now w.roots.now w.sizes.now w.widths.now w.pairs.now c.args.i p e c.requires.below in
    let q = ap size (trees.part_nth v a.copied.now w.user.now w.roots.now w.sizes.now w.widths.now w.pairs.now c.args.i p e c.requires.below) in
    let r = parts.part_size_is v c.args.self.now.words.now.fits.limits p h a.copied.now in
    record { below = h; room = omega (arith, c.requires.room) }

pub returns : goal.returns
returns c =
    let a = c.args.self.now in
    let w = a.words.now in
    let v = w.params in
    let p = c.args.i - length w.roots.now - v.num_groups - 1 in
    let e : c.args.i ≡ length w.roots.now + (v.num_groups + suc p) = omega (arith, c.if-i-own.false, c.if-j-params.false, c.if-p-eq0.false) in
    written.written_as (trees.part_nth v a.copied.now w.user.now w.roots.now w.sizes.now w.widths.now w.pairs.now c.args.i p e c.requires.below) c.part_constraint.ensures
