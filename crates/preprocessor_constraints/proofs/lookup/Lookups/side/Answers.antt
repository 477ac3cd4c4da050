use Rattle.expression.proofs.Written as written
use Rattle.expression.specs.Flat.{body, size}
use Rattle.preprocessor.proofs.ComposeWords as trees
use Rattle.preprocessor.specs.ComposeWords.{side_tree}
use mathlib.Core.Path.{ap}
use native.Mathlib.Omega.{arith}
use Rattle.preprocessor_constraints.proofs.lookup.Lookups.side.Goals as goal

pub side_powers-x-requires-clause-room : goal.side_powers-x-requires-clause-room
side_powers-x-requires-clause-room c =
    let a = c.args.self.now in
    let r = c.roots-roots in
    let t = ap size r.ensures.tree in
    let q = trees.side_size a.user.now a.pairs.now a.beta r.result.first r.result.count in
    omega (arith, c.requires.room)

pub challenge-gamma-requires : goal.challenge-gamma-requires
challenge-gamma-requires c =
    let a = c.args.self.now in
    let r = c.roots-roots in
    let t = ap size r.ensures.tree in
    let q = trees.side_size a.user.now a.pairs.now a.beta r.result.first r.result.count in
    let x = c.side_powers-x.ensures.number in
    omega (arith, c.requires.room)

pub sum-requires : goal.sum-requires
unfolding body
sum-requires c =
    let a = c.args.self.now in
    let r = c.roots-roots in
    let t = ap size r.ensures.tree in
    let q = trees.side_size a.user.now a.pairs.now a.beta r.result.first r.result.count in
    let x = c.side_powers-x.ensures.number in
    omega (arith, c.requires.room, c.challenge-gamma.ensures.number)

pub returns : goal.returns
unfolding side_tree
returns c =
    written.written_as c.roots-roots.ensures.tree (written.written_sum c.side_powers-x.ensures c.challenge-gamma.ensures c.sum.ensures)
