use Rattle.expression.proofs.Written as written
use Rattle.expression.specs.Flat.{body}
use native.Mathlib.Omega.{arith}
use Rattle.preprocessor_constraints.proofs.Sides as sides
use Rattle.preprocessor_constraints.proofs.factors.Copied.factor.Goals as goal

pub challenge-beta-requires : goal.challenge-beta-requires
unfolding body
challenge-beta-requires c =
    let s = sides.label_size c.args.side c.args.self.now c.args.i in omega (arith, c.requires)

pub label-label-requires-clause-room : goal.label-label-requires-clause-room
unfolding body
label-label-requires-clause-room c =
    let s = sides.label_size c.args.side c.args.self.now c.args.i in omega (arith, c.requires)

pub product-p-requires : goal.product-p-requires
unfolding body
product-p-requires c =
    let s = sides.label_size c.args.side c.args.self.now c.args.i in omega (arith, c.requires)

pub sum-s-requires : goal.sum-s-requires
unfolding body
sum-s-requires c =
    let s = sides.label_size c.args.side c.args.self.now c.args.i in omega (arith, c.requires)

pub challenge-gamma-requires : goal.challenge-gamma-requires
unfolding body
challenge-gamma-requires c =
    let s = sides.label_size c.args.side c.args.self.now c.args.i in omega (arith, c.requires)

pub sum-requires : goal.sum-requires
unfolding body
sum-requires c =
    let s = sides.label_size c.args.side c.args.self.now c.args.i in omega (arith, c.requires)

pub returns : goal.returns
returns c = sides.factor_written c.args.side c.args.self.now c.args.i (written.written_sum (written.written_sum c.query-poly.ensures (written.written_product c.challenge-beta.ensures c.label-label.ensures c.product-p.ensures) c.sum-s.ensures) c.challenge-gamma.ensures c.sum.ensures)
