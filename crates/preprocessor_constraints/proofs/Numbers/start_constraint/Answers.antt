use Rattle.expression.specs.Flat.{body}
use Rattle.preprocessor.proofs.Parts as parts
use native.Mathlib.Omega.{arith}
use Rattle.preprocessor_constraints.proofs.Numbers.start_constraint.Goals as goal

pub push_node-one-requires : goal.push_node-one-requires
unfolding body
push_node-one-requires c = omega (arith, c.requires)

pub negated-n-requires : goal.negated-n-requires
unfolding body
negated-n-requires c = omega (arith, c.requires, c.query-z.ensures.number, c.push_node-l.ensures.number)

pub sum-s-requires : goal.sum-s-requires
unfolding body
sum-s-requires c = omega (arith, c.requires, c.query-z.ensures.number, c.push_node-l.ensures.number)

pub product-requires : goal.product-requires
unfolding body
product-requires c = omega (arith, c.requires, c.query-z.ensures.number, c.push_node-l.ensures.number)

pub returns : goal.returns
returns c = parts.start_written c.args.self.now.params _ (omega (arith, c.first_z.ensures)) c.push_node-l.ensures c.query-z.ensures c.push_node-one.ensures c.negated-n.ensures c.sum-s.ensures c.product.ensures
