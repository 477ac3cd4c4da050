use Rattle.preprocessor.proofs.Parts as parts
use native.Mathlib.Omega.{arith}
use Rattle.preprocessor_constraints.proofs.Numbers.next_z.Goals as goal

pub returns-then-i-self : goal.returns-then-i-self
returns-then-i-self c =
    parts.next_written c.args.self.now.params c.args.i _ (omega (arith, c.first_z-z.ensures)) (omega (arith, c.if-i-self.true)) c.query.ensures

pub returns : goal.returns
returns c =
    parts.around_written c.args.self.now.params c.args.i _ (omega (arith, c.first_z-z.ensures)) (omega (arith, c.if-i-self.false)) c.push_node.ensures
