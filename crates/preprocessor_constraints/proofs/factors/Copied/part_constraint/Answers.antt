use Rattle.preprocessor.proofs.Parts as parts
use mathlib.Core.Path.{refl}
use Rattle.preprocessor_constraints.proofs.factors.Copied.part_constraint.Goals as goal

pub returns : goal.returns
returns c =
    let a = c.args.self.now in
    parts.part_written a.numbers.params a.numbers.limits c.args.i c.requires.below a.copied.now _ refl c.z_product-left.ensures.written c.z_product-right.ensures.written c.negated-n.ensures c.sum.ensures
