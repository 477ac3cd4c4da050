use Rattle.preprocessor.proofs.Parts as parts
use native.Mathlib.Omega.{arith}
use Rattle.preprocessor_constraints.proofs.Numbers.part.Goals as goal

pub returns-clause-count : goal.returns-clause-count
returns-clause-count c =
    let p = c.args.self.now.params in
    let l = c.args.self.now.limits in
    let a = parts.part_start p l c.args.i c.requires in
    let b = parts.part_length p l c.args.i c.requires in
    omega arith
