use mathlib.Core.Path.{◌∙◌}
use native.Mathlib.Omega.{arith}
use Rattle.hyperplonk_prepare.proofs.Accepted.{laid_of, two_degree}
use Rattle.hyperplonk_prepare.proofs.Computed.{lookups_are, ceil_is, params_from}
use Rattle.hyperplonk_prepare.proofs.circuit.AcceptedCircuit.params.Goals as goal

pub bounds-self-13 : goal.bounds-self-13
bounds-self-13 c = omega (arith, (laid_of c.args.self.now.words.now c.args.self.now.accepted).long)

pub overflow_sub-part : goal.overflow_sub-part
overflow_sub-part c = omega (arith, two_degree c.args.self.now.words.now c.args.self.now.accepted, c.degree-part.ensures)

pub div_ceil-parts-requires : goal.div_ceil-parts-requires
div_ceil-parts-requires c = omega (arith, two_degree c.args.self.now.words.now c.args.self.now.accepted, c.degree-part.ensures)

pub returns : goal.returns
returns c =
    let s = two_degree c.args.self.now.words.now c.args.self.now.accepted in
    let d = c.degree-part.ensures in
    params_from c.args.self.now.words.now c.args.self.now.accepted _ _ _ _ _ _ _ _ (rw c.circuit-circuit.ensures at c.num_poly-polys.ensures) c.requires.copied (lookups_are c.args.self.now.words.now c.args.self.now.accepted) c.requires.groups (rw c.circuit-circuit.ensures at c.num_user-user.ensures) (rw (c.laid.ensures, c.circuit-circuit.ensures) at c.rows-rows.ensures) c.degree-part.ensures (c.div_ceil-parts.ensures ∙ ceil_is _ _ (omega arith))
