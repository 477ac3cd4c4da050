use mathlib.Core.Path.{refl}
use native.Mathlib.Omega.{arith}
use Rattle.hyperplonk_prepare.proofs.Accepted.{laid_of}
use Rattle.hyperplonk_prepare.proofs.Computed.{layout_is}
use Rattle.hyperplonk_prepare.proofs.circuit.AcceptedCircuit.layout.Goals as goal

pub bounds-self-3 : goal.bounds-self-3
bounds-self-3 c = omega (arith, (laid_of c.args.self.now.words.now c.args.self.now.accepted).long)

pub bounds-self-4 : goal.bounds-self-4
bounds-self-4 c = omega (arith, (laid_of c.args.self.now.words.now c.args.self.now.accepted).long)

pub bounds-self-5 : goal.bounds-self-5
bounds-self-5 c = omega (arith, (laid_of c.args.self.now.words.now c.args.self.now.accepted).long)

pub returns : goal.returns
returns c = layout_is c.args.self.now.words.now _ _ _ _ _ (rw (c.laid.ensures, c.circuit-circuit.ensures) at c.rows-rows.ensures) (rw c.circuit-circuit.ensures at c.num_witness-witness.ensures) refl refl refl
