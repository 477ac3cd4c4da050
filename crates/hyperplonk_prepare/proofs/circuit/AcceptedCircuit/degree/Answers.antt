-- `degree` meets its contract.
use Rattle.hyperplonk_prepare.proofs.Accepted.{answers}
use Rattle.hyperplonk_prepare.proofs.Computed.{degrees_fit_is, degree_from}
use Rattle.hyperplonk_prepare.proofs.circuit.AcceptedCircuit.degree.Goals as goal

pub degrees_of-d-requires : goal.degrees_of-d-requires
degrees_of-d-requires c = rw c.circuit.ensures ((answers c.args.self.now.words.now c.args.self.now.accepted).seven, (answers c.args.self.now.words.now c.args.self.now.accepted).eighteen)

pub returns : goal.returns
returns c =
    let d = rw c.circuit.ensures at c.degrees_of-d.ensures in
    degree_from c.args.self.now.words.now c.args.self.now.accepted _ d.0 _
    (c.max_degree-degree.ensures _ _ d.1.0 d.1.1 (degrees_fit_is c.args.self.now.words.now c.args.self.now.accepted _ d.0))
