use Rattle.backend.proofs.Numbers.{polys}
use Rattle.backend_sections.proofs.reader.Circuit.num_poly.Goals as goal

pub returns : goal.returns
returns c = polys c.args.self.words.now _ c.args.self.contents c.num_witness-witness.ensures
