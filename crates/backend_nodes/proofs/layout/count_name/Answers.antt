-- One name, counted in its place.
use Rattle.backend_nodes.proofs.layout.Counts.{tally_name, tally_past}
use Rattle.backend_nodes.proofs.layout.count_name.Goals as goal

pub returns-then-n-lt1024 : goal.returns-then-n-lt1024
returns-then-n-lt1024 c = tally_name c.args.counts.now c.args.n c.requires.places c.if-n-lt1024.true

pub returns-else-n-lt1024 : goal.returns-else-n-lt1024
returns-else-n-lt1024 c = tally_past c.args.counts.now c.args.n c.if-n-lt1024.false
