use Rattle.backend.proofs.Degree.{users_high, looks_high, users_low}
use Rattle.backend_nodes.proofs.degrees.degrees_fit.Goals as goal

pub returns-then-d-gt1024 : goal.returns-then-d-gt1024
returns-then-d-gt1024 c constraints lookups e f = users_high c.args.d.stated constraints lookups _ e c.if-d-gt1024.true

pub returns-then-d-gt1024-2 : goal.returns-then-d-gt1024-2
returns-then-d-gt1024-2 c constraints lookups e f = looks_high c.args.d.stated constraints lookups _ f c.if-d-gt1024-2.true

pub returns : goal.returns
returns c constraints lookups e f = users_low c.args.d.stated constraints lookups _ _ e f c.if-d-gt1024.false c.if-d-gt1024-2.false
