use Rattle.prover_lookup.proofs.m.Group.{GroupCounted}
use Rattle.prover_lookup.proofs.group.GroupColumns.lookup_m_poly.Given as goal

abbrev pub invariant-loop-i : goal.invariant-loop-i
invariant-loop-i l = GroupCounted l.fn.columns l.m l.self.input l.self.members l.self.rows l.counts l.i
