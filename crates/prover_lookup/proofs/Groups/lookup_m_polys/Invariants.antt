use Rattle.prover_lookup.proofs.Counted.{CountedUpto}
use Rattle.prover_lookup.proofs.Groups.lookup_m_polys.Given as goal

abbrev pub invariant-loop-size : goal.invariant-loop-size
invariant-loop-size l = CountedUpto l.initial.columns l.self.sizes.now l.self.compressed l.self.counts l.self.rows l.columns l.input l.to l.size-index
