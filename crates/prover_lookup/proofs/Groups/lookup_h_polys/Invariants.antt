use Rattle.field.specs.Element.{elem}
use Rattle.prover_lookup.proofs.Hs.{HsUpto}
use Rattle.prover_lookup.proofs.Groups.lookup_h_polys.Given as goal

abbrev pub invariant-loop-size : goal.invariant-loop-size
invariant-loop-size l = HsUpto l.initial.columns l.self.sizes.now l.self.compressed l.self.counts l.self.hs (elem l.gamma) l.self.rows l.columns l.input l.counts l.to l.size-index
