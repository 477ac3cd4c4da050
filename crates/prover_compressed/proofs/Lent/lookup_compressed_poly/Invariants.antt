use mathlib.Core.Path.{◌≡◌}
use Prim.Native.Nat.{◌^◌}
use Rattle.field.specs.Field.{𝔾, val}
use Rattle.field.specs.Element.{elem}
use Rattle.bh.specs.Rows.{row_at, place_of}
use Rattle.lists.proofs.Turns.{Turned}
use Rattle.prover.specs.Lent.{environment_from_words, compressed_in, roots_of}
use Rattle.prover_compressed.proofs.Lent.lookup_compressed_poly.Given as goal

abbrev pub invariant-loop-place : goal.invariant-loop-place
invariant-loop-place l = (l.row ≡ row_at l.polys.k l.place)
    × Turned (2 ^ l.polys.k) (place_of l.polys.k)
    (λ b. val (compressed_in 𝔾 (environment_from_words l.self.circuit.now l.self.witness.now l.initial.columns l.self.challenges.now l.polys.layout l.polys.k) (elem l.polys.beta) (roots_of l.of.nodes.now l.of.pairs.now l.of.roots) b)) l.initial.columns l.polys.to l.columns l.place
