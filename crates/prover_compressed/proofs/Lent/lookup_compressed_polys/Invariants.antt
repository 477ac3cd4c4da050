use mathlib.Core.Path.{◌≡◌}
use Prim.Native.Nat.{◌+◌, ◌*◌, ◌^◌, ◌≤◌}
use lib.ListN.{length, take}
use Rattle.field.specs.Field.{𝔾}
use Rattle.field.specs.Element.{elem}
use Rattle.lists.specs.Lists.{write_at, split, total}
use Rattle.backend.specs.Circuit.{pairs_of}
use Rattle.prover.specs.Words.{words_of}
use Rattle.prover.specs.Lent.{environment_from_words, compressed_polys_in}
use Rattle.prover_compressed.proofs.Lent.lookup_compressed_polys.Given as goal

abbrev pub invariant-loop-word : goal.invariant-loop-word
invariant-loop-word l = (l.word-index ≤ length l.self.widths.now)
    × (l.start ≡ total (take l.word-index l.self.widths.now))
    × (l.at ≡ l.polys.to + l.word-index * (2 ^ l.polys.k + 2 ^ l.polys.k))
    × (length l.columns ≡ length l.initial.columns)
    × (l.columns ≡ write_at l.initial.columns l.polys.to (words_of (2 ^ l.polys.k) (compressed_polys_in 𝔾 (environment_from_words l.self.circuit.now l.self.witness.now l.initial.columns l.self.challenges.now l.polys.layout l.polys.k) (elem l.polys.beta) (split (take l.word-index l.self.widths.now) (pairs_of l.self.nodes.now l.self.pairs.now)))))
