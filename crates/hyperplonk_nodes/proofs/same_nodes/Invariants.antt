use mathlib.Core.Path.{◌≡◌}
use Prim.Native.Nat.{◌*◌}
use lib.ListN.{take}
use Rattle.backend.specs.Circuit.{circuit_of}
use Rattle.preprocessor.specs.Compose.{composed_words}
use Rattle.hyperplonk_nodes.proofs.same_nodes.Given as goal

abbrev pub invariant-loop-i : goal.invariant-loop-i
invariant-loop-i l = take (l.i * 2048) l.nodes ≡ take (l.i * 2048) (composed_words (circuit_of l.prepared.circuit.words.now))
