use mathlib.Core.Path.{◌≡◌, sym, ◌∙◌}
use Prim.Native.Nat.{◌+◌, ◌*◌, ◌-◌, min}
use native.Mathlib.Omega.{arith}
use lib.ListN.{length}
use Rattle.lists.proofs.Same.{run_differs, same_all}
use Rattle.backend.specs.Circuit.{circuit_of}
use Rattle.preprocessor.specs.Compose.{composed_words}
use Rattle.preprocessor.proofs.Composed.{composed_length}
use Rattle.hyperplonk_nodes.proofs.Compared.{up_to}
use Rattle.hyperplonk_nodes.proofs.same_nodes.Goals as goal

pub returns-then-not-same_window : goal.returns-then-not-same_window
returns-then-not-same_window c =
    sym (run_differs c.args.nodes.now (composed_words (circuit_of c.args.prepared.now.circuit.words.now)) (c.loop-i.i * 2048) (c.min-end.result - c.loop-i.i * 2048)
    (sym c.same_window.ensures ∙ c.if-not-same_window.true))

pub loop-i-preserved : goal.loop-i-preserved
loop-i-preserved c =
    let words = composed_words (circuit_of c.args.prepared.now.circuit.words.now) in
    let end : c.min-end.result ≡ min (length c.args.nodes.now) ((c.loop-i.i + 1) * 2048) = omega (arith, c.min-end.ensures) in
    up_to c.args.nodes.now words (c.loop-i.i * 2048) c.min-end.result ((c.loop-i.i + 1) * 2048) (omega (arith, composed_length (circuit_of c.args.prepared.now.circuit.words.now))) end
    (omega arith)
    c.loop-i.invariant
    (sym c.same_window.ensures ∙ c.if-not-same_window.false)

pub returns : goal.returns
returns c =
    sym (same_all c.args.nodes.now (composed_words (circuit_of c.args.prepared.now.circuit.words.now)) (c.loop-i.i * 2048) (omega arith) (omega (arith, composed_length (circuit_of c.args.prepared.now.circuit.words.now))) c.loop-i.invariant)
