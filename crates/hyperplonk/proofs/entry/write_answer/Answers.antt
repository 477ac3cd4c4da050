-- `write_answer` meets its contract.
use mathlib.Core.Path.{ap, ◌∙◌}
use mathlib.Core.List.{List, ◌++◌}
use Prim.Native.Nat.{ℕ}
use native.Mathlib.Omega.{arith}
use lib.ListN.{length, drop}
use Rattle.hyperplonk.proofs.Answered.{kept, room}
use Rattle.hyperplonk.proofs.entry.write_answer.Goals as goal

pub returns-then-answer-words : goal.returns-then-answer-words
returns-then-answer-words c =
    let a = c.args in
    ap (λ (xs : List ℕ). xs ++ drop (length a.words.now) a.answer.now) c.copy_from_slice.ensures.after
    ∙ room a.words.now a.answer.now (omega (arith, c.if-answer-words.true))

pub returns-else-answer-words : goal.returns-else-answer-words
returns-else-answer-words c = kept _ _ (omega (arith, c.if-answer-words.false))
