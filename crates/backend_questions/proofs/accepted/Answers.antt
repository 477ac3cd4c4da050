-- The first no of the layout's questions, or else that of the body's.
use mathlib.Core.Path.{refl, sym}
use native.Mathlib.Omega.{arith}
use Rattle.std.proofs.Common.{rules}
use Rattle.backend.proofs.Answers.{refused_at, then_body}
use Rattle.backend_questions.proofs.accepted.Goals as goal

pub returns-in_err-circuit-clause-no : goal.returns-in_err-circuit-clause-no
returns-in_err-circuit-clause-no c =
    let k = c.in_err-circuit.ensures.no in
    let e = refused_at _ _ k.1 (λ z. omega arith) in
    search rules

pub returns-in_err-ask_body-clause-no : goal.returns-in_err-ask_body-clause-no
returns-in_err-ask_body-clause-no c =
    let k = rw c.in_ok-circuit.ensures.circuit at c.in_err-ask_body.ensures.no in
    let e = then_body _ 0 _ (sym c.in_ok-circuit.ensures.yes) refl k.1 in
    search rules

pub returns-clause-yes : goal.returns-clause-yes
returns-clause-yes c = sym (then_body _ 0 0 (sym c.in_ok-circuit.ensures.yes) refl (sym (rw c.in_ok-circuit.ensures.circuit at c.in_ok-ask_body.ensures.yes)))
