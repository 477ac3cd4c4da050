-- `Search::new` makes the facts that a search keeps from those of a prepared circuit.
use Rattle.std.proofs.Common.{ℕ, ◌+◌, length, get_or, sym, ap, ◌∙◌, subst, arith}
use Rattle.field.specs.Field.{el, val}
use Rattle.expression.specs.Reader.{LayoutSmall}
use Rattle.backend.proofs.Answers.{groups_read}
use Rattle.hyperplonk_prepare.proofs.Accepted.{given, few_lookups, few_copied}
use Rattle.cli_search.proofs.Asked.{user_is, few_user_of, lookups_is, rows_small, room_here}
use Rattle.cli_search.proofs.search.Search.new.Goals as goal

pub overflow_add-user : goal.overflow_add-user
overflow_add-user c =
    let p = c.args.prepared.now in
    let h = few_user_of p.circuit.words.now p.circuit.accepted p.params p.params_are in
    omega arith

pub invariant_of-result-clause-lookups_are : goal.invariant_of-result-clause-lookups_are
invariant_of-result-clause-lookups_are c =
    let p = c.args.prepared.now in lookups_is p.circuit.words.now p.circuit.accepted p.params p.params_are

pub invariant_of-result-clause-groups_are : goal.invariant_of-result-clause-groups_are
invariant_of-result-clause-groups_are c = (rw (c.laid.ensures, c.circuit.ensures) at c.groups.ensures) ∙ groups_read c.args.prepared.now.circuit.words.now

pub invariant_of-result-clause-beta_is : goal.invariant_of-result-clause-beta_is
invariant_of-result-clause-beta_is c =
    let p = c.args.prepared.now in
    let u = user_is p.circuit.words.now p.circuit.accepted p.params p.params_are in
    ap val (c.from.ensures ∙ ap el (c.word_at-2.ensures ∙ ap (λ (n : ℕ). get_or c.args.challenges.now n 0) u))

pub invariant_of-result-clause-gamma_is : goal.invariant_of-result-clause-gamma_is
invariant_of-result-clause-gamma_is c =
    let p = c.args.prepared.now in
    let u = user_is p.circuit.words.now p.circuit.accepted p.params p.params_are in
    ap val (c.from-2.ensures ∙ ap el (c.word_at-3.ensures ∙ ap (λ (n : ℕ). get_or c.args.challenges.now (n + 1) 0) u))

pub invariant_of-result-clause-small : goal.invariant_of-result-clause-small
invariant_of-result-clause-small c =
    let p = c.args.prepared.now in subst LayoutSmall (sym c.layout.ensures) (given p.circuit.words.now p.circuit.accepted).small

pub invariant_of-result-clause-few : goal.invariant_of-result-clause-few
invariant_of-result-clause-few c =
    let p = c.args.prepared.now in
    let l = lookups_is p.circuit.words.now p.circuit.accepted p.params p.params_are in
    let h = few_lookups p.circuit.words.now p.circuit.accepted in
    let n = few_copied p.circuit.words.now p.circuit.accepted in
    let e = ap length c.copied.ensures in
    (omega arith, omega arith)

pub invariant_of-result-clause-rows : goal.invariant_of-result-clause-rows
invariant_of-result-clause-rows c =
    let p = c.args.prepared.now in rows_small p.circuit.words.now p.circuit.accepted _ c.layout.ensures _ c.word_at.ensures

pub invariant_of-result-clause-room : goal.invariant_of-result-clause-room
invariant_of-result-clause-room c =
    let p = c.args.prepared.now in
    room_here p.circuit.words.now p.circuit.accepted _ c.layout.ensures _ _ _ (ap length c.copied.ensures)
    (lookups_is p.circuit.words.now p.circuit.accepted p.params p.params_are)
    c.requires
