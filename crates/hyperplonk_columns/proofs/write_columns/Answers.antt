-- `write_columns` meets its contract: question 15 by the counts, question 17 by h and z.
use mathlib.Core.Path.{sym, ◌∙◌}
use lib.ListN.{length}
use Rattle.hyperplonk_columns.proofs.Accepted.{counts_asked, answer_is, counts_written, counts_behind, all_end, zero_end, none_end}
use Rattle.hyperplonk_columns.proofs.write_columns.Goals as goal

pub lookup_m_polys-covered-requires : goal.lookup_m_polys-covered-requires
lookup_m_polys-covered-requires c =
    let at = c.places_of-at in
    let q = counts_asked c.args.log.now.prepared.circuit.words.now c.args.log.now.prepared.circuit.accepted c.args.log.now.prepared.params c.args.log.now.prepared.params_are _ at.ensures.sizes _ _ at.ensures.compressed at.ensures.counts
    (length c.args.columns.now)
    c.requires
    c.args.log.now.inputs.instance.now
    c.args.log.now.inputs.witness.now
    c.args.log.now.inputs.challenges.now
    c.args.columns.now
    _
    c.columns_before_m.ensures
    c.columns_before_m.auto.columns
    in
    rw at.ensures.rows (q.1, q.2, q.3)

pub returns-then-not-covered : goal.returns-then-not-covered
returns-then-not-covered c =
    let at = c.places_of-at in
    let before = c.columns_before_m.ensures in
    let m = c.lookup_m_polys-covered in
    none_end c.args.log.now.prepared.circuit.words.now c.args.log.now.inputs.instance.now c.args.log.now.inputs.witness.now c.args.log.now.inputs.challenges.now c.args.log.now.prepared.circuit.accepted c.args.columns.now _ c.requires before
    _
    _
    _
    (sym (c.if-not-covered.true)
    ∙ answer_is c.args.log.now.prepared.circuit.words.now c.args.log.now.prepared.circuit.accepted c.args.log.now.prepared.params c.args.log.now.prepared.params_are _ at.ensures.sizes _ _ at.ensures.compressed at.ensures.counts
    (length c.args.columns.now)
    c.requires
    c.args.log.now.inputs.instance.now
    c.args.log.now.inputs.witness.now
    c.args.log.now.inputs.challenges.now
    c.args.columns.now
    _
    _
    m.result
    before
    (rw at.ensures.rows at m.ensures))
    (counts_behind c.args.log.now.prepared.circuit.words.now c.args.log.now.prepared.circuit.accepted c.args.log.now.prepared.params c.args.log.now.prepared.params_are _ at.ensures.sizes _ _ at.ensures.compressed at.ensures.counts
    (length c.args.columns.now)
    c.requires
    c.args.log.now.inputs.instance.now
    c.args.log.now.inputs.witness.now
    c.args.log.now.inputs.challenges.now
    c.args.columns.now
    _
    _
    m.result
    before
    (rw at.ensures.rows at m.ensures))
    c.column_words-words.ensures
    c.clear.ensures

pub returns-in-Ok : goal.returns-in-Ok
returns-in-Ok c =
    let at = c.places_of-at in
    let before = c.columns_before_m.ensures in
    let m = c.lookup_m_polys-covered in
    let yes = c.if-not-covered.false in
    all_end c.args.log.now.prepared.circuit.words.now c.args.log.now.inputs.instance.now c.args.log.now.inputs.witness.now c.args.log.now.inputs.challenges.now c.args.log.now.prepared.circuit.accepted c.args.columns.now _ c.requires before
    _
    _
    _
    (counts_written c.args.log.now.prepared.circuit.words.now c.args.log.now.prepared.circuit.accepted c.args.log.now.prepared.params c.args.log.now.prepared.params_are _ at.ensures.sizes _ _ at.ensures.compressed at.ensures.counts
    (length c.args.columns.now)
    c.requires
    c.args.log.now.inputs.instance.now
    c.args.log.now.inputs.witness.now
    c.args.log.now.inputs.challenges.now
    c.args.columns.now
    _
    _
    m.result
    before
    (rw at.ensures.rows at m.ensures)
    yes)
    (sym yes
    ∙ answer_is c.args.log.now.prepared.circuit.words.now c.args.log.now.prepared.circuit.accepted c.args.log.now.prepared.params c.args.log.now.prepared.params_are _ at.ensures.sizes _ _ at.ensures.compressed at.ensures.counts
    (length c.args.columns.now)
    c.requires
    c.args.log.now.inputs.instance.now
    c.args.log.now.inputs.witness.now
    c.args.log.now.inputs.challenges.now
    c.args.columns.now
    _
    _
    m.result
    before
    (rw at.ensures.rows at m.ensures))
    c.columns_after_m-last.ensures
    c.in-Ok.is

pub returns-in-Err : goal.returns-in-Err
returns-in-Err c =
    let at = c.places_of-at in
    let before = c.columns_before_m.ensures in
    let m = c.lookup_m_polys-covered in
    let yes = c.if-not-covered.false in
    zero_end c.args.log.now.prepared.circuit.words.now c.args.log.now.inputs.instance.now c.args.log.now.inputs.witness.now c.args.log.now.inputs.challenges.now c.args.log.now.prepared.circuit.accepted c.args.columns.now _ c.requires before
    _
    _
    _
    (counts_written c.args.log.now.prepared.circuit.words.now c.args.log.now.prepared.circuit.accepted c.args.log.now.prepared.params c.args.log.now.prepared.params_are _ at.ensures.sizes _ _ at.ensures.compressed at.ensures.counts
    (length c.args.columns.now)
    c.requires
    c.args.log.now.inputs.instance.now
    c.args.log.now.inputs.witness.now
    c.args.log.now.inputs.challenges.now
    c.args.columns.now
    _
    _
    m.result
    before
    (rw at.ensures.rows at m.ensures)
    yes)
    (sym yes
    ∙ answer_is c.args.log.now.prepared.circuit.words.now c.args.log.now.prepared.circuit.accepted c.args.log.now.prepared.params c.args.log.now.prepared.params_are _ at.ensures.sizes _ _ at.ensures.compressed at.ensures.counts
    (length c.args.columns.now)
    c.requires
    c.args.log.now.inputs.instance.now
    c.args.log.now.inputs.witness.now
    c.args.log.now.inputs.challenges.now
    c.args.columns.now
    _
    _
    m.result
    before
    (rw at.ensures.rows at m.ensures))
    c.columns_after_m-last.ensures
    _
    _
    c.in-Err.is
    c.column_words-words.ensures
    c.clear-in-Err.ensures
