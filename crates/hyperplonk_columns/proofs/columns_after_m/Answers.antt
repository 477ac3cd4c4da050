-- `columns_after_m` meets its contract: h of all groups first, and z where no denominator of theirs is zero.
use mathlib.Core.Path.{sym, ◌∙◌, refl, subst}
use native.Mathlib.Omega.{arith}
use lib.ListN.{length}
use Rattle.prover.specs.Answers.{Outcome}
use Rattle.prover.proofs.Answers.{only_error}
use Rattle.hyperplonk_spec.specs.Build.{log_of}
use Rattle.hyperplonk_columns.specs.Outcome.{AfterM}
use Rattle.hyperplonk_columns.proofs.Accepted.{exact_challenges, user_few, user_is, hs_asked, hs_answer, hs_written, hs_behind, h_stopped, z_decides}
use Rattle.hyperplonk_columns.proofs.columns_after_m.Goals as goal

pub overflow_add-user : goal.overflow_add-user
overflow_add-user c = omega (arith, user_few c.args.log.now.prepared.circuit.words.now c.args.log.now.prepared.circuit.accepted c.args.log.now.prepared.params c.args.log.now.prepared.params_are)

pub at-gamma-requires : goal.at-gamma-requires
at-gamma-requires c =
    omega (arith, exact_challenges _ c.args.log.now.inputs.instance.now c.args.log.now.inputs.witness.now c.args.log.now.inputs.challenges.now c.args.log.now.lengths, user_is c.args.log.now.prepared.circuit.words.now c.args.log.now.prepared.circuit.accepted c.args.log.now.prepared.params c.args.log.now.prepared.params_are)

pub lookup_h_polys-requires : goal.lookup_h_polys-requires
lookup_h_polys-requires c =
    let at = c.places_of-at in
    rw at.ensures.rows (hs_asked c.args.log.now.prepared.circuit.words.now c.args.log.now.prepared.circuit.accepted c.args.log.now.prepared.params c.args.log.now.prepared.params_are _ at.ensures.sizes _ _ at.ensures.compressed at.ensures.counts
    (length c.args.columns.now)
    c.requires
    _
    at.ensures.hs
    _
    refl).3

pub returns : goal.returns
returns c front =
    let at = c.places_of-at in
    let x = c.lookup_h_polys in
    let γ = c.at-gamma.ensures in
    let told = c.in_ok-lookup_h_polys.was in
    z_decides c.args.log.now.prepared.circuit.words.now c.args.log.now.inputs.instance.now c.args.log.now.inputs.witness.now c.args.log.now.inputs.challenges.now c.args.log.now.prepared.circuit.accepted c.args.columns.now c.requires front _ _ _
    (sym told
    ∙ hs_answer c.args.log.now.prepared.circuit.words.now c.args.log.now.prepared.circuit.accepted c.args.log.now.prepared.params c.args.log.now.prepared.params_are _ at.ensures.sizes _ _ at.ensures.compressed at.ensures.counts
    (length c.args.columns.now) c.requires _ at.ensures.hs _ c.args.log.now.inputs.instance.now c.args.log.now.inputs.witness.now c.args.log.now.inputs.challenges.now c.args.columns.now _ _ γ front (rw at.ensures.rows at x.ensures))
    (hs_behind c.args.log.now.prepared.circuit.words.now c.args.log.now.prepared.circuit.accepted c.args.log.now.prepared.params c.args.log.now.prepared.params_are _ at.ensures.sizes _ _ at.ensures.compressed at.ensures.counts
    (length c.args.columns.now) c.requires _ at.ensures.hs _ c.args.log.now.inputs.instance.now c.args.log.now.inputs.witness.now c.args.log.now.inputs.challenges.now c.args.columns.now _ _ γ front (rw at.ensures.rows at x.ensures))
    (hs_written c.args.log.now.prepared.circuit.words.now c.args.log.now.prepared.circuit.accepted c.args.log.now.prepared.params c.args.log.now.prepared.params_are _ at.ensures.sizes _ _ at.ensures.compressed at.ensures.counts
    (length c.args.columns.now) c.requires _ at.ensures.hs _ c.args.log.now.inputs.instance.now c.args.log.now.inputs.witness.now c.args.log.now.inputs.challenges.now c.args.columns.now _ _ γ front (rw at.ensures.rows at x.ensures)
    told)
    x.auto.columns
    (c.z_columns.ensures.answer, c.z_columns.ensures.written)

pub shape_of-columns-in_err-lookup_h_polys : goal.shape_of-columns-in_err-lookup_h_polys
shape_of-columns-in_err-lookup_h_polys c = c.lookup_h_polys.auto.columns

pub returns-in_err-lookup_h_polys : goal.returns-in_err-lookup_h_polys
returns-in_err-lookup_h_polys c front =
    let at = c.places_of-at in
    let x = c.lookup_h_polys in
    let γ = c.at-gamma.ensures in
    let told = c.in_err-lookup_h_polys.was in
    subst (λ (o : Outcome). AfterM (log_of c.args.log.now.prepared.circuit.words.now c.args.log.now.inputs.instance.now c.args.log.now.inputs.witness.now c.args.log.now.inputs.challenges.now) c.args.columns.now o c.lookup_h_polys.new.columns)
    (sym (only_error _ c.from_residual.ensures.0))
    (h_stopped c.args.log.now.prepared.circuit.words.now c.args.log.now.inputs.instance.now c.args.log.now.inputs.witness.now c.args.log.now.inputs.challenges.now c.args.log.now.prepared.circuit.accepted c.args.columns.now c.requires front _
    (sym told
    ∙ hs_answer c.args.log.now.prepared.circuit.words.now c.args.log.now.prepared.circuit.accepted c.args.log.now.prepared.params c.args.log.now.prepared.params_are _ at.ensures.sizes _ _ at.ensures.compressed at.ensures.counts
    (length c.args.columns.now) c.requires _ at.ensures.hs _ c.args.log.now.inputs.instance.now c.args.log.now.inputs.witness.now c.args.log.now.inputs.challenges.now c.args.columns.now _ _ γ front (rw at.ensures.rows at x.ensures))
    (hs_behind c.args.log.now.prepared.circuit.words.now c.args.log.now.prepared.circuit.accepted c.args.log.now.prepared.params c.args.log.now.prepared.params_are _ at.ensures.sizes _ _ at.ensures.compressed at.ensures.counts
    (length c.args.columns.now) c.requires _ at.ensures.hs _ c.args.log.now.inputs.instance.now c.args.log.now.inputs.witness.now c.args.log.now.inputs.challenges.now c.args.columns.now _ _ γ front (rw at.ensures.rows at x.ensures)))
