-- `build_checked` meets its contract.
use mathlib.Core.Path.{refl, sym, ap}
use Rattle.preprocessor.specs.Compose.{params_of}
use Rattle.preprocessor.specs.declared.CircuitParams.{CircuitParams}
use Rattle.hyperplonk_columns.specs.Outcome.{ColumnsOutcome, columns_number}
use Rattle.hyperplonk_build.proofs.Built.{columns_room, nodes_room, is_refused, is_made, not_zero, passed_on}
use Rattle.hyperplonk_build.proofs.build_checked.Goals as goal

pub write_columns-requires : goal.write_columns-requires
write_columns-requires c = columns_room c.args.log.now.prepared.circuit.words.now c.args.log.now.inputs.instance.now c.args.log.now.inputs.witness.now c.args.log.now.inputs.challenges.now c.args.columns.now c.args.nodes.now c.requires

pub returns-in_err-write_columns : goal.returns-in_err-write_columns
returns-in_err-write_columns c =
    let w = c.write_columns.ensures in
    let refusal = c.in_err-write_columns.field-0.0 in
    is_refused c.args.log.now.prepared.circuit.words.now c.args.log.now.inputs.instance.now c.args.log.now.inputs.witness.now c.args.log.now.inputs.challenges.now c.args.columns.now c.args.nodes.now _ _ _ w.0 w.1
    (sym (ap (λ (o : ColumnsOutcome). columns_number o) c.in_err-write_columns.was))
    _
    (not_zero refusal)
    (passed_on c.from_residual.result _ c.from_residual.ensures.1)

pub returns : goal.returns
unfolding params_of
returns c =
    let w = c.write_columns.ensures in
    is_made c.args.log.now.prepared.circuit.words.now c.args.log.now.inputs.instance.now c.args.log.now.inputs.witness.now c.args.log.now.inputs.challenges.now c.args.columns.now c.args.nodes.now _ _ _ w.0 w.1
    refl
    (ap (λ (o : ColumnsOutcome). columns_number o) c.in_ok-write_columns.was)
    _ _ _ _
    c.column_words-words.ensures
    (ap (λ (v : CircuitParams). v.num_chunks) c.args.log.now.prepared.params_are)
    (nodes_room c.args.log.now.prepared.circuit.words.now c.args.log.now.inputs.instance.now c.args.log.now.inputs.witness.now c.args.log.now.inputs.challenges.now c.args.columns.now c.args.nodes.now c.requires)
    c.compose_nodes-count.ensures
