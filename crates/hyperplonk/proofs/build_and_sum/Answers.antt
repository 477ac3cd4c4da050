-- `build_and_sum` meets its contracts: what it returns and leaves is that of its definition, and demand 3 holds of it.
use Prim.Native.Nat.{◌-◌}
use native.Mathlib.Omega.{arith}
use lib.ListN.{take}
use Rattle.hyperplonk_spec.specs.Build.{Output}
use Rattle.completeness.proofs.Called.{built_is, room, refused_left, summed_code}
use Rattle.completeness.proofs.Whole.{both}
use Rattle.hyperplonk.proofs.build_and_sum.Goals as goal

pub returns-then-b-ne0 : goal.returns-then-b-ne0
returns-then-b-ne0 c =
    let a = c.args in
    let f = c.build-b in
    let o : Output = record { answer = f.result; columns = f.new.columns; nodes = f.new.nodes } in
    both a.circuit.now a.instance.now a.witness.now a.challenges.now a.y.now a.columns.now a.nodes.now _
    (refused_left a.circuit.now a.instance.now a.witness.now a.challenges.now a.y.now a.columns.now a.nodes.now o
    (built_is a.circuit.now a.instance.now a.witness.now a.challenges.now a.y.now a.columns.now a.nodes.now c.saturating_sub-count.result o (omega (arith, c.saturating_sub-count.ensures)) f.ensures.0)
    c.if-b-ne0.true)

pub overflow_mul-node_words : goal.overflow_mul-node_words
overflow_mul-node_words c =
    let a = c.args in
    let f = c.build-b in
    let o : Output = record { answer = f.result; columns = f.new.columns; nodes = f.new.nodes } in
    let r = room a.circuit.now a.instance.now a.witness.now (take (c.saturating_sub-count.result - 0) a.challenges.now) a.columns.now a.nodes.now o f.ensures.0 c.if-b-ne0.false in
    omega (arith, r.nodes_fit)

pub slice_bounds-row_sum-end : goal.slice_bounds-row_sum-end
slice_bounds-row_sum-end c =
    let a = c.args in
    let f = c.build-b in
    let o : Output = record { answer = f.result; columns = f.new.columns; nodes = f.new.nodes } in
    let r = room a.circuit.now a.instance.now a.witness.now (take (c.saturating_sub-count.result - 0) a.challenges.now) a.columns.now a.nodes.now o f.ensures.0 c.if-b-ne0.false in
    omega (arith, r.columns_fit)

pub slice_bounds-row_sum-end-2 : goal.slice_bounds-row_sum-end-2
slice_bounds-row_sum-end-2 c =
    let a = c.args in
    let f = c.build-b in
    let o : Output = record { answer = f.result; columns = f.new.columns; nodes = f.new.nodes } in
    let r = room a.circuit.now a.instance.now a.witness.now (take (c.saturating_sub-count.result - 0) a.challenges.now) a.columns.now a.nodes.now o f.ensures.0 c.if-b-ne0.false in
    omega (arith, r.nodes_fit)

pub returns : goal.returns
returns c =
    let a = c.args in
    let f = c.build-b in
    let o : Output = record { answer = f.result; columns = f.new.columns; nodes = f.new.nodes } in
    both a.circuit.now a.instance.now a.witness.now a.challenges.now a.y.now a.columns.now a.nodes.now _
    (summed_code a.circuit.now a.instance.now a.witness.now a.challenges.now a.y.now a.columns.now a.nodes.now o c.row_sum-s.result
    (built_is a.circuit.now a.instance.now a.witness.now a.challenges.now a.y.now a.columns.now a.nodes.now c.saturating_sub-count.result o (omega (arith, c.saturating_sub-count.ensures)) f.ensures.0)
    c.if-b-ne0.false
    c.row_sum-s.ensures.0)
