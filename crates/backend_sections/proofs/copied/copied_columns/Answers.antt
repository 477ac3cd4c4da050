use mathlib.Core.Path.{◌≡◌, refl, sym, subst, ◌∙◌}
use mathlib.Core.Bool.{Bool, false}
use mathlib.Core.List.{List}
use Prim.Native.Nat.{ℕ, ◌+◌}
use native.Mathlib.Omega.{arith}
use lib.ListN.{replicate, get_or}
use Rattle.arrayvec.specs.ArrayVec.{ArrayVec}
use Rattle.backend.specs.Circuit.{cells_of, cells_name}
use Rattle.backend_sections.proofs.copied.Cells.{Named, Gathered, named_none, named_set, named_past, named_all, gathered_none, gathered_more, gathered_same, gathered_all}
use Rattle.backend_sections.proofs.copied.copied_columns.Goals as goal
use Rattle.backend_sections.proofs.copied.copied_columns.Goals.{then-q, else-q, then-named-q, else-named-q}

pub loop-i-init : goal.loop-i-init
loop-i-init c = named_none c.args.cells.now (replicate 72 false) refl

pub loop-i-preserved : goal.loop-i-preserved
loop-i-preserved c =
    let a = c.args in
    elim c.if-q.branch [
      | then-q w ↦ subst (λ (l : List Bool). Named a.cells.now l (c.loop-i.i + 1)) (sym w.named-is) (named_set a.cells.now c.loop-i.named c.loop-i.i c.loop-i.invariant c.loop-i-test.true w.if-q.true)
      | else-q w ↦ subst (λ (l : List Bool). Named a.cells.now l (c.loop-i.i + 1)) (sym w.named-is) (named_past a.cells.now c.loop-i.named c.loop-i.i c.loop-i.invariant c.loop-i-test.true w.if-q.false)
    ]

pub loop-q-init : goal.loop-q-init
loop-q-init c = rw c.new-columns.ensures (gathered_none c.args.cells.now c.args.polys)

pub loop-q-preserved : goal.loop-q-preserved
loop-q-preserved c =
    let a = c.args in
    let flag : get_or c.loop-i.named c.loop-q.q false ≡ cells_name (cells_of a.cells.now) c.loop-q.q =
    named_all a.cells.now c.loop-i.named c.loop-i.i c.loop-i.invariant c.loop-i-test.false c.loop-q.q (let t = c.loop-q-test.true in let m = c.requires in omega arith) in
    elim c.if-named-q.branch [
      | then-named-q w ↦
          subst (λ (v : ArrayVec ℕ). Gathered a.cells.now a.polys v.items (c.loop-q.q + 1)) (sym w.columns-is)
          (rw w.push.ensures.items (gathered_more a.cells.now a.polys c.loop-q.columns.items c.loop-q.q c.loop-q.invariant c.loop-q-test.true (sym flag ∙ w.if-named-q.true)))
      | else-named-q w ↦
          subst (λ (v : ArrayVec ℕ). Gathered a.cells.now a.polys v.items (c.loop-q.q + 1)) (sym w.columns-is)
          (gathered_same a.cells.now a.polys c.loop-q.columns.items c.loop-q.q c.loop-q.invariant c.loop-q-test.true (sym flag ∙ w.if-named-q.false))
    ]

pub returns-clause-columns : goal.returns-clause-columns
returns-clause-columns c = gathered_all c.args.cells.now c.args.polys c.loop-q.columns.items c.loop-q.q c.loop-q.invariant c.loop-q-test.false
