-- `expression_values` meets its contract.
use mathlib.Core.Path.{◌∙◌, sym, refl, subst⁻¹}
use mathlib.Core.Bool.{true}
use Prim.Native.Nat.{◌≤◌}
use native.Mathlib.Omega.{arith}
use lib.Dec.{leb}
use borrow.Author.Tests.{leb-true}
use Rattle.lists.proofs.Tests.{and_left, and_right}
use Rattle.backend.proofs.Answers.{says_no, says_yes}
use Rattle.expression.specs.Reader.{LayoutSmall}
use Rattle.oracle_entry.proofs.Answers.{layout_small, bad_k, bad_layout, no_room, has_room, all_there}
use Rattle.oracle_entry.proofs.Lent.expression_values.Goals as goal

pub returns-then-not-order : goal.returns-then-not-order
returns-then-not-order c = bad_k _ _ _ _ _ _ _ _ _ _ (says_no _ _ refl (mathlib.Core.Path.ap mathlib.Core.Bool.not c.if-not-order.true))

pub returns-then-not-small_layout : goal.returns-then-not-small_layout
returns-then-not-small_layout c = bad_layout _ _ _ _ _ _ _ _ _ _ (sym c.small_layout.ensures ∙ c.if-not-small_layout.true)

pub rows_of-requires : goal.rows_of-requires
rows_of-requires c = (leb-true _ _ (and_right (leb 1 c.args.k) _ ((says_yes _ _ refl (mathlib.Core.Path.ap mathlib.Core.Bool.not c.if-not-order.false)))))

pub returns-then-not-room : goal.returns-then-not-room
returns-then-not-room c = no_room _ _ _ _ _ _ _ _ _ _ _ c.rows_of.ensures (says_no _ _ refl (mathlib.Core.Path.ap mathlib.Core.Bool.not c.if-not-room.true))

pub layout_from-requires : goal.layout_from-requires
layout_from-requires c = (leb-true _ _ (and_right (leb 1 c.args.k) _ ((says_yes _ _ refl (mathlib.Core.Path.ap mathlib.Core.Bool.not c.if-not-order.false)))))

pub invariant_of-of : goal.invariant_of-of
invariant_of-of c =
    let a = c.args in
    let order = says_yes _ _ refl (mathlib.Core.Path.ap mathlib.Core.Bool.not c.if-not-order.false) in
    let low : a.k ≤ 20 = leb-true _ _ (and_right (leb 1 a.k) _ order) in
    record {
      there =
          (has_room a.k a.self.now.nodes.now a.self.now.circuit.now a.self.now.witness.now a.self.now.columns.now a.self.now.challenges.now a.self.now.layout.now a.self.now.eq.now a.n a.out.now _ c.rows_of.ensures
          (says_yes _ _ refl (mathlib.Core.Path.ap mathlib.Core.Bool.not c.if-not-room.false))).0;
      small = subst⁻¹ LayoutSmall c.layout_from.ensures (layout_small a.k a.self.now.layout.now low (sym c.small_layout.ensures ∙ c.if-not-small_layout.false));
      order = (leb-true _ _ (and_left _ (leb a.k 20) order), omega (arith, low));
    }

pub values-requires : goal.values-requires
values-requires c =
    let a = c.args in
    (has_room a.k a.self.now.nodes.now a.self.now.circuit.now a.self.now.witness.now a.self.now.columns.now a.self.now.challenges.now a.self.now.layout.now a.self.now.eq.now a.n a.out.now _ c.rows_of.ensures
    (says_yes _ _ refl (mathlib.Core.Path.ap mathlib.Core.Bool.not c.if-not-room.false))).1

pub returns : goal.returns
returns c =
    let a = c.args in
    all_there a.k a.self.now.nodes.now a.self.now.circuit.now a.self.now.witness.now a.self.now.columns.now a.self.now.challenges.now a.self.now.layout.now a.self.now.eq.now a.n a.out.now _ c.rows_of.ensures
    ((says_yes _ _ refl (mathlib.Core.Path.ap mathlib.Core.Bool.not c.if-not-order.false))) ((sym c.small_layout.ensures ∙ c.if-not-small_layout.false)) (says_yes _ _ refl (mathlib.Core.Path.ap mathlib.Core.Bool.not c.if-not-room.false)) _ c.layout_from.ensures _ c.values.ensures
