use mathlib.Core.Path.{◌≡◌, refl, sym, ap, ◌∙◌}
use mathlib.Core.Bool.{Bool, true, false}
use Rattle.backend_nodes.proofs.layout.Nodes.{not_in_place, not_root, not_root_too, named_last}
use Rattle.backend_nodes.proofs.layout.laid_out.Goals as goal

pub returns-then-not-all_in_place : goal.returns-then-not-all_in_place
returns-then-not-all_in_place c =
    let a = c.args in
    not_in_place a.nodes.now a.constraints.now a.pairs.now c.all_in_place.result c.all_in_place.ensures (mathlib.Core.Path.ap mathlib.Core.Bool.not c.if-not-all_in_place.true)

pub returns-then-not-roots_right : goal.returns-then-not-roots_right
returns-then-not-roots_right c =
    let a = c.args in
    not_root a.nodes.now a.constraints.now a.pairs.now c.all_in_place.result c.all_in_place.ensures c.roots_right.result c.roots_right.ensures (mathlib.Core.Path.ap mathlib.Core.Bool.not c.if-not-roots_right.true)

pub returns-then-not-roots_right-2 : goal.returns-then-not-roots_right-2
returns-then-not-roots_right-2 c =
    let a = c.args in
    not_root_too a.nodes.now a.constraints.now a.pairs.now c.all_in_place.result c.all_in_place.ensures c.roots_right.result c.roots_right.ensures c.roots_right-2.result c.roots_right-2.ensures (mathlib.Core.Path.ap mathlib.Core.Bool.not c.if-not-roots_right-2.true)

pub returns : goal.returns
returns c =
    let a = c.args in
    named_last a.nodes.now a.constraints.now a.pairs.now c.all_in_place.result c.all_in_place.ensures c.roots_right.result c.roots_right.ensures c.roots_right-2.result c.roots_right-2.ensures c.named_once.result c.named_once.ensures (mathlib.Core.Path.ap mathlib.Core.Bool.not c.if-not-all_in_place.false) (mathlib.Core.Path.ap mathlib.Core.Bool.not c.if-not-roots_right.false) (mathlib.Core.Path.ap mathlib.Core.Bool.not c.if-not-roots_right-2.false)
