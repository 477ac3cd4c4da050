use mathlib.Core.Path.{refl}
use native.Mathlib.Omega.{arith}
use Rattle.expression.specs.declared.kind.Kind.{Kind}
use Rattle.expression.specs.Nodes.{node_of, kind_of}
use Rattle.expression.proofs.NumberedKinds.{kind_word, expression_word}
use Rattle.expression_same.specs.Places.{alone}
use Rattle.expression_same.proofs.Ways.{alone_item, alone_none}
use Rattle.expression_same.proofs.as_expression.Goals as goal

pub returns-in-Ok-Item : goal.returns-in-Ok-Item
unfolding alone node_of kind_of
returns-in-Ok-Item c =
    (omega arith, (omega arith, alone_item c.args.d (kind_word Kind.Item c.in-Ok-Item.ensures c.in-Ok-Item.field-0-is)))

pub returns-in-Err : goal.returns-in-Err
unfolding alone node_of kind_of
returns-in-Err c = (omega arith, (omega arith, alone_none c.args.d c.in-Err.ensures))

pub returns-in_default : goal.returns-in_default
returns-in_default c =
    let h = c.in_default.in_default-own.refused-1 in
    let w = expression_word c.in_default.ensures (λ z. h.1 (rw z)) in
    (w.0, (w.1, refl))
