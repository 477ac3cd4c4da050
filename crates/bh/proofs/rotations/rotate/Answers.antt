-- The distance in steps back or on is the rotation.
use mathlib.Core.Path.{◌∙◌}
use borrow.Author.Rules.{rules}
use mir.Syntax.{w32}
use mir.Val.{SFits}
use Rattle.bh.proofs.Signs.{rotates_back, rotates_on}
use Rattle.bh.proofs.rotations.rotate.Goals as goal

pub returns-then-n-lt0 : goal.returns-then-n-lt0
returns-then-n-lt0 c =
    let fits : SFits w32 c.args.r.0 = search rules in
    (c.repeated.ensures.0 ∙ rotates_back c.args.k c.args.b c.args.r.0 fits c.unsigned_abs-d.ensures.value c.if-n-lt0.true, c.repeated.ensures.1)

pub returns-else-n-lt0 : goal.returns-else-n-lt0
returns-else-n-lt0 c =
    let fits : SFits w32 c.args.r.0 = search rules in
    (c.repeated-else-n-lt0.ensures.0 ∙ rotates_on c.args.k c.args.b c.args.r.0 fits c.unsigned_abs-d.ensures.value c.if-n-lt0.false, c.repeated-else-n-lt0.ensures.1)
