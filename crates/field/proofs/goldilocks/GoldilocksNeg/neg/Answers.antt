-- The negative.
use Rattle.std.proofs.Common.{ap, ◌∙◌}
use Rattle.field.specs.Field.{el, el_neg}
use Rattle.field.proofs.goldilocks.GoldilocksNeg.neg.Goals as goal

pub returns : goal.returns
returns c = ap el c.neg_u64.ensures ∙ el_neg _
