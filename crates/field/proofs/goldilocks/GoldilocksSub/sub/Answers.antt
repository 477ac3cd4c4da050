-- A difference.
use Rattle.std.proofs.Common.{ap, ◌∙◌}
use Rattle.field.specs.Field.{el, el_sub}
use Rattle.field.proofs.goldilocks.GoldilocksSub.sub.Goals as goal

pub returns : goal.returns
returns c = ap el c.sub_u64.ensures ∙ el_sub _ _
