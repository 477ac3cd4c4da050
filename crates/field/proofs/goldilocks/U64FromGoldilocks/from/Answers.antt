-- An element's number.
use Rattle.std.proofs.Common.{sym, ◌∙◌}
use Rattle.field.proofs.Elements.{val_el_mod}
use Rattle.field.proofs.goldilocks.U64FromGoldilocks.from.Goals as goal

pub returns : goal.returns
returns c = c.reduce_u64.ensures ∙ sym (val_el_mod _)
