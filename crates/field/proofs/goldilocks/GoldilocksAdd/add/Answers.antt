-- A sum.
use Rattle.std.proofs.Common.{sym, ap, ◌∙◌}
use Rattle.field.specs.Field.{el, el_add}
use Rattle.field.proofs.Elements.{el_mod}
use Rattle.field.proofs.goldilocks.GoldilocksAdd.add.Goals as goal

pub returns : goal.returns
returns c = sym (el_mod _) ∙ ap el c.sum_word.ensures ∙ el_add _ _
