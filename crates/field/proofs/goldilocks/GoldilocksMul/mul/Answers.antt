-- A product.
use Rattle.std.proofs.Common.{sym, ap, ◌∙◌}
use Rattle.field.specs.Field.{el, el_mul}
use Rattle.field.proofs.Elements.{el_mod}
use Rattle.field.proofs.goldilocks.GoldilocksMul.mul.Goals as goal

pub returns : goal.returns
returns c = sym (el_mod _) ∙ ap el c.product_word.ensures ∙ el_mul _ _
