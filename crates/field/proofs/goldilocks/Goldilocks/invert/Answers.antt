-- The inverse, or that there is none.
use Rattle.std.proofs.Common.{sym, ap, ◌∙◌}
use Rattle.std.specs.Option.{option_map}
use Rattle.field.specs.Field.{el}
use Rattle.field.specs.Inverse.{inverted}
use Rattle.field.proofs.goldilocks.Invert.{word_inverse}
use Rattle.field.proofs.goldilocks.Goldilocks.invert.Goals as goal

pub returns-in_err-invert_u64 : goal.returns-in_err-invert_u64
returns-in_err-invert_u64 c = ap inverted c.from_residual.ensures ∙ ap (option_map el) (sym c.in_err-invert_u64.was ∙ c.invert_u64.ensures) ∙ word_inverse _

pub returns : goal.returns
returns c = ap (option_map el) (sym c.in_ok-invert_u64.was ∙ c.invert_u64.ensures) ∙ word_inverse _
