-- `take_bytes`: a byte that ends it does so by a fault of a text.
use Rattle.std.proofs.Common.{rules}
use Rattle.decimal.proofs.OfText.{handed_on}
use Rattle.decimal.proofs.take_bytes.Goals as goal

pub returns-in_err-come-clause-of_text : goal.returns-in_err-come-clause-of_text
returns-in_err-come-clause-of_text c = handed_on _ _ _ c.in_err-come.field-0.0 c.in_err-come.ensures c.from_residual.result (search rules)
