-- `read`: from the start, all bytes, the end.
use Rattle.std.proofs.Common.{Err, rules, length, ◌∙◌}
use Rattle.decimal.proofs.Steps.{read_whole, heard_wrong}
use Rattle.decimal.proofs.OfText.{heard_of_text, says_of_text}
use Rattle.decimal.proofs.read.Goals as goal

pub returns-in_err-scan-clause-says : goal.returns-in_err-scan-clause-says
returns-in_err-scan-clause-says c =
    heard_wrong c.from_residual.result c.in_err-scan.field-0.0 c.take_bytes.new.words (search rules) (search rules) ∙ read_whole c.start.result c.args.words.now c.args.text.now (Err c.in_err-scan.field-0.0) c.take_bytes.new.words c.start.ensures (c.in_err-scan.ensures.takes)

pub returns-in_err-scan-clause-of_text : goal.returns-in_err-scan-clause-of_text
returns-in_err-scan-clause-of_text c =
    heard_of_text _ _ _ (returns-in_err-scan-clause-says c) (says_of_text (length c.args.words.now) c.args.text.now)
