-- `take_end`: the number begun is the last word.
use Rattle.std.proofs.Common.{[], rules, ◌∙◌}
use Rattle.decimal.proofs.Steps.{at_end, kept_at_end, heard_wrong}
use Rattle.decimal.proofs.OfText.{heard_of_text, ahead_of_text}
use Rattle.decimal.proofs.take_end.Goals as goal

pub returns-in_err-ended-clause-heard : goal.returns-in_err-ended-clause-heard
returns-in_err-ended-clause-heard c =
    heard_wrong c.from_residual.result c.in_err-ended.field-0.0 c.end_number.new.words (search rules) (search rules) ∙ at_end c.args.scan c.args.words.now _ c.end_number.new.words (search rules) (c.in_err-ended.ensures)

pub returns-in_err-ended-clause-of_text : goal.returns-in_err-ended-clause-of_text
returns-in_err-ended-clause-of_text c =
    heard_of_text _ _ _ (returns-in_err-ended-clause-heard c) (ahead_of_text c.args.scan c.args.words.now [])

pub returns-clause-heard : goal.returns-clause-heard
returns-clause-heard c = kept_at_end c.args.scan c.args.words.now c.in_ok-ended.ended c.end_number.new.words (search rules) (c.in_ok-ended.ensures)
