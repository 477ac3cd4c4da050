-- `take_byte`: the byte is a newline, of a comment, a hash, white space, a digit, or none of these.
use Rattle.std.proofs.Common.{sym, ◌∙◌, rules, eq-eqb, ne_eqb}
use Rattle.decimal.proofs.Steps.{newline_takes, hash_takes, blank_takes, comment_takes, comment_is, comment_is_not, other_takes}
use Rattle.decimal.proofs.take_byte.Goals as goal

pub returns-then-byte-eq10 : goal.returns-then-byte-eq10
returns-then-byte-eq10 c = newline_takes c.args.scan c.args.words.now c.args.byte c.end_number.result c.end_number.new.words (search rules) (eq-eqb _ 10 c.if-byte-eq10.true) (search rules)

pub returns-then-eq : goal.returns-then-eq
returns-then-eq c = comment_takes c.args.scan c.args.words.now c.args.byte (comment_is _ (search rules)) (ne_eqb _ 10 c.if-byte-eq10.false)

pub returns-then-byte-eq35 : goal.returns-then-byte-eq35
returns-then-byte-eq35 c = hash_takes c.args.scan c.args.words.now c.args.byte c.end_number-then-byte-eq35.result c.end_number-then-byte-eq35.new.words (search rules) (ne_eqb _ 10 c.if-byte-eq10.false) (eq-eqb _ 35 c.if-byte-eq35.true) c.end_number-then-byte-eq35.ensures

pub returns-then-is_blank : goal.returns-then-is_blank
returns-then-is_blank c = blank_takes c.args.scan c.args.words.now c.args.byte c.end_number-then-is_blank.result c.end_number-then-is_blank.new.words (search rules) (comment_is_not _ (search rules)) (ne_eqb _ 10 c.if-byte-eq10.false) (ne_eqb _ 35 c.if-byte-eq35.false) (sym c.is_blank.ensures ∙ c.if-is_blank.true) c.end_number-then-is_blank.ensures

pub returns : goal.returns
returns c = other_takes c.args.scan c.args.words.now c.args.byte c.stop.result (search rules) (comment_is_not _ (search rules)) (ne_eqb _ 10 c.if-byte-eq10.false) (ne_eqb _ 35 c.if-byte-eq35.false) (sym c.is_blank.ensures ∙ c.if-is_blank.false) (search rules) c.stop.ensures.stopped
