-- `take_digit`: the number grows, or passes 64 bits.
use Rattle.std.proofs.Common.{arith}
use Rattle.decimal.proofs.Steps.{digit_bounds, large_takes, digit_takes}
use Rattle.decimal.proofs.take_digit.Goals as goal

pub returns-in_default : goal.returns-in_default
returns-in_default c = λ ws. large_takes c.args.scan ws c.args.byte c.stop.result c.requires.comment c.requires.digit (rw (← c.value_begun.ensures) (omega (arith, digit_bounds c.args.byte c.requires.digit))) c.stop.ensures.stopped

pub returns-in_default-checked_add : goal.returns-in_default-checked_add
returns-in_default-checked_add c = λ ws. large_takes c.args.scan ws c.args.byte c.stop-in_default-checked_add.result c.requires.comment c.requires.digit (rw (← c.value_begun.ensures) (omega (arith, digit_bounds c.args.byte c.requires.digit))) c.stop-in_default-checked_add.ensures.stopped

pub returns : goal.returns
returns c = λ ws. digit_takes c.args.scan ws c.args.byte c.in-Some-checked_add.value c.requires.comment c.requires.digit (rw (← c.value_begun.ensures) (omega (arith, digit_bounds c.args.byte c.requires.digit)))
