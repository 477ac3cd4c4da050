-- The constants are one and zero.
use Rattle.field.specs.Field.{el_zero, el_one}
use Rattle.field.proofs.goldilocks.GoldilocksFromBool.from.Goals as goal

pub returns-then-b : goal.returns-then-b
returns-then-b c = rw c.if-b.true el_one

pub returns-else-b : goal.returns-else-b
returns-else-b c = rw c.if-b.false el_zero
