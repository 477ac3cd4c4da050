use Rattle.bh.specs.Rows.{next_row, prev_row}
use Rattle.bh.proofs.rotations.rotate.Given as goal

abbrev pub ghost-repeated : goal.ghost-repeated
ghost-repeated a = prev_row a.k

abbrev pub ghost-repeated-2 : goal.ghost-repeated-2
ghost-repeated-2 a = next_row a.k
