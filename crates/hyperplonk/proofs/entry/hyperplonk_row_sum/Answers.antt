-- `hyperplonk_row_sum` meets its contract.
use Rattle.hyperplonk.proofs.Answered.{entry_summed}
use Rattle.hyperplonk.proofs.entry.hyperplonk_row_sum.Goals as goal

pub returns : goal.returns
returns c = let r = c.row_sum-s in entry_summed _ r.result c.args.answer.now _ r.ensures.0 c.write_answer.ensures
