-- `hyperplonk_sizes` meets its contract.
use Rattle.hyperplonk.proofs.Answered.{entry_told}
use Rattle.hyperplonk.proofs.entry.hyperplonk_sizes.Goals as goal

pub returns : goal.returns
returns c =
    let r = c.sizes-told in
    entry_told _ r.result c.args.answer.now _ r.ensures.0 c.write_answer.ensures
