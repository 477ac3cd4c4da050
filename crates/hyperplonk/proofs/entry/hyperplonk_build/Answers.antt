-- `hyperplonk_build` meets its contract.
use Rattle.hyperplonk.proofs.Answered.{entry_built}
use Rattle.hyperplonk.proofs.entry.hyperplonk_build.Goals as goal

pub returns : goal.returns
returns c = let r = c.build-b in entry_built _ r.result _ _ c.args.answer.now _ r.ensures.0 c.write_answer.ensures
