use mathlib.Core.Path.{sym}
use Rattle.preprocessor_permutation.proofs.records.Laws.{cells_count}
use Rattle.preprocessor_permutation.proofs.records.RefSliceU64Cycle.count.Goals as goal

pub returns : goal.returns
returns c = sym (cells_count c.args.self.now.now)
