-- `values_small` meets its contract.
use Rattle.hyperplonk_row_sum.proofs.Sixteen.{small_all}
use Rattle.hyperplonk_row_sum.proofs.Lent.values_small.Goals as goal

pub returns : goal.returns
returns c =
    let a = c.args in
    small_all a.self.now.witness.now a.self.now.columns.now a.self.now.challenges.now a.self.now.y.now _ _ _ _ c.all_elements-first.ensures.below
    c.all_elements-second.ensures.below
    c.all_elements-third.ensures.below
    c.all_elements-fourth.ensures.below
