use Rattle.std.proofs.Common.{◌≡◌, take}
use Rattle.lists.specs.Lists.{total}
use Rattle.lists.proofs.sum_before.Given as goal

abbrev pub invariant-loop-word : goal.invariant-loop-word
invariant-loop-word l = l.sum ≡ total (take l.word-index l.word-items)
