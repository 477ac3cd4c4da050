-- The words so far, and one more.
use Rattle.std.proofs.Common.{refl, sym, ap, ◌∙◌, take, arith}
use lib.Seq.{take_all}
use Rattle.lists.specs.Lists.{total}
use Rattle.lists.proofs.Parts.{total_within}
use Rattle.lists.proofs.Runs.{total_first, total_none, total_step}
use Rattle.lists.proofs.sum_before.Goals as goal

pub loop-word-init : goal.loop-word-init
loop-word-init c = sym (total_none (take c.args.n c.args.words.now))

pub overflow_add-sum : goal.overflow_add-sum
overflow_add-sum c =
    let a = c.args in
    omega (arith, total_within (take a.n a.words.now) c.loop-word.word-index, total_first a.words.now a.n)

pub loop-word-preserved : goal.loop-word-preserved
loop-word-preserved c =
    let l = c.loop-word in
    total_step (take c.args.n c.args.words.now) l.word-index l.sum _ (omega arith) l.invariant refl

pub returns : goal.returns
returns c = let l = c.loop-word in l.invariant ∙ ap total (take_all l.word-index (take c.args.n c.args.words.now) (omega arith))
