use Rattle.preprocessor.proofs.ComposeWords as trees
use Rattle.preprocessor_constraints.proofs.Words as words
use Rattle.preprocessor_constraints.proofs.lookup.Lookups.roots.Goals as goal
use mathlib.Core.Path.{refl}
use native.Mathlib.Omega.{arith}

pub overflow_mul-first : goal.overflow_mul-first
overflow_mul-first c =
    let a = c.args.self.now in
    let q = trees.words_end a.user.now a.widths.now a.pairs.now a.all_pairs c.args.i c.requires in
    omega (arith, c.sum_before.ensures)

pub overflow_add-first : goal.overflow_add-first
overflow_add-first c =
    let a = c.args.self.now in
    let q = trees.words_end a.user.now a.widths.now a.pairs.now a.all_pairs c.args.i c.requires in
    omega (arith, c.sum_before.ensures, c.word.ensures, words.word_few c.args.side)

pub returns : goal.returns
returns c =
    let a = c.args.self.now in
    let q = trees.words_end a.user.now a.widths.now a.pairs.now a.all_pairs c.args.i c.requires in
    record {
      inside = omega (arith, c.sum_before.ensures, c.word.ensures, words.word_few c.args.side);
      tree = words.side_is a c.args.i c.sum_before.result _ c.sum_before.ensures refl c.args.side c.word.result c.word.ensures;
    }

pub invariant_of-result : goal.invariant_of-result
invariant_of-result c =
    let a = c.args.self.now in
    let q = trees.words_end a.user.now a.widths.now a.pairs.now a.all_pairs c.args.i c.requires in
    omega (arith, c.sum_before.ensures, c.word.ensures, words.word_few c.args.side)
