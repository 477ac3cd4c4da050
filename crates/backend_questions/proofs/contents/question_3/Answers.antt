use Rattle.backend.proofs.Sections.{counts_in}
use Rattle.backend_questions.proofs.contents.question_3.Goals as goal

pub returns : goal.returns
returns c = counts_in _ _ _ _ _ _ _ _ _ _ c.word_at-stated.ensures c.word_at-instances.ensures c.word_at-preprocess.ensures c.word_at-rounds.ensures c.word_at-nodes.ensures c.word_at-constraints.ensures c.word_at-widths.ensures c.word_at-lengths.ensures c.word_at-cells.ensures
