use Rattle.backend.proofs.Sections.{past}
use Rattle.backend_questions.proofs.contents.entry_words.Goals as goal

pub returns-else-k-lt64 : goal.returns-else-k-lt64
returns-else-k-lt64 c = past _ _ c.in-1.is c.if-k-lt64.false
