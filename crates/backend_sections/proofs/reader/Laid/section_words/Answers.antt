-- The part of the words between the section's start and its end is its body.
use Rattle.backend.proofs.Sections.{body_part}
use Rattle.backend_sections.proofs.reader.Laid.section_words.Goals as goal

pub returns : goal.returns
returns c = body_part _ c.args.s _ (c.section-part.ensures.value, c.section-part.ensures.start_le_end)
