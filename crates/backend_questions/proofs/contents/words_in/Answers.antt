use Rattle.backend.specs.Circuit.{entry, section_at}
use Rattle.backend.proofs.Sections.{entry_pos, entry_bits, too_wide, just_so}
use Rattle.backend_questions.proofs.contents.words_in.Goals as goal

pub returns-then-size-eq0 : goal.returns-then-size-eq0
returns-then-size-eq0 c = too_wide (entry c.args.k (section_at c.args.s)) c.entry_words-size.result c.args.count c.args.room (entry_pos c.args.k c.args.s) (entry_bits c.args.k c.args.s) c.entry_words-size.ensures c.requires c.if-count-eq0.false c.if-size-eq0.true

pub returns : goal.returns
returns c = just_so (entry c.args.k (section_at c.args.s)) c.entry_words-size.result c.args.count c.args.room (entry_pos c.args.k c.args.s) (entry_bits c.args.k c.args.s) c.entry_words-size.ensures c.requires c.if-size-eq0.false c.if-room-size.false
