-- Yes to the first four lays the contents out, and yes to the last two counts the bodies.
use mathlib.Core.Path.{sym, ◌∙◌}
use Rattle.backend.proofs.Sections.{laid}
use Rattle.backend.proofs.Numbers.{counted}
use Rattle.backend_questions.proofs.ask_layout.Goals as goal

pub invariant_of-laid : goal.invariant_of-laid
invariant_of-laid c = record {
  contents =
      laid c.args.words.now (sym c.question_1.ensures ∙ c.in_ok-ask.ensures.yes) (sym c.question_2.ensures ∙ c.in_ok-ask-2.ensures.yes)
      (sym c.question_3.ensures ∙ c.in_ok-ask-3.ensures.yes) (sym c.question_4.ensures ∙ c.in_ok-ask-4.ensures.yes);
}

pub invariant_of-result-clause-bodies : goal.invariant_of-result-clause-bodies
invariant_of-result-clause-bodies c = counted c.args.words.now (sym c.question_3_bodies.ensures ∙ c.in_ok-ask-5.ensures.yes) (sym c.question_4_bodies.ensures ∙ c.in_ok-ask-6.ensures.yes)
