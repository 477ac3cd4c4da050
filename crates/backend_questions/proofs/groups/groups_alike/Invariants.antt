use Rattle.backend.proofs.Alike.{Likened}
use Rattle.backend_questions.proofs.groups.groups_alike.Given as goal

abbrev pub invariant-loop-size : goal.invariant-loop-size
invariant-loop-size l = Likened l.lookups.nodes.now l.lookups.widths.now l.lookups.pairs.now l.sizes l.first l.size-index
