use lib.ListN.{get_or}
use Rattle.expression.specs.Same.{same_expr}
use Rattle.lists.proofs.Walks.{Walked}
use Rattle.backend.proofs.Alike.{table_of}
use Rattle.backend_questions.proofs.groups.same_tables.Given as goal

abbrev pub invariant-loop-t : goal.invariant-loop-t
invariant-loop-t l = Walked (λ t. same_expr (table_of l.lookups.nodes.now l.lookups.widths.now l.lookups.pairs.now l.i t) (table_of l.lookups.nodes.now l.lookups.widths.now l.lookups.pairs.now l.f t)) (λ t. t) (get_or l.lookups.widths.now l.i 0) l.t
