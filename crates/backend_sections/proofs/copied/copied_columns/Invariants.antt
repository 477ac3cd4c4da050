use Rattle.backend_sections.proofs.copied.Cells.{Named, Gathered}
use Rattle.backend_sections.proofs.copied.copied_columns.Given as goal

abbrev pub invariant-loop-i : goal.invariant-loop-i
invariant-loop-i l = Named l.cells l.named l.i

abbrev pub invariant-loop-q : goal.invariant-loop-q
invariant-loop-q l = Gathered l.cells l.polys l.columns.items l.q
