-- One cell more.
use Rattle.backend_questions.proofs.cycles.Chains.{link_next}
use Rattle.backend_questions.proofs.cycles.LinkedCells.link.Goals as goal

pub invariant_of-self : goal.invariant_of-self
invariant_of-self c =
    let s = c.args.self.now in
    record { linked = link_next s.cells.now s.heads s.earlier s.count s.linked c.requires.1 }
