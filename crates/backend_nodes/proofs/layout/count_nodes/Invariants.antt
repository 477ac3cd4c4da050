use Rattle.backend_nodes.proofs.layout.Counts.{Noded}
use Rattle.backend_nodes.proofs.layout.count_nodes.Given as goal

abbrev pub invariant-loop-m : goal.invariant-loop-m
invariant-loop-m l = Noded l.nodes l.initial.counts l.counts l.m
