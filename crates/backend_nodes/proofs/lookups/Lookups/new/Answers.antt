-- Question 7 lays the nodes out, and the pairs are as many as the widths ask.
use mathlib.Core.Path.{refl, ◌∙◌}
use Rattle.backend.specs.Circuit.{Section, body_of}
use Rattle.backend.proofs.Answers.{seven, pairs_enough}
use Rattle.backend.proofs.Degree.{right_roots}
use Rattle.backend_nodes.proofs.lookups.Lookups.new.Goals as goal

pub invariant_of-result : goal.invariant_of-result
invariant_of-result c =
    let s = c.args.circuit in
    let constraints = body_of s.words.now Section.constraints in
    let l = c.laid-laid.ensures in
    let n = rw l at c.nodes-nodes.ensures in
    let p = rw l at c.pairs-pairs.ensures in
    record {
      roots = right_roots _ constraints _ (seven s.words.now _ constraints _ n refl p _ refl ∙ c.requires);
      all_pairs = pairs_enough s.words.now _ _ s.contents s.bodies (rw l at c.widths-widths.ensures) p;
    }
