use mathlib.Core.Path.{ap, ◌∙◌}
use Prim.Native.Nat.{ℕ}
use lib.Dec.{leb}
use Rattle.backend_nodes.proofs.layout.Nodes.{near}
use Rattle.backend_nodes.proofs.layout.rotation_in_range.Goals as goal

pub returns : goal.returns
returns c = ap (λ (n : ℕ). leb n c.args.k) c.abs_diff.ensures ∙ near c.args.kept c.args.k
