use Prim.Native.Nat.{ℕ, min}
use Rattle.expression.specs.Flat.{largest_size}
use Rattle.preprocessor.proofs.Counts as counts
use Rattle.preprocessor.specs.Count.{list_nodes}
use mathlib.Core.Path.{ap, ◌∙◌}
use Rattle.preprocessor_compose.specs.Counted.{item_of}
use Rattle.preprocessor_compose.proofs.count.composed_nodes.Goals as goal

pub returns : goal.returns
returns c k names p =
    counts.composed_counted (item_of c.args.counted) c.add_sizes.result c.roots_nodes-own.result c.groups_nodes-groups.result c.permutation_nodes-permutation.result c.add_sizes-x.result c.add_sizes-y.result c.add_sizes-z.result c.add_sizes-u.result c.list_nodes.result c.list_nodes-2.result c.args.words.now.fits.limits p c.roots_nodes-own.ensures c.groups_nodes-groups.ensures c.permutation_nodes-permutation.ensures (c.list_nodes.ensures ∙ ap (λ (n : ℕ). min largest_size (list_nodes (item_of c.args.counted) n)) c.num_constraints-n.ensures) c.list_nodes-2.ensures c.add_sizes-x.ensures c.add_sizes-y.ensures c.add_sizes-z.ensures c.add_sizes-u.ensures c.add_sizes.ensures
