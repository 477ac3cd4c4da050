use Rattle.expression.specs.Expr.{Expr}
use Rattle.expression.specs.Flat.{largest_size}
use Rattle.expression.specs.Walks.{weight}
use Rattle.preprocessor.proofs.Counts as counts
use Prim.Native.Nat.{min}
use mathlib.Core.Path.{sym, ap, ◌∙◌}
use Rattle.preprocessor_compose.specs.Counted.{item_of}
use Rattle.preprocessor_compose.proofs.count.side_nodes.Goals as goal

pub returns : goal.returns
returns c =
    let l = c.args.lookups.now in
    let r = c.roots-roots in
    counts.side_counted (item_of c.args.counted) l.user.now l.pairs.now l.beta r.result.first r.result.count c.add_sizes.result c.roots_nodes-x.result c.list_nodes-y.result c.add_sizes-z.result c.add_sizes.ensures c.add_sizes-z.ensures c.roots_nodes-x.ensures c.list_nodes-y.ensures
    ∙ ap (λ (t : Expr). min largest_size (weight (item_of c.args.counted) t)) (sym r.ensures.tree)
