use Prim.Native.Nat.{ℕ, min}
use Rattle.expression.specs.Flat.{largest_size}
use Rattle.preprocessor.proofs.Counts as counts
use Rattle.preprocessor.specs.Count.{list_nodes}
use mathlib.Core.Path.{sym, ap, ◌∙◌}
use Rattle.preprocessor_compose.specs.Counted.{item_of}
use Rattle.preprocessor_compose.proofs.count.list_nodes.Goals as goal

pub returns-then-n-eq0 : goal.returns-then-n-eq0
returns-then-n-eq0 c =
    let i = item_of c.args.counted in
    counts.list_none i ∙ ap (λ (n : ℕ). min largest_size (list_nodes i n)) (sym c.if-n-eq0.true)

pub returns-then-n-eq1 : goal.returns-then-n-eq1
returns-then-n-eq1 c =
    let i = item_of c.args.counted in
    counts.list_one i ∙ ap (λ (n : ℕ). min largest_size (list_nodes i n)) (sym c.if-n-eq1.true)

pub returns : goal.returns
returns c =
    let a = c.args in
    counts.list_many c.item.result a.n c.add_sizes.result c.if-n-eq0.false c.if-n-eq1.false c.add_sizes.ensures
    ∙ ap (λ (k : ℕ). min largest_size (list_nodes k a.n)) c.item.ensures.number
