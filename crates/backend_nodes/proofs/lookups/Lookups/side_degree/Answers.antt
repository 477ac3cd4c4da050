use Prim.Native.Nat.{◌+◌, ◌*◌}
use native.Mathlib.Omega.{arith}
use lib.ListN.{get_or}
use Rattle.expression.specs.Expr.{degree as degree_at}
use Rattle.expression.specs.Nodes.{expr_of}
use Rattle.backend.proofs.Degree.{most_none, most_more, root_in}
use Rattle.backend_nodes.proofs.lookups.Lookups.side_degree.Goals as goal

pub loop-i-init : goal.loop-i-init
loop-i-init c =
    let a = c.args in
    most_none (λ j. degree_at (expr_of a.self.nodes.now (get_or a.self.pairs.now ((a.start + j) * 2 + a.side) 0))) a.n

pub degree_of-requires : goal.degree_of-requires
degree_of-requires c =
    let a = c.args in
    root_in a.self.nodes.now a.self.pairs.now c.args.self.roots ((a.start + c.loop-i.i) * 2 + a.side)
    (let l = c.loop-i-test.true in let p = c.requires.0 in omega arith)

pub loop-i-preserved : goal.loop-i-preserved
loop-i-preserved c =
    let a = c.args in
    most_more (λ j. degree_at (expr_of a.self.nodes.now (get_or a.self.pairs.now ((a.start + j) * 2 + a.side) 0))) a.n c.loop-i.degree c.loop-i.i c.degree_of.result c.max-degree.result c.loop-i.invariant c.loop-i-test.true c.degree_of.ensures c.max-degree.ensures
