use Prim.Native.Nat.{ℕ, suc, ◌+◌, ◌*◌, ◌≤◌}
use Rattle.expression.specs.Expr.{Expr}
use Rattle.preprocessor.proofs.Lists as lists
use Rattle.preprocessor_constraints.specs.Copied.{factor_nodes, factor_tree}
use Rattle.std.proofs.Math.Nat.{mul-le-mul_left}
use mathlib.Core.Path.{◌≡◌, refl, ap, ◌∙◌}
use native.Mathlib.Omega.{arith}
use Rattle.preprocessor_constraints.proofs.Sides as sides
use Rattle.preprocessor_constraints.proofs.factors.Copied.factors_product.Goals as goal

pub loop-j-init : goal.loop-j-init
loop-j-init c =
    (omega arith, (omega (arith, c.requires.some), (omega (arith, c.factor-x.ensures.number, sides.factor_size c.args.side c.args.self.now c.args.columns.first), (refl, λ d w. w))))

pub product-x-requires : goal.product-x-requires
product-x-requires c =
    let more : suc c.loop-j.j ≤ c.args.columns.count = omega arith in
    let m = mul-le-mul_left (factor_nodes c.args.side) more in
    let least = mul-le-mul_left (factor_nodes c.args.side) c.loop-j.invariant.0 in
    let k = sides.label_size c.args.side c.args.self.now c.args.columns.first in
    let s = sides.factor_size c.args.side c.args.self.now (c.args.columns.first + c.loop-j.j) in
    let n = c.factor-y.ensures.number in
    omega (arith, c.requires.room)

pub loop-j-preserved : goal.loop-j-preserved
loop-j-preserved c =
    let s = sides.factor_size c.args.side c.args.self.now (c.args.columns.first + c.loop-j.j) in
    let n = c.factor-y.ensures.number in
    (omega arith, (omega arith, (omega (arith, c.product-x.ensures.number), (omega arith, λ d w. lists.product_more (λ i. factor_tree c.args.side c.args.self.now (c.args.columns.first + i)) c.loop-j.j (omega arith) (c.loop-j.invariant.1.1.1.1 d w) c.factor-y.ensures c.product-x.ensures))))

pub returns : goal.returns
returns c =
    let f : ℕ → Expr = factor_tree c.args.side c.args.self.now in
    let e : c.loop-j.j ≡ c.args.columns.count = omega arith in
    record {
      number = c.loop-j.invariant.1.1.0 ∙ ap (λ (n : ℕ). c.args.at + n * factor_nodes c.args.side) e;
      written = lists.product_all (λ i. f (c.args.columns.first + i)) c.loop-j.j c.args.columns.count e (c.loop-j.invariant.1.1.1.1 c.args.out.now (lists.product_first f c.args.columns.first c.factor-x.ensures));
    }
