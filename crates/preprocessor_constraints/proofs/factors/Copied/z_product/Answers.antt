use Prim.Native.Nat.{ℕ, ◌*◌}
use Rattle.expression.proofs.Written as written
use Rattle.expression.specs.Expr.{Expr}
use Rattle.preprocessor_constraints.proofs.Sides as sides
use Rattle.preprocessor_constraints.proofs.factors.Copied.z_product.Goals as goal
use Rattle.preprocessor_constraints.specs.Copied.{factor_nodes, factors_tree, z_tree}
use mathlib.Core.Path.{sym, ap, ap₂}
use native.Mathlib.Omega.{arith}

pub factors_product-p-requires-clause-room : goal.factors_product-p-requires-clause-room
factors_product-p-requires-clause-room c =
    let m = ap (λ (n : ℕ). n * factor_nodes c.args.side) c.part-columns.ensures.count in
    omega (arith, c.requires.room, c.z-z.ensures.number, sides.z_size c.args.side c.args.self.now c.args.i)

pub product-requires : goal.product-requires
product-requires c =
    let m = ap (λ (n : ℕ). n * factor_nodes c.args.side) c.part-columns.ensures.count in
    omega (arith, c.requires.room, c.z-z.ensures.number, c.factors_product-p.ensures.number, sides.z_size c.args.side c.args.self.now c.args.i)

pub returns : goal.returns
returns c =
    let m = ap (λ (n : ℕ). n * factor_nodes c.args.side) c.part-columns.ensures.count in
    let s = c.args.side in
    let a = c.args.self.now in
    record {
      number = omega (arith, c.product.ensures.number, c.factors_product-p.ensures.number, c.z-z.ensures.number, sides.z_size s a c.args.i);
      written =
          written.written_as (ap₂ (λ (first n : ℕ). Expr.product (z_tree s a c.args.i) (factors_tree s a first n)) (sym c.part-columns.ensures.first) (sym c.part-columns.ensures.count))
          (written.written_product c.z-z.ensures c.factors_product-p.ensures.written c.product.ensures);
    }
