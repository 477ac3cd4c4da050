use Rattle.expression.proofs.Written as written
use Rattle.preprocessor.proofs.ComposeWords as trees
use Rattle.preprocessor.specs.Compose.{zero_tree}
use Rattle.preprocessor_compose.specs.Input.{constraints_of}
use native.Mathlib.Omega.{arith}
use Rattle.preprocessor_compose.proofs.words.Input.zero_check.Goals as goal

pub constraint_powers-x-requires : goal.constraint_powers-x-requires
constraint_powers-x-requires c =
    let a = c.args.self.now in
    let w = a.words.now in
    let q = trees.zero_size w.params (constraints_of a) in
    omega (arith, c.requires)

pub push_node-y-requires : goal.push_node-y-requires
push_node-y-requires c =
    let a = c.args.self.now in
    let w = a.words.now in
    let q = trees.zero_size w.params (constraints_of a) in
    omega (arith, c.requires, c.constraint_powers-x.ensures.number)

pub product-requires : goal.product-requires
product-requires c =
    let a = c.args.self.now in
    let w = a.words.now in
    let q = trees.zero_size w.params (constraints_of a) in
    omega (arith, c.requires, c.constraint_powers-x.ensures.number, c.push_node-y.ensures.number)

pub returns : goal.returns
unfolding zero_tree
returns c = written.written_product c.constraint_powers-x.ensures (written.written_eq_xy c.push_node-y.ensures) c.product.ensures
