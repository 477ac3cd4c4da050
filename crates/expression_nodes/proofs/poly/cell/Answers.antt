use native.Mathlib.Omega.{arith}
use Rattle.expression.proofs.Reader.{place_small}
use Rattle.expression_nodes.proofs.poly.cell.Goals as goal

pub overflow_mul-i : goal.overflow_mul-i
overflow_mul-i c = let m = place_small c.args.i c.args.rows c.requires.0.1 c.requires.1.0 in omega arith

pub overflow_add-start : goal.overflow_add-start
overflow_add-start c = let m = place_small c.args.i c.args.rows c.requires.0.1 c.requires.1.0 in omega arith

pub overflow_add-start-2 : goal.overflow_add-start-2
overflow_add-start-2 c = let m = place_small c.args.i c.args.rows c.requires.0.1 c.requires.1.0 in omega arith
