use Prim.Native.Nat.{◌+◌}
use Rattle.expression.specs.Expr.{Expr}
use Rattle.expression.specs.Flat.{body}
use Rattle.preprocessor.proofs.ComposeWords as trees
use Rattle.preprocessor.proofs.Lists as lists
use Rattle.preprocessor_compose.specs.Input.{constraints_of}
use mathlib.Core.Path.{sym, ◌∙◌}
use native.Mathlib.Omega.{arith}
use Rattle.preprocessor_compose.proofs.words.Input.constraint_powers.Goals as goal

pub returns-then-n-eq0 : goal.returns-then-n-eq0
returns-then-n-eq0 c =
    let a = c.args.self.now in
    let w = a.words.now in
    let v = w.params in
    let es = constraints_of a in
    let long = trees.constraints_length v a.copied.now w.user.now w.roots.now w.sizes.now w.widths.now w.pairs.now in
    let b = Expr.challenge (v.num_challenges + 2) in
    lists.powers_none b es (long ∙ sym c.num_constraints-n.ensures ∙ c.if-n-eq0.true) c.push_node.ensures

pub constraint-requires : goal.constraint-requires
constraint-requires c =
    let a = c.args.self.now in
    let w = a.words.now in
    let v = w.params in
    let es = constraints_of a in
    let long = trees.constraints_length v a.copied.now w.user.now w.roots.now w.sizes.now w.widths.now w.pairs.now in
    let b = Expr.challenge (v.num_challenges + 2) in
    let q = lists.one_size b es (long ∙ sym c.num_constraints-n.ensures ∙ c.if-n-eq1.true) in
    record { below = omega (arith, c.num_constraints-n.ensures, c.if-n-eq1.true); room = omega (arith, c.requires) }

pub returns-then-n-eq1 : goal.returns-then-n-eq1
returns-then-n-eq1 c =
    let a = c.args.self.now in
    let w = a.words.now in
    let v = w.params in
    let es = constraints_of a in
    let long = trees.constraints_length v a.copied.now w.user.now w.roots.now w.sizes.now w.widths.now w.pairs.now in
    let b = Expr.challenge (v.num_challenges + 2) in
    lists.powers_one b es (long ∙ sym c.num_constraints-n.ensures ∙ c.if-n-eq1.true) c.constraint.ensures

pub constraint_items-l-requires : goal.constraint_items-l-requires
unfolding body
constraint_items-l-requires c =
    let a = c.args.self.now in
    let w = a.words.now in
    let v = w.params in
    let es = constraints_of a in
    let long = trees.constraints_length v a.copied.now w.user.now w.roots.now w.sizes.now w.widths.now w.pairs.now in
    let b = Expr.challenge (v.num_challenges + 2) in
    let q = lists.many_size b es (omega (arith, c.num_constraints-n.ensures, c.if-n-eq0.false, c.if-n-eq1.false)) in
    record { below = omega (arith, c.num_constraints-n.ensures, c.if-n-eq0.false); room = omega (arith, c.requires) }

pub list_head-requires : goal.list_head-requires
unfolding body
list_head-requires c =
    let a = c.args.self.now in
    let w = a.words.now in
    let v = w.params in
    let es = constraints_of a in
    let long = trees.constraints_length v a.copied.now w.user.now w.roots.now w.sizes.now w.widths.now w.pairs.now in
    let b = Expr.challenge (v.num_challenges + 2) in
    let q = lists.many_size b es (omega (arith, c.num_constraints-n.ensures, c.if-n-eq0.false, c.if-n-eq1.false)) in
    let y = c.constraint_items-l.ensures.number in
    omega (arith, c.requires)

pub returns : goal.returns
returns c =
    let a = c.args.self.now in
    let w = a.words.now in
    let v = w.params in
    let es = constraints_of a in
    let long = trees.constraints_length v a.copied.now w.user.now w.roots.now w.sizes.now w.widths.now w.pairs.now in
    let b = Expr.challenge (v.num_challenges + 2) in
    lists.powers_many b es (omega (arith, c.num_constraints-n.ensures, c.if-n-eq0.false, c.if-n-eq1.false)) c.constraint_items-l.ensures c.list_head.ensures
