use mathlib.Core.Path.{sym, ◌∙◌}
use Rattle.lists.proofs.Walks.{walk_none, walk_more, walk_done, walk_fails}
use Rattle.backend.proofs.Alike.{group_alike_is}
use Rattle.backend_questions.proofs.groups.group_alike.Goals as goal

pub loop-i-init : goal.loop-i-init
loop-i-init c = walk_none _ _ _

pub returns-then-not-same_tables : goal.returns-then-not-same_tables
returns-then-not-same_tables c = walk_fails _ _ _ _ c.loop-i-test.true (sym c.same_tables.ensures ∙ c.if-not-same_tables.true) ∙ group_alike_is c.args.lookups.nodes.now c.args.lookups.widths.now c.args.lookups.pairs.now c.args.first c.args.n c.requires.1

pub loop-i-preserved : goal.loop-i-preserved
loop-i-preserved c = walk_more _ _ _ _ c.loop-i.invariant c.loop-i-test.true (sym c.same_tables.ensures ∙ c.if-not-same_tables.false)

pub returns : goal.returns
returns c = walk_done _ _ _ _ c.loop-i.invariant c.loop-i-test.false ∙ group_alike_is c.args.lookups.nodes.now c.args.lookups.widths.now c.args.lookups.pairs.now c.args.first c.args.n c.requires.1
