-- `lookup_m_poly` meets its contract: after i turns the first i members are counted, all of them covered; and by the answers of the search.
use mathlib.Core.Path.{ap, ◌∙◌}
use mathlib.Core.List.{List}
use Prim.Native.Nat.{ℕ}
use native.Mathlib.Omega.{arith}
use lib.ListN.{replicate}
use Rattle.lists.specs.Lists.{write_at}
use Rattle.prover_lookup.proofs.m.Group.{input_is, table_is, asked, group_start, group_done, group_more, group_stop, member_room}
use Rattle.prover_lookup.proofs.m.Searches.{by_searches}
use Rattle.prover_lookup.proofs.group.GroupColumns.lookup_m_poly.Goals as goal

pub loop-i-init : goal.loop-i-init
loop-i-init c =
    group_start _ _ _ _ _ c.requires.1 _ (c.clear.ensures ∙ ap (λ (x : List ℕ). write_at x 0 (replicate c.args.self.now.rows 0)) c.split_at_mut-given.ensures.back)

pub count_inputs-requires : goal.count_inputs-requires
count_inputs-requires c =
    let s = c.split_at_mut-given.ensures in
    asked _ _ _ _ _ _ c.requires.1 s.front c.requires.0 _ c.loop-i-test.true c.requires.2 _ (omega (arith, s.back_len, c.clear.auto.columns, c.loop-i.auto.counts))
    (member_room _ _ _ _ _ c.requires.1 _ s.front _ _ c.loop-i.invariant c.loop-i-test.true (omega (arith, c.requires.0, c.ranges.m)))

pub returns-then-not-count_inputs-clause-counts : goal.returns-then-not-count_inputs-clause-counts
returns-then-not-count_inputs-clause-counts c =
    let s = c.split_at_mut-given.ensures in
    let i = c.loop-i.i in
    group_stop _ _ _ _ _ c.requires.1 _ s.front _ _ c.loop-i.invariant c.loop-i-test.true _ _
    (input_is _ _ _ _ _ _ c.requires.1 s.front c.requires.0 i c.loop-i-test.true)
    (table_is _ _ _ _ _ _ c.requires.1 s.front c.requires.0 i c.loop-i-test.true)
    _ _ c.count_inputs.ensures c.if-not-count_inputs.true

pub returns-then-not-count_inputs-clause-found : goal.returns-then-not-count_inputs-clause-found
returns-then-not-count_inputs-clause-found c = (by_searches _ _ _ _ _ _ _ (returns-then-not-count_inputs-clause-counts c)).1

pub loop-i-preserved : goal.loop-i-preserved
loop-i-preserved c =
    let s = c.split_at_mut-given.ensures in
    let i = c.loop-i.i in
    group_more _ _ _ _ _ c.requires.1 _ s.front _ _ c.loop-i.invariant c.loop-i-test.true _ _
    (input_is _ _ _ _ _ _ c.requires.1 s.front c.requires.0 i c.loop-i-test.true)
    (table_is _ _ _ _ _ _ c.requires.1 s.front c.requires.0 i c.loop-i-test.true)
    _ _ c.count_inputs.ensures c.if-not-count_inputs.false

pub returns-clause-counts : goal.returns-clause-counts
returns-clause-counts c =
    group_done _ _ _ _ _ c.requires.1 _ c.split_at_mut-given.ensures.front _ _ c.loop-i.invariant c.loop-i-test.false

pub returns-clause-found : goal.returns-clause-found
returns-clause-found c = (by_searches _ _ _ _ _ _ _ (returns-clause-counts c)).1
