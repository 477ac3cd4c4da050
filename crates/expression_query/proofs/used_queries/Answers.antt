use mathlib.Core.Path.{◌≡◌, refl, sym, ap, ◌∙◌}
use Prim.Native.Nat.{ℕ, ◌+◌, ◌-◌, ◌*◌, ◌/◌, ◌%◌, ◌≤◌, ◌<◌}
use native.Mathlib.Nat.{mod-lt}
use native.Mathlib.Omega.{arith}
use lib.ListN.{length, length-set}
use Rattle.lists.specs.Lists.{tabulate, filter, write_at}
use Rattle.expression.specs.Expr.{used_query}
use Rattle.expression.specs.Nodes.{expr_of}
use Rattle.expression.specs.Queries.{candidates, used_queries, query_words}
use Rattle.expression.proofs.Folds.{used}
use Rattle.expression.proofs.Queries.{candidate, end_small, into_start, into_no, into_room, into_yes, into_all, into_none, into_keeps, room_is}
use Rattle.expression_query.proofs.used_queries.Goals as goal
use Rattle.expression_query.proofs.used_queries.Goals.{then-node, else-node}

pub returns-then-out-count : goal.returns-then-out-count
returns-then-out-count c =
    let a = c.args in
    let e = c.count_queries-count.ensures in
    let qs = used_queries (expr_of a.ws.now a.n) a.polys a.k in
    (e, into_none qs a.out.now (let z : length a.out.now / 2 < length qs = omega (arith, e, c.if-out-count.true) in z))

pub overflow_mul-end : goal.overflow_mul-end
overflow_mul-end c = omega (arith, end_small c.args.polys c.args.k c.requires.1.0 c.requires.1.1)

pub loop-i-init : goal.loop-i-init
loop-i-init c =
    let a = c.args in
    (omega arith, refl, into_start (used_query (expr_of a.ws.now a.n)) (candidate a.k) a.out.now)

pub overflow_add-query : goal.overflow_add-query
overflow_add-query c =
    let k = c.args.k in
    omega (arith, mod-lt c.loop-i.i {m = k + k + 1} (omega arith))

pub offset_bounds-out-at : goal.offset_bounds-out-at
unfolding used_queries candidates
offset_bounds-out-at c = omega (
  arith,
  (let a = c.args in
      let l = c.loop-i in
      let e = expr_of a.ws.now a.n in
      let f = candidate a.k in
      into_room (used_query e) f a.out.now l.out l.i l.at (a.polys * (a.k + a.k + 1))
      (sym (used (f l.i) e) ∙ sym c.node.ensures ∙ c.if-node.true)
      l.invariant.2
      c.loop-i-test.true
      (room_is (used_queries e a.polys a.k) c.count_queries-count.result (length a.out.now) c.count_queries-count.ensures c.if-out-count.false)),
  c.loop-i.invariant.1,
)

pub bounds-out-at : goal.bounds-out-at
unfolding used_queries candidates
bounds-out-at c = omega (
  arith,
  (let a = c.args in
      let l = c.loop-i in
      let e = expr_of a.ws.now a.n in
      let f = candidate a.k in
      into_room (used_query e) f a.out.now l.out l.i l.at (a.polys * (a.k + a.k + 1))
      (sym (used (f l.i) e) ∙ sym c.node.ensures ∙ c.if-node.true)
      l.invariant.2
      c.loop-i-test.true
      (room_is (used_queries e a.polys a.k) c.count_queries-count.result (length a.out.now) c.count_queries-count.ensures c.if-out-count.false)),
  c.loop-i.invariant.1,
)

pub overflow_add-out : goal.overflow_add-out
unfolding used_queries candidates
overflow_add-out c = omega (
  arith,
  (let a = c.args in
      let l = c.loop-i in
      let e = expr_of a.ws.now a.n in
      let f = candidate a.k in
      into_room (used_query e) f a.out.now l.out l.i l.at (a.polys * (a.k + a.k + 1))
      (sym (used (f l.i) e) ∙ sym c.node.ensures ∙ c.if-node.true)
      l.invariant.2
      c.loop-i-test.true
      (room_is (used_queries e a.polys a.k) c.count_queries-count.result (length a.out.now) c.count_queries-count.ensures c.if-out-count.false)),
  c.loop-i.invariant.1,
)

pub offset_bounds-out-at-then-node : goal.offset_bounds-out-at-then-node
unfolding used_queries candidates
offset_bounds-out-at-then-node c = omega (
  arith,
  (let a = c.args in
      let l = c.loop-i in
      let e = expr_of a.ws.now a.n in
      let f = candidate a.k in
      into_room (used_query e) f a.out.now l.out l.i l.at (a.polys * (a.k + a.k + 1))
      (sym (used (f l.i) e) ∙ sym c.node.ensures ∙ c.if-node.true)
      l.invariant.2
      c.loop-i-test.true
      (room_is (used_queries e a.polys a.k) c.count_queries-count.result (length a.out.now) c.count_queries-count.ensures c.if-out-count.false)),
  c.loop-i.invariant.1,
)

pub bounds-out-at-then-node : goal.bounds-out-at-then-node
unfolding used_queries candidates
bounds-out-at-then-node c = simp length-set (let a = c.args in
    let l = c.loop-i in
    let e = expr_of a.ws.now a.n in
    let f = candidate a.k in
    into_room (used_query e) f a.out.now l.out l.i l.at (a.polys * (a.k + a.k + 1))
    (sym (used (f l.i) e) ∙ sym c.node.ensures ∙ c.if-node.true)
    l.invariant.2
    c.loop-i-test.true
    (room_is (used_queries e a.polys a.k) c.count_queries-count.result (length a.out.now) c.count_queries-count.ensures c.if-out-count.false))

pub overflow_add-at : goal.overflow_add-at
unfolding used_queries candidates
overflow_add-at c = omega (
  arith,
  (let a = c.args in
      let l = c.loop-i in
      let e = expr_of a.ws.now a.n in
      let f = candidate a.k in
      into_room (used_query e) f a.out.now l.out l.i l.at (a.polys * (a.k + a.k + 1))
      (sym (used (f l.i) e) ∙ sym c.node.ensures ∙ c.if-node.true)
      l.invariant.2
      c.loop-i-test.true
      (room_is (used_queries e a.polys a.k) c.count_queries-count.result (length a.out.now) c.count_queries-count.ensures c.if-out-count.false)),
  c.loop-i.invariant.1,
)

pub loop-i-preserved : goal.loop-i-preserved
unfolding used_queries candidates
loop-i-preserved c =
    let a = c.args in
    let l = c.loop-i in
    let e = expr_of a.ws.now a.n in
    let p = used_query e in
    let f = candidate a.k in
    let t = sym (used (f l.i) e) ∙ sym c.node.ensures in
    let m = a.polys * (a.k + a.k + 1) in
    let r = room_is (used_queries e a.polys a.k) c.count_queries-count.result (length a.out.now) c.count_queries-count.ensures c.if-out-count.false in
    elim c.if-node.branch [
      | then-node w ↦
          let y = into_yes p f a.out.now l.out l.i l.at m (t ∙ w.if-node.true) l.invariant.2 c.loop-i-test.true r (l.i / (a.k + a.k + 1)) (2147483648 - a.k + l.i % (a.k + a.k + 1)) refl in
          (omega arith, ap length w.out-is ∙ into_keeps a.out.now l.out l.at _ _ l.invariant.1, (w.out-is ∙ y.0, w.at-is ∙ y.1))
      | else-node w ↦
          let y = into_no p f a.out.now l.out l.i l.at (t ∙ w.if-node.false) l.invariant.2 in
          (omega arith, ap length w.out-is ∙ l.invariant.1, (w.out-is ∙ y.0, w.at-is ∙ y.1))
    ]

pub shape_of-out : goal.shape_of-out
shape_of-out c = c.loop-i.invariant.1

pub returns : goal.returns
unfolding used_queries candidates
returns c =
    let a = c.args in
    let l = c.loop-i in
    let e = expr_of a.ws.now a.n in
    let q = c.count_queries-count in
    let z : l.i ≡ a.polys * (a.k + a.k + 1) = omega arith in
    let h : length (used_queries e a.polys a.k) ≤ length a.out.now / 2 = omega (arith, q.ensures, c.if-out-count.false) in (
      q.ensures,
      into_all (used_queries e a.polys a.k) a.out.now l.out h
          (l.invariant.2.0 ∙ ap (λ (m : ℕ). write_at a.out.now 0 (query_words (filter (used_query e) (tabulate (candidate a.k) m)))) z),
    )
