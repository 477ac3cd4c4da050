-- `expression_queries` meets its contract.
use mathlib.Core.Path.{ap, ◌∙◌}
use mathlib.Core.List.{List}
use lib.ListN.{length}
use Rattle.expression.specs.Expr.{Query}
use Rattle.expression.specs.Queries.{queries_into}
use Rattle.oracle_entry.proofs.Answers.{queries_there, queries_none, queries_small, none_written}
use Rattle.oracle_entry.proofs.expression_queries.Goals as goal

pub used_queries-requires : goal.used_queries-requires
used_queries-requires c =
    let a = c.args in
    queries_small a.nodes.now a.n a.polys a.k c.if-small.true

pub returns-then-small : goal.returns-then-small
returns-then-small c =
    let a = c.args in
    let e = queries_there a.nodes.now a.n a.polys a.k c.if-small.true in (
      c.used_queries.ensures.0 ∙ ap (length {A = Query}) e,
      c.used_queries.ensures.1 ∙ ap (λ (qs : List Query). queries_into qs a.out.now) e,
    )

pub returns : goal.returns
returns c =
    let a = c.args in
    let e = queries_none a.nodes.now a.n a.polys a.k c.if-small.false in
    (ap (length {A = Query}) e, none_written a.out.now ∙ ap (λ (qs : List Query). queries_into qs a.out.now) e)
