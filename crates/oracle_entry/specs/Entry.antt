-- The degree, the queries and the values of an expression, over lent words that may be any.
use Rattle.std.specs.Prelude.{Bool, cond, ◌&&◌, List, [], ℕ, ◌/◌, ◌^◌, min, eqb, ltb, leb, length, get_or}
use Rattle.field.specs.Field.{𝔾, val}
use Rattle.bh.specs.Rows.{place_of}
use Rattle.lists.specs.Lists.{tabulate, write_at, all_of, within}
use Rattle.expression.specs.Expr.{Query, degree}
use Rattle.expression.specs.Nodes.{expr_of}
use Rattle.expression.specs.Value.{value_at}
use Rattle.expression.specs.Point.{environment_of}
use Rattle.expression.specs.Queries.{used_queries}
use Rattle.expression.specs.declared.poly.Layout.{Layout}
use Rattle.expression.specs.declared.value.Point.{Point}

-- is there such a node?
abbrev pub there : List ℕ → ℕ → Bool
there nodes n = ltb n (length nodes / 4)

unfoldable pub degree_at : List ℕ → ℕ → ℕ
degree_at nodes n = cond (there nodes n) (min 1025 (degree (expr_of nodes n))) 0

unfoldable pub queries_at : List ℕ → ℕ → ℕ → ℕ → List Query
queries_at nodes n polys k =
    cond (there nodes n && (leb polys 1048576 && leb k 1048576)) (used_queries (expr_of nodes n) polys k) []

-- where the polynomials stand, from seven words
abbrev pub layout_from : ℕ → List ℕ → Layout
layout_from k ws =
    record {
      rows = 2 ^ k;
      instances = get_or ws 0 0;
      preprocess = get_or ws 1 0;
      start = get_or ws 2 0;
      witness = get_or ws 3 0;
      permutations = get_or ws 4 0;
      skipped = get_or ws 5 0;
      rest = get_or ws 6 0;
    }

-- row b, with EqXY's value there
abbrev pub point_at : ℕ → List ℕ → ℕ → Point
point_at k eq b = record { k = k; row = b; place = place_of k b; eq = get_or eq b 0 }

-- the value at row b, as a word below p
unfoldable pub value_word : List ℕ → List ℕ → List ℕ → List ℕ → List ℕ → Layout → ℕ → List ℕ → ℕ → ℕ → ℕ
value_word nodes circuit witness columns challenges l k eq n b =
    val (value_at 𝔾 (environment_of circuit witness columns challenges l (point_at k eq b)) (expr_of nodes n) b)

-- k from 1 to 20, seven words up to 2^20, a node, and room for 2^k words
unfoldable pub fit : ℕ → List ℕ → List ℕ → ℕ → List ℕ → Bool
fit k layout nodes n out =
    within 1 20 k && ((eqb (length layout) 7 && all_of (λ w. ltb w 1048577) layout) && (there nodes n && leb (2 ^ k) (length out)))

-- the value at every row, written over the first 2^k words
unfoldable pub values_into
    : ℕ → List ℕ → List ℕ → List ℕ → List ℕ → List ℕ → List ℕ → List ℕ → ℕ → List ℕ → List ℕ
values_into k nodes circuit witness columns challenges layout eq n out =
    cond (fit k layout nodes n out)
    (write_at out 0 (tabulate (value_word nodes circuit witness columns challenges (layout_from k layout) k eq n) (2 ^ k)))
    out
