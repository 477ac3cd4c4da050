-- The queries that an expression uses, in rising order.
use Rattle.std.specs.Prelude.{cond, List, [], ◌∷◌, map, ℕ, ◌+◌, ◌-◌, ◌*◌, ◌/◌, ◌%◌, leb, length}
use Rattle.lists.specs.Lists.{tabulate, filter, concat, write_prefix}
use Rattle.expression.specs.Expr.{Expr, Query, used_query}
use Rattle.expression.specs.Nodes.{decode_signed, encode_signed}

-- a polynomial and the rotation that a word keeps
abbrev pub query_of : ℕ → ℕ → Query
query_of q w = record { polynomial = q; rotation = decode_signed w }

-- every query with a polynomial below `polys` and a rotation from -k to k: by polynomial, and then by rotation
unfoldable pub candidates : ℕ → ℕ → List Query
candidates polys k =
    tabulate (λ i. query_of (i / (k + k + 1)) (2147483648 - k + i % (k + k + 1))) (polys * (k + k + 1))

-- those that an expression uses
unfoldable pub used_queries : Expr → ℕ → ℕ → List Query
used_queries e polys k = filter (used_query e) (candidates polys k)

-- two words each: the polynomial, and the rotation as words keep it
unfoldable pub query_words : List Query → List ℕ
query_words qs = concat (map (λ q. q.polynomial ∷ encode_signed q.rotation ∷ []) qs)

-- a buffer with the queries written from its start on; one with too few words stays as it is
unfoldable pub queries_into : List Query → List ℕ → List ℕ
queries_into qs d = cond (leb (length (query_words qs)) (length d)) (write_prefix (query_words qs) d) d
