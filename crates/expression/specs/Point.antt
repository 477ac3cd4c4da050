-- Where an expression is evaluated: a row of the order, over the words that are lent.
use Rattle.std.specs.Prelude.{◌≡◌, List, map, ℕ, ◌^◌, ◌<◌, get_or}
use Rattle.field.specs.Field.{𝔾, el}
use Rattle.bh.specs.Rows.{place_of}
use Rattle.expression.specs.Expr.{Ops}
use Rattle.expression.specs.Value.{Environment, value_ops}
use Rattle.expression.specs.Reader.{polys_of}
use Rattle.expression.specs.declared.poly.Layout.{Layout}
use Rattle.expression.specs.declared.value.Point.{Point}

-- the row is one of the order's, and the place is its
pub record PointInOrder (p : Point) : Type 0 where
  pub positive : 0 < p.k
  pub small : p.k < 21
  pub inside : p.row < 2 ^ p.k
  pub placed : p.place ≡ place_of p.k p.row

-- what an expression is evaluated over, at a point
unfoldable pub environment_of : List ℕ → List ℕ → List ℕ → List ℕ → Layout → Point → Environment 𝔾
environment_of circuit witness columns challenges l p =
    record {
      k = p.k;
      el = el;
      polys = polys_of l circuit witness columns;
      challenges = map el challenges;
      eq = λ b. el p.eq;
    }

-- ---- the point and the layout, of twelve words

abbrev pub point_of : List ℕ → Point
point_of c = record { k = get_or c 0 0; row = get_or c 1 0; place = get_or c 2 0; eq = get_or c 3 0 }

abbrev pub layout_in : List ℕ → Layout
layout_in c =
    record {
      rows = get_or c 4 0;
      instances = get_or c 5 0;
      preprocess = get_or c 6 0;
      start = get_or c 7 0;
      witness = get_or c 8 0;
      permutations = get_or c 9 0;
      skipped = get_or c 10 0;
      rest = get_or c 11 0;
    }

unfoldable pub ops_of : List ℕ → List ℕ → List ℕ → List ℕ → List ℕ → Ops 𝔾.F
ops_of circuit witness columns challenges c =
    value_ops 𝔾 (environment_of circuit witness columns challenges (layout_in c) (point_of c)) (get_or c 1 0)
