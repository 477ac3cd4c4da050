use mathlib.Core.Path.{◌≡◌, ◌∙◌}
use Prim.Native.Nat.{ℕ, ◌-◌, ◌<◌, ◌≤◌, max}
use native.Mathlib.Decide.{dec_lt}
use native.Mathlib.Omega.{arith}
use Rattle.backend.specs.Circuit.{stated_of}
use Rattle.backend.specs.Constraints.{least_d}
use Rattle.backend.proofs.Degree.{d_of, least_high, least_low}
use Rattle.backend_nodes.proofs.degrees.max_degree.Goals as goal

-- what D starts from, by word 1
least_is : (w : ℕ) → max (w - 1) 2 ≡ least_d (stated_of w)
least_is w = go (dec_lt 3 w)
  where
    go : Dec (3 < w) → max (w - 1) 2 ≡ least_d (stated_of w)
    go (yes l) = (let q : max (w - 1) 2 ≡ w - 1 = omega arith in q) ∙ least_high w l
    go (no n) = let g : w ≤ 3 = omega arith in (let q : max (w - 1) 2 ≡ 2 = omega arith in q) ∙ least_low w g

pub returns : goal.returns
returns c constraints lookups e f fit =
    let a = c.args in
    d_of a.d.stated constraints lookups fit c.max-least.result _ _ c.max.result c.max-2.result
    ((let p = c.saturating_sub.ensures in let q = c.max-least.ensures in rw p at q) ∙ least_is a.d.stated)
    e
    f
    c.max.ensures
    c.max-2.ensures
