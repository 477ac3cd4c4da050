-- `eq_xy` meets its contract: after i turns the first 2^i words are the table of the first i values.
use mathlib.Core.Path.{◌≡◌, refl, sym, ap, ◌∙◌}
use Prim.Native.Nat.{ℕ, suc, ◌+◌, ◌*◌, ◌^◌, ◌≤◌, ◌<◌}
use native.Mathlib.Nat.{pow-suc}
use native.Mathlib.Numerals.{add-one}
use native.Mathlib.Omega.{arith}
use lib.ListN.{length, set, length-set}
use lib.Pow.{pow_mono, pow_pos}
use Rattle.field.specs.Field.{el_one}
use Rattle.lists.specs.Lists.{tabulate, write_at}
use Rattle.multilinear.proofs.Doubling.{word, double_start, double_more, double_end, table_start}
use Rattle.multilinear.proofs.eq_xy.Goals as goal

room : (i k n : ℕ) → i < k → 2 ^ k ≤ n → 2 ^ i + 2 ^ i ≤ n
room i k n l h = omega (arith, pow-suc 2 i, pow_mono {i = suc i} {j = k} l)

positive : (k n : ℕ) → 2 ^ k ≤ n → 0 < n
positive k n h = omega (arith, pow_pos k)

pub loop-i-init : goal.loop-i-init
loop-i-init c = (refl, λ d h e. e ∙ table_start c.args.y.now d _ _ refl el_one (positive _ _ h))

pub loop-b-init : goal.loop-b-init
loop-b-init c = (
  omega (arith, c.loop-i.invariant.0, room c.loop-i.i c.args.k (length c.args.out.now) c.loop-i-test.true c.requires.2, length-set {A = ℕ}),
  λ d _ _ _ e. double_start _ d _ _ e,
)

pub loop-b-preserved : goal.loop-b-preserved
loop-b-preserved c =
    let l = c.loop-i in
    let m = c.loop-b in (
      simp length-set m.invariant.0,
      λ d e v r h.
          double_more _ d l.i m.out m.b (m.invariant.1 d e v r h) (omega (arith, e, c.loop-b-test.true)) _ _ _ _ _ _ c.at-x.ensures v
          c.mul-t.ensures c.from-in-loop-b.ensures c.sub.ensures c.from-in-loop-b-2.ensures r (l.size + m.b) (ap (λ (x : ℕ). x + m.b) e),
    )

pub loop-i-preserved : goal.loop-i-preserved
loop-i-preserved c =
    let l = c.loop-i in
    let m = c.loop-b in (
      ap (λ (x : ℕ). x * 2) l.invariant.0 ∙ sym (pow-suc 2 l.i) ∙ ap (λ (x : ℕ). 2 ^ x) (sym (add-one l.i)),
      λ d h e.
          double_end c.args.y.now d l.i m.out m.b
          (m.invariant.1 d l.invariant.0 c.at-v.ensures (room l.i c.args.k (length d) c.loop-i-test.true h) (l.invariant.1 d h e))
          (omega (arith, l.invariant.0)),
    )

pub returns : goal.returns
returns c =
    let a = c.args in
    let l = c.loop-i in
    let e : l.i ≡ a.k = omega arith in
    l.invariant.1 a.out.now c.requires.2 (ap (set a.out.now 0) c.from.ensures)
    ∙ ap (λ (n : ℕ). write_at a.out.now 0 (tabulate (word a.y.now n) (2 ^ n))) e
