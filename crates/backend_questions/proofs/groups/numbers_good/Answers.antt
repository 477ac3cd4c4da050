use mathlib.Core.Path.{◌≡◌, sym, ◌∙◌}
use mathlib.Core.Bool.{Bool, true, false}
use mathlib.Core.List.{List}
use Prim.Native.Nat.{ℕ}
use lib.Dec.{eqb}
use lib.ListN.{length}
use borrow.Author.Tests.{eq-eqb, eqb-true}
use Rattle.backend.proofs.Alike.{numbers_none, numbers_first, followed_first, breaks_low, breaks_high, followed_more, followed_all}
use Rattle.backend_questions.proofs.groups.numbers_good.Goals as goal

pub returns-then-is_empty : goal.returns-then-is_empty
returns-then-is_empty c = numbers_none _ (eqb-true _ _ (sym c.is_empty.ensures ∙ c.if-is_empty.true))

some : (ns : List ℕ) (r : Bool) → r ≡ eqb (length ns) 0 → r ≡ false → length ns ≡ 0 → ⊥
some ns r e f z = let g : false ≡ true = sym f ∙ e ∙ eq-eqb (length ns) 0 z in cc

pub returns-then-numbers-ne0 : goal.returns-then-numbers-ne0
returns-then-numbers-ne0 c = numbers_first _ (some _ _ c.is_empty.ensures c.if-is_empty.false) c.if-numbers-ne0.true

pub loop-i-init : goal.loop-i-init
loop-i-init c = followed_first _ (some _ _ c.is_empty.ensures c.if-is_empty.false) c.if-numbers-ne0.false

pub returns-then-number-before : goal.returns-then-number-before
returns-then-number-before c = breaks_low _ _ c.loop-i.invariant c.loop-i-test.true c.if-number-before.true

pub returns-then-number-before-gt1 : goal.returns-then-number-before-gt1
returns-then-number-before-gt1 c = breaks_high _ _ c.loop-i.invariant c.loop-i-test.true c.if-number-before.false c.if-number-before-gt1.true

pub loop-i-preserved : goal.loop-i-preserved
loop-i-preserved c = followed_more _ _ c.loop-i.invariant c.loop-i-test.true c.if-number-before.false c.if-number-before-gt1.false

pub returns : goal.returns
returns c = followed_all _ _ c.loop-i.invariant c.loop-i-test.false
