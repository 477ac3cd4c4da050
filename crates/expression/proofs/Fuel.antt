-- The reading of a node does not depend on the fuel: `expr_step` and `items_step` read one node.
use mathlib.Core.Path.{◌≡◌, refl, fun_ext}
use mathlib.Core.Bool.{Bool, true, false}
use mathlib.Core.List.{List}
use Prim.Native.Nat.{ℕ, zero, suc, ◌<◌}
use native.Mathlib.Omega.{arith}
use native.Mathlib.Nat.{le_refl}
use lib.Dec.{eqb, ltb}
use borrow.Author.Tests.{ltb-true}
use Rattle.expression.specs.Nodes.{word_of, kind_of, node_of, item_of, guard, under, no_expr, no_exprs, expr_at, items_at, expr_of, items_of}

guard_ext : {A : Type 0} (t : Bool) (d : A) (f g : ℕ → A) (c : ℕ) → (t ≡ true → f c ≡ g c) → guard t d f c ≡ guard t d g c
unfolding guard
guard_ext true d f g c h = h refl
guard_ext false d f g c h = refl

under_ext : {A : Type 0} (n : ℕ) (d : A) (f g : ℕ → A) → ((c : ℕ) → c < n → f c ≡ g c) → under n d f ≡ under n d g
under_ext n d f g h = fun_ext (λ c. guard_ext (ltb c n) d f g c (λ t. h c (ltb-true c n t)))

pub agree : (ws : List ℕ) (f g n : ℕ) → n < f → n < g → (expr_at f ws n ≡ expr_at g ws n) × (items_at f ws n ≡ items_at g ws n)
unfolding expr_at items_at
agree ws zero g n hf hg = absurd (omega arith)
agree ws (suc f) zero n hf hg = absurd (omega arith)
agree ws (suc f) (suc g) n hf hg =
    let e = under_ext n no_expr (expr_at f ws) (expr_at g ws) (λ c lt. (agree ws f g c (omega arith) (omega arith)).0) in
    let i = under_ext n no_exprs (items_at f ws) (items_at g ws) (λ c lt. (agree ws f g c (omega arith) (omega arith)).1) in
    (cc, cc)

module _ (ws : List ℕ) (n : ℕ) where
  lower_exprs : under n no_expr (expr_at n ws) ≡ under n no_expr (expr_of ws)
  unfolding expr_of
  lower_exprs = under_ext n no_expr (expr_at n ws) (expr_of ws) (λ c lt. (agree ws n (suc c) c lt (le_refl _)).0)

  lower_items_is : under n no_exprs (items_at n ws) ≡ under n no_exprs (items_of ws)
  unfolding items_of
  lower_items_is = under_ext n no_exprs (items_at n ws) (items_of ws) (λ c lt. (agree ws n (suc c) c lt (le_refl _)).1)

  pub expr_step : expr_of ws n ≡ node_of (kind_of (word_of ws n 0)) (under n no_expr (expr_of ws)) (under n no_exprs (items_of ws)) (word_of ws n 1) (word_of ws n 2) (word_of ws n 3)
  unfolding expr_of expr_at
  expr_step =
      let e = lower_exprs in
      let i = lower_items_is in
      cc

  pub items_step : items_of ws n ≡ item_of (eqb (word_of ws n 3) 0) (under n no_expr (expr_of ws)) (under n no_exprs (items_of ws)) (word_of ws n 1) (word_of ws n 2)
  unfolding items_of items_at
  items_step =
      let e = lower_exprs in
      let i = lower_items_is in
      cc
