-- How nodes that are written one behind the other make a written tree. Proved.
-- Cite it where nodes are written: what `push` and `copy_expr` ensure goes in, `ExprWritten` of the whole comes out.
use mathlib.Core.Path.{◌≡◌, refl, sym, ap, ap₂, ◌∙◌, subst}
use mathlib.Core.List.{List, [], ◌∷◌, ◌++◌, append_assoc}
use Prim.Native.Nat.{ℕ, ◌+◌, ◌-◌, ◌*◌, ◌<◌}
use native.Mathlib.Omega.{arith}
use lib.IntN.{ℤ}
use lib.ListN.{length, length-append}
use Rattle.lists.specs.Lists.{write_window}
use Rattle.lists.proofs.Window.{write_window_then}
use Rattle.expression.specs.Expr.{Expr, Exprs, minus, at, exprs_of, distribute_powers, product_from}
use Rattle.expression.specs.Nodes.{encode_signed}
use Rattle.expression.specs.Flat.{body, sizes, extra, size, root, words, flat, flats, chain}
use Rattle.expression.proofs.FlatLength.{flat_length, flats_length, chain_length}
use Rattle.expression.specs.Written.{Pushed, ExprWritten, WrittenOne, WrittenPair, WrittenBase, WrittenList}

-- a run written behind another
then : (from : ℕ) (s t : List ℕ) (at m : ℕ) (d d1 d2 : List ℕ) → m * 4 ≡ at * 4 + length s → d1 ≡ write_window from d (at * 4) s
    → d2 ≡ write_window from d1 (m * 4) t
    → d2 ≡ write_window from d (at * 4) (s ++ t)
then from s t at m d d1 d2 e p q =
    q ∙ ap (λ (x : List ℕ). write_window from x (m * 4) t) p ∙ write_window_then from d (at * 4) s t (m * 4) e

-- four words, one by one
pub pushed : (from at k a b v : ℕ) (d d1 d2 d3 d4 : List ℕ) → d1 ≡ write_window from d (at * 4) (k ∷ [])
    → d2 ≡ write_window from d1 (at * 4 + 1) (a ∷ [])
    → d3 ≡ write_window from d2 (at * 4 + 2) (b ∷ [])
    → d4 ≡ write_window from d3 (at * 4 + 3) (v ∷ [])
    → Pushed from at k a b v d d4 (at + 1)
pushed from at k a b v d d1 d2 d3 d4 p q r s =
    let two : d2 ≡ write_window from d (at * 4) (k ∷ a ∷ []) =
    q ∙ ap (λ (x : List ℕ). write_window from x (at * 4 + 1) (a ∷ [])) p ∙ write_window_then from d (at * 4) (k ∷ []) (a ∷ []) (at * 4 + 1) (omega arith) in
    let three : d3 ≡ write_window from d (at * 4) (k ∷ a ∷ b ∷ []) =
    r ∙ ap (λ (x : List ℕ). write_window from x (at * 4 + 2) (b ∷ [])) two
    ∙ write_window_then from d (at * 4) (k ∷ a ∷ []) (b ∷ []) (at * 4 + 2) (omega arith) in
    let four : d4 ≡ write_window from d (at * 4) (words k a b v) =
    s ∙ ap (λ (x : List ℕ). write_window from x (at * 4 + 3) (v ∷ [])) three
    ∙ write_window_then from d (at * 4) (k ∷ a ∷ b ∷ []) (v ∷ []) (at * 4 + 3) (omega arith) in
    record { number = refl; buffer = four }

-- the same tree
pub written_as : {from : ℕ} {e f : Expr} {at next : ℕ} {d d1 : List ℕ} → e ≡ f → ExprWritten from f at d d1 next → ExprWritten from e at d d1 next
written_as {from} {e} {f} {at} {next} {d} {d1} h w = subst (λ (x : Expr). ExprWritten from x at d d1 next) (sym h) w

-- ---- leaves
module _ {from at next : ℕ} {d d1 : List ℕ} where
  pub written_constant : {v : ℕ} → Pushed from at 1 0 0 v d d1 next → ExprWritten from (Expr.constant v) at d d1 next
  unfolding flat body
  written_constant p = record { number = p.number; buffer = p.buffer }

  pub written_identity : Pushed from at 2 0 0 0 d d1 next → ExprWritten from Expr.identity at d d1 next
  unfolding flat body
  written_identity p = record { number = p.number; buffer = p.buffer }

  pub written_lagrange : {i : ℤ} → Pushed from at 3 0 0 (encode_signed i) d d1 next → ExprWritten from (Expr.lagrange i) at d d1 next
  unfolding flat body
  written_lagrange p = record { number = p.number; buffer = p.buffer }

  pub written_eq_xy : {i : ℕ} → Pushed from at 4 0 0 i d d1 next → ExprWritten from (Expr.eq_xy i) at d d1 next
  unfolding flat body
  written_eq_xy p = record { number = p.number; buffer = p.buffer }

  pub written_poly : {q : ℕ} {r : ℤ} → Pushed from at 5 q 0 (encode_signed r) d d1 next → ExprWritten from (Expr.poly q r) at d d1 next
  unfolding flat body
  written_poly p = record { number = p.number; buffer = p.buffer }

  pub written_challenge : {i : ℕ} → Pushed from at 6 i 0 0 d d1 next → ExprWritten from (Expr.challenge i) at d d1 next
  unfolding flat body
  written_challenge p = record { number = p.number; buffer = p.buffer }

-- ---- one part
module _ {from : ℕ} {e : Expr} {at x next : ℕ} {d d1 d2 : List ℕ} where
  pub written_one : {k v : ℕ} → ExprWritten from e at d d1 x → Pushed from x k (x - 1) 0 v d1 d2 next → WrittenOne from k e v at d d2 next
  written_one {k} {v} w p =
      let n = w.number in
      let r : x - 1 ≡ root at e = omega arith in
      record {
        number = omega (arith, p.number);
        buffer =
            then from (flat e at) (words k (root at e) 0 v) at x d d1 d2 (omega (arith, flat_length e at)) w.buffer
            (p.buffer ∙ ap (λ (a : ℕ). write_window from d1 (x * 4) (words k a 0 v)) r);
      }

module _ {from : ℕ} {e : Expr} {at next : ℕ} {d d1 : List ℕ} where
  pub one_negated : WrittenOne from 7 e 0 at d d1 next → ExprWritten from (Expr.negated e) at d d1 next
  unfolding flat body
  one_negated w = record { number = omega (arith, w.number); buffer = w.buffer }

  pub one_scaled : {v : ℕ} → WrittenOne from 10 e v at d d1 next → ExprWritten from (Expr.scaled e v) at d d1 next
  unfolding flat body
  one_scaled w = record { number = omega (arith, w.number); buffer = w.buffer }

module _ {from : ℕ} {e : Expr} {at x next : ℕ} {d d1 d2 : List ℕ} where
  pub written_negated : ExprWritten from e at d d1 x → Pushed from x 7 (x - 1) 0 0 d1 d2 next → ExprWritten from (Expr.negated e) at d d2 next
  written_negated w p = one_negated (written_one w p)

  pub written_scaled : {v : ℕ} → ExprWritten from e at d d1 x → Pushed from x 10 (x - 1) 0 v d1 d2 next
      → ExprWritten from (Expr.scaled e v) at d d2 next
  written_scaled w p = one_scaled (written_one w p)

-- ---- two parts
module _ {from : ℕ} {a b : Expr} {at x y next : ℕ} {d d1 d2 d3 : List ℕ} where
  pub written_pair : {k : ℕ} → ExprWritten from a at d d1 x → ExprWritten from b x d1 d2 y → Pushed from y k (x - 1) (y - 1) 0 d2 d3 next
      → WrittenPair from k a b at d d3 next
  written_pair {k} v w p =
      let n = v.number in
      let m = w.number in
      let X : ℕ = at + size a in
      let A : List ℕ = flat a at in
      let B : List ℕ = flat b X in
      let W : List ℕ = words k (root at a) (root X b) 0 in
      let r : x - 1 ≡ root at a = omega arith in
      let q : y - 1 ≡ root X b = omega arith in
      let both : d2 ≡ write_window from d (at * 4) (A ++ B) =
      then from A B at x d d1 d2 (omega (arith, flat_length a at)) v.buffer
      (w.buffer ∙ ap (λ (j : ℕ). write_window from d1 (x * 4) (flat b j)) n) in
      let whole : d3 ≡ write_window from d (at * 4) ((A ++ B) ++ W) =
      then from (A ++ B) W at y d d2 d3 (simp length-append (omega (arith, flat_length a at, flat_length b X))) both
      (p.buffer ∙ ap₂ (λ (i j : ℕ). write_window from d2 (y * 4) (words k i j 0)) r q) in
      record { number = omega (arith, p.number); buffer = whole ∙ ap (write_window from d (at * 4)) (append_assoc A B W) }

module _ {from : ℕ} {a b : Expr} {at next : ℕ} {d d1 : List ℕ} where
  pub pair_sum : WrittenPair from 8 a b at d d1 next → ExprWritten from (Expr.sum a b) at d d1 next
  unfolding flat body
  pair_sum w = record { number = omega (arith, w.number); buffer = w.buffer }

  pub pair_product : WrittenPair from 9 a b at d d1 next → ExprWritten from (Expr.product a b) at d d1 next
  unfolding flat body
  pair_product w = record { number = omega (arith, w.number); buffer = w.buffer }

module _ {from : ℕ} {a b : Expr} {at x y next : ℕ} {d d1 d2 d3 : List ℕ} where
  pub written_sum : ExprWritten from a at d d1 x → ExprWritten from b x d1 d2 y → Pushed from y 8 (x - 1) (y - 1) 0 d2 d3 next
      → ExprWritten from (Expr.sum a b) at d d3 next
  written_sum v w p = pair_sum (written_pair v w p)

  pub written_product : ExprWritten from a at d d1 x → ExprWritten from b x d1 d2 y → Pushed from y 9 (x - 1) (y - 1) 0 d2 d3 next
      → ExprWritten from (Expr.product a b) at d d3 next
  written_product v w p = pair_product (written_pair v w p)

-- ---- lists
-- the words of a list from node n on, without kind 11's own
list : Exprs → Expr → ℕ → List ℕ
list es b n = flats es n ++ (flat b (n + sizes es) ++ chain es n (n + sizes es + size b))

list_length : (es : Exprs) (b : Expr) (n : ℕ) → length (list es b n) ≡ (sizes es + size b + extra es + 1) * 4
unfolding list
list_length es b n =
    simp length-append
    (omega (arith, flats_length es n, flat_length b (n + sizes es), chain_length es n (n + sizes es + size b)))

-- a list of one more: its expression before the others, its Item behind theirs
regroup : (e : Expr) (es : Exprs) (b : Expr) (n : ℕ)
    → (flat e n ++ list es b (n + size e)) ++ words 12 (root n e) (n + (size e + sizes es) + size b + extra es) 1
    ≡ list (Exprs.more e es) b n
unfolding list flat body
regroup e es b n =
    let X : ℕ = n + size e in
    let j : X + sizes es ≡ n + (size e + sizes es) = omega arith in
    ap
    (λ (i : ℕ).
    (flat e n ++ (flats es X ++ (flat b i ++ chain es X (i + size b))))
    ++ words 12 (root n e) (n + (size e + sizes es) + size b + extra es) 1)
    j
    ∙ simp append_assoc

module _ {from : ℕ} {b : Expr} {at y next : ℕ} {d d1 d2 : List ℕ} where
  -- the base and the last Item
  pub written_base : 0 < at → ExprWritten from b at d d1 y → Pushed from y 12 (at - 1) 0 0 d1 d2 next → WrittenBase from b at d d2 next (y - 1)
  written_base h w p =
      record {
        number = omega (arith, p.number, w.number);
        root = omega (arith, w.number);
        buffer =
            then from (flat b at) (words 12 (at - 1) 0 0) at y d d1 d2 (omega (arith, flat_length b at, w.number)) w.buffer
            p.buffer;
      }

module _ {from : ℕ} {e b : Expr} {at x next base : ℕ} {d d1 d2 : List ℕ} where
  -- a list of one expression
  pub list_last : ExprWritten from e at d d1 x → WrittenBase from b x d1 d2 next base → WrittenList from (Exprs.last e) b at d d2 next base
  unfolding flat body
  list_last v w =
      let n = v.number in
      let X : ℕ = at + size e in
      let r : x - 1 ≡ root at e = omega arith in
      record {
        number = omega (arith, w.number);
        root = w.root ∙ ap (λ (j : ℕ). root j b) n;
        buffer =
            then from (flat e at) (flat b X ++ words 12 (root at e) 0 0) at x d d1 d2 (omega (arith, flat_length e at)) v.buffer
            (w.buffer ∙ ap₂ (λ (j i : ℕ). write_window from d1 (x * 4) (flat b j ++ words 12 i 0 0)) n r);
      }

module _ {from : ℕ} {e b : Expr} {at x y next : ℕ} {d d1 d2 d3 : List ℕ} where
  -- the last expression, the base, the last Item
  pub list_end_is : ExprWritten from e at d d1 x → ExprWritten from b x d1 d2 y → Pushed from y 12 (x - 1) 0 0 d2 d3 next
      → WrittenList from (Exprs.last e) b at d d3 next (y - 1)
  list_end_is v w p = let n = v.number in list_last v (written_base (omega arith) w p)

module _ {from : ℕ} {e b : Expr} {es : Exprs} {at x y next base : ℕ} {d d1 d2 d3 : List ℕ} where
  -- an expression before a list, and its Item behind the list's
  pub list_more : ExprWritten from e at d d1 x → WrittenList from es b x d1 d2 y base → Pushed from y 12 (x - 1) (y - 1) 1 d2 d3 next
      → WrittenList from (Exprs.more e es) b at d d3 next base
  unfolding list body
  list_more v w p =
      let n = v.number in
      let m = w.number in
      let X : ℕ = at + size e in
      let L : List ℕ = list es b X in
      let i : ℕ = at + (size e + sizes es) + size b + extra es in
      let W : List ℕ = words 12 (root at e) i 1 in
      let r : x - 1 ≡ root at e = omega arith in
      let q : y - 1 ≡ i = omega arith in
      let j : x + sizes es ≡ at + (size e + sizes es) = omega arith in
      let both : d2 ≡ write_window from d (at * 4) (flat e at ++ L) =
      then from (flat e at) L at x d d1 d2 (omega (arith, flat_length e at)) v.buffer
      (w.buffer ∙ ap (λ (j : ℕ). write_window from d1 (x * 4) (list es b j)) n) in
      let whole : d3 ≡ write_window from d (at * 4) ((flat e at ++ L) ++ W) =
      then from (flat e at ++ L) W at y d d2 d3 (omega (arith, length-append (flat e at) L, flat_length e at, list_length es b X)) both
      (p.buffer ∙ ap₂ (λ (u j : ℕ). write_window from d2 (y * 4) (words 12 u j 1)) r q) in
      record {
        number = omega (arith, p.number);
        root = w.root ∙ ap (λ (j : ℕ). root j b) j;
        buffer = whole ∙ ap (write_window from d (at * 4)) (regroup e es b at);
      }

module _ {from : ℕ} {b : Expr} {es : Exprs} {at x next base : ℕ} {d d1 d2 : List ℕ} where
  pub written_powers : WrittenList from es b at d d1 x base → Pushed from x 11 base (x - 1) 0 d1 d2 next
      → ExprWritten from (Expr.powers es b) at d d2 next
  unfolding flat body list
  written_powers w p =
      let m = w.number in
      let N : ℕ = at + sizes es in
      let F : List ℕ = flats es at in
      let B : List ℕ = flat b N in
      let C : List ℕ = chain es at (N + size b) in
      let W : List ℕ = words 11 (root N b) (N + size b + extra es) 0 in
      let q : x - 1 ≡ N + size b + extra es = omega arith in
      let whole : d2 ≡ write_window from d (at * 4) ((F ++ (B ++ C)) ++ W) =
      then from (F ++ (B ++ C)) W at x d d1 d2 (omega (arith, list_length es b at)) w.buffer
      (p.buffer ∙ ap₂ (λ (u j : ℕ). write_window from d1 (x * 4) (words 11 u j 0)) w.root q) in
      record { number = omega (arith, p.number); buffer = whole ∙ ap (write_window from d (at * 4)) (simp append_assoc) }

-- ---- the forms that Rust's operators and functions make
module _ {from n next : ℕ} {d d1 : List ℕ} where
  -- a query with rotation 0
  pub written_at : {q : ℕ} → Pushed from n 5 q 0 2147483648 d d1 next → ExprWritten from (at q) n d d1 next
  written_at p = written_poly p

module _ {from : ℕ} {a b : Expr} {at x y z next : ℕ} {d d1 d2 d3 d4 : List ℕ} where
  pub written_minus : ExprWritten from a at d d1 x → ExprWritten from b x d1 d2 y → Pushed from y 7 (y - 1) 0 0 d2 d3 z
      → Pushed from z 8 (x - 1) (z - 1) 0 d3 d4 next
      → ExprWritten from (minus a b) at d d4 next
  written_minus v w p q = written_sum v (written_negated w p) q

product_end : (e f : Expr) (fs : List Expr) → product_from e (fs ++ (f ∷ [])) ≡ Expr.product (product_from e fs) f
unfolding product_from
product_end e f [] = refl
product_end e f (g ∷ fs) = product_end (Expr.product e g) f fs

module _ (e : Expr) (fs : List Expr) {from : ℕ} {f : Expr} {at x y next : ℕ} {d d1 d2 d3 : List ℕ} where
  -- one factor more
  pub written_factor : ExprWritten from (product_from e fs) at d d1 x → ExprWritten from f x d1 d2 y → Pushed from y 9 (x - 1) (y - 1) 0 d2 d3 next
      → ExprWritten from (product_from e (fs ++ (f ∷ []))) at d d3 next
  written_factor v w p = written_as (product_end e f fs) (written_product v w p)

module _ {from : ℕ} {e : Expr} {at next : ℕ} {d d1 : List ℕ} where
  pub list_one : {b : Expr} {base : ℕ} → WrittenList from (Exprs.last e) b at d d1 next base → WrittenList from (exprs_of e []) b at d d1 next base
  unfolding exprs_of
  list_one w = w

  -- a list of one is its item
  pub written_single : (b : Expr) → ExprWritten from e at d d1 next → ExprWritten from (distribute_powers (e ∷ []) b) at d d1 next
  unfolding distribute_powers
  written_single b w = w

module _ (f : Expr) (es : List Expr) {from : ℕ} {e b : Expr} {at x y next base : ℕ} {d d1 d2 d3 : List ℕ} where
  pub list_cons : ExprWritten from e at d d1 x → WrittenList from (exprs_of f es) b x d1 d2 y base → Pushed from y 12 (x - 1) (y - 1) 1 d2 d3 next
      → WrittenList from (exprs_of e (f ∷ es)) b at d d3 next base
  unfolding exprs_of
  list_cons v w p = list_more v w p

module _ (e f : Expr) (es : List Expr) {from : ℕ} {b : Expr} {at x next base : ℕ} {d d1 d2 : List ℕ} where
  pub written_distribute : WrittenList from (exprs_of e (f ∷ es)) b at d d1 x base → Pushed from x 11 base (x - 1) 0 d1 d2 next
      → ExprWritten from (distribute_powers (e ∷ (f ∷ es)) b) at d d2 next
  unfolding distribute_powers
  written_distribute w p = written_powers w p
