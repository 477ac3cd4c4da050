-- Environments that agree on what an expression reads at a row give it one value there.
use mathlib.Core.Path.{◌≡◌, ap, ap₂}
use Prim.Native.Nat.{ℕ}
use lib.IntN.{ℤ}
use lib.ListN.{get_or}
use Rattle.field.specs.Algebra.{Field}
use Rattle.bh.specs.Rows.{rotated, lagrange_row}
use Rattle.expression.specs.Expr.{Expr}
use Rattle.expression.specs.Value.{Environment, poly_of, value_ops, value_at}
use Rattle.expression.specs.Within.{Scope, Within}
use Rattle.expression.proofs.Evaluate.{evaluate_related}

module _ (𝓕 : Field) (S : Scope) (s t : Environment 𝓕) (b : ℕ) where
  -- k and how words enter are one; so are the queries, challenges and EqXY within the scope, as they are read at row b
  pub record Agree : Type 0 where
    pub same_k : s.k ≡ t.k
    pub same_el : s.el ≡ t.el
    pub same_eq : (i : ℕ) → S.eq_xy i → s.eq b ≡ t.eq b
    pub same_poly : (q : ℕ) (r : ℤ) → S.poly q r → poly_of 𝓕 s.polys q (rotated s.k b r) ≡ poly_of 𝓕 t.polys q (rotated t.k b r)
    pub same_challenge : (i : ℕ) → S.challenge i → get_or s.challenges i 𝓕.zero ≡ get_or t.challenges i 𝓕.zero

  pub agree_value : Agree → (e : Expr) → Within S e → value_at 𝓕 s e b ≡ value_at 𝓕 t e b
  unfolding value_at value_ops
  agree_value a e h =
      evaluate_related S (value_ops 𝓕 s b) (value_ops 𝓕 t b) (λ x y. x ≡ y)
      (record {
        constants = λ v. ap (λ (f : ℕ → 𝓕.F). f v) a.same_el;
        identities = ap (λ (f : ℕ → 𝓕.F). f b) a.same_el;
        lagranges = λ i w. ap (λ (k : ℕ). mathlib.Core.Bool.cond (lib.Dec.eqb b (lagrange_row k i)) 𝓕.one 𝓕.zero) a.same_k;
        eq_xys = a.same_eq;
        polys = a.same_poly;
        challenges = a.same_challenge;
        negations = λ x y r. ap 𝓕.neg r;
        sums = λ x z y w r u. ap₂ 𝓕.add r u;
        products = λ x z y w r u. ap₂ 𝓕.mul r u;
        scalings = λ x y v r. ap₂ (λ (z : 𝓕.F) (f : ℕ → 𝓕.F). 𝓕.mul z (f v)) r a.same_el;
      })
      e
      h
