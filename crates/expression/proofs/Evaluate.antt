-- The one induction over `evaluate`: a relation that the functions of two records keep holds between what they evaluate an
-- expression to. A property that the functions of one record keep, and a map that respects them, are instances.
use mathlib.Core.Path.{◌≡◌, ap, ap₂, ◌∙◌}
use mathlib.Core.List.{List, [], ◌∷◌}
use Prim.Native.Nat.{ℕ}
use lib.IntN.{ℤ}
use Rattle.lists.specs.Lists.{All}
use Rattle.lists.proofs.All.{all_join}
use Rattle.expression.specs.Expr.{Expr, Exprs, Ops, running, evaluate, powers_first, values, collect_ops}
use Rattle.expression.specs.Within.{Scope, Within, WithinAll}
use Rattle.expression.proofs.Within.{anything, within_anything}

module _ {A B : Type 0} (S : Scope) (o : Ops A) (q : Ops B) (R : A → B → Type 0) where
  -- the functions keep R: on leaves, where they are within the scope
  pub record Related : Type 0 where
    pub constants : (v : ℕ) → R (o.constant_op v) (q.constant_op v)
    pub identities : R o.identity_op q.identity_op
    pub lagranges : (i : ℤ) → S.lagrange i → R (o.lagrange_op i) (q.lagrange_op i)
    pub eq_xys : (i : ℕ) → S.eq_xy i → R (o.eq_xy_op i) (q.eq_xy_op i)
    pub polys : (p : ℕ) (r : ℤ) → S.poly p r → R (o.poly_op p r) (q.poly_op p r)
    pub challenges : (i : ℕ) → S.challenge i → R (o.challenge_op i) (q.challenge_op i)
    pub negations : (a : A) (b : B) → R a b → R (o.negated_op a) (q.negated_op b)
    pub sums : (a c : A) (b d : B) → R a b → R c d → R (o.sum_op a c) (q.sum_op b d)
    pub products : (a c : A) (b d : B) → R a b → R c d → R (o.product_op a c) (q.product_op b d)
    pub scalings : (a : A) (b : B) (v : ℕ) → R a b → R (o.scaled_op a v) (q.scaled_op b v)

  abbrev RelatedAll : List A → List B → Type 0
  RelatedAll [] [] = Unit {0}
  RelatedAll [] (y ∷ ys) = ⊥
  RelatedAll (x ∷ xs) [] = ⊥
  RelatedAll (x ∷ xs) (y ∷ ys) = R x y × RelatedAll xs ys

  module _ (m : Related) where
    running_related : (x p acc : A) (y r bcc : B) (vs : List A) (ws : List B) → R x y → R p r → R acc bcc → RelatedAll vs ws
        → R (running o x p acc vs) (running q y r bcc ws)
    unfolding running
    running_related x p acc y r bcc [] [] hx hp ha hv = ha
    running_related x p acc y r bcc [] (w ∷ ws) hx hp ha hv = absurd hv
    running_related x p acc y r bcc (v ∷ vs) [] hx hp ha hv = absurd hv
    running_related x p acc y r bcc (v ∷ vs) (w ∷ ws) hx hp ha hv =
        running_related x (o.product_op p x) (o.sum_op acc (o.product_op p v)) y (q.product_op r y) (q.sum_op bcc (q.product_op r w)) vs ws hx
        (m.products p x r y hp hx)
        (m.sums acc (o.product_op p v) bcc (q.product_op r w) ha (m.products p v r w hp hv.0))
        hv.1

    mutual
      unfolding evaluate

      pub evaluate_related : (e : Expr) → Within S e → R (evaluate o e) (evaluate q e)
      evaluate_related (Expr.constant v) h = m.constants v
      evaluate_related Expr.identity h = m.identities
      evaluate_related (Expr.lagrange i) h = m.lagranges i h
      evaluate_related (Expr.eq_xy i) h = m.eq_xys i h
      evaluate_related (Expr.poly p r) h = m.polys p r h
      evaluate_related (Expr.challenge i) h = m.challenges i h
      evaluate_related (Expr.negated a) h = m.negations (evaluate o a) (evaluate q a) (evaluate_related a h)
      evaluate_related (Expr.sum a b) h =
          m.sums (evaluate o a) (evaluate o b) (evaluate q a) (evaluate q b) (evaluate_related a h.0) (evaluate_related b h.1)
      evaluate_related (Expr.product a b) h =
          m.products (evaluate o a) (evaluate o b) (evaluate q a) (evaluate q b) (evaluate_related a h.0) (evaluate_related b h.1)
      evaluate_related (Expr.scaled a v) h = m.scalings (evaluate o a) (evaluate q a) v (evaluate_related a h)
      evaluate_related (Expr.powers es b) h = spread_related es (evaluate o b) (evaluate q b) (evaluate_related b h.1) h.0

      spread_related : (es : Exprs) (x : A) (y : B) → R x y → WithinAll S es → R (powers_first o x es) (powers_first q y es)
      spread_related (Exprs.last e) x y r h = evaluate_related e h
      spread_related (Exprs.more e es) x y r h =
          running_related x x (evaluate o e) y y (evaluate q e) (values o es) (values q es) r r (evaluate_related e h.0)
          (values_related es h.1)

      values_related : (es : Exprs) → WithinAll S es → RelatedAll (values o es) (values q es)
      values_related (Exprs.last e) h = (evaluate_related e h, tt)
      values_related (Exprs.more e es) h = (evaluate_related e h.0, values_related es h.1)

-- ---- a property that the functions keep
abbrev nothing : Ops (Unit {0})
nothing =
    record {
      constant_op = λ v. tt;
      identity_op = tt;
      lagrange_op = λ i. tt;
      eq_xy_op = λ i. tt;
      poly_op = λ p r. tt;
      challenge_op = λ i. tt;
      negated_op = λ a. tt;
      sum_op = λ a b. tt;
      product_op = λ a b. tt;
      scaled_op = λ a v. tt;
    }

module _ {A : Type 0} (S : Scope) (o : Ops A) (Q : A → Type 0) where
  pub record Keeps : Type 0 where
    pub constants : (v : ℕ) → Q (o.constant_op v)
    pub identities : Q o.identity_op
    pub lagranges : (i : ℤ) → S.lagrange i → Q (o.lagrange_op i)
    pub eq_xys : (i : ℕ) → S.eq_xy i → Q (o.eq_xy_op i)
    pub polys : (p : ℕ) (r : ℤ) → S.poly p r → Q (o.poly_op p r)
    pub challenges : (i : ℕ) → S.challenge i → Q (o.challenge_op i)
    pub negations : (a : A) → Q a → Q (o.negated_op a)
    pub sums : (a b : A) → Q a → Q b → Q (o.sum_op a b)
    pub products : (a b : A) → Q a → Q b → Q (o.product_op a b)
    pub scalings : (a : A) (v : ℕ) → Q a → Q (o.scaled_op a v)

  pub evaluate_keeps : Keeps → (e : Expr) → Within S e → Q (evaluate o e)
  evaluate_keeps k e h =
      evaluate_related S o nothing (λ a b. Q a)
      (record {
        constants = k.constants;
        identities = k.identities;
        lagranges = k.lagranges;
        eq_xys = k.eq_xys;
        polys = k.polys;
        challenges = k.challenges;
        negations = λ a b r. k.negations a r;
        sums = λ a c b d r s. k.sums a c r s;
        products = λ a c b d r s. k.products a c r s;
        scalings = λ a b v r. k.scalings a v r;
      })
      e
      h

-- what is collected has a property, where all that queries and challenges bring has it
pub collected : {A : Type 0} (S : Scope) (Q : A → Type 0) (query : ℕ → ℤ → List A) (challenged : ℕ → List A)
    → ((p : ℕ) (r : ℤ) → S.poly p r → All Q (query p r))
    → ((i : ℕ) → S.challenge i → All Q (challenged i))
    → (e : Expr) → Within S e
    → All Q (evaluate (collect_ops query challenged) e)
collected S Q query challenged p c e h =
    evaluate_keeps S (collect_ops query challenged) (λ xs. All Q xs)
    (record {
      constants = λ v. tt;
      identities = tt;
      lagranges = λ i w. tt;
      eq_xys = λ i w. tt;
      polys = p;
      challenges = c;
      negations = λ a r. r;
      sums = λ a b r s. all_join Q a b r s;
      products = λ a b r s. all_join Q a b r s;
      scalings = λ a v r. r;
    })
    e
    h

-- ---- a map that respects the functions
module _ {A B : Type 0} (o : Ops A) (q : Ops B) (f : A → B) where
  pub record Hom : Type 0 where
    pub constants : (v : ℕ) → q.constant_op v ≡ f (o.constant_op v)
    pub identities : q.identity_op ≡ f o.identity_op
    pub lagranges : (i : ℤ) → q.lagrange_op i ≡ f (o.lagrange_op i)
    pub eq_xys : (i : ℕ) → q.eq_xy_op i ≡ f (o.eq_xy_op i)
    pub polys : (p : ℕ) (r : ℤ) → q.poly_op p r ≡ f (o.poly_op p r)
    pub challenges : (i : ℕ) → q.challenge_op i ≡ f (o.challenge_op i)
    pub negations : (a : A) → q.negated_op (f a) ≡ f (o.negated_op a)
    pub sums : (a b : A) → q.sum_op (f a) (f b) ≡ f (o.sum_op a b)
    pub products : (a b : A) → q.product_op (f a) (f b) ≡ f (o.product_op a b)
    pub scalings : (a : A) (v : ℕ) → q.scaled_op (f a) v ≡ f (o.scaled_op a v)

  pub evaluate_hom : Hom → (e : Expr) → evaluate q e ≡ f (evaluate o e)
  evaluate_hom m e =
      evaluate_related anything o q (λ a b. b ≡ f a)
      (record {
        constants = m.constants;
        identities = m.identities;
        lagranges = λ i h. m.lagranges i;
        eq_xys = λ i h. m.eq_xys i;
        polys = λ p r h. m.polys p r;
        challenges = λ i h. m.challenges i;
        negations = λ a b r. ap q.negated_op r ∙ m.negations a;
        sums = λ a c b d r s. ap₂ q.sum_op r s ∙ m.sums a c;
        products = λ a c b d r s. ap₂ q.product_op r s ∙ m.products a c;
        scalings = λ a b v r. ap (λ (x : B). q.scaled_op x v) r ∙ m.scalings a v;
      })
      e
      (within_anything e)
