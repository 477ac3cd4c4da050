-- Environments whose columns agree on the rows give an expression one value on each row.
use mathlib.Core.Path.{◌≡◌, refl, sym, ap, ap₂, ◌∙◌}
use mathlib.Core.List.{List, ◌++◌}
use Prim.Native.Nat.{ℕ, ◌+◌, ◌-◌, ◌^◌, ◌<◌}
use native.Mathlib.Decide.{dec_lt}
use native.Mathlib.Omega.{arith}
use lib.ListN.{length, get_or, length-append}
use Rattle.field.specs.Algebra.{Field}
use Rattle.bh.specs.Rows.{rotated}
use Rattle.bh.proofs.Turn.{rotated_lt}
use Rattle.lists.specs.Lists.{tabulate}
use Rattle.lists.proofs.Lists.{get_left, get_past, get_none}
use Rattle.lists.proofs.Columns.{get_tabulate, tabulate_length}
use Rattle.expression.specs.Expr.{Expr}
use Rattle.expression.proofs.Within.{anything, within_anything}
use Rattle.expression.proofs.Agree.{agree_value}
use Rattle.expression.specs.Value.{Environment, poly_of, value_at}

module _ (𝓕 : Field) where
  open 𝓕 use {F, zero as nil, one, add, mul, neg}

  -- as many columns, and the same on the first rows
  pub record Same (rows : ℕ) (ps qs : List (ℕ → F)) : Type 0 where
    pub many : length ps ≡ length qs
    pub each : (i : ℕ) → i < length ps → (b : ℕ) → b < rows → poly_of 𝓕 ps i b ≡ poly_of 𝓕 qs i b

  module _ (rows : ℕ) where
    pub same_refl : (ps : List (ℕ → F)) → Same rows ps ps
    same_refl ps = record { many = refl; each = λ i l b m. refl }

    pub same_append : (ps qs ps' qs' : List (ℕ → F)) → Same rows ps qs → Same rows ps' qs' → Same rows (ps ++ ps') (qs ++ qs')
    same_append ps qs ps' qs' s s' =
        record {
          many = length-append ps ps' ∙ ap₂ ◌+◌ s.many s'.many ∙ sym (length-append qs qs');
          each = λ i l b m. go i l b m (dec_lt i (length ps));
        }
      where
        go : (i : ℕ) → i < length (ps ++ ps') → (b : ℕ) → b < rows → Dec (i < length ps) → poly_of 𝓕 (ps ++ ps') i b ≡ poly_of 𝓕 (qs ++ qs') i b
        go i l b m (yes h) =
            ap (λ (p : ℕ → F). p b) (get_left ps ps' i (λ r. nil) h) ∙ s.each i h b m
            ∙ sym (ap (λ (p : ℕ → F). p b) (get_left qs qs' i (λ r. nil) (let e = s.many in omega arith)))
        go i l b m (no h) =
            let e = s.many in
            let w = length-append ps ps' in
            let j : ℕ = i - length ps in
            ap (λ (p : ℕ → F). p b) (get_past ps ps' i (i - length ps) (λ r. nil) (omega arith))
            ∙ s'.each (i - length ps) (omega arith) b m
            ∙ sym (ap (λ (p : ℕ → F). p b) (get_past qs qs' i (i - length ps) (λ r. nil) (omega arith)))

    pub same_column : (f : ℕ → ℕ → F) (n : ℕ) (qs : List (ℕ → F)) → n ≡ length qs
        → ((i : ℕ) → i < n → (b : ℕ) → b < rows → f i b ≡ poly_of 𝓕 qs i b) → Same rows (tabulate f n) qs
    same_column f n qs e h =
        record {
          many = tabulate_length f n ∙ e;
          each = λ i l b m.
              let w = tabulate_length f n in
              ap (λ (p : ℕ → F). p b) (get_tabulate f n i (λ r. nil) (omega arith)) ∙ h i (omega arith) b m;
        }

    pub same_at : (ps qs : List (ℕ → F)) → Same rows ps qs → (i b : ℕ) → b < rows → poly_of 𝓕 ps i b ≡ poly_of 𝓕 qs i b
    same_at ps qs s i b m = go (dec_lt i (length ps))
      where
        go : Dec (i < length ps) → poly_of 𝓕 ps i b ≡ poly_of 𝓕 qs i b
        go (yes h) = s.each i h b m
        go (no h) =
            ap (λ (p : ℕ → F). p b) (get_none ps i (λ r. nil) (omega arith))
            ∙ sym (ap (λ (p : ℕ → F). p b) (get_none qs i (λ r. nil) (let e = s.many in omega arith)))

  -- environments that differ in the polynomials alone
  module _ (s t : Environment 𝓕) (sk : s.k ≡ t.k) (se : s.el ≡ t.el) (sq : s.eq ≡ t.eq) (sc : s.challenges ≡ t.challenges) (small : t.k < 32)
      (polys : (q b : ℕ) → b < 2 ^ t.k → poly_of 𝓕 s.polys q b ≡ poly_of 𝓕 t.polys q b) where
    pub values_agree : (e : Expr) (b : ℕ) → b < 2 ^ t.k → value_at 𝓕 s e b ≡ value_at 𝓕 t e b
    values_agree e b l =
        agree_value 𝓕 anything s t b
        (record {
          same_k = sk;
          same_el = se;
          same_eq = λ i u. ap (λ (f : ℕ → F). f b) sq;
          same_poly = λ q r u.
              ap (λ (k : ℕ). poly_of 𝓕 s.polys q (rotated k b r)) sk
              ∙ polys q (rotated t.k b r) (rotated_lt t.k small b r l);
          same_challenge = λ i u. ap (λ (cs : List F). get_or cs i nil) sc;
        })
        e
        (within_anything e)
