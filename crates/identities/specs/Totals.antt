-- Totals in a commutative monoid over the numbers below n: `up_to` of the crate bh.
use Rattle.std.specs.Prelude.{◌≡◌, ℕ}
use Rattle.bh.specs.Sums.{up_to}

pub record Monoid {A : Type 0} (op : A → A → A) (e : A) : Type 0 where
  pub assoc : (a b c : A) → op (op a b) c ≡ op a (op b c)
  pub comm : (a b : A) → op a b ≡ op b a
  pub unit : (a : A) → op a e ≡ a

-- x, n times
abbrev pub times : {A : Type 0} → (A → A → A) → A → ℕ → A → A
times op e n x = up_to op e (λ i. x) n
