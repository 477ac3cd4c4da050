use mathlib.Core.Path.{◌≡◌, subst, subst⁻¹}
use Prim.Native.Nat.{ℕ, ◌-◌, ◌%◌, ◌≤◌}
use lib.Pow.{pow_pos}
use Rattle.expression.proofs.Signed.{one_shifted, round_small, keeps_on, keeps_back, number_on, number_back}
use Rattle.expression_nodes.proofs.rotation_of.Goals as goal

pub overflow_sub-n : goal.overflow_sub-n
overflow_sub-n c = subst⁻¹ (λ (x : ℕ). 1 ≤ x) (one_shifted c.args.k c.requires.1) (pow_pos c.args.k)

pub mod_period-requires : goal.mod_period-requires
mod_period-requires c = round_small c.args.k c.requires.0 c.requires.1

pub returns-then-word-lt-SIGNED_OFFSET : goal.returns-then-word-lt-SIGNED_OFFSET
returns-then-word-lt-SIGNED_OFFSET c =
    let e = one_shifted c.args.k c.requires.1 in
    let s = c.mod_period in
    let w = c.args.word in record {
      leads = keeps_back c.args.k c.requires.0 c.requires.1 w s.result c.backward.result.0 c.if-word-lt-SIGNED_OFFSET.true
          (subst (λ (x : ℕ). s.result % (x - 1) ≡ (2147483648 - w) % (x - 1)) e s.ensures.0)
          c.backward.ensures;
      number = number_back c.args.k c.requires.0 c.requires.1 w s.result c.backward.result.0 c.if-word-lt-SIGNED_OFFSET.true
          (subst (λ (x : ℕ). 2147483648 - w ≤ x - 1 → s.result ≡ 2147483648 - w) e s.ensures.2)
          c.backward.ensures;
    }

pub mod_period-requires-2 : goal.mod_period-requires-2
mod_period-requires-2 c = round_small c.args.k c.requires.0 c.requires.1

pub returns : goal.returns
returns c =
    let e = one_shifted c.args.k c.requires.1 in
    let s = c.mod_period-2 in
    let w = c.args.word in record {
      leads = keeps_on c.args.k c.requires.0 c.requires.1 w s.result c.forward.result.0 c.if-word-lt-SIGNED_OFFSET.false
          (subst (λ (x : ℕ). s.result % (x - 1) ≡ (w - 2147483648) % (x - 1)) e s.ensures.0)
          c.forward.ensures;
      number = number_on c.args.k c.requires.0 c.requires.1 w s.result c.forward.result.0 c.if-word-lt-SIGNED_OFFSET.false
          (subst (λ (x : ℕ). w - 2147483648 ≤ x - 1 → s.result ≡ w - 2147483648) e s.ensures.2)
          c.forward.ensures;
    }
