-- The denominators that the z stage asks of the words are the log's; and what h and z leave, where one is zero and where none is.
use mathlib.Core.Path.{◌≡◌, sym, ap, ap₂, ◌∙◌}
use mathlib.Core.Bool.{Bool, true, false, ◌||◌}
use mathlib.Core.List.{List}
use Prim.Native.Nat.{ℕ, suc, ◌+◌, ◌-◌, ◌*◌, ◌≤◌, ◌<◌}
use native.Mathlib.Omega.{arith}
use lib.ListN.{length, get_or, drop}
use Rattle.std.specs.Prelude.{Ok, Err}
use Rattle.field.specs.Field.{𝔾, el}
use Rattle.lists.specs.Lists.{concat, write_at}
use Rattle.lists.proofs.Columns.{tabulate_cong}
use Rattle.lists.proofs.Over.{drop_past}
use Rattle.expression.specs.Value.{poly_of}
use Rattle.expression.specs.Reader.{polys_of}
use Rattle.expression.specs.declared.poly.Layout.{Layout}
use Rattle.backend.specs.Circuit.{rows_of, copied, num_copied}
use Rattle.prover.specs.Log.{Log}
use Rattle.prover.specs.Columns.{permutation_at, copied_at, permutation_factor_at}
use Rattle.prover.specs.Running.{factor_of}
use Rattle.prover.specs.Denominators.{factor_denominators}
use Rattle.prover.specs.Answers.{Outcome, outcome_of, outcome_words}
use Rattle.prover.proofs.Answers.{outcome_length}
use Rattle.prover.proofs.Lent.{Reads, polys_agree}
use Rattle.prover_z.specs.Factors.{denominator_in_words}

module _ (g : Log 𝔾) (l : Layout) (circuit witness columns challenges : List ℕ) (r : Reads g l circuit witness columns challenges)
    (β γ : ℕ) (β-is : g.β ≡ el β) (γ-is : g.γ ≡ el γ)
    (labels : (i b : ℕ) → i < num_copied g.circuit → b < rows_of g.circuit
    → el (get_or columns ((l.instances + i) * rows_of g.circuit + b) 0) ≡ permutation_at 𝔾 g i b) where
  denominator_agrees : (i b : ℕ) → i < num_copied g.circuit → b < rows_of g.circuit
      → denominator_in_words l circuit witness columns (copied g.circuit) (el β) (el γ) b i ≡ permutation_factor_at 𝔾 g i b
  unfolding denominator_in_words permutation_factor_at copied_at
  denominator_agrees i b hi hb =
      let rows : l.rows ≡ rows_of g.circuit = r.given.rows in
      let value = polys_agree g l circuit witness columns challenges r (get_or (copied g.circuit) i 0) b hb in
      let label : el (get_or columns ((l.instances + i) * l.rows + b) 0) ≡ permutation_at 𝔾 g i b =
      ap (λ (n : ℕ). el (get_or columns ((l.instances + i) * n + b) 0)) rows ∙ labels i b hi hb in
      ap₂ (λ (x y : 𝔾.F).
      factor_of 𝔾 x y (poly_of 𝔾 (polys_of l circuit witness columns) (get_or (copied g.circuit) i 0) b)
      (el (get_or columns ((l.instances + i) * l.rows + b) 0)))
      (sym β-is)
      (sym γ-is)
      ∙ ap₂ (λ (v x : 𝔾.F). factor_of 𝔾 g.β g.γ v x) value label

  pub denominators_agree : factor_denominators 𝔾 (rows_of g.circuit) (num_copied g.circuit)
      (λ i b. denominator_in_words l circuit witness columns (copied g.circuit) (el β) (el γ) b i)
      ≡ factor_denominators 𝔾 (rows_of g.circuit) (num_copied g.circuit) (permutation_factor_at 𝔾 g)
  unfolding factor_denominators
  denominators_agree =
      ap concat
      (tabulate_cong _ _ (num_copied g.circuit)
      (λ i hi. tabulate_cong _ _ (rows_of g.circuit - 1) (λ b hb. denominator_agrees i (suc b) hi (omega arith))))

-- ---- what the answers tell

pub never : {C : Type 0} → ◌≡◌ {A = Outcome} (Err (record {})) (Ok tt) → C
never e = cc

-- of two parts the first has one
pub first_zero : (a b t : Bool) → t ≡ (a || b) → a ≡ true → ◌≡◌ {A = Outcome} (Err (record {})) (outcome_of t)
first_zero a b t e h = sym (ap (λ (x : Bool). outcome_of x) (e ∙ ap (λ (x : Bool). x || b) h))

-- the first has none
pub first_none : (a b t : Bool) (r : Outcome) → t ≡ (a || b) → a ≡ false → r ≡ outcome_of b → r ≡ outcome_of t
first_none a b t r e h q = q ∙ sym (ap (λ (x : Bool). outcome_of x) (e ∙ ap (λ (x : Bool). x || b) h))

-- words past z stay
pub past_z : (d e : List ℕ) (to words n : ℕ) (r : Outcome) (ws : List ℕ) → length ws ≡ n → to + n ≡ words → to ≤ length d
    → e ≡ write_at d to (outcome_words r ws)
    → drop words e ≡ drop words d
past_z d e to words n r ws size sum h w =
    ap (drop words) w ∙ drop_past d to (outcome_words r ws) words h (let q = outcome_length r ws in omega arith)
