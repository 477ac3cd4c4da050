-- `sizes` meets its contract: one definition's numbers, and what they tell.
use mathlib.Core.Path.{◌≡◌, refl, sym, ap, subst, ◌∙◌}
use mathlib.Core.List.{List}
use Prim.Native.Nat.{ℕ}
use Rattle.backend.specs.Circuit.{circuit_of}
use Rattle.hyperplonk_spec.specs.Sizes.{circuit_sizes, sizes_of, Foretells}
use Rattle.hyperplonk_spec.specs.declared.Sizes.{Sizes}
use Rattle.hyperplonk_prepare.specs.Prepared.{Accepted}
use Rattle.hyperplonk_prepare.proofs.Foretold.{sizes_yes, sizes_refused, foretold}
use Rattle.hyperplonk_sizes.proofs.sizes.Goals as goal

both : (ws : List ℕ) (s : Sizes) → s ≡ sizes_of ws → (s ≡ sizes_of ws) × Foretells ws s
both ws s e = (e, foretold ws s e)

told : (words nodes visits a b c : ℕ) → words ≡ a → nodes ≡ b → visits ≡ c → ◌≡◌ {A = Sizes} (record { number = 0; column_words = words; nodes = nodes; visits = visits }) (record { number = 0; column_words = a; nodes = b; visits = c })
told words nodes visits a b c p q r = rw (p, q, r) refl

pub returns-in-Ok : goal.returns-in-Ok
returns-in-Ok c =
    let ws = c.args.circuit.now in
    let a = subst Accepted c.in-Ok.ensures c.in-Ok.accepted.accepted in
    both ws _ (told _ _ _ _ _ _ c.column_words.ensures c.composed_nodes.ensures.nodes c.composed_visits.ensures ∙ ap (λ (ws : List ℕ). circuit_sizes (circuit_of ws)) (c.new-prepared.ensures ∙ c.in-Ok.ensures) ∙ sym (sizes_yes ws a))

pub returns-in-Err : goal.returns-in-Err
returns-in-Err c =
    let ws = c.args.circuit.now in
    both ws _ (sym (sizes_refused ws c.in-Err.number (sym c.in-Err.ensures.1) c.in-Err.ensures.0))
