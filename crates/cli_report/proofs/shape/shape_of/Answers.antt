-- `shape_of` makes an accepted circuit only of words for which questions 1 to 11 and 18 are yes.
use Rattle.std.proofs.Common.{◌≡◌, ℕ, List, sym, ap, ◌∙◌}
use Rattle.hyperplonk_prepare.specs.Prepared.{Accepted}
use Rattle.hyperplonk_prepare.proofs.Foretold.{accepted_when}
use Rattle.hyperplonk_spec.specs.Sizes.{sizes_of}
use Rattle.hyperplonk_spec.specs.declared.Sizes.{Sizes}
use Rattle.cli_report.proofs.shape.shape_of.Goals as goal

told-yes : (ws : List ℕ) (s : Sizes) → s ≡ sizes_of ws → s.number ≡ 0 → Accepted ws
told-yes ws s e z = accepted_when ws (sym (ap (λ (t : Sizes). t.number) e) ∙ z)

pub invariant_of-accepted : goal.invariant_of-accepted
invariant_of-accepted c = record { accepted = told-yes _ _ c.sizes-told.ensures.0 c.if-told-ne0.false }
