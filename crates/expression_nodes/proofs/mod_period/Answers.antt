use mathlib.Core.Path.{refl}
use native.Mathlib.Nat.{mod-mod, mod-lt}
use native.Mathlib.Omega.{arith}
use Rattle.expression_nodes.proofs.mod_period.Goals as goal

pub returns-then-d-n : goal.returns-then-d-n
returns-then-d-n c = (refl, omega arith, λ h. refl)

pub returns : goal.returns
returns c =
    let m = mod-lt c.args.d c.requires.0 in
    (mod-mod c.args.d c.args.n, omega arith, λ h. omega arith)
