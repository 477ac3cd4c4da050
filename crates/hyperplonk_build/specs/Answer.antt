-- What the call returns: what is built, or "three zeros after its number" of a refusal.
use Rattle.std.specs.Prelude.{ℕ, Result, Ok, Err}
use Rattle.hyperplonk_spec.specs.Build.{refused}
use Rattle.hyperplonk_spec.specs.declared.Built.{Built}

abbrev pub answered : Result Built ℕ → Built
answered (Ok built) = built
answered (Err number) = refused number
