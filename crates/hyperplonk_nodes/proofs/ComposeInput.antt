-- The words of accepted circuit words are what `compose` asks for.
use mathlib.Core.Path.{◌≡◌, ap}
use mathlib.Core.List.{List}
use Prim.Native.Nat.{ℕ, ◌*◌, ◌≤◌}
use native.Mathlib.Omega.{arith}
use lib.ListN.{length}
use Rattle.expression.specs.Flat.{size}
use Rattle.expression.specs.Written.{most_words}
use Rattle.backend.specs.Circuit.{circuit_of, copied}
use Rattle.preprocessor.specs.Compose.{composed_nodes, compose_tree}
use Rattle.preprocessor.specs.ComposeWords.{constraints_from_words, DecodedFrom}
use Rattle.preprocessor.specs.declared.CircuitParams.{CircuitParams}
use Rattle.preprocessor.proofs.Composed.{composed_is}
use Rattle.hyperplonk_prepare.specs.Prepared.{Accepted}
use Rattle.hyperplonk_prepare.proofs.Accepted as known
use Rattle.hyperplonk_prepare.proofs.Bound.{composed_most}

module _ (ws : List ℕ) (a : Accepted ws) (names : List ℕ) (n : names ≡ copied (circuit_of ws)) (v : CircuitParams) (nodes roots sizes widths pairs : List ℕ)
    (d : DecodedFrom (circuit_of ws) v (copied (circuit_of ws)) nodes roots sizes widths pairs) where
  pub decoded : DecodedFrom (circuit_of ws) v names nodes roots sizes widths pairs
  decoded = rw n d

  pub all_copied : v.num_permutation_polys ≤ length names
  all_copied = rw (d.params_are, n) (known.compose_input ws a).all_copied

  pub few : size (compose_tree v (constraints_from_words v names nodes roots sizes widths pairs)) * 4 ≤ most_words
  unfolding composed_nodes
  few = omega (arith, ap size (composed_is decoded), composed_most ws a)
