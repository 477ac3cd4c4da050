-- The columns of a log that stand before the m, before the h, and behind the m.
use Rattle.std.specs.Prelude.{List, ◌++◌, ℕ}
use Rattle.field.specs.Algebra.{Field}
use Rattle.prover.specs.Log.{Log}
use Rattle.prover.specs.Columns.{instance_polys, permutation_polys, compressed_polys, m_polys, h_polys, z_polys}

module _ (𝓕 : Field) (g : Log 𝓕) where
  -- instance, permutation, compressed input and table per lookup
  abbrev pub polys_before_m : List (ℕ → 𝓕.F)
  polys_before_m = (instance_polys 𝓕 g ++ permutation_polys 𝓕 g) ++ compressed_polys 𝓕 g

  -- and m
  abbrev pub polys_through_m : List (ℕ → 𝓕.F)
  polys_through_m = polys_before_m ++ m_polys 𝓕 g

  -- h, z
  abbrev pub polys_after_m : List (ℕ → 𝓕.F)
  polys_after_m = h_polys 𝓕 g ++ z_polys 𝓕 g
