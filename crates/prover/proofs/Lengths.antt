-- How many columns of each kind a log has.
use mathlib.Core.Path.{◌≡◌}
use Prim.Native.Nat.{◌+◌, ◌*◌}
use native.Mathlib.Omega.{arith}
use lib.ListN.{length, length-append, length-map}
use Rattle.field.specs.Algebra.{Field}
use Rattle.lists.proofs.Lists.{split_length, pairs_length}
use Rattle.lists.proofs.Columns.{tabulate_length}
use Rattle.backend.specs.Circuit.{num_instance, num_poly, num_copied, num_lookups, num_groups}
use Rattle.backend.proofs.Degree.{groups_length}
use Rattle.preprocessor.specs.Compose.{num_z}
use Rattle.prover.specs.Log.{Log}
use Rattle.prover.specs.Columns.{input_at, table_at, instance_polys, preprocess_polys, witness_polys, given_polys, permutation_polys, compressed_polys, m_polys, h_polys, z_polys, written_polys}

module _ (𝓕 : Field) (g : Log 𝓕) where
  pub instances_length : length (instance_polys 𝓕 g) ≡ num_instance g.circuit
  unfolding instance_polys
  instances_length = simp (length-map, split_length)

  pub given_length : length (given_polys 𝓕 g) ≡ num_poly g.circuit
  unfolding given_polys instance_polys preprocess_polys witness_polys num_poly
  given_length = simp (length-append, length-map, tabulate_length, split_length) (omega arith)

  pub permutations_length : length (permutation_polys 𝓕 g) ≡ num_copied g.circuit
  unfolding permutation_polys
  permutations_length = simp (length-map, tabulate_length)

  pub compressed_length : length (compressed_polys 𝓕 g) ≡ num_lookups g.circuit * 2
  unfolding compressed_polys
  compressed_length = pairs_length (input_at 𝓕 g) (table_at 𝓕 g) g.circuit.lookups

  pub m_length : length (m_polys 𝓕 g) ≡ num_groups g.circuit
  unfolding m_polys
  m_length = simp length-map (groups_length g.circuit)

  pub h_length : length (h_polys 𝓕 g) ≡ num_groups g.circuit
  unfolding h_polys
  h_length = simp length-map (groups_length g.circuit)

  pub z_length : length (z_polys 𝓕 g) ≡ num_z g.circuit
  unfolding z_polys
  z_length = simp (length-map, tabulate_length)

  pub written_length : length (written_polys 𝓕 g)
      ≡ num_instance g.circuit + num_copied g.circuit + num_lookups g.circuit * 2 + num_groups g.circuit * 2 + num_z g.circuit
  unfolding written_polys instance_polys permutation_polys compressed_polys m_polys h_polys z_polys
  written_length = simp (length-append, length-map, tabulate_length, split_length, pairs_length) (omega (arith, groups_length g.circuit))
