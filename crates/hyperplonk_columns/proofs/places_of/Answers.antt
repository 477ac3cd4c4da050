-- `places_of` meets its contract.
use mathlib.Core.Path.{refl}
use native.Mathlib.Omega.{arith}
use Prim.Native.Nat.{◌+◌, ◌*◌}
use lib.ListN.{get_or}
use Rattle.backend.specs.Circuit.{circuit_of}
use Rattle.hyperplonk_spec.specs.Build.{column_words}
use Rattle.hyperplonk_prepare.proofs.Accepted.{laid_of}
use Rattle.hyperplonk_prepare.proofs.Computed.{columns_low}
use Rattle.hyperplonk_columns.proofs.Accepted.{words_fit, places_from, hs_asked}
use Rattle.hyperplonk_columns.proofs.places_of.Goals as goal

pub bounds-prepared-3 : goal.bounds-prepared-3
bounds-prepared-3 c = omega (arith, (laid_of c.args.prepared.now.circuit.words.now c.args.prepared.now.circuit.accepted).long)

pub overflow_add-named : goal.overflow_add-named
overflow_add-named c = omega (arith, (columns_low c.args.prepared.now.circuit.words.now c.args.prepared.now.circuit.accepted c.args.prepared.now.params c.args.prepared.now.params_are).0)

pub overflow_mul-result : goal.overflow_mul-result
overflow_mul-result c =
    omega (arith, words_fit c.args.prepared.now.circuit.words.now c.args.prepared.now.circuit.accepted c.args.prepared.now.params c.args.prepared.now.params_are (get_or c.args.prepared.now.circuit.words.now 3 0 + c.args.prepared.now.params.num_permutation_polys) (omega arith))

pub overflow_mul-result-2 : goal.overflow_mul-result-2
overflow_mul-result-2 c = omega (arith, (columns_low c.args.prepared.now.circuit.words.now c.args.prepared.now.circuit.accepted c.args.prepared.now.params c.args.prepared.now.params_are).0)

pub overflow_add-result : goal.overflow_add-result
overflow_add-result c = omega (arith, (columns_low c.args.prepared.now.circuit.words.now c.args.prepared.now.circuit.accepted c.args.prepared.now.params c.args.prepared.now.params_are).0)

pub overflow_mul-result-3 : goal.overflow_mul-result-3
overflow_mul-result-3 c =
    omega (
      arith,
      words_fit c.args.prepared.now.circuit.words.now c.args.prepared.now.circuit.accepted c.args.prepared.now.params c.args.prepared.now.params_are
          (get_or c.args.prepared.now.circuit.words.now 3 0 + c.args.prepared.now.params.num_permutation_polys + c.args.prepared.now.params.num_lookups * 2)
          (omega arith),
    )

pub overflow_mul-result-4 : goal.overflow_mul-result-4
overflow_mul-result-4 c = omega (arith, (columns_low c.args.prepared.now.circuit.words.now c.args.prepared.now.circuit.accepted c.args.prepared.now.params c.args.prepared.now.params_are).0)

pub overflow_add-result-2 : goal.overflow_add-result-2
overflow_add-result-2 c = omega (arith, (columns_low c.args.prepared.now.circuit.words.now c.args.prepared.now.circuit.accepted c.args.prepared.now.params c.args.prepared.now.params_are).0)

pub overflow_add-result-3 : goal.overflow_add-result-3
overflow_add-result-3 c = omega (arith, (columns_low c.args.prepared.now.circuit.words.now c.args.prepared.now.circuit.accepted c.args.prepared.now.params c.args.prepared.now.params_are).0)

pub overflow_mul-result-5 : goal.overflow_mul-result-5
overflow_mul-result-5 c =
    omega (
      arith,
      words_fit c.args.prepared.now.circuit.words.now c.args.prepared.now.circuit.accepted c.args.prepared.now.params c.args.prepared.now.params_are
          (get_or c.args.prepared.now.circuit.words.now 3 0 + c.args.prepared.now.params.num_permutation_polys + c.args.prepared.now.params.num_lookups * 2 + c.args.prepared.now.params.num_groups)
          (omega arith),
    )

pub invariant_of-result : goal.invariant_of-result
invariant_of-result c =
    let p = places_from c.args.prepared.now.circuit.words.now c.args.prepared.now.circuit.accepted c.args.prepared.now.params c.args.prepared.now.params_are in
    let a = hs_asked c.args.prepared.now.circuit.words.now c.args.prepared.now.circuit.accepted c.args.prepared.now.params c.args.prepared.now.params_are _ c.group_sizes-sizes.ensures _ _ p.0 p.1 (column_words (circuit_of c.args.prepared.now.circuit.words.now)) (omega arith) _ p.2 _ refl in
    record { filled = a.0; inputs_before = a.1; counts_before = a.2 }

pub returns : goal.returns
returns c =
    let p = places_from c.args.prepared.now.circuit.words.now c.args.prepared.now.circuit.accepted c.args.prepared.now.params c.args.prepared.now.params_are in
    record { sizes = c.group_sizes-sizes.ensures; compressed = p.0; counts = p.1; hs = p.2; rows = refl }
