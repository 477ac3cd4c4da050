-- The cycle that a list of cell records is.
use Rattle.std.specs.Prelude.{List, map}
use Rattle.backend.specs.Circuit as circuit
use Rattle.preprocessor_permutation.specs.declared.records.Cell.{Cell}

abbrev pub cell_of : Cell → circuit.Cell
cell_of x = record { polynomial = x.polynomial; row = x.row }

abbrev pub cycle_of : List Cell → List circuit.Cell
cycle_of xs = map cell_of xs
