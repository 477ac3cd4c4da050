use mathlib.Core.Path.{◌≡◌}
use Prim.Native.Nat.{◌^◌}
use Rattle.bh.specs.Rows.{row_at, place_of}
use Rattle.lists.proofs.Turns.{Turned}
use Rattle.oracle_entry.specs.Entry.{value_word}
use Rattle.oracle_entry.proofs.EveryRow.values.Given as goal

abbrev pub invariant-loop-place : goal.invariant-loop-place
invariant-loop-place l = (l.row ≡ row_at l.self.k l.place)
    × Turned (2 ^ l.self.k) (place_of l.self.k) (value_word l.self.lent.nodes.now l.self.lent.circuit.now l.self.lent.witness.now l.self.lent.columns.now l.self.lent.challenges.now l.self.layout l.self.k l.self.lent.eq.now l.self.n) l.initial.out 0 l.out l.place
