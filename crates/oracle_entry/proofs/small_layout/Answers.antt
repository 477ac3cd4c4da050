-- `small_layout` meets its contract.
use mathlib.Core.Path.{ap}
use mathlib.Core.Bool.{Bool, ◌&&◌}
use lib.Dec.{eqb}
use lib.ListN.{length}
use Rattle.oracle_entry.proofs.small_layout.Goals as goal

pub returns : goal.returns
returns c = ap (λ (t : Bool). eqb (length c.args.words.now) 7 && t) c.all_below.ensures
