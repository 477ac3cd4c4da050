-- `group_sizes` meets its contract.
use mathlib.Core.Path.{◌∙◌}
use Rattle.hyperplonk_prepare.proofs.Computed.{numbers_good_is, groups_from, sizes_from}
use Rattle.hyperplonk_prepare.proofs.circuit.AcceptedCircuit.group_sizes.Goals as goal

pub group_sizes-requires : goal.group_sizes-requires
group_sizes-requires c = numbers_good_is c.args.self.now.words.now c.args.self.now.accepted _ (rw (c.laid.ensures, c.circuit.ensures) at c.groups-numbers.ensures)

pub returns-clause-sizes : goal.returns-clause-sizes
returns-clause-sizes c =
    c.group_sizes.ensures.sizes ∙ sizes_from c.args.self.now.words.now c.args.self.now.accepted _ (rw (c.laid.ensures, c.circuit.ensures) at c.groups-numbers.ensures)

pub returns-clause-count : goal.returns-clause-count
returns-clause-count c =
    c.group_sizes.ensures.count ∙ groups_from c.args.self.now.words.now c.args.self.now.accepted _ (rw (c.laid.ensures, c.circuit.ensures) at c.groups-numbers.ensures)
