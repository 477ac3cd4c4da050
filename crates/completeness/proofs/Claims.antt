-- All claims, proved.
use Rattle.expression.proofs.Visits as Visits
use Rattle.hyperplonk_spec.proofs.ReadsBack as ReadsBack
use Rattle.hyperplonk_spec.proofs.ConstraintZero as ConstraintZero
use Rattle.hyperplonk_spec.proofs.Powers as Powers
use Rattle.hyperplonk_prepare.proofs.Bound as Bound
use Rattle.hyperplonk_prepare.proofs.Foretold as Foretold
use Rattle.completeness.specs.Claims.{Claims}
use Rattle.completeness.proofs.Counts as Counts
use Rattle.completeness.proofs.Groups as Groups
use Rattle.completeness.proofs.Denominators as Denominators
use Rattle.completeness.proofs.Cuts as Cuts
use Rattle.completeness.proofs.Degrees as Degrees
use Rattle.completeness.proofs.ReadColumns as ReadColumns
use Rattle.completeness.proofs.WellFormed as WellFormed
use Rattle.completeness.proofs.DemandThreeOf as DemandThreeOf
use Rattle.completeness.proofs.DemandThree as DemandThree
use Rattle.completeness.proofs.Habock as Habock
use Rattle.completeness.proofs.Plonk as Plonk
use Rattle.completeness.proofs.Permuted as Permuted
use Rattle.completeness.proofs.Copies as Copies
use Rattle.completeness.proofs.PaperZ as PaperZ
use Rattle.completeness.proofs.MustClose as MustClose
use Rattle.completeness.proofs.GoodLog as GoodLog
use Rattle.completeness.proofs.RowListedTwice as RowListedTwice
use Rattle.completeness.proofs.RunningProduct as RunningProduct
use Rattle.completeness.proofs.Odds as Odds
use Rattle.completeness.proofs.FewTurnedAway as FewTurnedAway

pub claims : Claims
claims =
    record {
      demand_three_of = DemandThreeOf.demand_three_of;
      demand_three = DemandThree.demand_three;
      refused_when = Counts.refused_when;
      zero_denominator_when = Denominators.zero_denominator_when;
      row_sum_zero = DemandThree.row_sum_zero;
      readings_covered = GoodLog.readings_covered;
      good_log = GoodLog.good_log;
      few_turned_away = FewTurnedAway.few_turned_away;
      odds_of = Odds.odds_of;
      odds = FewTurnedAway.odds;
      odds_limit = FewTurnedAway.odds_limit;
      row_listed_twice = RowListedTwice.row_listed_twice;
      zero_when = GoodLog.zero_when;
      eighteen_when = Groups.eighteen_when;
      groups_by_number = Groups.groups_by_number;
      tables_agree = Groups.tables_agree;
      group_of_one = Groups.group_of_one;
      reads_back = ReadsBack.reads_back;
      lookup_zero = ConstraintZero.lookup_zero;
      start_zero = ConstraintZero.start_zero;
      part_zero = ConstraintZero.part_zero;
      compose_value = Powers.compose_value;
      reads = λ 𝓕 g α y ad. ReadColumns.reads 𝓕 g ad α y;
      user_value = λ 𝓕 g ad α y e h b. ReadColumns.user_value 𝓕 g ad α y e h b;
      parts_of_z = Cuts.parts_of_z;
      parts_alike = Cuts.parts_alike;
      part_degree = Degrees.part_degree;
      composed_degree = Degrees.composed_degree;
      compose_degree = Degrees.compose_degree;
      passed_is_well_formed = WellFormed.passed_is_well_formed;
      foretells = Foretold.foretells;
      circuit_forest = Bound.circuit_forest;
      visited_value = λ T o e. Visits.visited_value o e;
      visits_same = λ T o e. Visits.visits_same o e;
      visits_written = Visits.visits_written;
      counts_turn = Habock.counts_turn;
      same_totals = Habock.same_totals;
      is_habock_h = Habock.is_habock_h;
      only_habock_h = Habock.only_habock_h;
      habock_identity = Habock.habock_identity;
      habock_sum = Habock.habock_sum;
      totals_decide = Habock.totals_decide;
      shared_identity = Habock.shared_identity;
      is_plonk_z = Plonk.is_plonk_z;
      running_product = RunningProduct.running_product;
      permutes = Permuted.permutes;
      labels = Permuted.labels;
      labels_differ_where = Permuted.labels_differ_where;
      labels_differ_at_𝔾 = Permuted.labels_differ_at_𝔾;
      are_factors = Copies.are_factors;
      is_paper_z = PaperZ.is_paper_z;
      keeps = Copies.keeps;
      balances = Copies.balances;
      whole_product = Copies.whole_product;
      closes_when = Copies.closes_when;
      closes = Copies.closes;
      any_z = MustClose.any_z;
      must_close = MustClose.must_close;
    }
