-- `told_zero` tells of a denominator by the words that are lent.
use Rattle.std.proofs.Common.{ℕ, List, ap, ◌∙◌}
use Rattle.bh.specs.Rows.{place_of}
use Rattle.cli_search.specs.Zero.{poly_named}
use Rattle.cli_search.proofs.Asked.{zero_lent}
use Rattle.cli_search.proofs.search.Search.told_zero.Goals as goal

pub returns : goal.returns
returns c =
    let a = c.args in
    let s = c.args.self.now in
    record {
      zero = zero_lent s s.columns.now a.of a.at c.requires;
      place = c.place-place.ensures ∙ ap (λ (k : ℕ). place_of k a.at) s.k_is;
      poly = c.poly.ensures ∙ ap (λ (names : List ℕ). poly_named names a.of) s.names_are;
    }
