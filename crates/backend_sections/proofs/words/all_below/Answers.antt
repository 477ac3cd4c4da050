use mathlib.Core.Path.{◌∙◌}
use lib.Dec.{ltb}
use Rattle.std.proofs.Common.{rules, tests}
use Rattle.std.proofs.lemmas.Iterator.Search.{all_from_yields_List}
use Rattle.std.proofs.lemmas.Iterator.{YieldsList-from_slice}
use Rattle.backend_sections.proofs.words.All.{list_all-is}
use Rattle.backend_sections.proofs.words.all_below.Goals as goal

pub returns : goal.returns
returns c =
    all_from_yields_List (λ w. ltb w c.args.limit) _ _ _ c.all.ensures.ran (YieldsList-from_slice c.args.words.now cc) (λ x b q k. search (rules, tests))
    ∙ list_all-is _ _
