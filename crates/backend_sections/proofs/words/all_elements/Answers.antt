use mathlib.Core.Path.{◌∙◌}
use lib.Dec.{ltb}
use Rattle.std.proofs.Common.{rules, tests}
use Rattle.std.proofs.lemmas.Iterator.Search.{all_from_yields_List}
use Rattle.std.proofs.lemmas.Iterator.{YieldsList-from_slice}
use Rattle.field.specs.Prime.{P}
use Rattle.backend_sections.proofs.words.All.{list_all-is}
use Rattle.backend_sections.proofs.words.Elements.{words_number}
use Rattle.backend_sections.proofs.words.all_elements.Goals as goal

pub returns : goal.returns
returns c =
    let p = words_number c.args.words.now _
    (all_from_yields_List (λ w. ltb w P) _ _ _ c.all.ensures.ran (YieldsList-from_slice c.args.words.now cc) (λ x b q k. search (rules, tests))
    ∙ list_all-is _ _) in
    record { below = p.0; number = p.1 }
