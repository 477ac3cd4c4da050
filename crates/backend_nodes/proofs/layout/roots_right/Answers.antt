use mathlib.Core.Path.{◌∙◌}
use Rattle.std.proofs.Common.{rules, tests}
use Rattle.std.proofs.lemmas.Iterator.{YieldsList-from_slice}
use Rattle.std.proofs.lemmas.Iterator.Search.{all_from_yields_List}
use Rattle.backend.specs.Layout.{is_root}
use Rattle.backend_sections.proofs.words.All.{list_all-is}
use Rattle.backend_nodes.proofs.layout.roots_right.Goals as goal

pub returns : goal.returns
returns c =
    all_from_yields_List (is_root c.args.nodes.now) _ _ _ c.all.ensures.ran (YieldsList-from_slice c.args.roots.now cc) (λ x b q k. search (rules, tests))
    ∙ list_all-is _ _
