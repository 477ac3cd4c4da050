-- The kind that the table has for a word.
use mathlib.Core.Path.{refl}
use mathlib.Core.List.{[], ◌∷◌}
use Rattle.expression.specs.declared.kind.Kind.TheVariants.{Constant, Identity, Lagrange, EqXy, Polynomial, Challenge, Negated, Sum, Product, Scaled, DistributePowers, Item}
use Rattle.expression.proofs.NumberedKinds.{by_table, counted}
use Rattle.expression.proofs.kind.KindTryFromU64.try_from.Goals as goal

pub returns : goal.returns
unfolding counted
returns c =
    by_table
    (Constant ∷ Identity ∷ Lagrange ∷ EqXy ∷ Polynomial ∷ Challenge ∷ Negated ∷ Sum ∷ Product ∷ Scaled ∷ DistributePowers ∷ Item ∷ [])
    Constant c.args.word refl refl c.if-word-lt1.false c.if-word-gt12.false
