use Rattle.expression.specs.declared.kind.Kind.{Kind}
use Rattle.expression.proofs.NumberedKinds.{kind_word}
use Rattle.expression.specs.Nodes.{kind_of}
use Rattle.backend_nodes.proofs.layout.shaped.Goals as goal

pub returns-in-Ok-Constant : goal.returns-in-Ok-Constant
unfolding kind_of
returns-in-Ok-Constant c = rw (kind_word Kind.Constant c.in-Ok-Constant.ensures c.in-Ok-Constant.field-0-is)

pub returns-in-Ok-Identity : goal.returns-in-Ok-Identity
unfolding kind_of
returns-in-Ok-Identity c = rw (kind_word Kind.Identity c.in-Ok-Identity.ensures c.in-Ok-Identity.field-0-is)

pub returns-in-Ok-Lagrange : goal.returns-in-Ok-Lagrange
unfolding kind_of
returns-in-Ok-Lagrange c = rw (kind_word Kind.Lagrange c.in-Ok-Lagrange.ensures c.in-Ok-Lagrange.field-0-is)

pub returns-in-Ok-EqXy : goal.returns-in-Ok-EqXy
unfolding kind_of
returns-in-Ok-EqXy c = rw (kind_word Kind.EqXy c.in-Ok-EqXy.ensures c.in-Ok-EqXy.field-0-is)

pub returns-in-Ok-Polynomial : goal.returns-in-Ok-Polynomial
unfolding kind_of
returns-in-Ok-Polynomial c = rw (kind_word Kind.Polynomial c.in-Ok-Polynomial.ensures c.in-Ok-Polynomial.field-0-is)

pub returns-in-Ok-Challenge : goal.returns-in-Ok-Challenge
unfolding kind_of
returns-in-Ok-Challenge c = rw (kind_word Kind.Challenge c.in-Ok-Challenge.ensures c.in-Ok-Challenge.field-0-is)

pub returns-in-Ok-Negated : goal.returns-in-Ok-Negated
unfolding kind_of
returns-in-Ok-Negated c = rw (kind_word Kind.Negated c.in-Ok-Negated.ensures c.in-Ok-Negated.field-0-is)

pub returns-in-Ok-Sum : goal.returns-in-Ok-Sum
unfolding kind_of
returns-in-Ok-Sum c = rw (kind_word Kind.Sum c.in-Ok-Sum.ensures c.in-Ok-Sum.field-0-is)

pub returns-in-Ok-Product : goal.returns-in-Ok-Product
unfolding kind_of
returns-in-Ok-Product c = rw (kind_word Kind.Product c.in-Ok-Product.ensures c.in-Ok-Product.field-0-is)

pub returns-in-Ok-Scaled : goal.returns-in-Ok-Scaled
unfolding kind_of
returns-in-Ok-Scaled c = rw (kind_word Kind.Scaled c.in-Ok-Scaled.ensures c.in-Ok-Scaled.field-0-is)

pub returns-in-Ok-DistributePowers : goal.returns-in-Ok-DistributePowers
unfolding kind_of
returns-in-Ok-DistributePowers c = rw (kind_word Kind.DistributePowers c.in-Ok-DistributePowers.ensures c.in-Ok-DistributePowers.field-0-is)

pub returns-in-Ok-Item : goal.returns-in-Ok-Item
unfolding kind_of
returns-in-Ok-Item c = rw (kind_word Kind.Item c.in-Ok-Item.ensures c.in-Ok-Item.field-0-is)

pub returns-in-Err : goal.returns-in-Err
returns-in-Err c = rw c.in-Err.ensures
