-- The type Kind, by document 01's numbers.
use Rattle.std.specs.Prelude.{◌≡◌, ℕ, Result, MatchResult}
use Rattle.expression.specs.declared.kind.Kind.{Kind}
use Rattle.expression.specs.declared.kind.Kind.TheVariants.{Constant, Identity, Lagrange, EqXy, Polynomial, Challenge, Negated, Sum, Product, Scaled, DistributePowers, Item}
use Rattle.expression.specs.declared.kind.NoKind.{NoKind}
use Rattle.expression.specs.Nodes as def

-- the kind word of a node of this kind
abbrev pub number : Kind → ℕ
number Constant = 1
number Identity = 2
number Lagrange = 3
number EqXy = 4
number Polynomial = 5
number Challenge = 6
number Negated = 7
number Sum = 8
number Product = 9
number Scaled = 10
number DistributePowers = 11
number Item = 12

-- the kind as the node words are read
abbrev pub read_as : Kind → def.Kind
read_as Constant = def.Kind.is_constant
read_as Identity = def.Kind.is_identity
read_as Lagrange = def.Kind.is_lagrange
read_as EqXy = def.Kind.is_eq_xy
read_as Polynomial = def.Kind.is_polynomial
read_as Challenge = def.Kind.is_challenge
read_as Negated = def.Kind.is_negated
read_as Sum = def.Kind.is_sum
read_as Product = def.Kind.is_product
read_as Scaled = def.Kind.is_scaled
read_as DistributePowers = def.Kind.is_powers
read_as Item = def.Kind.is_item

-- the result is the kind that has this word, or no kind has it
abbrev pub KindOf : ℕ → Result Kind NoKind → Type 0
KindOf word r =
    MatchResult r (λ kind. (number kind ≡ word) × (def.kind_of word ≡ read_as kind)) (λ e. def.kind_of word ≡ def.Kind.is_none)
