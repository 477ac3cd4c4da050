-- The word that a kind was read from.
use mathlib.Core.Path.{◌≡◌, refl, sym, ap, ◌∙◌, subst}
use mathlib.Core.Bool.{Bool, true, ◌&&◌}
use mathlib.Core.List.{List, [], ◌∷◌}
use Prim.Native.Nat.{ℕ, zero, suc, ◌+◌, ◌-◌, ◌≤◌, ◌<◌}
use native.Mathlib.Nat.{not-suc-le-zero}
use native.Mathlib.Omega.{arith}
use lib.Dec.{eqb}
use lib.ListN.{get_or, length}
use borrow.Author.Tests.{eqb-true}
use Rattle.lists.proofs.Tests.{and_left, and_right}
use Rattle.std.specs.Prelude.{Result, Err}
use Rattle.expression.specs.declared.kind.Kind.{Kind}
use Rattle.expression.specs.declared.kind.Kind.TheVariants.{Constant, Identity, Lagrange, EqXy, Polynomial, Challenge, Negated, Sum, Product, Scaled, DistributePowers, Item}
use Rattle.expression.specs.declared.kind.NoKind.{NoKind}
use Rattle.expression.specs.Nodes as def
use Rattle.expression.specs.Kinds.{number, read_as, KindOf}

-- of kind `kind`, known to be `known`
pub kind_word : {word : ℕ} {kind : Kind} (known : Kind) → (number kind ≡ word) × (def.kind_of word ≡ read_as kind) → kind ≡ known
    → word ≡ number known
kind_word known e p = sym e.0 ∙ ap number p

-- of none
pub no_kind : (word : ℕ) (r : Result Kind NoKind) {none : NoKind} → KindOf word r → r ≡ Err none → def.kind_of word ≡ def.Kind.is_none
no_kind word r e p = subst (KindOf word) p e

numbered : ℕ → Kind
numbered n =
    get_or
    (Constant ∷ Constant ∷ Identity ∷ Lagrange ∷ EqXy ∷ Polynomial ∷ Challenge ∷ Negated ∷ Sum ∷ Product ∷ Scaled ∷ DistributePowers ∷ Item ∷ [])
    n Constant

numbered_is : (kind : Kind) → numbered (number kind) ≡ kind
unfolding numbered
numbered_is Constant = refl
numbered_is Identity = refl
numbered_is Lagrange = refl
numbered_is EqXy = refl
numbered_is Polynomial = refl
numbered_is Challenge = refl
numbered_is Negated = refl
numbered_is Sum = refl
numbered_is Product = refl
numbered_is Scaled = refl
numbered_is DistributePowers = refl
numbered_is Item = refl

-- of kind `kind`, known not to be `known`
pub not_word : {word : ℕ} {kind : Kind} (known : Kind) → (number kind ≡ word) × (def.kind_of word ≡ read_as kind) → (kind ≡ known → ⊥)
    → word ≡ number known
    → ⊥
not_word {kind = kind} known e h p =
    h (sym (numbered_is kind) ∙ ap numbered (e.0 ∙ p) ∙ numbered_is known)

abbrev IsNone : def.Kind → Type 0
IsNone def.Kind.is_none = Unit {0}
IsNone def.Kind.is_constant = ⊥
IsNone def.Kind.is_identity = ⊥
IsNone def.Kind.is_lagrange = ⊥
IsNone def.Kind.is_eq_xy = ⊥
IsNone def.Kind.is_polynomial = ⊥
IsNone def.Kind.is_challenge = ⊥
IsNone def.Kind.is_negated = ⊥
IsNone def.Kind.is_sum = ⊥
IsNone def.Kind.is_product = ⊥
IsNone def.Kind.is_scaled = ⊥
IsNone def.Kind.is_powers = ⊥
IsNone def.Kind.is_item = ⊥

some_kind : (kind : Kind) → IsNone (def.kind_of (number kind)) → ⊥
unfolding def.kind_of
some_kind Constant h = h
some_kind Identity h = h
some_kind Lagrange h = h
some_kind EqXy h = h
some_kind Polynomial h = h
some_kind Challenge h = h
some_kind Negated h = h
some_kind Sum h = h
some_kind Product h = h
some_kind Scaled h = h
some_kind DistributePowers h = h
some_kind Item h = h

pub none_word : {word : ℕ} → def.kind_of word ≡ def.Kind.is_none → (known : Kind) → word ≡ number known → ⊥
none_word e known p = some_kind known (subst IsNone (sym e ∙ ap def.kind_of p) tt)

-- a kind of expressions
pub expression_word : {word : ℕ} {kind : Kind} → (number kind ≡ word) × (def.kind_of word ≡ read_as kind) → (kind ≡ Item → ⊥)
    → (1 ≤ word) × (word ≤ 11)
expression_word {word = word} {kind = Constant} e h = let w : 1 ≡ word = e.0 in (omega arith, omega arith)
expression_word {word = word} {kind = Identity} e h = let w : 2 ≡ word = e.0 in (omega arith, omega arith)
expression_word {word = word} {kind = Lagrange} e h = let w : 3 ≡ word = e.0 in (omega arith, omega arith)
expression_word {word = word} {kind = EqXy} e h = let w : 4 ≡ word = e.0 in (omega arith, omega arith)
expression_word {word = word} {kind = Polynomial} e h = let w : 5 ≡ word = e.0 in (omega arith, omega arith)
expression_word {word = word} {kind = Challenge} e h = let w : 6 ≡ word = e.0 in (omega arith, omega arith)
expression_word {word = word} {kind = Negated} e h = let w : 7 ≡ word = e.0 in (omega arith, omega arith)
expression_word {word = word} {kind = Sum} e h = let w : 8 ≡ word = e.0 in (omega arith, omega arith)
expression_word {word = word} {kind = Product} e h = let w : 9 ≡ word = e.0 in (omega arith, omega arith)
expression_word {word = word} {kind = Scaled} e h = let w : 10 ≡ word = e.0 in (omega arith, omega arith)
expression_word {word = word} {kind = DistributePowers} e h = let w : 11 ≡ word = e.0 in (omega arith, omega arith)
expression_word {kind = Item} e h = absurd (h refl)

-- ---- a table of kinds

-- the number of each is one more than that of the one before it, and the first is n
unfoldable pub counted : ℕ → List Kind → Bool
counted n [] = true
counted n (kind ∷ kinds) = eqb (number kind) n && counted (suc n) kinds

counted_at : (kinds : List Kind) (n i : ℕ) (other : Kind) → counted n kinds ≡ true → i < length kinds → number (get_or kinds i other) ≡ i + n
unfolding counted
counted_at [] n i other e l = absurd (not-suc-le-zero l)
counted_at (kind ∷ kinds) n zero other e l =
    let first = eqb-true (number kind) n (and_left (eqb (number kind) n) (counted (suc n) kinds) e) in
    omega (arith, first)
counted_at (kind ∷ kinds) n (suc i) other e l =
    let rest = counted_at kinds (suc n) i other (and_right (eqb (number kind) n) (counted (suc n) kinds) e) (omega arith) in
    omega (arith, rest)

kind_read : (kind : Kind) → def.kind_of (number kind) ≡ read_as kind
unfolding def.kind_of
kind_read Constant = refl
kind_read Identity = refl
kind_read Lagrange = refl
kind_read EqXy = refl
kind_read Polynomial = refl
kind_read Challenge = refl
kind_read Negated = refl
kind_read Sum = refl
kind_read Product = refl
kind_read Scaled = refl
kind_read DistributePowers = refl
kind_read Item = refl

-- where all kinds stand in it, a word's kind stands one place before the word
pub by_table : (kinds : List Kind) (other : Kind) (word : ℕ) → counted 1 kinds ≡ true → length kinds ≡ 12 → 1 ≤ word → word ≤ 12
    → (number (get_or kinds (word - 1) other) ≡ word) × (def.kind_of word ≡ read_as (get_or kinds (word - 1) other))
by_table kinds other word e len low high =
    let at = counted_at kinds 1 (word - 1) other e (omega (arith, len)) in
    let is : number (get_or kinds (word - 1) other) ≡ word = omega (arith, at) in
    (is, sym (ap def.kind_of is) ∙ kind_read (get_or kinds (word - 1) other))
