-- Questions 7 and 8 over node words and roots.
use Rattle.std.specs.Prelude.{Bool, true, false, cond, not, ◌&&◌, ◌||◌, List, [], ◌∷◌, ◌++◌, map, ℕ, ◌/◌, ◌^◌, length, nat_abs, eqb, leb, ltb}
use Rattle.std.specs.Bool.{beq}
use Rattle.lists.specs.Lists.{range, tabulate, all_of, count_of, concat}
use Rattle.expression.specs.Nodes.{word_of, Kind, kind_of, decode_signed}

-- "nodes (4 words)"
abbrev pub node_count : List ℕ → ℕ
node_count nodes = length nodes / 4

abbrev pub nodes_hold : List ℕ → (ℕ → Bool) → Bool
nodes_hold nodes p = all_of p (range (node_count nodes))

-- is node n of this kind?
abbrev pub kind_is : List ℕ → ℕ → ℕ → Bool
kind_is nodes kind n = eqb (word_of nodes n 0) kind

-- the nodes that a node names, and whether as an Item
pub record Name : Type 0 where
  pub node : ℕ
  pub item : Bool

abbrev pub plain : ℕ → Name
plain n = record { node = n; item = false }

abbrev pub as_item : ℕ → Name
as_item n = record { node = n; item = true }

abbrev pub named : Kind → ℕ → ℕ → ℕ → List Name
named Kind.is_constant a b v = []
named Kind.is_identity a b v = []
named Kind.is_lagrange a b v = []
named Kind.is_eq_xy a b v = []
named Kind.is_polynomial a b v = []
named Kind.is_challenge a b v = []
named Kind.is_negated a b v = plain a ∷ []
named Kind.is_sum a b v = plain a ∷ plain b ∷ []
named Kind.is_product a b v = plain a ∷ plain b ∷ []
named Kind.is_scaled a b v = plain a ∷ []
named Kind.is_powers a b v = plain a ∷ as_item b ∷ []
named Kind.is_item a b v = plain a ∷ cond (eqb v 0) [] (as_item b ∷ [])
named Kind.is_none a b v = []

-- "an unused word is 0"; a signed number has 32 bits; an Item's value is 1, or 0 with second 0; no other kinds
abbrev pub shaped : Kind → ℕ → ℕ → ℕ → Bool
shaped Kind.is_constant a b v = eqb a 0 && eqb b 0
shaped Kind.is_identity a b v = eqb a 0 && eqb b 0 && eqb v 0
shaped Kind.is_lagrange a b v = eqb a 0 && eqb b 0 && ltb v (2 ^ 32)
shaped Kind.is_eq_xy a b v = eqb a 0 && eqb b 0
shaped Kind.is_polynomial a b v = eqb b 0 && ltb v (2 ^ 32)
shaped Kind.is_challenge a b v = eqb b 0 && eqb v 0
shaped Kind.is_negated a b v = eqb b 0 && eqb v 0
shaped Kind.is_sum a b v = eqb v 0
shaped Kind.is_product a b v = eqb v 0
shaped Kind.is_scaled a b v = eqb b 0
shaped Kind.is_powers a b v = eqb v 0
shaped Kind.is_item a b v = eqb v 1 || (eqb v 0 && eqb b 0)
shaped Kind.is_none a b v = false

-- what a node's four words are tested for, by its kind
abbrev pub by_words : {A : Type 0} → (Kind → ℕ → ℕ → ℕ → A) → List ℕ → ℕ → A
by_words f nodes n = f (kind_of (word_of nodes n 0)) (word_of nodes n 1) (word_of nodes n 2) (word_of nodes n 3)

-- a name is right below m: lower than m, and an Item exactly where it is named as one
abbrev pub right : List ℕ → ℕ → Name → Bool
right nodes m x = ltb x.node m && beq (kind_is nodes 12 x.node) x.item

-- "kind 11 has two Items or more": its first Item is not the last
abbrev pub long_enough : List ℕ → ℕ → Bool
long_enough nodes n = not (kind_is nodes 11 n) || eqb (word_of nodes (word_of nodes n 2) 3) 1

-- each of the right shape, naming "lower nodes only"
abbrev pub in_place : List ℕ → ℕ → Bool
in_place nodes n = by_words shaped nodes n && long_enough nodes n && all_of (right nodes n) (by_words named nodes n)

-- all names, the nodes' and the roots'
unfoldable pub names : List ℕ → List ℕ → List Name
names nodes roots = concat (tabulate (by_words named nodes) (node_count nodes)) ++ map plain roots

-- is it node n that is named?
abbrev pub is_name : ℕ → Name → Bool
is_name n x = eqb x.node n

-- "a root is the number of a node that is no Item"
abbrev pub is_root : List ℕ → ℕ → Bool
is_root nodes r = right nodes (node_count nodes) (plain r)

-- "each is named exactly once, by a node or as a root"
abbrev pub once : List ℕ → List ℕ → ℕ → Bool
once nodes roots n = eqb (count_of (is_name n) (names nodes roots)) 1

-- "Are the nodes as laid out above?"
unfoldable pub laid_out : List ℕ → List ℕ → Bool
laid_out nodes roots =
    nodes_hold nodes (in_place nodes) && all_of (is_root nodes) roots && nodes_hold nodes (once nodes roots)

-- a polynomial or challenge number in range, a rotation from −k to k, and no EqXY
abbrev pub in_range : ℕ → ℕ → ℕ → Kind → ℕ → ℕ → ℕ → Bool
in_range polys user k Kind.is_constant a b v = true
in_range polys user k Kind.is_identity a b v = true
in_range polys user k Kind.is_lagrange a b v = true
in_range polys user k Kind.is_eq_xy a b v = false
in_range polys user k Kind.is_polynomial a b v = ltb a polys && leb (nat_abs (decode_signed v)) k
in_range polys user k Kind.is_challenge a b v = ltb a user
in_range polys user k Kind.is_negated a b v = true
in_range polys user k Kind.is_sum a b v = true
in_range polys user k Kind.is_product a b v = true
in_range polys user k Kind.is_scaled a b v = true
in_range polys user k Kind.is_powers a b v = true
in_range polys user k Kind.is_item a b v = true
in_range polys user k Kind.is_none a b v = true

-- "Is every polynomial and user challenge number in range, every rotation from −k to k, and kind 4 absent?"
unfoldable pub nodes_in_range : ℕ → ℕ → ℕ → List ℕ → Bool
nodes_in_range polys user k nodes = nodes_hold nodes (by_words (in_range polys user k) nodes)
