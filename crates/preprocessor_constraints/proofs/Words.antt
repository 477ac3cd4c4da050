-- Where the roots of a lookup's side stand, and a group's constraint with the lookups' own number of beta.
use Prim.Native.Nat.{ℕ, ◌+◌, ◌*◌, ◌≤◌}
use Rattle.preprocessor.proofs.ComposeWords as trees
use Rattle.preprocessor.specs.ComposeWords.{side_tree}
use Rattle.preprocessor.specs.declared.CircuitParams.{CircuitParams}
use Rattle.preprocessor_constraints.specs.Lookups.{word_of, side_of}
use Rattle.preprocessor_constraints.specs.declared.lookup.LookupSide.{LookupSide}
use Rattle.preprocessor_constraints.specs.declared.lookup.LookupSide.TheVariants.{Input, Table}
use Rattle.preprocessor_constraints.specs.declared.lookup.Lookups.{Lookups}
use Rattle.lists.specs.Lists.{total}
use lib.ListN.{get_or, take}
use mathlib.Core.Path.{◌≡◌, sym, ap, ◌∙◌}
use native.Mathlib.Omega.{arith}

pub word_few : (side : LookupSide) → word_of side ≤ 1
word_few Input = omega arith
word_few Table = omega arith

module _ (l : Lookups) (i s w : ℕ) (es : s ≡ total (take i l.widths.now)) (ew : w ≡ get_or l.widths.now i 0) where
  starts : (side : LookupSide) → side_of side l i ≡ side_tree l.user.now l.pairs.now l.beta (s * 2 + word_of side) w
  starts Input =
      let e : s * 2 ≡ s * 2 + 0 = omega arith in
      trees.input_side_is l.user.now l.widths.now l.pairs.now l.beta i s w es ew ∙ ap (λ (n : ℕ). side_tree l.user.now l.pairs.now l.beta n w) e
  starts Table = trees.table_side_is l.user.now l.widths.now l.pairs.now l.beta i s w es ew

  pub side_is : (side : LookupSide) (word : ℕ) → word ≡ word_of side → side_of side l i ≡ side_tree l.user.now l.pairs.now l.beta (s * 2 + word) w
  side_is side word e = rw e (starts side)

-- a circuit's numbers with this number of beta, which is theirs
abbrev pub own : CircuitParams → ℕ → CircuitParams
own v beta = record v { num_challenges = beta }

pub own_is : (v : CircuitParams) (beta : ℕ) → beta ≡ v.num_challenges → v ≡ own v beta
own_is v beta e = ap (own v) (sym e)
