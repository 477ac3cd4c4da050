-- The words of the columns before m.
use Rattle.std.specs.Prelude.{ℕ, ◌+◌, ◌*◌, List, nat_lt, slice_index}
use Rattle.lists.specs.Lists.{count_of}
use Rattle.expression.specs.declared.poly.Layout.{Layout}

-- "The column buffer holds instance, permutation, compressed input and table per lookup, m, h, z, each 2^k words": the word of
-- column n behind the instance columns, at a row
abbrev pub word_behind : Layout → List ℕ → ℕ → ℕ → ℕ
word_behind l columns n row = slice_index columns ((l.instances + n) * l.rows + row)

-- that of a lookup's compressed input (side 0) or compressed table (side 1), where so many columns are copied
abbrev pub side_word : Layout → ℕ → List ℕ → ℕ → ℕ → ℕ → ℕ
side_word l copied columns side lookup row = word_behind l columns (copied + lookup * 2 + side) row

-- "one group number per lookup, first 0, each next the same or one more"; the group's table is its first lookup's: the first lookup of
-- the group that a lookup is of, before which as many stand as have a lower number
abbrev pub first_of : List ℕ → ℕ → ℕ
first_of groups lookup = count_of (λ g. nat_lt g (slice_index groups lookup)) groups
