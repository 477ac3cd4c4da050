-- A part of a buffer that is filled with one word.
use Rattle.std.proofs.Common.{◌≡◌, List, ℕ, ◌+◌, ◌-◌, ◌≤◌, length, take, drop, replicate, arith}
use Rattle.std.proofs.lemmas.Grind.{common_steps}
use Rattle.std.proofs.lemmas.List.{length-replicate}
use borrow.Rule.Slice.PartMut.{put_mid}
use Rattle.lists.specs.Lists.{write_at}

-- what `fill` leaves of the part from `at` on is that buffer with the words written over it
pub part_filled : (d : List ℕ) (at rows word : ℕ) (part : List ℕ) → at + rows ≤ length d
    → part ≡ replicate (length (take (at + rows - at) (drop at d))) word
    → put_mid at (at + rows - at) d part ≡ write_at d at (replicate rows word)
unfolding write_at
part_filled d at rows word part room e =
    let words : part ≡ replicate rows word = grind (arith, common_steps) in
    let long : length {A = ℕ} (replicate rows word) ≡ rows = length-replicate rows word in
    rw words (grind (arith, common_steps))
