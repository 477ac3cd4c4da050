-- Places and rows as a change of order, and the columns that are read while a buffer is written.
use mathlib.Core.Path.{◌≡◌, ap, ◌∙◌}
use Prim.Native.Nat.{ℕ, ◌+◌, ◌-◌, ◌*◌, ◌^◌, ◌≤◌, ◌<◌}
use mathlib.Core.List.{List}
use native.Mathlib.Omega.{arith}
use lib.ListN.{get_or, take, drop}
use lib.Seq.{get_or-take}
use Rattle.bh.specs.Rows.{row_at, place_of}
use Rattle.bh.proofs.Order.{row_lt}
use Rattle.bh.proofs.Place.{row_place, place_row, place_lt}
use Rattle.lists.proofs.Turns.{Turns}

pub row_turns : (k : ℕ) → 0 < k → k < 21 → Turns (2 ^ k) (place_of k) (row_at k)
row_turns k hk lk =
    record {
      inside = λ t l. row_lt k hk lk t;
      within = λ r l. place_lt k hk lk r l;
      back = λ t l. place_row k hk lk t l;
      forth = λ r l. row_place k hk lk r l;
    }

-- the columns that are read are there
pub read_there : (n rows k to words size now : ℕ) → rows ≡ 2 ^ k → n * 2 ^ k ≤ to → to + words ≤ size → now ≡ size → n * rows ≤ now
read_there n rows k to words size now e h r q = rw e (omega arith)

-- and their words are those of a buffer that has the same before `to`
pub read_word : (m d : List ℕ) (n rows k to j : ℕ) → rows ≡ 2 ^ k → n * 2 ^ k ≤ to → ((i : ℕ) → i < to → get_or m i 0 ≡ get_or d i 0)
    → j < n * 2 ^ k
    → get_or (take (n * rows - 0) (drop 0 m)) j 0 ≡ get_or d j 0
read_word m d n rows k to j e h same l =
    let w : n * rows ≡ n * 2 ^ k = ap (λ (x : ℕ). n * x) e in
    get_or-take (n * rows - 0) m j 0 (omega arith) ∙ same j (omega arith)
