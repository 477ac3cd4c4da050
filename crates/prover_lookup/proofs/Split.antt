-- A buffer split before the word m: what stands in the first part, `given`, and a column written into the second.
use mathlib.Core.Path.{◌≡◌, ap, ap₂, ◌∙◌}
use mathlib.Core.List.{List, ◌++◌}
use Prim.Native.Nat.{ℕ, ◌+◌, ◌-◌, ◌≤◌, ◌<◌}
use native.Mathlib.Omega.{arith}
use lib.ListN.{length, get_or, take, drop, length-drop}
use lib.Seq.{length-take-le, get_or-take, get_or-drop, drop-drop}
use Rattle.lists.specs.Lists.{write_at}
use Rattle.lists.proofs.Over.{write_at_front}

module _ (d given : List ℕ) (m : ℕ) (room : m ≤ length d) (front : given ≡ take m d) where
  given_length : length given ≡ m
  given_length = ap length front ∙ length-take-le m d room

  -- the first part from word k on
  abbrev pub part : ℕ → List ℕ
  part k = take (length given - k) (drop k given)

  pub part_length : (k : ℕ) → k ≤ m → length (part k) ≡ m - k
  part_length k l =
      let g = given_length in
      length-take-le (length given - k) (drop k given) (let e = length-drop k given in omega arith) ∙ ap (λ (n : ℕ). n - k) g

  pub part_word : (k b : ℕ) → k + b < m → get_or (part k) b 0 ≡ get_or d (k + b) 0
  part_word k b l =
      get_or-take (length given - k) (drop k given) b 0 (let g = given_length in omega arith)
      ∙ get_or-drop k given b 0
      ∙ ap (λ (x : List ℕ). get_or x (k + b) 0) front
      ∙ get_or-take m d (k + b) 0 l

  -- a column at the front of the second part
  pub rest_written : (e s : List ℕ) → e ≡ write_at (drop m d) 0 s → given ++ e ≡ write_at d m s
  unfolding write_at
  rest_written e s put =
      ap₂ ◌++◌ front (put ∙ write_at_front (drop m d) s ∙ ap (λ (x : List ℕ). s ++ x) (drop-drop (length s) m d))
