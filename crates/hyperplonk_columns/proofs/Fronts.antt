-- Columns at the front of a buffer, one kind behind another.
use mathlib.Core.Path.{◌≡◌, sym, ap, ap₂, ◌∙◌}
use mathlib.Core.List.{List, ◌++◌}
use Prim.Native.Nat.{ℕ, ◌+◌, ◌*◌, ◌<◌}
use native.Mathlib.Nat.{zero-add}
use native.Mathlib.Omega.{arith}
use lib.ListN.{length, get_or, take, drop, replicate, length-append, length-replicate, take-append-drop}
use lib.Seq.{take_at}
use Rattle.field.specs.Field.{𝔾}
use Rattle.lists.specs.Lists.{write_at, write_prefix}
use Rattle.lists.proofs.Lists.{get_left, get_past}
use Rattle.lists.proofs.Over.{write_at_front, write_at_inside, write_at_write_prefix}
use Rattle.prover.specs.Words.{words_of}
use Rattle.prover.proofs.Words.{words_length, words_append}

module _ (rows : ℕ) (d : List ℕ) (ps : List (ℕ → 𝔾.F)) where
  pub over_take : take (length ps * rows) (write_at d 0 (words_of rows ps)) ≡ words_of rows ps
  over_take =
      ap (take (length ps * rows)) (write_at_front d (words_of rows ps))
      ∙ take_at (words_of rows ps) (drop (length (words_of rows ps)) d) (length ps * rows) (words_length rows ps)

  -- a buffer that has them is itself with them written
  pub take_write_at : (n : ℕ) → n ≡ length ps * rows → take n d ≡ words_of rows ps → d ≡ write_at d 0 (words_of rows ps)
  take_write_at n q e =
      sym (take-append-drop n d)
      ∙ ap₂ (λ (x : List ℕ) (m : ℕ). x ++ drop m d) e (q ∙ sym (words_length rows ps))
      ∙ sym (write_at_front d (words_of rows ps))

-- the words of some of the columns
module _ (rows : ℕ) (e d : List ℕ) (ps qs rs all : List (ℕ → 𝔾.F)) (parts : all ≡ (ps ++ qs) ++ rs)
    (front : d ≡ write_at e 0 (words_of rows all)) (at : ℕ) (at-is : at ≡ length ps * rows) where
  pub front_get : (j : ℕ) → j < length qs * rows → get_or d (at + j) 0 ≡ get_or (words_of rows qs) j 0
  front_get j l =
      let wp : List ℕ = words_of rows ps in
      let wq : List ℕ = words_of rows qs in
      let wr : List ℕ = words_of rows rs in
      let whole : words_of rows all ≡ (wp ++ wq) ++ wr =
      ap (words_of rows) parts ∙ words_append rows (ps ++ qs) rs ∙ ap (λ (x : List ℕ). x ++ wr) (words_append rows ps qs) in
      let np : length wp ≡ at = words_length rows ps ∙ sym at-is in
      let nq : length wq ≡ length qs * rows = words_length rows qs in
      let npq : length (wp ++ wq) ≡ length wp + length wq = length-append wp wq in
      let n : length ((wp ++ wq) ++ wr) ≡ length (wp ++ wq) + length wr = length-append (wp ++ wq) wr in
      ap (λ (x : List ℕ). get_or x (at + j) 0) (front ∙ ap (write_at e 0) whole)
      ∙ ap (λ (m : ℕ). get_or (write_at e 0 ((wp ++ wq) ++ wr)) m 0) (sym (zero-add (at + j)))
      ∙ write_at_inside e 0 ((wp ++ wq) ++ wr) (at + j) 0 (omega arith) (omega arith)
      ∙ get_left (wp ++ wq) wr (at + j) 0 (omega arith)
      ∙ get_past wp wq (at + j) j 0 (omega arith)

-- ---- words that become 0

pub cleared : (n : ℕ) (d d' : List ℕ) → drop n d' ≡ drop n d → write_at d' 0 (replicate n 0) ≡ write_prefix (replicate n 0) d
cleared n d d' e =
    let zeros : List ℕ = replicate n 0 in
    let len : length zeros ≡ n = length-replicate n 0 in
    write_at_front d' zeros
    ∙ ap (λ (x : List ℕ). zeros ++ x) (ap (λ (m : ℕ). drop m d') len ∙ e ∙ ap (λ (m : ℕ). drop m d) (sym len))
    ∙ sym (write_at_front d zeros)
    ∙ sym (write_at_write_prefix zeros d)
