-- Columns as words, one after another.
use mathlib.Core.Path.{◌≡◌, refl, sym, ap, ap₂, ◌∙◌}
use mathlib.Core.List.{List, [], ◌∷◌, ◌++◌, map, map-append, append-nil}
use Prim.Native.Nat.{ℕ, zero, suc, ◌+◌, ◌*◌, ◌≤◌, ◌<◌}
use native.Mathlib.Nat.{not-suc-le-zero, suc-mul, zero-mul, add_comm}
use native.Mathlib.Omega.{arith}
use lib.ListN.{length, get_or, length-append}
use Rattle.field.specs.Prime.{P}
use Rattle.field.specs.Field.{𝔾, val, val_lt}
use Rattle.lists.specs.Lists.{tabulate, concat, write_at, All}
use Rattle.lists.proofs.All.{all_join, all_tabulate}
use Rattle.lists.proofs.Columns.{tabulate_length, get_tabulate}
use Rattle.lists.proofs.Lists.{get_left, get_past, concat_append}
use Rattle.lists.proofs.Over.{write_at_write_at}
use Rattle.expression.specs.Value.{poly_of}
use Rattle.prover.specs.Words.{words_of}

pub words_none : (rows : ℕ) → words_of rows [] ≡ []
unfolding words_of concat
words_none rows = refl

-- columns behind columns
pub words_append : (rows : ℕ) (ps qs : List (ℕ → 𝔾.F)) → words_of rows (ps ++ qs) ≡ words_of rows ps ++ words_of rows qs
unfolding words_of
words_append rows ps qs =
    ap concat (map-append (λ (p : ℕ → 𝔾.F). tabulate (λ b. val (p b)) rows) ps qs)
    ∙ concat_append (map (λ p. tabulate (λ b. val (p b)) rows) ps) (map (λ p. tabulate (λ b. val (p b)) rows) qs)

pub words_end : (rows : ℕ) (ps : List (ℕ → 𝔾.F)) (p : ℕ → 𝔾.F)
    → words_of rows (ps ++ (p ∷ [])) ≡ words_of rows ps ++ tabulate (λ b. val (p b)) rows
unfolding words_of concat
words_end rows ps p =
    words_append rows ps (p ∷ []) ∙ ap (λ (l : List ℕ). words_of rows ps ++ l) (append-nil (tabulate (λ b. val (p b)) rows))

pub words_length : (rows : ℕ) (ps : List (ℕ → 𝔾.F)) → length (words_of rows ps) ≡ length ps * rows
unfolding words_of concat
words_length rows [] = sym (zero-mul rows)
words_length rows (p ∷ ps) =
    length-append (tabulate (λ b. val (p b)) rows) (words_of rows ps)
    ∙ ap₂ ◌+◌ (tabulate_length (λ b. val (p b)) rows) (words_length rows ps)
    ∙ add_comm rows (length ps * rows)
    ∙ sym (suc-mul (length ps) rows)

-- word b of column q
pub words_get : (rows : ℕ) (ps : List (ℕ → 𝔾.F)) (q b : ℕ) → q < length ps → b < rows
    → get_or (words_of rows ps) (q * rows + b) 0 ≡ val (poly_of 𝔾 ps q b)
unfolding words_of concat
words_get rows [] q b l m = absurd (not-suc-le-zero l)
words_get rows (p ∷ ps) zero b l m =
    let f : ℕ → ℕ = λ b. val (p b) in
    let e = tabulate_length f rows in
    ap (λ (n : ℕ). get_or (tabulate f rows ++ words_of rows ps) n 0) (let z = zero-mul rows in omega arith)
    ∙ get_left (tabulate f rows) (words_of rows ps) b 0 (omega arith)
    ∙ get_tabulate f rows b 0 m
words_get rows (p ∷ ps) (suc q) b l m =
    let f : ℕ → ℕ = λ b. val (p b) in
    get_past (tabulate f rows) (words_of rows ps) (suc q * rows + b) (q * rows + b) 0
    (let e = tabulate_length f rows in let w = suc-mul q rows in omega arith)
    ∙ words_get rows ps q b (omega arith) m

-- each is below p
pub words_small : (rows : ℕ) (ps : List (ℕ → 𝔾.F)) → All (λ w. w < P) (words_of rows ps)
unfolding words_of concat
words_small rows [] = tt
words_small rows (p ∷ ps) =
    all_join (λ w. w < P) (tabulate (λ b. val (p b)) rows) (words_of rows ps)
    (all_tabulate (λ w. w < P) (λ b. val (p b)) rows (λ b l. val_lt (p b)))
    (words_small rows ps)

-- one column behind those that stand at the front of a buffer
pub words_more : (rows : ℕ) (d : List ℕ) (ps : List (ℕ → 𝔾.F)) (p : ℕ → 𝔾.F) (at : ℕ) → at ≡ length ps * rows → at ≤ length d
    → write_at (write_at d 0 (words_of rows ps)) at (tabulate (λ b. val (p b)) rows) ≡ write_at d 0 (words_of rows (ps ++ (p ∷ [])))
words_more rows d ps p at e h =
    let n : at ≡ 0 + length (words_of rows ps) = omega (arith, e, words_length rows ps) in
    ap (λ (m : ℕ). write_at (write_at d 0 (words_of rows ps)) m (tabulate (λ b. val (p b)) rows)) n
    ∙ write_at_write_at d 0 (words_of rows ps) (tabulate (λ b. val (p b)) rows) (omega arith)
    ∙ ap (write_at d 0) (sym (words_end rows ps p))

-- columns behind columns in a buffer
pub over_columns : (rows : ℕ) (d : List ℕ) (at : ℕ) (ps qs : List (ℕ → 𝔾.F)) (to : ℕ) → to ≡ at + length ps * rows → to ≤ length d
    → write_at (write_at d at (words_of rows ps)) to (words_of rows qs) ≡ write_at d at (words_of rows (ps ++ qs))
over_columns rows d at ps qs to e h =
    let n : to ≡ at + length (words_of rows ps) = omega (arith, words_length rows ps) in
    ap (λ (m : ℕ). write_at (write_at d at (words_of rows ps)) m (words_of rows qs)) n
    ∙ write_at_write_at d at (words_of rows ps) (words_of rows qs) (omega arith)
    ∙ ap (write_at d at) (sym (words_append rows ps qs))
