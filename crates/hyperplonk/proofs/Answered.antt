-- What the entry points leave in the answer.
use mathlib.Core.Path.{◌≡◌, sym, ap, ◌∙◌}
use mathlib.Core.Bool.{Bool, cond}
use mathlib.Core.List.{List, [], ◌∷◌}
use Prim.Native.Nat.{ℕ, ◌≤◌, ◌<◌}
use lib.ListN.{length}
use borrow.Author.Tests.{le-leb, lt-leb}
use Rattle.lists.specs.Lists.{write_prefix}
use Rattle.hyperplonk_spec.specs.Build.{Output}
use Rattle.hyperplonk_spec.specs.Entries.{BuildEntry, Entry, answered, build_entry, sum_entry, sizes_entry}
use Rattle.hyperplonk_spec.specs.declared.Built.{Built}
use Rattle.hyperplonk_spec.specs.declared.RowSum.{RowSum}
use Rattle.hyperplonk_spec.specs.declared.Sizes.{Sizes}

-- a buffer that is too short
pub kept : (ws d : List ℕ) → length d < length ws → d ≡ answered ws d
unfolding answered
kept ws d h = sym (ap (λ (t : Bool). cond t (write_prefix ws d) d) (lt-leb (length ws) (length d) h))

pub room : (ws d : List ℕ) → length ws ≤ length d → write_prefix ws d ≡ answered ws d
unfolding answered
room ws d h = sym (ap (λ (t : Bool). cond t (write_prefix ws d) d) (le-leb (length ws) (length d) h))

pub entry_built : (o : Output) (r : Built) (columns nodes answer after : List ℕ)
    → ◌≡◌ {A = Output} (record { answer = r; columns = columns; nodes = nodes }) o
    → after ≡ answered (r.column_words ∷ r.nodes ∷ r.z_columns ∷ []) answer
    → ◌≡◌ {A = BuildEntry} (record { number = r.number; columns = columns; nodes = nodes; answer = after }) (build_entry o answer)
unfolding build_entry
entry_built o r columns nodes answer after e h =
    ap (λ (x : List ℕ). record { number = r.number; columns = columns; nodes = nodes; answer = x }) h
    ∙ ap (λ (p : Output). build_entry p answer) e

pub entry_summed : (s r : RowSum) (answer after : List ℕ) → r ≡ s → after ≡ answered (r.sum ∷ []) answer
    → ◌≡◌ {A = Entry} (record { number = r.number; answer = after }) (sum_entry s answer)
unfolding sum_entry
entry_summed s r answer after e h =
    ap (λ (x : List ℕ). record { number = r.number; answer = x }) h ∙ ap (λ (p : RowSum). sum_entry p answer) e

pub entry_told : (s r : Sizes) (answer after : List ℕ) → r ≡ s → after ≡ answered (r.column_words ∷ r.nodes ∷ r.visits ∷ []) answer
    → ◌≡◌ {A = Entry} (record { number = r.number; answer = after }) (sizes_entry s answer)
unfolding sizes_entry
entry_told s r answer after e h =
    ap (λ (x : List ℕ). record { number = r.number; answer = x }) h ∙ ap (λ (p : Sizes). sizes_entry p answer) e
