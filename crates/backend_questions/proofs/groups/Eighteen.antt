-- Question 18 of circuit words, by the numbers and by the tables of the groups.
use mathlib.Core.Path.{◌≡◌, sym, ap, ◌∙◌}
use mathlib.Core.Bool.{Bool, true, false, ◌&&◌}
use mathlib.Core.List.{List}
use Prim.Native.Nat.{ℕ, ◌/◌}
use native.Mathlib.Nat.{mul-div_cancel}
use native.Mathlib.Omega.{arith}
use Rattle.lists.specs.Lists.{all_of, split, tabulate}
use Rattle.backend.specs.Circuit.{Section, body_of, entries, pair_at, pairs_of, circuit_of, group_sizes, groups_of}
use Rattle.backend.specs.Questions.{group_numbers_good, tables_alike, q18}
use Rattle.backend.specs.Laid.{ContentsValid}
use Rattle.backend.proofs.Sections.{body_length}

module _ (ws ns : List ℕ) (e : ns ≡ body_of ws Section.groups) where
  pub rule_broken : (r : Bool) → r ≡ group_numbers_good ns → r ≡ false → false ≡ q18 (circuit_of ws)
  unfolding q18 circuit_of
  rule_broken r p f =
      sym (ap (λ (t : Bool). t && all_of tables_alike (groups_of (circuit_of ws))) (sym (ap group_numbers_good e) ∙ sym p ∙ f))

  pub rule_kept : (r : Bool) → r ≡ group_numbers_good ns → r ≡ true → group_numbers_good (body_of ws Section.groups) ≡ true
  rule_kept r p t = sym (ap group_numbers_good e) ∙ sym p ∙ t

-- the pairs of the words are those of the circuit
pairs_read : (ws : List ℕ) → ContentsValid ws
    → pairs_of (body_of ws Section.nodes) (body_of ws Section.pairs)
    ≡ tabulate (pair_at (body_of ws Section.nodes) (body_of ws Section.pairs)) (entries ws Section.pairs)
pairs_read ws a =
    ap (tabulate (pair_at (body_of ws Section.nodes) (body_of ws Section.pairs)))
    (ap (λ (n : ℕ). n / 2) (body_length ws a Section.pairs) ∙ mul-div_cancel (entries ws Section.pairs) (omega arith))

pub tables_told : (ws sizes n w p : List ℕ) → ContentsValid ws → group_numbers_good (body_of ws Section.groups) ≡ true
    → sizes ≡ group_sizes (body_of ws Section.groups)
    → n ≡ body_of ws Section.nodes
    → w ≡ body_of ws Section.widths
    → p ≡ body_of ws Section.pairs
    → (r : Bool)
    → r ≡ all_of tables_alike (split sizes (split w (pairs_of n p)))
    → r ≡ q18 (circuit_of ws)
unfolding q18 groups_of circuit_of
tables_told ws sizes n w p a good s x y z r e =
    let m : all_of tables_alike (split sizes (split w (pairs_of n p))) ≡ all_of tables_alike (groups_of (circuit_of ws)) = rw (s, x, y, z, pairs_read ws a) in
    e ∙ m ∙ ap (λ (t : Bool). t && all_of tables_alike (groups_of (circuit_of ws))) (sym good)
