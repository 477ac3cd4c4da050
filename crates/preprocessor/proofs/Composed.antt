-- The trees over words are those of the circuit that the words are decoded to. Proved.
use mathlib.Core.Path.{◌≡◌, refl, ap, ◌∙◌, subst}
use mathlib.Core.List.{List, map}
use Prim.Native.Nat.{ℕ, ◌+◌, ◌-◌, ◌*◌, ◌/◌, ◌≤◌}
use native.Mathlib.Omega.{arith}
use lib.ListN.{length, take, drop}
use Rattle.lists.specs.Lists.{tabulate, split, range, ceil_div, write_at}
use Rattle.lists.proofs.Columns.{below_length}
use Rattle.lists.proofs.Totals.{cut_length}
use Rattle.lists.proofs.Window.{write_window_write_at, write_window_part}
use Rattle.expression.specs.Expr.{Expr}
use Rattle.expression.specs.Nodes.{expr_of}
use Rattle.expression.specs.Written.{ExprWritten}
use Rattle.expression.proofs.FlatLength.{flat_length}
use Rattle.backend.specs.Circuit.{Circuit, Pair, Section, circuit_of, body_of, entries, pair_at, copied, num_copied, group_sizes, groups_of}
use Rattle.backend.specs.Constraints.{max_degree}
use Rattle.preprocessor.specs.Compose.{
  num_z,
  constraint_cut,
  composed_constraints,
  compose,
  composed_words,
  composed_nodes,
  params_of,
  constraint_trees,
  compose_tree,
}
use Rattle.preprocessor.specs.ComposeWords.{lookups_of, groups_from_words, constraints_from_words, DecodedFrom, Composed}
use Rattle.preprocessor.specs.declared.CircuitParams.{CircuitParams}

-- "the constraints cut by D − 1" have N parts
pub constraint_parts : (c : Circuit) → length (constraint_cut c) ≡ num_z c
unfolding params_of num_z
constraint_parts c =
    cut_length (max_degree c - 1) (range (num_copied c))
    ∙ ap (λ (n : ℕ). ceil_div n (max_degree c - 1)) (below_length (num_copied c))

module _ {c : Circuit} {v : CircuitParams} {names nodes roots sizes widths pairs : List ℕ} where
  pub decoded_constraints : DecodedFrom c v names nodes roots sizes widths pairs → constraints_from_words v names nodes roots sizes widths pairs ≡ composed_constraints c
  decoded_constraints p =
      ap (λ (u : CircuitParams). constraint_trees u names (map (expr_of nodes) roots) (groups_from_words nodes sizes widths pairs)) p.params_are
      ∙ ap (λ (ns : List ℕ). constraint_trees (params_of c) ns (map (expr_of nodes) roots) (groups_from_words nodes sizes widths pairs)) p.copied_are
      ∙ ap (λ (es : List Expr). constraint_trees (params_of c) (copied c) es (groups_from_words nodes sizes widths pairs)) p.constraints_are
      ∙ ap (λ (gs : List (List (List Pair))). constraint_trees (params_of c) (copied c) c.constraints gs) p.groups_are

  pub composed_is : DecodedFrom c v names nodes roots sizes widths pairs → compose_tree v (constraints_from_words v names nodes roots sizes widths pairs) ≡ compose c
  composed_is p =
      ap (compose_tree v) (decoded_constraints p) ∙ ap (λ (u : CircuitParams). compose_tree u (composed_constraints c)) p.params_are

  pub composed_written : {from : ℕ} {d d1 : List ℕ} {next : ℕ} → DecodedFrom c v names nodes roots sizes widths pairs
      → ExprWritten from (compose_tree v (constraints_from_words v names nodes roots sizes widths pairs)) 0 d d1 next
      → Composed from c d d1 next
  unfolding composed_nodes composed_words
  composed_written {from} {d} {d1} {next} p w =
      let u : ExprWritten from (compose c) 0 d d1 next = subst (λ (e : Expr). ExprWritten from e 0 d d1 next) (composed_is p) w in
      record { number = omega (arith, u.number); buffer = u.buffer }

-- the composed words are four a node
pub composed_length : (c : Circuit) → length (composed_words c) ≡ composed_nodes c * 4
unfolding composed_nodes composed_words
composed_length c = flat_length (compose c) 0

-- a buffer that has room for all, from the first word on
pub composed_over : {c : Circuit} {d d1 : List ℕ} {next : ℕ} → composed_nodes c * 4 ≤ length d → Composed 0 c d d1 next
    → d1 ≡ write_at d 0 (composed_words c)
composed_over {c} {d} h w = w.buffer ∙ write_window_write_at 0 d 0 (composed_words c) refl (omega (arith, composed_length c))

-- the words of one run of them
pub composed_part : {from : ℕ} {c : Circuit} {d d1 : List ℕ} {next : ℕ} (n : ℕ) → n ≤ length d → from + n ≤ composed_nodes c * 4
    → Composed from c d d1 next
    → take n d1 ≡ take n (drop from (composed_words c))
composed_part {from} {c} {d} n h l w =
    ap (take n) w.buffer ∙ write_window_part from d (composed_words c) n h (omega (arith, composed_length c))

-- circuit words, whose pairs are all there, are decoded to their circuit
pub circuit_decoded : (ws : List ℕ) → length (body_of ws Section.pairs) / 2 ≡ entries ws Section.pairs
    → DecodedFrom (circuit_of ws) (params_of (circuit_of ws)) (copied (circuit_of ws)) (body_of ws Section.nodes)
    (body_of ws Section.constraints)
    (group_sizes (circuit_of ws).groups)
    (body_of ws Section.widths)
    (body_of ws Section.pairs)
unfolding circuit_of lookups_of groups_from_words groups_of
circuit_decoded ws h =
    record {
      params_are = refl;
      copied_are = refl;
      constraints_are = refl;
      groups_are =
          ap
          (λ (n : ℕ).
          split (group_sizes (circuit_of ws).groups) (split (body_of ws Section.widths) (tabulate (pair_at (body_of ws Section.nodes) (body_of ws Section.pairs)) n)))
          h;
    }
