-- Where questions 1 to 11 and 18 are yes, the composed expression takes at most 11,295 nodes, and an evaluation of it visits at most 11,047.
use mathlib.Core.Path.{◌≡◌}
use mathlib.Core.Bool.{true}
use mathlib.Core.List.{List, map}
use Prim.Native.Nat.{ℕ, ◌+◌, ◌≤◌, min}
use Rattle.lists.specs.Lists.{total}
use Rattle.expression.specs.Nodes.{expr_of}
use Rattle.expression.specs.Flat.{size, largest_size}
use Rattle.expression.specs.Walks.{weight}
use Rattle.backend.specs.Circuit.{Section, entries, Circuit, circuit_of, num_nodes}
use Rattle.backend.specs.Questions.{q7}
use Rattle.backend.proofs.Forest as forest
use Rattle.preprocessor.specs.Compose.{compose, composed_nodes}
use Rattle.preprocessor.specs.Count.{nodes_in}
use Rattle.preprocessor.proofs.Bound as bound
use Rattle.preprocessor.proofs.Bound.{pair_nodes}
use Rattle.hyperplonk_spec.specs.Sizes.{composed_visits, most_nodes, most_visits}
use Rattle.hyperplonk_prepare.specs.Prepared.{Accepted}
use Rattle.hyperplonk_prepare.proofs.Accepted.{answers, laid_of, counted_of, limits, lookups_wide, groups_valid}

-- question 7 makes the nodes a forest
pub circuit_forest : (c : Circuit) → q7 c ≡ true → total (map (λ r. size (expr_of c.nodes r)) c.roots) ≡ num_nodes c
unfolding q7
circuit_forest c seven = forest.circuit_forest c seven

module _ (ws : List ℕ) (a : Accepted ws) where
  -- the trees of the circuit take its nodes, each once
  pub user_nodes : nodes_in 1 (circuit_of ws).constraints + total (map (pair_nodes 1) (circuit_of ws).lookups) ≡ entries ws Section.nodes
  user_nodes = bound.user_nodes ws (laid_of ws a) (counted_of ws a) (answers ws a).seven

  pub composed_most : composed_nodes (circuit_of ws) ≤ most_nodes
  composed_most = bound.composed_most ws (laid_of ws a) (counted_of ws a) (answers ws a).seven (groups_valid ws a) (limits ws a)

  pub composed_visits_most : composed_visits (circuit_of ws) ≤ most_visits
  unfolding composed_visits
  composed_visits_most =
      bound.composed_visits_most ws (laid_of ws a) (counted_of ws a) (answers ws a).seven (groups_valid ws a) (limits ws a) (lookups_wide ws a)

  -- counts that stop at 2^60 are the numbers themselves
  pub nodes_exact : min largest_size (weight 1 (compose (circuit_of ws))) ≡ composed_nodes (circuit_of ws)
  nodes_exact = bound.nodes_exact ws (laid_of ws a) (counted_of ws a) (answers ws a).seven (groups_valid ws a) (limits ws a)

  pub visits_exact : min largest_size (weight 0 (compose (circuit_of ws))) ≡ composed_visits (circuit_of ws)
  unfolding composed_visits
  visits_exact = bound.visits_exact ws (laid_of ws a) (counted_of ws a) (answers ws a).seven (groups_valid ws a) (limits ws a)
