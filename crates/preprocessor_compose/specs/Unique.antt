-- The facts of a circuit's lent words have one proof at most, as a ghost field asks.
use Rattle.std.specs.Prelude.{◌≡◌, List, ℕ, ◌*◌, ◌≤◌, ◌<◌, length}
use Rattle.std.specs.Coded.{×_prop, le_prop, Coded-set, coded_ℕ}
use Rattle.std.proofs.Common.{ap}
use Rattle.lists.specs.Lists.{total, All}
use Rattle.preprocessor.specs.ComposeWords.{IsNode, Limits, Words}
use Rattle.preprocessor.specs.declared.CircuitParams.{CircuitParams}
use Rattle.preprocessor_constraints.specs.Unique.{All-prop, nodes-prop, Limits-prop}

pub Words-prop : (params : CircuitParams) (nodes roots sizes widths pairs : List ℕ) → IsProp (Words params nodes roots sizes widths pairs)
Words-prop params nodes roots sizes widths pairs x y =
    let A : Type 0 = Limits params × (params.num_groups ≡ length sizes) in
    let B : Type 0 = All (λ n. 0 < n) sizes × (total sizes ≡ length widths) in
    let C : Type 0 = (params.num_lookups ≡ length widths) × (total widths * 2 ≤ length pairs) in
    let D : Type 0 = All (IsNode nodes) roots × All (IsNode nodes) pairs in
    let P : Type 0 = (A × B) × (C × D) in
    let a : IsProp A = ×_prop (Limits-prop params) (Coded-set coded_ℕ params.num_groups (length sizes)) in
    let b : IsProp B = ×_prop (All-prop (λ n. 0 < n) (λ n. le_prop) sizes) (Coded-set coded_ℕ (total sizes) (length widths)) in
    let c : IsProp C = ×_prop (Coded-set coded_ℕ params.num_lookups (length widths)) le_prop in
    let d : IsProp D = ×_prop (nodes-prop nodes roots) (nodes-prop nodes pairs) in
    let p : IsProp P = ×_prop (×_prop a b) (×_prop c d) in
    let f : P → Words params nodes roots sizes widths pairs =
    λ (t : P). record {
      limits = t.0.0.0;
      all_groups = t.0.0.1;
      some_members = t.0.1.0;
      all_members = t.0.1.1;
      all_lookups = t.1.0.0;
      all_pairs = t.1.0.1;
      constraints_named = t.1.1.0;
      pairs_named = t.1.1.1;
    } in
    ap f (p (((x.limits, x.all_groups), (x.some_members, x.all_members)), ((x.all_lookups, x.all_pairs), (x.constraints_named, x.pairs_named))) (((y.limits, y.all_groups), (y.some_members, y.all_members)), ((y.all_lookups, y.all_pairs), (y.constraints_named, y.pairs_named))))
