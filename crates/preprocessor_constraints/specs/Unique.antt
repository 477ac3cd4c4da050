-- The facts that a struct of lent words keeps have one proof at most, as a ghost field asks.
use Rattle.std.specs.Prelude.{◌≡◌, List, [], ◌∷◌, ℕ, ◌≤◌, ◌<◌}
use Rattle.std.specs.Coded.{×_prop, Unit-prop, le_prop, Coded-set, coded_ℕ}
use Rattle.std.proofs.Common.{ap}
use Rattle.lists.specs.Lists.{ceil_div, All}
use Rattle.backend.specs.Circuit.{max_polys}
use Rattle.preprocessor.specs.ComposeWords.{IsNode, Limits}
use Rattle.preprocessor.specs.declared.CircuitParams.{CircuitParams}

pub All-prop : {A : Type 0} (Q : A → Type 0) → ((x : A) → IsProp (Q x)) → (xs : List A) → IsProp (All Q xs)
All-prop Q p [] = Unit-prop
All-prop Q p (x ∷ xs) = ×_prop (p x) (All-prop Q p xs)

-- every word is a node of these
pub nodes-prop : (nodes words : List ℕ) → IsProp (All (IsNode nodes) words)
nodes-prop nodes words = All-prop (IsNode nodes) (λ r. le_prop) words

pub Limits-prop : (params : CircuitParams) → IsProp (Limits params)
Limits-prop params x y =
    let A : Type 0 = (params.num_poly ≤ max_polys) × (params.num_permutation_polys ≤ max_polys) in
    let B : Type 0 = (params.num_lookups ≤ 8) × (params.num_groups ≤ params.num_lookups) in
    let C : Type 0 = (params.num_challenges ≤ 16) × (params.rows ≤ 1048576) in
    let D : Type 0 = (0 < params.chunk_size) × (params.num_chunks ≡ ceil_div params.num_permutation_polys params.chunk_size) in
    let P : Type 0 = (A × B) × (C × D) in
    let a : IsProp A = ×_prop le_prop le_prop in
    let b : IsProp B = ×_prop le_prop le_prop in
    let c : IsProp C = ×_prop le_prop le_prop in
    let d : IsProp D = ×_prop le_prop (Coded-set coded_ℕ params.num_chunks (ceil_div params.num_permutation_polys params.chunk_size)) in
    let p : IsProp P = ×_prop (×_prop a b) (×_prop c d) in
    let f : P → Limits params =
    λ (t : P). record {
      few_polys = t.0.0.0;
      few_copied = t.0.0.1;
      few_lookups = t.0.1.0;
      few_groups = t.0.1.1;
      few_user = t.1.0.0;
      few_rows = t.1.0.1;
      some_part = t.1.1.0;
      parts_are = t.1.1.1;
    } in
    ap f (p (((x.few_polys, x.few_copied), (x.few_lookups, x.few_groups)), ((x.few_user, x.few_rows), (x.some_part, x.parts_are))) (((y.few_polys, y.few_copied), (y.few_lookups, y.few_groups)), ((y.few_user, y.few_rows), (y.some_part, y.parts_are))))
