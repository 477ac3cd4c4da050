-- The facts that circuit words keep have one proof at most, as a ghost field asks.
use Rattle.std.specs.Prelude.{◌≡◌, List, [], ◌∷◌, ℕ, ◌≤◌}
use Rattle.std.specs.Coded.{×_prop, Unit-prop, le_prop, Coded-set, coded_ℕ}
use Rattle.std.proofs.Common.{ap}
use Rattle.lists.specs.Lists.{total, All}
use Rattle.backend.specs.Circuit.{Section, entries, body_of, circuit_of, num_witness, num_challenges}
use Rattle.backend.specs.Laid.{BodiesValid}

pub All-prop : {A : Type 0} (Q : A → Type 0) → ((x : A) → IsProp (Q x)) → (xs : List A) → IsProp (All Q xs)
All-prop Q p [] = Unit-prop
All-prop Q p (x ∷ xs) = ×_prop (p x) (All-prop Q p xs)

pub BodiesValid-prop : (ws : List ℕ) → IsProp (BodiesValid ws)
BodiesValid-prop ws x y =
    let A : Type 0 = (num_witness (circuit_of ws) ≤ 32) × (num_challenges (circuit_of ws) ≤ 16) in
    let B : Type 0 = All (λ w. w ≤ 8) (body_of ws Section.widths) × (total (body_of ws Section.lengths) ≤ 4096) in
    let C : Type 0 = (entries ws Section.pairs ≡ total (body_of ws Section.widths)) × (entries ws Section.cells ≡ total (body_of ws Section.lengths)) in
    let P : Type 0 = A × (B × C) in
    let a : IsProp A = ×_prop le_prop le_prop in
    let b : IsProp B = ×_prop (All-prop (λ w. w ≤ 8) (λ w. le_prop) (body_of ws Section.widths)) le_prop in
    let c : IsProp C =
    ×_prop (Coded-set coded_ℕ (entries ws Section.pairs) (total (body_of ws Section.widths)))
    (Coded-set coded_ℕ (entries ws Section.cells) (total (body_of ws Section.lengths))) in
    let p : IsProp P = ×_prop a (×_prop b c) in
    let f : P → BodiesValid ws =
    λ (t : P). record {
      few_witness = t.0.0;
      few_user = t.0.1;
      narrow = t.1.0.0;
      few_in_cycles = t.1.0.1;
      pairs_are = t.1.1.0;
      cells_are = t.1.1.1;
    } in
    ap f (p ((x.few_witness, x.few_user), ((x.narrow, x.few_in_cycles), (x.pairs_are, x.cells_are))) ((y.few_witness, y.few_user), ((y.narrow, y.few_in_cycles), (y.pairs_are, y.cells_are))))
