-- What a search finds by the numbers that it keeps, by the words that are lent.
use Rattle.std.proofs.Common.{◌≡◌, ℕ, ◌+◌, ◌*◌, ◌<◌, ◌≤◌, ◌^◌, Bool, List, ◌∷◌, length, get_or, take, true, false, cond, refl, sym, ap, ◌∙◌, subst, true≢false, arith}
use Rattle.std.proofs.Math.Nat.{add-mul}
use Rattle.std.proofs.lemmas.List.Recursion.{is_count_by}
use Rattle.std.specs.List.{count_by}
use native.Mathlib.Nat.{mul-le-mul}
use Rattle.lists.specs.Lists.{filter, count_of, total}
use mathlib.Core.Bool.{decide}
use Rattle.field.specs.Field.{𝔾}
use Rattle.field.specs.Element.{elem, is_zero}
use Rattle.field.proofs.Elements.{val_injective}
use Rattle.expression.specs.declared.poly.Layout.{Layout}
use Rattle.lists.proofs.All.{all_get}
use Rattle.lists.proofs.Parts.{total_within}
use Rattle.preprocessor.specs.ComposeWords.{IsNode}
use Rattle.backend.specs.Circuit.{Section, body_of, circuit_of, word_k, rows_of, num_instance, num_challenges, num_lookups, num_groups, copied, num_copied}
use Rattle.preprocessor.specs.Compose.{num_z, params_of}
use Rattle.preprocessor.specs.declared.CircuitParams.{CircuitParams}
use Rattle.hyperplonk_spec.specs.Build.{column_words}
use Rattle.hyperplonk_prepare.proofs.Accepted.{k_pos, k_few, rows_few, rows_is, few_user, instances_entries, widths_are, words, counted_of}
use Rattle.hyperplonk_prepare.specs.Prepared.{Accepted, layout_from_words}
use Rattle.hyperplonk_columns.specs.Stages.{lent_beta}
use Rattle.cli_search.specs.Missing.{MissingIn, Missing}
use Rattle.cli_search.specs.Zero.{ZeroIn, ZeroAt}
use Rattle.cli_search.specs.declared.Column.{Column}
use Rattle.cli_search.specs.declared.search.Search.{Search}

module _ (s : Search) (columns : List ℕ) where
  pub missing_lent : (lookup row : ℕ)
      → MissingIn s.layout s.lookups (length s.names.now) s.groups.now columns lookup row
      → Missing s.circuit.words.now columns lookup row
  missing_lent lookup row m =
      let c = circuit_of s.circuit.words.now in
      subst (λ (xs : List ℕ). MissingIn (layout_from_words s.circuit.words.now) (num_lookups c) (num_copied c) xs columns lookup row) s.groups_are
      (subst (λ (n : ℕ). MissingIn (layout_from_words s.circuit.words.now) (num_lookups c) n s.groups.now columns lookup row) (ap length s.names_are)
      (subst (λ (n : ℕ). MissingIn (layout_from_words s.circuit.words.now) n (length s.names.now) s.groups.now columns lookup row) s.lookups_are
      (subst (λ (l : Layout). MissingIn l s.lookups (length s.names.now) s.groups.now columns lookup row) s.layout_is m)))

  pub zero_lent : (of : Column) (row : ℕ)
      → ZeroIn s.layout s.circuit.words.now s.witness.now columns s.names.now s.groups.now s.lookups (elem s.beta) (elem s.gamma) of row
      → ZeroAt s.circuit.words.now s.witness.now s.challenges.now columns of row
  zero_lent of row z =
      let ws = s.circuit.words.now in
      let c = circuit_of s.circuit.words.now in
      subst (λ (γ : 𝔾.F). ZeroIn (layout_from_words ws) ws s.witness.now columns (copied c) c.groups (num_lookups c) (lent_beta ws s.challenges.now) γ of row) (val_injective _ _ s.gamma_is)
      (subst (λ (β : 𝔾.F). ZeroIn (layout_from_words ws) ws s.witness.now columns (copied c) c.groups (num_lookups c) β (elem s.gamma) of row) (val_injective _ _ s.beta_is)
      (subst (λ (n : ℕ). ZeroIn (layout_from_words ws) ws s.witness.now columns (copied c) c.groups n (elem s.beta) (elem s.gamma) of row) s.lookups_are
      (subst (λ (xs : List ℕ). ZeroIn (layout_from_words ws) ws s.witness.now columns (copied c) xs s.lookups (elem s.beta) (elem s.gamma) of row) s.groups_are
      (subst (λ (xs : List ℕ). ZeroIn (layout_from_words ws) ws s.witness.now columns xs s.groups.now s.lookups (elem s.beta) (elem s.gamma) of row) s.names_are
      (subst (λ (l : Layout). ZeroIn l ws s.witness.now columns s.names.now s.groups.now s.lookups (elem s.beta) (elem s.gamma) of row) s.layout_is z)))))

pub zero_says : (x : 𝔾.F) → is_zero x ≡ true → x ≡ 𝔾.zero
unfolding decide
zero_says x e = go (𝔾.decide x 𝔾.zero) e
  where
    go : (d : Dec (x ≡ 𝔾.zero)) → decide d ≡ true → x ≡ 𝔾.zero
    go (yes p) q = p
    go (no n) q = absurd (true≢false (sym q))

-- column n of some behind the instance columns, in a buffer that has them all
pub inside : (instances a b n r len : ℕ) → n < a + b → (instances + a + b) * r ≤ len → (instances + n) * r + r ≤ len
inside instances a b n r len h room =
    let m : (instances + n + 1) * r ≤ (instances + a + b) * r = mul-le-mul (omega arith) (omega arith) in
    let e : (instances + n + 1) * r ≡ (instances + n) * r + 1 * r = add-mul (instances + n) 1 r in
    omega arith

-- how many pass a test, as the library counts them
pub counted : (p : ℕ → Bool) (xs : List ℕ) → count_of p xs ≡ count_by p xs
unfolding filter
counted p xs = is_count_by (count_of p) p refl (λ x ys. step x ys (p x)) xs
  where
    step : (x : ℕ) (ys : List ℕ) (t : Bool) → length (cond t (x ∷ filter p ys) (filter p ys)) ≡ cond t (1 + length (filter p ys)) (length (filter p ys))
    step x ys true = omega arith
    step x ys false = refl

module _ (ws : List ℕ) (a : Accepted ws) where
  -- the numbers of the circuit
  pub user_is : (v : CircuitParams) → v ≡ params_of (circuit_of ws) → v.num_challenges ≡ num_challenges (circuit_of ws)
  unfolding params_of
  user_is v e = ap (λ (v : CircuitParams). v.num_challenges) e

  pub few_user_of : (v : CircuitParams) → v ≡ params_of (circuit_of ws) → v.num_challenges ≤ 16
  few_user_of v e = let u = user_is v e in let h = few_user ws a in omega arith

  pub lookups_is : (v : CircuitParams) → v ≡ params_of (circuit_of ws) → v.num_lookups ≡ num_lookups (circuit_of ws)
  unfolding params_of
  lookups_is v e = ap (λ (v : CircuitParams). v.num_lookups) e

  rows_here : (layout_from_words ws).rows ≡ 2 ^ word_k ws
  unfolding layout_from_words
  rows_here = refl

  instances_here : (layout_from_words ws).instances ≡ num_instance (circuit_of ws)
  unfolding layout_from_words
  instances_here = instances_entries ws a

  -- the columns before m stand in a buffer of the columns needed
  pub room_of : (n : ℕ) → column_words (circuit_of ws) ≤ n
      → ((layout_from_words ws).instances + num_copied (circuit_of ws) + num_lookups (circuit_of ws) * 2) * (layout_from_words ws).rows ≤ n
  unfolding column_words
  room_of n h =
      let c = circuit_of ws in
      let i = instances_here in
      let r : (layout_from_words ws).rows ≡ rows_of c = rows_here ∙ sym (rows_is ws a) in
      let m : ((layout_from_words ws).instances + num_copied c + num_lookups c * 2) * (layout_from_words ws).rows
      ≤ (num_instance c + num_copied c + num_lookups c * 2 + num_groups c * 2 + num_z c) * rows_of c =
      mul-le-mul (omega arith) (omega arith) in
      omega arith

  pub rows_small : (l : Layout) → l ≡ layout_from_words ws → (k : ℕ) → k ≡ word_k ws
      → (0 < k) × (k ≤ 10) × (l.rows ≡ 2 ^ k) × (l.rows ≤ 1024)
  rows_small l e k q =
      let p = k_pos ws a in
      let f = k_few ws a in
      let r : l.rows ≡ 2 ^ word_k ws = ap (λ (l : Layout). l.rows) e ∙ rows_here in
      let s = rows_few ws a in
      (omega arith, omega arith, r ∙ ap (λ (n : ℕ). 2 ^ n) (sym q), omega arith)

  pub room_here : (l : Layout) → l ≡ layout_from_words ws → (names lookups n : ℕ) → names ≡ num_copied (circuit_of ws)
      → lookups ≡ num_lookups (circuit_of ws)
      → column_words (circuit_of ws) ≤ n
      → (l.instances + names + lookups * 2) * l.rows ≤ n
  room_here l el names lookups n en ew h = rw (el, en, ew) (room_of n h)

-- the words of a lookup's pairs, and what they name
pub pairs_asks : (s : Search) (lookup : ℕ) → lookup < s.lookups → (nodes widths pairs : List ℕ) → nodes ≡ body_of s.circuit.words.now Section.nodes
    → widths ≡ body_of s.circuit.words.now Section.widths
    → pairs ≡ body_of s.circuit.words.now Section.pairs
    → (lookup < length widths) × (total widths * 2 ≤ length pairs) × (get_or widths lookup 0 ≤ 8)
    × (total (take lookup widths) + get_or widths lookup 0 ≤ total widths)
    × ((i : ℕ) → i < length pairs → get_or pairs i 0 * 4 + 4 ≤ length nodes)
pairs_asks s lookup h nodes widths pairs en ew ep =
    let ws = s.circuit.words.now in
    let a = s.circuit.accepted in
    let e = widths_are ws a in
    let q = s.lookups_are in
    let l : lookup < length (body_of ws Section.widths) = omega arith in
    let w = words ws a in
    rw (en, ew, ep) (
      l,
      w.all_pairs,
      all_get (λ (w : ℕ). w ≤ 8) (body_of ws Section.widths) (counted_of ws a).narrow lookup 0 l,
      total_within (body_of ws Section.widths) lookup,
      λ i r. all_get (IsNode (body_of ws Section.nodes)) (body_of ws Section.pairs) w.pairs_named i 0 r,
    )
