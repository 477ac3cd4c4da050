-- User expressions over the words that are lent: what they read of the column buffer, and when they read a log.
use mathlib.Core.Path.{◌≡◌, refl, sym, ap, ap₂, ◌∙◌, subst}
use mathlib.Core.List.{List, [], ◌∷◌, ◌++◌, map, append-nil}
use Prim.Native.Nat.{ℕ, ◌+◌, ◌*◌, ◌^◌, ◌<◌}
use native.Mathlib.Omega.{arith}
use lib.ListN.{length, get_or, take, drop, length-map}
use lib.Seq.{get_or-take, get_or-drop}
use Rattle.field.specs.Field.{𝔾, el, val, el_zero, el_val}
use Rattle.lists.specs.Lists.{tabulate, concat, split}
use Rattle.lists.proofs.All.{all_any, map_same}
use Rattle.lists.proofs.Columns.{tabulate_length, tabulate_cong, get_tabulate}
use Rattle.lists.proofs.Turns.{grid_lt}
use Rattle.lists.proofs.Lists.{get_map}
use Rattle.expression.specs.Expr.{Expr}
use Rattle.expression.specs.Value.{Environment, poly_of, value_at}
use Rattle.expression.specs.Reader.{polys_of}
use Rattle.expression.specs.Point.{environment_of}
use Rattle.expression.specs.declared.poly.Layout.{Layout}
use Rattle.expression.specs.declared.value.Point.{Point}
use Rattle.expression.proofs.SameRows.{Same, same_refl, same_append, same_column, same_at, values_agree}
use Rattle.backend.specs.Circuit.{Pair, pair_at, pairs_of, Section, circuit_of, word_k, body_of, entries, start_of, rows_of, num_instance, num_preprocess, num_witness}
use Rattle.backend.specs.Constraints.{inputs_of, tables_of}
use Rattle.prover.specs.Log.{Log}
use Rattle.prover.specs.Columns.{power_sum, instance_polys, preprocess_polys, witness_polys, given_polys, user_environment, compressed_at, input_at, table_at, compressed_polys}
use Rattle.prover.specs.Words.{words_of}
use Rattle.prover.proofs.Words.{words_get}
use Rattle.prover.proofs.Lengths.{instances_length}
use Rattle.prover.specs.Lent.{Given, environment_from_words, compressed_in, compressed_polys_in}

-- ---- of the column buffer the instance columns alone are read

module _ (l : Layout) (perms : l.permutations ≡ 0) (rest : l.rest ≡ 0) (circuit witness : List ℕ) where
  abbrev front_of : List ℕ → List (ℕ → 𝔾.F)
  front_of c = tabulate (λ i b. el (get_or c (i * l.rows + b) 0)) l.instances

  abbrev back_of : List (ℕ → 𝔾.F)
  back_of =
      tabulate (λ i b. el (get_or circuit (l.start + i * l.rows + b) 0)) l.preprocess
      ++ tabulate (λ i b. el (get_or witness (i * l.rows + b) 0)) l.witness

  front_length : (c : List ℕ) → length (front_of c) ≡ l.instances
  front_length c = tabulate_length (λ i b. el (get_or c (i * l.rows + b) 0)) l.instances

  front_get : (c : List ℕ) (q b : ℕ) → q < length (front_of c) → poly_of 𝔾 (front_of c) q b ≡ el (get_or c (q * l.rows + b) 0)
  front_get c q b h =
      ap (λ (p : ℕ → 𝔾.F). p b)
      (get_tabulate (λ i b. el (get_or c (i * l.rows + b) 0)) l.instances q (λ r. 𝔾.zero)
      (let e = front_length c in omega arith))

  polys_are : (c : List ℕ) → polys_of l circuit witness c ≡ front_of c ++ back_of
  unfolding polys_of tabulate
  polys_are c =
      ap₂ (λ (m n : ℕ).
      front_of c
      ++ (tabulate (λ i b. el (get_or circuit (l.start + i * l.rows + b) 0)) l.preprocess
      ++ (tabulate (λ i b. el (get_or witness (i * l.rows + b) 0)) l.witness
      ++ (tabulate (λ i b. el (get_or c ((l.instances + i) * l.rows + b) 0)) m
      ++ tabulate (λ i b. el (get_or c ((l.instances + l.permutations + l.skipped + i) * l.rows + b) 0)) n))))
      perms
      rest
      ∙ ap (λ (w : List (ℕ → 𝔾.F)). front_of c ++ (tabulate (λ i b. el (get_or circuit (l.start + i * l.rows + b) 0)) l.preprocess ++ w))
      (append-nil (tabulate (λ i b. el (get_or witness (i * l.rows + b) 0)) l.witness))

  module _ (c c' : List ℕ) (same : (j : ℕ) → j < l.instances * l.rows → get_or c j 0 ≡ get_or c' j 0) where
    pub polys_same : (q b : ℕ) → b < l.rows
        → poly_of 𝔾 (polys_of l circuit witness c) q b ≡ poly_of 𝔾 (polys_of l circuit witness c') q b
    polys_same q b h =
        ap (λ (ps : List (ℕ → 𝔾.F)). poly_of 𝔾 ps q b) (polys_are c)
        ∙ same_at 𝔾 l.rows (front_of c ++ back_of) (front_of c' ++ back_of)
        (same_append 𝔾 l.rows (front_of c) (front_of c') back_of back_of fronts (same_refl 𝔾 l.rows back_of))
        q
        b
        h
        ∙ sym (ap (λ (ps : List (ℕ → 𝔾.F)). poly_of 𝔾 ps q b) (polys_are c'))
      where
        fronts : Same 𝔾 l.rows (front_of c) (front_of c')
        fronts =
            same_column 𝔾 l.rows (λ i b. el (get_or c (i * l.rows + b) 0)) l.instances (front_of c') (sym (front_length c'))
            (λ i m b h.
            ap el (same (i * l.rows + b) (grid_lt l.instances l.rows i b m h))
            ∙ sym (front_get c' i b (let e = front_length c' in omega arith)))

module _ (k : ℕ) (small : k < 21) (l : Layout) (g : Given k l) (circuit witness c c' challenges : List ℕ)
    (same : (j : ℕ) → j < l.instances * 2 ^ k → get_or c j 0 ≡ get_or c' j 0) where
  pub lent_same : (e : Expr) (b : ℕ) → b < 2 ^ k
      → value_at 𝔾 (environment_from_words circuit witness c challenges l k) e b
      ≡ value_at 𝔾 (environment_from_words circuit witness c' challenges l k) e b
  unfolding environment_from_words
  lent_same =
      values_agree 𝔾 (environment_from_words circuit witness c challenges l k) (environment_from_words circuit witness c' challenges l k)
      refl refl refl refl (omega arith)
      (λ q b h.
      polys_same l g.permutations g.rest circuit witness c c' (rw g.rows same) q b (rw g.rows h))

-- at a point with no EqXY
pub lent_point : (circuit witness c challenges : List ℕ) (l : Layout) (p : Point) → p.eq ≡ 0
    → environment_of circuit witness c challenges l p ≡ environment_from_words circuit witness c challenges l p.k
unfolding environment_of environment_from_words
lent_point circuit witness c challenges l p e =
    ap (λ (z : 𝔾.F).
    record { k = p.k; el = el; polys = polys_of l circuit witness c; challenges = map el challenges; eq = λ b. z })
    (ap el e ∙ el_zero)

-- ---- compressed columns over environments that agree

module _ (s t : Environment 𝔾) (rows : ℕ) (same : (e : Expr) (b : ℕ) → b < rows → value_at 𝔾 s e b ≡ value_at 𝔾 t e b) (β : 𝔾.F) where
  pub compressed_same : (es : List Expr) (b : ℕ) → b < rows → compressed_in 𝔾 s β es b ≡ compressed_in 𝔾 t β es b
  unfolding compressed_in
  compressed_same es b l =
      ap (power_sum 𝔾 β)
      (map_same (λ _. Unit {0}) (λ e. value_at 𝔾 s e b) (λ e. value_at 𝔾 t e b) (λ e u. same e b l) es
      (all_any (λ _. Unit {0}) (λ e. tt) es))

  pub compressed_column : (es : List Expr)
      → tabulate (λ b. val (compressed_in 𝔾 s β es b)) rows ≡ tabulate (λ b. val (compressed_in 𝔾 t β es b)) rows
  compressed_column es =
      tabulate_cong (λ b. val (compressed_in 𝔾 s β es b)) (λ b. val (compressed_in 𝔾 t β es b)) rows
      (λ b l. ap val (compressed_same es b l))

  pub compressed_words_is : (ls : List (List Pair))
      → words_of rows (compressed_polys_in 𝔾 s β ls) ≡ words_of rows (compressed_polys_in 𝔾 t β ls)
  unfolding words_of compressed_polys_in concat
  compressed_words_is [] = refl
  compressed_words_is (p ∷ ls) =
      ap₂ (λ (x : List ℕ) (r : List ℕ). x ++ r) (compressed_column (inputs_of p))
      (ap₂ (λ (x : List ℕ) (r : List ℕ). x ++ r) (compressed_column (tables_of p)) (compressed_words_is ls))

-- ---- a log's columns

-- a preprocess column's value in the circuit words
pub preprocess_word : (ws : List ℕ) (i b : ℕ) → i < entries ws Section.preprocess → b < 2 ^ word_k ws
    → get_or (get_or (circuit_of ws).preprocess i []) b 0 ≡ get_or ws (start_of ws Section.preprocess + i * 2 ^ word_k ws + b) 0
unfolding circuit_of body_of
preprocess_word ws i b h m =
    let R : ℕ = 2 ^ word_k ws in
    let body : List ℕ = body_of ws Section.preprocess in
    let n : ℕ = entries ws Section.preprocess in
    ap (λ (xs : List ℕ). get_or xs b 0) (get_tabulate (λ i. take R (drop (i * R) body)) n i [] h)
    ∙ get_or-take R (drop (i * R) body) b 0 m
    ∙ get_or-drop (i * R) body b 0
    ∙ get_or-take (n * R) (drop (start_of ws Section.preprocess) ws) (i * R + b) 0 (grid_lt n R i b h m)
    ∙ get_or-drop (start_of ws Section.preprocess) ws (i * R + b) 0
    ∙ ap (λ (x : ℕ). get_or ws x 0) (omega arith)

-- the words that a log is read from: the circuit's, the witness, the user's challenges and, at the front of the columns, the instance
-- columns
pub record Reads (g : Log 𝔾) (l : Layout) (circuit witness columns challenges : List ℕ) : Type 0 where
  pub circuit_is : g.circuit ≡ circuit_of circuit
  pub el_is : g.el ≡ el
  pub witness_is : g.witness ≡ witness
  pub user_is : g.user ≡ map el challenges
  pub small : g.circuit.k < 21
  pub given : Given g.circuit.k l
  pub instances : l.instances ≡ num_instance g.circuit
  pub preprocess : l.preprocess ≡ entries circuit Section.preprocess
  pub start : l.start ≡ start_of circuit Section.preprocess
  pub witnesses : l.witness ≡ num_witness g.circuit
  pub columns_are : (j : ℕ) → j < l.instances * rows_of g.circuit
      → get_or columns j 0 ≡ get_or (words_of (rows_of g.circuit) (instance_polys 𝔾 g)) j 0

module _ (g : Log 𝔾) (l : Layout) (circuit witness columns challenges : List ℕ) (r : Reads g l circuit witness columns challenges) where
  abbrev rows : ℕ
  rows = rows_of g.circuit

  lent_rows : l.rows ≡ rows
  lent_rows = r.given.rows

  preprocess_here : (i b : ℕ) → i < l.preprocess → b < rows
      → get_or (get_or g.circuit.preprocess i []) b 0 ≡ get_or circuit (l.start + i * l.rows + b) 0
  unfolding circuit_of
  preprocess_here i b h m =
      let same_rows : 2 ^ word_k circuit ≡ rows = ap (λ c. rows_of c) (sym r.circuit_is) in
      ap (λ c. get_or (get_or c.preprocess i []) b 0) r.circuit_is
      ∙ preprocess_word circuit i b (rw r.preprocess at h) (omega arith)
      ∙ ap (λ (x : ℕ). get_or circuit x 0)
      (let e : i * l.rows ≡ i * 2 ^ word_k circuit = ap (λ (x : ℕ). i * x) (lent_rows ∙ sym same_rows) in
      let w = r.start in
      omega arith)

  preprocess_count : l.preprocess ≡ num_preprocess g.circuit
  unfolding circuit_of
  preprocess_count =
      r.preprocess
      ∙ sym (ap (λ c. num_preprocess c) r.circuit_is ∙ tabulate_length _ (entries circuit Section.preprocess))

  -- the polynomials that are given
  pub polys_agree : (q b : ℕ) → b < rows → poly_of 𝔾 (polys_of l circuit witness columns) q b ≡ poly_of 𝔾 (given_polys 𝔾 g) q b
  unfolding given_polys instance_polys preprocess_polys witness_polys
  polys_agree q b m =
      ap (λ (ps : List (ℕ → 𝔾.F)). poly_of 𝔾 ps q b)
      (polys_are l r.given.permutations r.given.rest circuit witness columns)
      ∙ same_at 𝔾 rows (fronts ++ (pres ++ wits)) (instance_polys 𝔾 g ++ (preprocess_polys 𝔾 g ++ witness_polys 𝔾 g))
      (same_append 𝔾 rows fronts (instance_polys 𝔾 g) (pres ++ wits) (preprocess_polys 𝔾 g ++ witness_polys 𝔾 g) same_fronts
      (same_append 𝔾 rows pres (preprocess_polys 𝔾 g) wits (witness_polys 𝔾 g) same_pres
      (subst (λ (ps : List (ℕ → 𝔾.F)). Same 𝔾 rows wits ps) wits_are (same_refl 𝔾 rows wits))))
      q
      b
      m
    where
      fronts : List (ℕ → 𝔾.F)
      fronts = tabulate (λ i b. el (get_or columns (i * l.rows + b) 0)) l.instances

      pres : List (ℕ → 𝔾.F)
      pres = tabulate (λ i b. el (get_or circuit (l.start + i * l.rows + b) 0)) l.preprocess

      wits : List (ℕ → 𝔾.F)
      wits = tabulate (λ i b. el (get_or witness (i * l.rows + b) 0)) l.witness

      same_fronts : Same 𝔾 rows fronts (instance_polys 𝔾 g)
      same_fronts =
          let n = instances_length 𝔾 g in
          same_column 𝔾 rows (λ i b. el (get_or columns (i * l.rows + b) 0)) l.instances (instance_polys 𝔾 g) (r.instances ∙ sym n)
          (λ i h b m.
          ap el
          (ap (λ (n : ℕ). get_or columns (i * n + b) 0) lent_rows
          ∙ r.columns_are (i * rows + b) (grid_lt l.instances rows i b h m)
          ∙ words_get rows (instance_polys 𝔾 g) i b (let w = r.instances in omega arith) m)
          ∙ el_val (poly_of 𝔾 (instance_polys 𝔾 g) i b))

      same_pres : Same 𝔾 rows pres (preprocess_polys 𝔾 g)
      same_pres =
          same_column 𝔾 rows (λ i b. el (get_or circuit (l.start + i * l.rows + b) 0)) l.preprocess (preprocess_polys 𝔾 g)
          (preprocess_count ∙ sym (length-map g.circuit.preprocess (λ vs b. g.el (get_or vs b 0))))
          (λ i h b m.
          ap el (sym (preprocess_here i b h m))
          ∙ ap (λ (f : ℕ → 𝔾.F). f (get_or (get_or g.circuit.preprocess i []) b 0)) (sym r.el_is)
          ∙ sym
          (ap (λ (p : ℕ → 𝔾.F). p b)
          (get_map {B = ℕ → 𝔾.F} (λ (vs : List ℕ) (b : ℕ). g.el (get_or vs b 0)) g.circuit.preprocess i [] (λ r. 𝔾.zero)
          (let e = preprocess_count in omega arith))))

      wits_are : wits ≡ witness_polys 𝔾 g
      wits_are =
          ap₂ (λ (R n : ℕ). tabulate (λ i b. el (get_or witness (i * R + b) 0)) n) lent_rows r.witnesses
          ∙ ap₂ (λ (f : ℕ → 𝔾.F) (ws : List ℕ). tabulate (λ i b. f (get_or ws (i * rows + b) 0)) (num_witness g.circuit))
          (sym r.el_is)
          (sym r.witness_is)

  -- user expressions have the log's values
  pub lent_agrees : (e : Expr) (b : ℕ) → b < rows
      → value_at 𝔾 (environment_from_words circuit witness columns challenges l g.circuit.k) e b ≡ value_at 𝔾 (user_environment 𝔾 g) e b
  unfolding environment_from_words user_environment
  lent_agrees =
      values_agree 𝔾 (environment_from_words circuit witness columns challenges l g.circuit.k) (user_environment 𝔾 g) refl (sym r.el_is)
      refl (sym r.user_is) (let s = r.small in omega arith) polys_agree

  -- and so the compressed columns are the log's
  pub compressed_agree : (β : ℕ) → g.β ≡ el β
      → words_of rows (compressed_polys_in 𝔾 (environment_from_words circuit witness columns challenges l g.circuit.k) (el β) g.circuit.lookups)
      ≡ words_of rows (compressed_polys 𝔾 g)
  unfolding compressed_polys_in compressed_polys compressed_in input_at table_at compressed_at
  compressed_agree β e =
      compressed_words_is (environment_from_words circuit witness columns challenges l g.circuit.k) (user_environment 𝔾 g) rows lent_agrees (el β)
      g.circuit.lookups
      ∙ ap (λ (z : 𝔾.F). words_of rows (compressed_polys_in 𝔾 (user_environment 𝔾 g) z g.circuit.lookups)) (sym e)

-- the lookups of a circuit, from its sections
pub lookups_are : (ws : List ℕ) → length (body_of ws Section.pairs) ≡ entries ws Section.pairs * 2
    → split (body_of ws Section.widths) (pairs_of (body_of ws Section.nodes) (body_of ws Section.pairs)) ≡ (circuit_of ws).lookups
unfolding circuit_of
lookups_are ws e =
    ap (λ (n : ℕ). split (body_of ws Section.widths) (tabulate (pair_at (body_of ws Section.nodes) (body_of ws Section.pairs)) n))
    (omega arith)
