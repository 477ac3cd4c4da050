-- The cells before one that are in its chain, met from the last on.
use mathlib.Core.Path.{◌≡◌, refl, sym, ap, ◌∙◌}
use mathlib.Core.Bool.{Bool, true, false, cond, not}
use mathlib.Core.List.{List}
use Prim.Native.Nat.{ℕ, zero, suc, ◌+◌, ◌-◌, ◌%◌, ◌≤◌, ◌<◌}
use native.Mathlib.Nat.{not-suc-le-zero, mod-lt}
use native.Mathlib.Numerals.{add-one}
use native.Mathlib.Decide.{ℕ_discrete, dec_lt}
use native.Mathlib.Omega.{arith}
use lib.ListN.{length, get_or, set, replicate, length-set, length-replicate, get_or-replicate}
use lib.Seq.{get_or-set_same, get_or-set_other}
use borrow.Author.Tests.{eq-eqb, ne_eqb}
use Rattle.lists.proofs.Tests.{by_test, true_all}
use Rattle.lists.proofs.All.{all_tabulate}
use Rattle.lists.proofs.Walks.{walk_fails}
use Rattle.backend.specs.Circuit.{Cell, cell_at, same_cell}
use Rattle.backend.specs.Cycles.{cells_from, fresh}
use Rattle.backend.proofs.Cells.{same_cell_is}
use Rattle.backend_questions.specs.Chains.{chain_of, last_in, Linked}

module _ (cells : List ℕ) where
  chain_low : (m : ℕ) → chain_of cells m < 1024
  chain_low m = mod-lt (cell_at cells m).row (omega arith)

  -- ---- the last of the first n cells in chain b
  module _ (b : ℕ) where
    here : (n : ℕ) → chain_of cells n ≡ b → last_in cells b (suc n) ≡ suc n
    unfolding last_in
    here n e = ap (λ (t : Bool). cond t (suc n) (last_in cells b n)) (eq-eqb (chain_of cells n) b e)

    passed : (n : ℕ) → (chain_of cells n ≡ b → ⊥) → last_in cells b (suc n) ≡ last_in cells b n
    unfolding last_in
    passed n e = ap (λ (t : Bool). cond t (suc n) (last_in cells b n)) (ne_eqb (chain_of cells n) b e)

    none_yet : last_in cells b 0 ≡ 0
    unfolding last_in
    none_yet = refl

    -- not past n; in the chain; none of the chain after it
    record Last (n j : ℕ) : Type 0 where
      low : j ≤ n
      in_chain : 0 < j → chain_of cells (j - 1) ≡ b
      none_after : (m : ℕ) → j ≤ m → m < n → chain_of cells m ≡ b → ⊥

    last : (n : ℕ) → Last n (last_in cells b n)
    unfolding last_in
    last zero = record { low = omega arith; in_chain = λ l. absurd (not-suc-le-zero l); none_after = λ m l k. absurd (not-suc-le-zero k) }
    last (suc n) = go (ℕ_discrete (chain_of cells n) b) (last n)
      where
        go : Dec (chain_of cells n ≡ b) → Last n (last_in cells b n) → Last (suc n) (last_in cells b (suc n))
        go (yes e) v =
            let q : last_in cells b (suc n) ≡ suc n = here n e in
            record {
              low = omega arith;
              in_chain = λ l. ap (chain_of cells) (let r : last_in cells b (suc n) - 1 ≡ n = omega arith in r) ∙ e;
              none_after = λ m l k. absurd (omega arith);
            }
        go (no ne) v =
            let q : last_in cells b (suc n) ≡ last_in cells b n = passed n ne in
            record {
              low = (let r = v.low in omega arith);
              in_chain = λ l. ap (λ (j : ℕ). chain_of cells (j - 1)) q ∙ v.in_chain (omega arith);
              none_after = λ m l k. after m (omega arith) k (dec_lt m n);
            }
          where
            after : (m : ℕ) → last_in cells b n ≤ m → m < suc n → Dec (m < n) → chain_of cells m ≡ b → ⊥
            after m l k (yes i) = v.none_after m l i
            after m l k (no i) = λ e. ne (ap (chain_of cells) (let q : n ≡ m = omega arith in q) ∙ e)

  -- ---- down the chain of cell `at`: none of those from j on is the same cell
  module _ (at : ℕ) where
    pub record Down (j : ℕ) : Type 0 where
      pub low : j ≤ at
      pub in_chain : 0 < j → chain_of cells (j - 1) ≡ chain_of cells at
      pub none : (m : ℕ) → j ≤ m → m < at → same_cell (cell_at cells at) (cell_at cells m) ≡ false

    apart : (m : ℕ) → (chain_of cells m ≡ chain_of cells at → ⊥) → same_cell (cell_at cells at) (cell_at cells m) ≡ false
    apart m ne =
        by_test (same_cell (cell_at cells at) (cell_at cells m))
        (λ e. absurd (ne (ap (λ (x : Cell). x.row % 1024) (sym (same_cell_is (cell_at cells at) (cell_at cells m) e)))))
        (λ e. e)

    module _ (heads earlier : List ℕ) (v : Linked cells heads earlier at) where
      pub down_first : Down (get_or heads (chain_of cells at) 0)
      down_first =
          let e : get_or heads (chain_of cells at) 0 ≡ last_in cells (chain_of cells at) at = v.heads_are (chain_of cells at) (chain_low at) in
          let w : Last (chain_of cells at) at (last_in cells (chain_of cells at) at) = last (chain_of cells at) at in
          record {
            low = (let l = w.low in omega arith);
            in_chain = λ l. ap (λ (j : ℕ). chain_of cells (j - 1)) e ∙ w.in_chain (omega arith);
            none = λ m l k. apart m (w.none_after m (omega arith) k);
          }

      module _ (j : ℕ) (d : Down j) (l : 0 < j) where
        linked : get_or earlier (j - 1) 0 ≡ last_in cells (chain_of cells at) (j - 1)
        linked = v.earlier_are (j - 1) (let k = d.low in omega arith) ∙ ap (λ (b : ℕ). last_in cells b (j - 1)) (d.in_chain l)

        below : Last (chain_of cells at) (j - 1) (last_in cells (chain_of cells at) (j - 1))
        below = last (chain_of cells at) (j - 1)

        pub down_less : get_or earlier (j - 1) 0 < j
        down_less = let e = linked in let k = below.low in omega arith

        pub down_next : same_cell (cell_at cells at) (cell_at cells (j - 1)) ≡ false → Down (get_or earlier (j - 1) 0)
        down_next e =
            let q : get_or earlier (j - 1) 0 ≡ last_in cells (chain_of cells at) (j - 1) = linked in
            record {
              low = (let r = down_less in let s = d.low in omega arith);
              in_chain = λ k. ap (λ (i : ℕ). chain_of cells (i - 1)) q ∙ below.in_chain (omega arith);
              none = λ m i k. go m (omega arith) k (dec_lt m (j - 1)) (dec_lt m j);
            }
          where
            go : (m : ℕ) → last_in cells (chain_of cells at) (j - 1) ≤ m → m < at → Dec (m < j - 1) → Dec (m < j)
                → same_cell (cell_at cells at) (cell_at cells m) ≡ false
            go m i k (yes p) q = apart m (below.none_after m i p)
            go m i k (no p) (yes q) = ap (λ (o : ℕ). same_cell (cell_at cells at) (cell_at cells o)) (let r : m ≡ j - 1 = omega arith in r) ∙ e
            go m i k (no p) (no q) = d.none m (omega arith) k

  -- ---- the answer
  module _ (start at j : ℕ) where
    pub down_end : Down at j → j ≤ start → true ≡ fresh (cell_at cells at) (cells_from cells start (at - start))
    down_end d l =
        sym
        (true_all (λ y. not (same_cell (cell_at cells at) y)) (cells_from cells start (at - start))
        (all_tabulate (λ y. not (same_cell (cell_at cells at) y) ≡ true) (λ i. cell_at cells (start + i)) (at - start)
        (λ i k. ap not (d.none (start + i) (omega arith) (omega arith)))))

    pub down_met : Down at j → start < j → same_cell (cell_at cells at) (cell_at cells (j - 1)) ≡ true
        → false ≡ fresh (cell_at cells at) (cells_from cells start (at - start))
    down_met d l e =
        walk_fails (λ y. not (same_cell (cell_at cells at) y)) (λ i. cell_at cells (start + i)) (at - start) (j - 1 - start)
        (let k = d.low in omega arith)
        (ap (λ (o : ℕ). not (same_cell (cell_at cells at) (cell_at cells o))) (let q : start + (j - 1 - start) ≡ j - 1 = omega arith in q) ∙ ap not e)

  -- ---- one cell more is linked
  module _ (heads earlier : List ℕ) (at : ℕ) (v : Linked cells heads earlier at) (l : at < 4096) where
    pub link_next : Linked cells (set heads (chain_of cells at) (at + 1)) (set earlier at (get_or heads (chain_of cells at) 0)) (at + 1)
    link_next =
        record {
          chains = length-set heads (chain_of cells at) (at + 1) ∙ v.chains;
          room = length-set earlier at (get_or heads (chain_of cells at) 0) ∙ v.room;
          heads_are = λ b k. of_chain b k (ℕ_discrete b (chain_of cells at));
          earlier_are = λ m k. of_cell m (omega arith) (ℕ_discrete m at);
        }
      where
        of_chain : (b : ℕ) → b < 1024 → Dec (b ≡ chain_of cells at) → get_or (set heads (chain_of cells at) (at + 1)) b 0 ≡ last_in cells b (at + 1)
        of_chain b k (yes e) =
            ap (λ (i : ℕ). get_or (set heads (chain_of cells at) (at + 1)) i 0) e
            ∙ get_or-set_same heads (chain_of cells at) (at + 1) 0 (let q = v.chains in let r = chain_low at in omega arith)
            ∙ sym (ap (last_in cells b) (add-one at) ∙ here b at (sym e) ∙ sym (add-one at))
        of_chain b k (no ne) =
            get_or-set_other heads (chain_of cells at) b (at + 1) 0 ne ∙ v.heads_are b k
            ∙ sym (ap (last_in cells b) (add-one at) ∙ passed b at (λ e. ne (sym e)))

        of_cell : (m : ℕ) → m < suc at → Dec (m ≡ at) → get_or (set earlier at (get_or heads (chain_of cells at) 0)) m 0 ≡ last_in cells (chain_of cells m) m
        of_cell m k (yes e) =
            ap (λ (i : ℕ). get_or (set earlier at (get_or heads (chain_of cells at) 0)) i 0) e
            ∙ get_or-set_same earlier at (get_or heads (chain_of cells at) 0) 0 (let q = v.room in omega arith)
            ∙ v.heads_are (chain_of cells at) (chain_low at)
            ∙ ap (λ (i : ℕ). last_in cells (chain_of cells i) i) (sym e)
        of_cell m k (no ne) =
            get_or-set_other earlier at m (get_or heads (chain_of cells at) 0) 0 ne ∙ v.earlier_are m (let q : (m ≡ at) → ⊥ = ne in omega arith)

  pub link_none : (heads earlier : List ℕ) → heads ≡ replicate 1024 0 → earlier ≡ replicate 4096 0 → Linked cells heads earlier 0
  link_none heads earlier p q =
      record {
        chains = ap length p ∙ length-replicate {A = ℕ} 1024 0;
        room = ap length q ∙ length-replicate {A = ℕ} 4096 0;
        heads_are = λ b l. ap (λ (ns : List ℕ). get_or ns b 0) p ∙ get_or-replicate {A = ℕ} 1024 b 0 0 l ∙ sym (none_yet b);
        earlier_are = λ m l. absurd (not-suc-le-zero l);
      }
