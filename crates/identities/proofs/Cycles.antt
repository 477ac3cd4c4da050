-- The labels are a permutation of the cells between equal values, and leave row 0: so a product of factors of value and label is the
-- same over the cells' own labels and over the moved ones.
use mathlib.Core.Path.{◌≡◌, refl, sym, ap, ◌∙◌, subst, subst⁻¹}
use mathlib.Core.Logic.{◌≢◌, ite, if_pos, if_neg}
use mathlib.Core.List.{List, [], ◌∷◌, ◌++◌}
use Prim.Native.Nat.{ℕ, suc, ◌+◌, ◌-◌, ◌*◌, ◌%◌, ◌<◌}
use native.Mathlib.Nat.{lt_irrefl}
use native.Mathlib.Decide.{ℕ_discrete}
use Rattle.bh.specs.Sums.{up_to}
use Rattle.bh.proofs.Perm.{Keeps, sum_through, Out, Nodup}
use Rattle.lists.specs.Lists.{All}
use Rattle.lists.proofs.All.{all_any}
use Rattle.lists.proofs.Parts.{mod_row}
use Rattle.identities.specs.Cycles.{
  last_of,
  before_in,
  cell_before,
  moved,
  labels,
  Equal,
  CopiedCell,
  Cycle,
  Cycles,
  Copied,
  CellMove,
  product_over_cells,
  OutAll,
}
use Rattle.identities.specs.Totals.{Monoid}
use Rattle.identities.proofs.Totals.{sums, up_to_cong, up_to_flat, up_to_but_0}

-- two cells change places
swap : ℕ → ℕ → ℕ → ℕ
swap x y c = ite (ℕ_discrete c x) y (ite (ℕ_discrete c y) x c)

swap_l : (x y c : ℕ) → c ≡ x → swap x y c ≡ y
unfolding swap
swap_l x y c e = if_pos (ℕ_discrete c x) e y (ite (ℕ_discrete c y) x c)

swap_r : (x y c : ℕ) → c ≢ x → c ≡ y → swap x y c ≡ x
unfolding swap
swap_r x y c n e = if_neg (ℕ_discrete c x) n y (ite (ℕ_discrete c y) x c) ∙ if_pos (ℕ_discrete c y) e x c

swap_o : (x y c : ℕ) → c ≢ x → c ≢ y → swap x y c ≡ c
unfolding swap
swap_o x y c n m = if_neg (ℕ_discrete c x) n y (ite (ℕ_discrete c y) x c) ∙ if_neg (ℕ_discrete c y) m x c

swap_r' : (x y c : ℕ) → c ≡ y → swap x y c ≡ x
swap_r' x y c e = go (ℕ_discrete c x)
  where
    go : Dec (c ≡ x) → swap x y c ≡ x
    go (yes h) = swap_l x y c h ∙ sym e ∙ h
    go (no h) = swap_r x y c h e

swap_twice : (x y c : ℕ) → swap x y (swap x y c) ≡ c
swap_twice x y c = go (ℕ_discrete c x) (ℕ_discrete c y)
  where
    go : Dec (c ≡ x) → Dec (c ≡ y) → swap x y (swap x y c) ≡ c
    go (yes h) q = swap_r' x y (swap x y c) (swap_l x y c h) ∙ sym h
    go (no h) (yes q) = swap_l x y (swap x y c) (swap_r x y c h q) ∙ sym q
    go (no h) (no q) = ap (swap x y) (swap_o x y c h q) ∙ swap_o x y c h q

module _ {W : Type 0} (n M : ℕ) (v : ℕ → W) where
  good_id : CellMove n M v (λ c. c)
  good_id = record { within = λ c h. h; apart = λ c d e. e; same = λ c. refl; still = λ c h. refl }

  good_after : (σ τ : ℕ → ℕ) → CellMove n M v σ → CellMove n M v τ → CellMove n M v (λ c. σ (τ c))
  good_after σ τ s t =
      record {
        within = λ c h. s.within (τ c) (t.within c h);
        apart = λ c d e. t.apart c d (s.apart (τ c) (τ d) e);
        same = λ c. s.same (τ c) ∙ t.same c;
        still = λ c h. ap σ (t.still c h) ∙ s.still c h;
      }

  good_is : (σ τ : ℕ → ℕ) → ((c : ℕ) → σ c ≡ τ c) → CellMove n M v τ → CellMove n M v σ
  good_is σ τ e t =
      record {
        within = λ c h. subst⁻¹ (λ (x : ℕ). x < n * M) (e c) (t.within c h);
        apart = λ c d q. t.apart c d (sym (e c) ∙ q ∙ e d);
        same = λ c. ap v (e c) ∙ t.same c;
        still = λ c h. e c ∙ t.still c h;
      }

  good_swap : (x y : ℕ) → CopiedCell n M x → CopiedCell n M y → v x ≡ v y → CellMove n M v (swap x y)
  good_swap x y hx hy e =
      record {
        within = λ c h. within c h (ℕ_discrete c x) (ℕ_discrete c y);
        apart = λ c d q. sym (swap_twice x y c) ∙ ap (swap x y) q ∙ swap_twice x y d;
        same = λ c. same c (ℕ_discrete c x) (ℕ_discrete c y);
        still = λ c h.
            swap_o x y c (λ q. hx.row (subst (λ (z : ℕ). z % M ≡ 0) q h)) (λ q. hy.row (subst (λ (z : ℕ). z % M ≡ 0) q h));
      }
    where
      within : (c : ℕ) → c < n * M → Dec (c ≡ x) → Dec (c ≡ y) → swap x y c < n * M
      within c h (yes p) q = subst⁻¹ (λ (z : ℕ). z < n * M) (swap_l x y c p) hy.inside
      within c h (no p) (yes q) = subst⁻¹ (λ (z : ℕ). z < n * M) (swap_r x y c p q) hx.inside
      within c h (no p) (no q) = subst⁻¹ (λ (z : ℕ). z < n * M) (swap_o x y c p q) h

      same : (c : ℕ) → Dec (c ≡ x) → Dec (c ≡ y) → v (swap x y c) ≡ v c
      same c (yes p) q = ap v (swap_l x y c p) ∙ sym e ∙ ap v (sym p)
      same c (no p) (yes q) = ap v (swap_r x y c p q) ∙ e ∙ ap v (sym q)
      same c (no p) (no q) = ap v (swap_o x y c p q)

-- ---- a cycle is a swap of its first two cells, then the cycle of the rest
before_out : (p c : ℕ) (xs : List ℕ) → Out c xs → before_in p xs c ≡ c
unfolding before_in
before_out p c [] o = refl
before_out p c (x ∷ xs) o = if_neg (ℕ_discrete c x) o.0 p (before_in x xs c) ∙ before_out x c xs o.1

before_one : (x c : ℕ) → cell_before (x ∷ []) c ≡ c
unfolding cell_before
before_one x c = go (ℕ_discrete c x)
  where
    go : Dec (c ≡ x) → ite (ℕ_discrete c x) x c ≡ c
    go (yes e) = if_pos (ℕ_discrete c x) e x c ∙ sym e
    go (no n) = if_neg (ℕ_discrete c x) n x c

before_split : (x y : ℕ) (r : List ℕ) → Out x (y ∷ r) → (c : ℕ) → cell_before (x ∷ y ∷ r) c ≡ cell_before (y ∷ r) (swap x y c)
unfolding cell_before
before_split x y r o c = go (ℕ_discrete c x) (ℕ_discrete c y)
  where
    L : ℕ
    L = last_of y r

    at : ℕ → ℕ
    at d = ite (ℕ_discrete d y) L (before_in y r d)

    go : Dec (c ≡ x) → Dec (c ≡ y) → ite (ℕ_discrete c x) L (ite (ℕ_discrete c y) x (before_in y r c)) ≡ at (swap x y c)
    go (yes p) q =
        if_pos (ℕ_discrete c x) p L (ite (ℕ_discrete c y) x (before_in y r c))
        ∙ sym (if_pos (ℕ_discrete (swap x y c) y) (swap_l x y c p) L (before_in y r (swap x y c)))
    go (no p) (yes q) =
        if_neg (ℕ_discrete c x) p L (ite (ℕ_discrete c y) x (before_in y r c))
        ∙ if_pos (ℕ_discrete c y) q x (before_in y r c)
        ∙ sym (ap at (swap_r x y c p q) ∙ if_neg (ℕ_discrete x y) o.0 L (before_in y r x) ∙ before_out y x r o.1)
    go (no p) (no q) =
        if_neg (ℕ_discrete c x) p L (ite (ℕ_discrete c y) x (before_in y r c))
        ∙ if_neg (ℕ_discrete c y) q x (before_in y r c)
        ∙ sym (ap at (swap_o x y c p q) ∙ if_neg (ℕ_discrete c y) q L (before_in y r c))

equal_rest : {W : Type 0} (v : ℕ → W) (x y : ℕ) (r : List ℕ) → v x ≡ v y → All (λ z. v x ≡ v z) r → All (λ z. v y ≡ v z) r
equal_rest v x y [] e t = tt
equal_rest v x y (z ∷ r) e t = (sym e ∙ t.0, equal_rest v x y r e t.1)

module _ {W : Type 0} (n M : ℕ) (v : ℕ → W) where
  good_cycle_is : (x : ℕ) (C : List ℕ) → All (CopiedCell n M) (x ∷ C) → Nodup (x ∷ C) → Equal v (x ∷ C) → CellMove n M v (cell_before (x ∷ C))
  good_cycle_is x [] cs d e = good_is n M v (cell_before (x ∷ [])) (λ c. c) (before_one x) (good_id n M v)
  good_cycle_is x (y ∷ r) cs d e =
      good_is n M v (cell_before (x ∷ y ∷ r)) (λ c. cell_before (y ∷ r) (swap x y c)) (before_split x y r d.0)
      (good_after n M v (cell_before (y ∷ r)) (swap x y)
      (good_cycle_is y r cs.1 d.1 (equal_rest v x y r e.0 e.1))
      (good_swap n M v x y cs.0 cs.1.0 e.0))

  good_before : (C : List ℕ) → Cycle n M C → Equal v C → CellMove n M v (cell_before C)
  unfolding cell_before
  good_before [] h e = good_id n M v
  good_before (x ∷ C) h e = good_cycle_is x C h.cells h.once e

  good_moved : (l : ℕ → ℕ) (Cs : List (List ℕ)) → CellMove n M v l → Cycles n M Cs → Copied v Cs → CellMove n M v (moved l Cs)
  unfolding moved
  good_moved l [] g h e = g
  good_moved l (C ∷ Cs) g h e =
      good_moved (λ d. l (cell_before C d)) Cs (good_after n M v l (cell_before C) g (good_before C h.0 e.0)) h.1 e.1

  -- the labels are a move between equal cells
  pub good_labels : (Cs : List (List ℕ)) → Cycles n M Cs → Copied v Cs → CellMove n M v (labels Cs)
  unfolding labels
  good_labels Cs h e = good_moved (λ d. d) Cs (good_id n M v) h e

  good_keeps : (σ : ℕ → ℕ) → CellMove n M v σ → Keeps (n * M) σ
  good_keeps σ g =
      record {
        within = g.within;
        apart = λ i j m h e. lt_irrefl j (subst (λ (x : ℕ). x < j) (g.apart i j e) m);
      }

-- ---- the product over the cells on rows other than 0
module _ {A : Type 0} (op : A → A → A) (e : A) (𝓜 : Monoid op e) (n M : ℕ) (pos : 0 < M) where
  cells_flat : (f : ℕ → A) → up_to op e (λ i. up_to op e (λ b. f (i * M + suc b)) (M - 1)) n ≡ up_to op e (λ c. ite (ℕ_discrete (c % M) 0) e (f c)) (n * M)
  cells_flat f =
      up_to_cong op e (λ i. up_to op e (λ b. f (i * M + suc b)) (M - 1)) (λ i. up_to op e (λ r. g (i * M + r)) M) n
      (λ i h. sym (line i))
      ∙ up_to_flat op e 𝓜 g n M
    where
      g : ℕ → A
      g c = ite (ℕ_discrete (c % M) 0) e (f c)

      line : (i : ℕ) → up_to op e (λ r. g (i * M + r)) M ≡ up_to op e (λ b. f (i * M + suc b)) (M - 1)
      line i =
          up_to_cong op e (λ r. g (i * M + r)) (λ r. ite (ℕ_discrete r 0) e (f (i * M + r))) M
          (λ r h. ap (λ (x : ℕ). ite (ℕ_discrete x 0) e (f (i * M + r))) (mod_row i M r h))
          ∙ up_to_but_0 op e 𝓜 (λ r. f (i * M + r)) M pos

  -- a function of value and label, over the cells' own labels and over the moved ones
  pub permuted : {W : Type 0} (v : ℕ → W) (Cs : List (List ℕ)) → Cycles n M Cs → Copied v Cs → (φ : W → ℕ → A)
      → product_over_cells op e n M (λ c. φ (v c) c) ≡ product_over_cells op e n M (λ c. φ (v c) (labels Cs c))
  permuted {W} v Cs h q φ =
      cells_flat (λ c. φ (v c) c)
      ∙ sym (sum_through op e (sums op e 𝓜) g (n * M) σ (good_keeps n M v σ good))
      ∙ up_to_cong op e (λ c. g (σ c)) (λ c. ite (ℕ_discrete (c % M) 0) e (φ (v c) (σ c))) (n * M) (λ c l. at c (ℕ_discrete (c % M) 0))
      ∙ sym (cells_flat (λ c. φ (v c) (σ c)))
    where
      σ : ℕ → ℕ
      σ = labels Cs

      good : CellMove n M v σ
      good = good_labels n M v Cs h q

      g : ℕ → A
      g c = ite (ℕ_discrete (c % M) 0) e (φ (v c) c)

      at : (c : ℕ) → Dec (c % M ≡ 0) → g (σ c) ≡ ite (ℕ_discrete (c % M) 0) e (φ (v c) (σ c))
      at c (yes z) =
          ap g (good.still c z) ∙ if_pos (ℕ_discrete (c % M) 0) z e (φ (v c) c)
          ∙ sym (if_pos (ℕ_discrete (c % M) 0) z e (φ (v c) (σ c)))
      at c (no z) =
          if_neg (ℕ_discrete (σ c % M) 0) (λ w. z (subst (λ (x : ℕ). x % M ≡ 0) (good.apart (σ c) c (good.still (σ c) w)) w)) e (φ (v (σ c)) (σ c))
          ∙ ap (λ (x : W). φ x (σ c)) (good.same c)
          ∙ sym (if_neg (ℕ_discrete (c % M) 0) z e (φ (v c) (σ c)))

-- ---- a cell that stands in one cycle only
-- a cycle moves none but its own cells
before_still : (C : List ℕ) (c : ℕ) → Out c C → cell_before C c ≡ c
unfolding cell_before
before_still [] c o = refl
before_still (x ∷ xs) c o = before_out (last_of x xs) c (x ∷ xs) o

moved_append : (l : ℕ → ℕ) (Xs Ys : List (List ℕ)) (c : ℕ) → moved l (Xs ++ Ys) c ≡ moved (moved l Xs) Ys c
unfolding moved
moved_append l [] Ys c = refl
moved_append l (X ∷ Xs) Ys c = moved_append (λ d. l (cell_before X d)) Xs Ys c

moved_out : (l : ℕ → ℕ) (Ys : List (List ℕ)) (c : ℕ) → OutAll c Ys → moved l Ys c ≡ l c
unfolding moved
moved_out l [] c o = refl
moved_out l (Y ∷ Ys) c o = moved_out (λ d. l (cell_before Y d)) Ys c o.1 ∙ ap l (before_still Y c o.0)

-- its label is the cell before it in that cycle, whatever the order of the cycles
pub labels_alone : (Xs : List (List ℕ)) (C : List ℕ) (Ys : List (List ℕ)) (c : ℕ) → OutAll (cell_before C c) Xs → OutAll c Ys
    → labels (Xs ++ (C ∷ Ys)) c ≡ cell_before C c
unfolding labels moved
labels_alone Xs C Ys c x y =
    moved_append (λ d. d) Xs (C ∷ Ys) c ∙ moved_out (λ d. moved (λ e. e) Xs (cell_before C d)) Ys c y
    ∙ moved_out (λ d. d) Xs (cell_before C c) x

-- ---- the labels are the cells, each once, with row 0 as it was
unit_copied : (Cs : List (List ℕ)) → Copied (λ (c : ℕ). tt {0}) Cs
unit_copied Cs = all_any (Equal (λ (c : ℕ). tt {0})) unit_equal Cs
  where
    unit_equal : (C : List ℕ) → Equal (λ (c : ℕ). tt {0}) C
    unit_equal [] = tt
    unit_equal (x ∷ xs) = all_any (λ y. ◌≡◌ {A = Unit {0}} tt tt) (λ y. refl) xs

pub labels_good : (n M : ℕ) (Cs : List (List ℕ)) → Cycles n M Cs → CellMove n M (λ (c : ℕ). tt {0}) (labels Cs)
labels_good n M Cs h = good_labels n M (λ (c : ℕ). tt {0}) Cs h (unit_copied Cs)
