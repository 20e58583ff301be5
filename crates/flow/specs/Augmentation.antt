-- Pushing δ units along a tight path keeps margins, capacities and potentials.
use mathlib.Core.List.{List, [], ◌∷◌}
use Rattle.std.specs.Prelude.{◌⊎◌, ◌≢◌, ◌≡◌, ℕ, ◌+◌, ◌*◌, ◌≤◌, ◌<◌, ◌-◌, pos, length, set}
use Rattle.std.proofs.Math.Logic.{inl, inr}
use Rattle.std.proofs.Math.Path.{refl, sym, ap}
use Rattle.std.proofs.Common.{◌∙◌, arith, length-set}
use Rattle.std.proofs.Math.Decide.{ℕ_discrete}
use Rattle.spec.specs.Bytes.{sum_to, Two}
use Rattle.spec.specs.Transport.{Problem, size_of, mass_of, rows_of, cols_of, cell_at, supply_at, demand_at, capacity, moved, row_flow, col_flow, source, row, column, target, sink, node_count, vertex_of, residual, price, shift, push}
use Rattle.flow.specs.AugmentingPath.{TightPath, path, Carries, end, step, carries-step}
use Rattle.flow.specs.Flat.{at_same, at_other, row_same, row_other, col-same, col-other}
use Rattle.flow.specs.Network.{row_flow-is, col_flow-is, node_row, node-column, NodeIs, view, is_source, is_row, is_column, is_sink}
use Rattle.flow.specs.Search.{residual_of, price_of, Potential}
use Rattle.flow.specs.Signed.{pos_part, neg_part, z-neg}
use Rattle.flow.specs.Sums.{sum-change}
use Rattle.flow.specs.Update.{upd, upd_same, upd_other}

module _ (p : Problem) where
  abbrev pub row_sum : List ℕ → ℕ → ℕ
  row_sum x i = sum_to (cols_of p) (λ j. moved p x i j)

  abbrev pub col_sum : List ℕ → ℕ → ℕ
  col_sum x j = sum_to (rows_of p) (λ i. moved p x i j)

  abbrev pub cost_at : ℕ → ℕ → ℕ → ℕ
  cost_at w i j = size_of (cell_at p i j) * w + mass_of (cell_at p i j)

  pub price-fwd : (w i j : ℕ) → (pos_part (price p w (row i) (column j)) ≡ cost_at w i j) × (neg_part (price p w (row i) (column j)) ≡ 0)
  unfolding price
  price-fwd w i j = (refl, refl)

  pub price-back : (w i j : ℕ) → (pos_part (price p w (column j) (row i)) ≡ 0) × (neg_part (price p w (column j) (row i)) ≡ cost_at w i j)
  unfolding price
  price-back w i j = z-neg (pos (cost_at w i j))

-- row i lacks δ of what it shall have; all else is as it shall be
pub record AtRow (p : Problem) (δ : ℕ) (r c : ℕ → ℕ) (x : List ℕ) (i : ℕ) : Type 0 where
  pub len : length x ≡ rows_of p * cols_of p
  pub here : row_sum p x i + δ ≡ r i
  pub rows : (k : ℕ) → k < rows_of p → k ≢ i → row_sum p x k ≡ r k
  pub cols : (k : ℕ) → k < cols_of p → col_sum p x k ≡ c k

-- column j has δ too much
pub record AtCol (p : Problem) (δ : ℕ) (r c : ℕ → ℕ) (x : List ℕ) (j : ℕ) : Type 0 where
  pub len : length x ≡ rows_of p * cols_of p
  pub here : col_sum p x j ≡ c j + δ
  pub cols : (k : ℕ) → k < cols_of p → k ≢ j → col_sum p x k ≡ c k
  pub rows : (k : ℕ) → k < rows_of p → row_sum p x k ≡ r k

module _ (p : Problem) (δ : ℕ) (r c : ℕ → ℕ) (x : List ℕ) (i j : ℕ) (hi : i < rows_of p) (hj : j < cols_of p) where
  pub forward : AtRow p δ r c x i → AtCol p δ r c (set x (i * cols_of p + j) (moved p x i j + δ)) j
  forward A =
      let v = moved p x i j + δ in record {
        len = length-set x (i * cols_of p + j) v ∙ A.len;
        here = omega (arith, col-same (rows_of p) (cols_of p) x A.len i j v hi hj, A.cols j hj);
        cols = λ k hk ne. col-other (rows_of p) (cols_of p) x A.len i j v hi hj k hk ne ∙ A.cols k hk;
        rows = λ k hk. rw' k hk (ℕ_discrete k i);
      }
    where
      rw' : (k : ℕ) → k < rows_of p → Dec (k ≡ i) → row_sum p (set x (i * cols_of p + j) (moved p x i j + δ)) k ≡ r k
      rw' k hk (yes e) = rw e (omega (arith, row_same (rows_of p) (cols_of p) x A.len i j (moved p x i j + δ) hi hj, A.here))
      rw' k hk (no ne) = row_other (rows_of p) (cols_of p) x A.len i j (moved p x i j + δ) hi hj k ne ∙ A.rows k hk ne

  pub backward : δ ≤ moved p x i j → AtCol p δ r c x j → AtRow p δ r c (set x (i * cols_of p + j) (moved p x i j - δ)) i
  backward has A =
      let v = moved p x i j - δ in record {
        len = length-set x (i * cols_of p + j) v ∙ A.len;
        here = omega (arith, row_same (rows_of p) (cols_of p) x A.len i j v hi hj, A.rows i hi);
        rows = λ k hk ne. row_other (rows_of p) (cols_of p) x A.len i j v hi hj k ne ∙ A.rows k hk;
        cols = λ k hk. cw k hk (ℕ_discrete k j);
      }
    where
      cw : (k : ℕ) → k < cols_of p → Dec (k ≡ j) → col_sum p (set x (i * cols_of p + j) (moved p x i j - δ)) k ≡ c k
      cw k hk (yes e) = rw e (omega (arith, col-same (rows_of p) (cols_of p) x A.len i j (moved p x i j - δ) hi hj, A.here))
      cw k hk (no ne) = col-other (rows_of p) (cols_of p) x A.len i j (moved p x i j - δ) hi hj k hk ne ∙ A.cols k hk ne

-- what a cell keeps: it is within its capacity, and it changes only where it is tight
abbrev pub Cells : (p : Problem) (w : ℕ) (x₀ : List ℕ) (π : ℕ → ℕ) → ℕ → ℕ → ℕ → Type 0
Cells p w x₀ π i j z = (z ≤ capacity p i j) × ((z ≡ moved p x₀ i j) ⊎ (π (1 + i) + cost_at p w i j ≡ π (1 + rows_of p + j)))

-- the cells ahead are as they were
pub record Kept (p : Problem) (w : ℕ) (x₀ : List ℕ) (π h : ℕ → ℕ) (a : ℕ) (x : List ℕ) : Type 0 where
  pub same : (i j : ℕ) → i < rows_of p → j < cols_of p → h a ≤ h (1 + i) → h a ≤ h (1 + rows_of p + j) → moved p x i j ≡ moved p x₀ i j
  pub cells : (i j : ℕ) → i < rows_of p → j < cols_of p → Cells p w x₀ π i j (moved p x i j)

pub data Carried (p : Problem) (δ : ℕ) (r c : ℕ → ℕ) (a : ℕ) (x : List ℕ) : Type 0 where
  in_row : (i : ℕ) → i < rows_of p → a ≡ 1 + i → AtRow p δ r c x i → Carried p δ r c a x
  in_col : (j : ℕ) → j < cols_of p → a ≡ 1 + rows_of p + j → AtCol p δ r c x j → Carried p δ r c a x

pub record Pushed (p : Problem) (w : ℕ) (x₀ : List ℕ) (π : ℕ → ℕ) (δ : ℕ) (r c : ℕ → ℕ) (x : List ℕ) : Type 0 where
  pub last : ℕ
  pub last-lt : last < cols_of p
  pub at : AtCol p δ r c x last
  pub cells : (i j : ℕ) → i < rows_of p → j < cols_of p → Cells p w x₀ π i j (moved p x i j)
  pub room : δ ≤ demand_at p last - col_flow p x₀ last
  pub tight : π (1 + rows_of p + last) ≡ π (sink p)

module _ (p : Problem) (w : ℕ) (x₀ : List ℕ) (π h : ℕ → ℕ) (δ : ℕ) (pos-δ : 0 < δ) (r c : ℕ → ℕ) where
  keep : (x : List ℕ) → length x ≡ rows_of p * cols_of p → (i j v : ℕ) → i < rows_of p → j < cols_of p → Cells p w x₀ π i j v
      → ((a k : ℕ) → a < rows_of p → k < cols_of p → Cells p w x₀ π a k (moved p x a k))
      → (a k : ℕ) → a < rows_of p → k < cols_of p → Cells p w x₀ π a k (moved p (set x (i * cols_of p + j) v) a k)
  keep x len i j v hi hj t old a k ha hk = go (ℕ_discrete a i) (ℕ_discrete k j)
    where
      go : Dec (a ≡ i) → Dec (k ≡ j) → Cells p w x₀ π a k (moved p (set x (i * cols_of p + j) v) a k)
      go (yes e) (yes q) = rw (e, q, at_same (rows_of p) (cols_of p) x len i j v hi hj) t
      go (yes e) (no q) = rw (at_other (rows_of p) (cols_of p) x len i j v hi hj a k hk (λ _ y. q y)) (old a k ha hk)
      go (no e) d = rw (at_other (rows_of p) (cols_of p) x len i j v hi hj a k hk (λ y _. e y)) (old a k ha hk)

  -- the cells ahead of b, where the cell that changed has an end before b
  ahead : (a b : ℕ) (x : List ℕ) → length x ≡ rows_of p * cols_of p → (i j v : ℕ) → i < rows_of p → j < cols_of p → h a < h b → (h (1 + i) ≡ h a) ⊎ (h (1 + rows_of p + j) ≡ h a)
      → Cells p w x₀ π i j v → Kept p w x₀ π h a x → Kept p w x₀ π h b (set x (i * cols_of p + j) v)
  ahead a b x len i j v hi hj lt which t K = record {
    same = λ i' j' hi' hj' y z. at_other (rows_of p) (cols_of p) x len i j v hi hj i' j' hj' (λ e f. clash (ap (λ (o : ℕ). h (1 + o)) e) (ap (λ (o : ℕ). h (1 + rows_of p + o)) f) y z which)
        ∙ K.same i' j' hi' hj' (omega arith) (omega arith);
    cells = keep x len i j v hi hj t K.cells;
  }
    where
      clash : {c d : ℕ} → c ≡ h (1 + i) → d ≡ h (1 + rows_of p + j) → h b ≤ c → h b ≤ d → (h (1 + i) ≡ h a) ⊎ (h (1 + rows_of p + j) ≡ h a) → ⊥
      clash e f y z (inl q) = omega arith
      clash e f y z (inr q) = omega arith

  stop : (path : List Two) (b : ℕ) → TightPath p w x₀ π h b path → b ≡ sink p → path ≡ []
  stop [] b ch e = refl
  stop (s ∷ path) b (step d ha hd d0 nt up rr t ch) e = absurd (nt e)

  pub pushed : (path : List Two) (a : ℕ) (x : List ℕ) → TightPath p w x₀ π h a path → Carries p w x₀ δ path → Carried p δ r c a x → Kept p w x₀ π h a x → Pushed p w x₀ π δ r c (push p δ path x)
  unfolding push shift residual price
  pushed [] a x (end e) f (in_row i hi q A) K = absurd (omega arith)
  pushed [] a x (end e) f (in_col j hj q A) K = absurd (omega arith)
  pushed (s ∷ path) a x (step b ha hb b0 nt up rr tt' ch) (carries-step ft fs) (in_row i hi q A) K = go (view p b hb) (λ x' H' K'. pushed path b x' ch fs H' K')
    where
      qa : vertex_of p a ≡ row i
      qa = ap (vertex_of p) q ∙ node_row p i hi

      go : NodeIs p b → ((x' : List ℕ) → Carried p δ r c b x' → Kept p w x₀ π h b x' → Pushed p w x₀ π δ r c (push p δ path x'))
          → Pushed p w x₀ π δ r c (push p δ path (shift p δ (vertex_of p a) (vertex_of p b) x))
      go (is_source e n) ih = absurd (b0 e)
      go (is_row k hk e n) ih = let z : 0 < residual p x₀ (row i) (row k) = rw (qa, n) at rr in absurd (omega arith)
      go (is_sink e n) ih = let z : 0 < residual p x₀ (row i) target = rw (qa, n) at rr in absurd (omega arith)
      go (is_column j hj e n) ih =
          let z : δ ≤ capacity p i j - moved p x₀ i j = rw (qa, n) at ft in
          let t : π a + pos_part (price p w (row i) (column j)) ≡ π b + neg_part (price p w (row i) (column j)) = rw (qa, n) at tt' in
          let ea : h a ≡ h (1 + i) = ap h q in
          let eb : h b ≡ h (1 + rows_of p + j) = ap h e in
          let old : moved p x i j ≡ moved p x₀ i j = K.same i j hi hj (omega arith) (omega arith) in
          let tight : π (1 + i) + cost_at p w i j ≡ π (1 + rows_of p + j) = omega (arith, ap π q, ap π e, price-fwd p w i j) in
          rw (qa, n) (ih (set x (i * cols_of p + j) (moved p x i j + δ)) (in_col j hj e (forward p δ r c x i j hi hj A))
          (ahead a b x A.len i j (moved p x i j + δ) hi hj (omega arith) (inl (sym ea)) ((omega arith), inr tight) K))
  pushed (s ∷ path) a x (step b ha hb b0 nt up rr tt' ch) (carries-step ft fs) (in_col j hj q A) K = go (view p b hb) (λ x' H' K'. pushed path b x' ch fs H' K')
    where
      qa : vertex_of p a ≡ column j
      qa = ap (vertex_of p) q ∙ node-column p j hj

      go : NodeIs p b → ((x' : List ℕ) → Carried p δ r c b x' → Kept p w x₀ π h b x' → Pushed p w x₀ π δ r c (push p δ path x'))
          → Pushed p w x₀ π δ r c (push p δ path (shift p δ (vertex_of p a) (vertex_of p b) x))
      go (is_source e n) ih = absurd (b0 e)
      go (is_column k hk e n) ih = let z : 0 < residual p x₀ (column j) (column k) = rw (qa, n) at rr in absurd (omega arith)
      go (is_row i hi e n) ih =
          let z : δ ≤ moved p x₀ i j = rw (qa, n) at ft in
          let t : π a + pos_part (price p w (column j) (row i)) ≡ π b + neg_part (price p w (column j) (row i)) = rw (qa, n) at tt' in
          let ea : h a ≡ h (1 + rows_of p + j) = ap h q in
          let eb : h b ≡ h (1 + i) = ap h e in
          let old : moved p x i j ≡ moved p x₀ i j = K.same i j hi hj (omega arith) (omega arith) in
          let tight : π (1 + i) + cost_at p w i j ≡ π (1 + rows_of p + j) = omega (arith, ap π q, ap π e, price-back p w i j) in
          let cap : moved p x i j ≤ capacity p i j = (K.cells i j hi hj).0 in
          rw (qa, n) (ih (set x (i * cols_of p + j) (moved p x i j - δ)) (in_row i hi e (backward p δ r c x i j hi hj (omega arith) A))
          (ahead a b x A.len i j (moved p x i j - δ) hi hj (omega arith) (inr (sym ea)) ((omega arith), inr tight) K))
      go (is_sink e n) ih =
          let z : δ ≤ demand_at p j - col_flow p x₀ j = rw (qa, n) at ft in
          let t : π a + pos_part (price p w (column j) target) ≡ π b + neg_part (price p w (column j) target) = rw (qa, n) at tt' in
          rw (qa, n, stop path b ch e) (record { last = j; last-lt = hj; at = A; cells = K.cells; room = z; tight = omega (arith, ap π q, ap π e) })

-- ---- from the source: the plan x' is x₀ with δ more in a row and in a column
pub record Augmented (p : Problem) (w : ℕ) (x₀ : List ℕ) (π : ℕ → ℕ) (δ : ℕ) (x' : List ℕ) : Type 0 where
  pub first : ℕ
  pub first-lt : first < rows_of p
  pub room : δ ≤ supply_at p first - row_flow p x₀ first
  pub tight : π 0 ≡ π (1 + first)
  pub done : Pushed p w x₀ π δ (upd (row_sum p x₀) first (row_sum p x₀ first + δ)) (col_sum p x₀) x'

module _ (p : Problem) (w : ℕ) (x₀ : List ℕ) (π h : ℕ → ℕ) (δ : ℕ) (pos-δ : 0 < δ) (len : length x₀ ≡ rows_of p * cols_of p)
    (caps : (i j : ℕ) → i < rows_of p → j < cols_of p → moved p x₀ i j ≤ capacity p i j) where
  pub augmented-by : (path : List Two) → TightPath p w x₀ π h 0 path → Carries p w x₀ δ path → Augmented p w x₀ π δ (push p δ path x₀)
  unfolding push shift residual price
  augmented-by [] (end e) f = absurd (omega arith)
  augmented-by (s ∷ path) (step b ha hb b0 nt up rr t' ch) (carries-step ft fs) = go (view p b hb)
    where
      go : NodeIs p b → Augmented p w x₀ π δ (push p δ path (shift p δ source (vertex_of p b) x₀))
      go (is_source e n) = absurd (b0 e)
      go (is_column k hk e n) = let z : 0 < residual p x₀ source (column k) = rw n at rr in absurd (omega arith)
      go (is_sink e n) = let z : 0 < residual p x₀ source target = rw n at rr in absurd (omega arith)
      go (is_row i hi e n) = record {
        first = i;
        first-lt = hi;
        room = rw n at ft;
        tight = omega (arith, t', ap π e);
        done = pushed p w x₀ π h δ pos-δ (upd (row_sum p x₀) i (row_sum p x₀ i + δ)) (col_sum p x₀) path b x₀ ch fs
            (in_row i hi e (record { len = len; here = sym (upd_same (row_sum p x₀) i (row_sum p x₀ i + δ)); rows = λ k hk ne. sym (upd_other (row_sum p x₀) i (row_sum p x₀ i + δ) k ne); cols = λ k hk. refl }))
            (record { same = λ i' j hi' hj y z. refl; cells = λ i' j hi' hj. (caps i' j hi' hj, inl refl) });
      }

-- ---- what one augmentation keeps
pub record Partial (p : Problem) (w : ℕ) (x : List ℕ) : Type 0 where
  pub len : length x ≡ rows_of p * cols_of p
  pub rows : (i : ℕ) → i < rows_of p → row_sum p x i ≤ supply_at p i
  pub cols : (j : ℕ) → j < cols_of p → col_sum p x j ≤ demand_at p j
  pub caps : (i j : ℕ) → i < rows_of p → j < cols_of p → moved p x i j ≤ capacity p i j
  pub π : ℕ → ℕ
  pub pot : Potential p w x π

module _ (p : Problem) (w : ℕ) (x : List ℕ) (I : Partial p w x) (π : ℕ → ℕ) (pot : Potential p w x π) (δ : ℕ) (x' : List ℕ) (S : Augmented p w x π δ x') where
  row_flow-new : (i : ℕ) → i < rows_of p → ((i ≡ S.first) × (row_sum p x' i ≡ row_sum p x i + δ)) ⊎ ((i ≢ S.first) × (row_sum p x' i ≡ row_sum p x i))
  row_flow-new i hi = go (ℕ_discrete i S.first)
    where
      go : Dec (i ≡ S.first) → ((i ≡ S.first) × (row_sum p x' i ≡ row_sum p x i + δ)) ⊎ ((i ≢ S.first) × (row_sum p x' i ≡ row_sum p x i))
      go (yes e) = inl (e, (S.done.at.rows i hi ∙ (rw e (upd_same (row_sum p x) S.first (row_sum p x S.first + δ)))))
      go (no e) = inr (e, (S.done.at.rows i hi ∙ upd_other (row_sum p x) S.first (row_sum p x S.first + δ) i e))

  col_flow-new : (j : ℕ) → j < cols_of p → ((j ≡ S.done.last) × (col_sum p x' j ≡ col_sum p x j + δ)) ⊎ ((j ≢ S.done.last) × (col_sum p x' j ≡ col_sum p x j))
  col_flow-new j hj = go (ℕ_discrete j S.done.last)
    where
      go : Dec (j ≡ S.done.last) → ((j ≡ S.done.last) × (col_sum p x' j ≡ col_sum p x j + δ)) ⊎ ((j ≢ S.done.last) × (col_sum p x' j ≡ col_sum p x j))
      go (yes e) = inl (e, rw e S.done.at.here)
      go (no e) = inr (e, S.done.at.cols j hj e)

  new-slope : (a b : ℕ) → a < node_count p → b < node_count p → NodeIs p a → NodeIs p b → 0 < residual_of p w x' a b → π b + neg_part (price_of p w x a b) ≤ π a + pos_part (price_of p w x a b)
  unfolding residual price
  new-slope a b ha hb (is_source ea na) (is_row i hi eb nb) r =
      let z : 0 < supply_at p i - row_flow p x' i = rw (na, nb) at r in
      pot.slope a b ha hb (rw (na, nb) (elim (row_flow-new i hi) [ inl q ↦ omega (arith, row_flow-is p x i, row_flow-is p x' i, q.1) | inr q ↦ omega (arith, row_flow-is p x i, row_flow-is p x' i, q.1) ]))
  new-slope a b ha hb (is_row i hi ea na) (is_source eb nb) r =
      let z : 0 < row_flow p x' i = rw (na, nb) at r in
      elim (row_flow-new i hi) [
        | inl q ↦ rw (na, nb) (omega (arith, S.tight, ap π ea, ap π eb, ap (λ (o : ℕ). π (1 + o)) q.0))
        | inr q ↦ pot.slope a b ha hb (rw (na, nb) (omega (arith, row_flow-is p x i, row_flow-is p x' i, q.1)))
      ]
  new-slope a b ha hb (is_row i hi ea na) (is_column j hj eb nb) r =
      let z : 0 < capacity p i j - moved p x' i j = rw (na, nb) at r in
      elim (S.done.cells i j hi hj).1 [
        | inl q ↦ pot.slope a b ha hb (rw (na, nb) (omega arith))
        | inr q ↦ rw (na, nb) (omega (arith, q, ap π ea, ap π eb, price-fwd p w i j))
      ]
  new-slope a b ha hb (is_column j hj ea na) (is_row i hi eb nb) r =
      let z : 0 < moved p x' i j = rw (na, nb) at r in
      elim (S.done.cells i j hi hj).1 [
        | inl q ↦ pot.slope a b ha hb (rw (na, nb) (omega arith))
        | inr q ↦ rw (na, nb) (omega (arith, q, ap π ea, ap π eb, price-back p w i j))
      ]
  new-slope a b ha hb (is_column j hj ea na) (is_sink eb nb) r =
      let z : 0 < demand_at p j - col_flow p x' j = rw (na, nb) at r in
      pot.slope a b ha hb (rw (na, nb) (elim (col_flow-new j hj) [ inl q ↦ omega (arith, col_flow-is p x j, col_flow-is p x' j, q.1) | inr q ↦ omega (arith, col_flow-is p x j, col_flow-is p x' j, q.1) ]))
  new-slope a b ha hb (is_sink ea na) (is_column j hj eb nb) r =
      let z : 0 < col_flow p x' j = rw (na, nb) at r in
      elim (col_flow-new j hj) [
        | inl q ↦ rw na (omega (arith, S.done.tight, ap π ea, ap π eb, ap (λ (o : ℕ). π (1 + rows_of p + o)) q.0))
        | inr q ↦ pot.slope a b ha hb (rw (na, nb) (omega (arith, col_flow-is p x j, col_flow-is p x' j, q.1)))
      ]
  new-slope a b ha hb (is_source ea na) (is_source eb nb) r = let z : 0 < residual p x' source source = rw (na, nb) at r in absurd (omega arith)
  new-slope a b ha hb (is_source ea na) (is_column k hk eb nb) r = let z : 0 < residual p x' source (column k) = rw (na, nb) at r in absurd (omega arith)
  new-slope a b ha hb (is_source ea na) (is_sink eb nb) r = let z : 0 < residual p x' source target = rw (na, nb) at r in absurd (omega arith)
  new-slope a b ha hb (is_row i hi ea na) (is_row k hk eb nb) r = let z : 0 < residual p x' (row i) (row k) = rw (na, nb) at r in absurd (omega arith)
  new-slope a b ha hb (is_row i hi ea na) (is_sink eb nb) r = let z : 0 < residual p x' (row i) target = rw (na, nb) at r in absurd (omega arith)
  new-slope a b ha hb (is_column j hj ea na) (is_source eb nb) r = let z : 0 < residual p x' (column j) source = rw (na, nb) at r in absurd (omega arith)
  new-slope a b ha hb (is_column j hj ea na) (is_column k hk eb nb) r = let z : 0 < residual p x' (column j) (column k) = rw (na, nb) at r in absurd (omega arith)
  new-slope a b ha hb (is_sink ea na) (is_source eb nb) r = let z : 0 < residual p x' target source = rw (na, nb) at r in absurd (omega arith)
  new-slope a b ha hb (is_sink ea na) (is_row k hk eb nb) r = let z : 0 < residual p x' target (row k) = rw (na, nb) at r in absurd (omega arith)
  new-slope a b ha hb (is_sink ea na) (is_sink eb nb) r = let z : 0 < residual p x' target target = rw (na, nb) at r in absurd (omega arith)

  pub next-partial : Partial p w x'
  next-partial = record {
    len = S.done.at.len;
    rows = λ i hi. elim (row_flow-new i hi) [
      | inl q ↦ omega (arith, q.1, I.rows i hi, S.room, row_flow-is p x S.first, ap (row_sum p x) q.0, ap (supply_at p) q.0)
      | inr q ↦ omega (arith, q.1, I.rows i hi)
    ];
    cols = λ j hj. elim (col_flow-new j hj) [
      | inl q ↦ omega (arith, q.1, I.cols j hj, S.done.room, col_flow-is p x S.done.last, ap (col_sum p x) q.0, ap (demand_at p) q.0)
      | inr q ↦ omega (arith, q.1, I.cols j hj)
    ];
    caps = λ i j hi hj. (S.done.cells i j hi hj).0;
    π = π;
    pot = record { at0 = pot.at0; slope = λ a b ha hb r. new-slope a b ha hb (view p a ha) (view p b hb) r };
  }

  -- the plan holds δ more
  pub grows : sum_to (rows_of p) (row_sum p x') ≡ sum_to (rows_of p) (row_sum p x) + δ
  grows =
      let q = sum-change (rows_of p) (row_sum p x') (row_sum p x) S.first S.first-lt (λ i hi ne. S.done.at.rows i hi ∙ upd_other (row_sum p x) S.first (row_sum p x S.first + δ) i ne) in
      omega (arith, S.done.at.rows S.first S.first-lt, upd_same (row_sum p x) S.first (row_sum p x S.first + δ))
