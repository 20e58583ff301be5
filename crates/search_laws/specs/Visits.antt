-- The edges of a node on words are the definition's, one after the other.
use Rattle.std.specs.Prelude.{◌≡◌, List, ℤ, ◌+ℤ◌}
use Rattle.std.proofs.Math.Path.{refl}
use Rattle.std.proofs.Common.{ap, zero-add, mul-le-mul_right, lt-ltb, le-ltb}
use Rattle.std.proofs.Math.Option.{some}
use Prim.Native.Nat.{ℕ, zero, suc, ◌+◌, ◌-◌, ◌*◌, ◌^◌, ◌≤◌, ◌<◌}
use Rattle.std.proofs.Math.Nat.{add-zero}
use Rattle.std.proofs.Math.Decide.{ℕ_discrete, dec_lt}
use native.Mathlib.Omega.{arith}
use Rattle.std.proofs.Math.Numerals.{add-one}
use Rattle.std.proofs.Math.IntN.{pos}
use Rattle.std.proofs.Math.Arith.{digits_lt}
use Rattle.std.proofs.Math.ListN.{get_or}
use Rattle.spec.specs.Bytes.{up_from}
use Rattle.spec.specs.Transport.{Problem, Search, weight, cell_cost, cell_at, rows_of, cols_of, node_count, sink, vertex_of, neighbours, residual, price, capacity, moved, relax, visit, WIDEST}
use Rattle.wide.specs.declared.Wide.{Wide}
use Rattle.wide.specs.Wrap.{Natural, add_words, neg_words, add-natural, sub-natural}
use Rattle.flow.specs.Signed.{pos_part, neg_part, plus, z-add}
use Rattle.flow.specs.Network.{NodeIs, is_source, is_row, is_column, is_sink, view, node_row, node-column, node-sink}
use Rattle.flow.specs.Search.{label_at, residual_of, price_of, Labelled, none-some, same-label, below, offer-range, relax-is, outcome, skipped, taken, Outcome, after}
use Rattle.flow.specs.SearchEnds.{dear}
use Rattle.flow.specs.Augmentation.{Partial, price-fwd, price-back}
use Rattle.flow.specs.Magnitude.{Small, cost-lt, dearest-lt}
use Rattle.search_laws.specs.Fits.{few}
use Rattle.search_laws.specs.Holds.{NetHolds, FlowHolds, MarginsHold}
use Rattle.search_laws.specs.Laws.{margin-yes, margin-not, cell-yes, cell-not, against-yes, against-not, visited-source, visited-row, visited-column, visited-sink}
use Rattle.search_laws.specs.Relaxation.{Sized, relaxed-holds}
use Rattle.net.specs.Net.{label_of, state_of, relaxed}
use Rattle.cost_matrix.specs.Matrix.{cost_of, cap_of, CostsHold}
use Rattle.search_laws.specs.Edges.{along_margin, along_cell, against_cell, spread_to, along_row, against_column, visited, TAKEN}

pub sized : {p : Problem} {w : ℕ} {x : List ℕ} {π : ℕ → ℕ} {K : ℕ} {s : Search} {h : ℕ → ℕ} → Labelled p w x π K s h → Sized p s
sized G = record { dist = G.dist_length; pred = G.pred_length; queued = G.flag_length; inside = λ v i. (G.inside v i).0 }

-- the label of a node that was seen, as words
pub label-natural : (p : Problem) (s : Search) (m : List ℕ) → NetHolds p s m → (u l : ℕ) → u < node_count p → label_at s u ≡ some (pos l) → Natural (label_of m u) l
label-natural p s m N u l hu L = go (ℕ_discrete (state_of m u) 0)
  where
    go : Dec (state_of m u ≡ 0) → Natural (label_of m u) l
    go (yes e) = absurd (none-some (N.unseen u hu e) L)
    go (no e) = let (k, a, b) = N.seen u hu e in rw (same-label L a) b

module _ (p : Problem) (S : Small p) (x : List ℕ) (I : Partial p (weight p) x) where
  pub dear103 : (a b : ℕ) → pos_part (price_of p (weight p) x a b) ≤ 2 ^ 103 + neg_part (price_of p (weight p) x a b)
  dear103 a b = omega (arith, dear p (weight p) a b, dearest-lt p S)

  -- node u has the label l, and the net holds the search
  pub record Going (u l : ℕ) (s : Search) (m : List ℕ) : Type 0 where
    pub hops : ℕ → ℕ
    pub good : Labelled p (weight p) x I.π (2 ^ 103) s hops
    pub net : NetHolds p s m
    pub at : label_at s u ≡ some (pos l)

  pub label-lt : {u l : ℕ} {s : Search} {m : List ℕ} → Going u l s m → l < 2 ^ 111
  label-lt {u} {l} {s} {m} G =
      omega (arith, below p (weight p) x I.π I.pot (2 ^ 103) dear103 s G.hops G.good u l G.at, mul-le-mul_right (2 ^ 103) (few p S x I))

  module _ (u v l : ℕ) (hu : u < node_count p) (hv : v < node_count p) (s : Search) (m : List ℕ) (G : Going u l s m) where
    -- nothing is left on the edge
    pub shut : (0 < residual_of p (weight p) x u v → ⊥) → Going u l (relax p (weight p) x u (pos l) v s) m
    shut f = rw (relax-is p (weight p) x u (pos l) v s, le-ltb 0 (residual_of p (weight p) x u v) (omega (arith, f))) G

    -- something is left on it
    pub usable : (k : ℕ) (d : Wide) → 0 < residual_of p (weight p) x u v → k + neg_part (price_of p (weight p) x u v) ≡ l + pos_part (price_of p (weight p) x u v) → Natural d k
        → Going u l (relax p (weight p) x u (pos l) v s) (relaxed m u v d)
    usable k d r e D =
        let A = after p (weight p) x I.π I.pot (2 ^ 103) dear103 s G.hops G.good u v l hu hv G.at in
        record {
          hops = A.hops;
          good = A.good;
          at = A.still;
          net = rw (relax-is p (weight p) x u (pos l) v s, lt-ltb 0 (residual_of p (weight p) x u v) r, plus l k (price_of p (weight p) x u v) e)
              (relaxed-holds p (few p S x I) s (sized G.good) m G.net u v hv d k D);
        }

  -- ---- an edge at a margin: it costs nothing
  pub margin-holds : (u v l : ℕ) → u < node_count p → v < node_count p → (s : Search) (m : List ℕ) → Going u l s m → (r : ℕ) (d : Wide) → Natural d l
      → r ≡ residual_of p (weight p) x u v → price_of p (weight p) x u v ≡ pos 0 → Going u l (relax p (weight p) x u (pos l) v s) (along_margin r m u v d)
  margin-holds u v l hu hv s m G r d D er ep = go (dec_lt 0 r)
    where
      level : {z : ℤ} → z ≡ pos 0 → l + neg_part z ≡ l + pos_part z
      level e = rw e refl

      go : Dec (0 < r) → Going u l (relax p (weight p) x u (pos l) v s) (along_margin r m u v d)
      go (yes h) = rw (← margin-yes m u v d r h) (usable u v l hu hv s m G l d (omega arith) (level ep) D)
      go (no h) = rw (← margin-not m u v d r h) (shut u v l hu hv s m G (λ q. h (omega arith)))

  -- n of them, to the nodes from v on
  pub spread-holds : (y : List ℕ) (u l : ℕ) → u < node_count p → (d : Wide) → Natural d l → (n k v : ℕ) → v + n ≤ node_count p
      → ((i : ℕ) → i < n → (get_or y (k + i) 0 ≡ residual_of p (weight p) x u (v + i)) × (price_of p (weight p) x u (v + i) ≡ pos 0))
      → (s : Search) (m : List ℕ) → Going u l s m → Going u l (visit p (weight p) x u (pos l) (up_from v n) s) (spread_to y u d n k v m)
  unfolding visit spread_to up_from
  spread-holds y u l hu d D zero k v hv each s m G = G
  spread-holds y u l hu d D (suc n) k v hv each s m G =
      let (a, b) = each 0 (omega arith) in
      let a' : get_or y k 0 ≡ residual_of p (weight p) x u v = rw (add-zero k, add-zero v) at a in
      let b' : price_of p (weight p) x u v ≡ pos 0 = rw (add-zero v) at b in
      let next = margin-holds u v l hu (omega arith) s m G (get_or y k 0) d D a' b' in
      rw (← add-one v) (spread-holds y u l hu d D n (k + 1) (v + 1) (omega arith) (λ i h. shifted i (each (suc i) (omega arith))) (relax p (weight p) x u (pos l) v s) (along_margin (get_or y k 0) m u v d) next)
    where
      shifted : (i : ℕ) → (get_or y (k + suc i) 0 ≡ residual_of p (weight p) x u (v + suc i)) × (price_of p (weight p) x u (v + suc i) ≡ pos 0)
          → (get_or y (k + 1 + i) 0 ≡ residual_of p (weight p) x u (v + 1 + i)) × (price_of p (weight p) x u (v + 1 + i) ≡ pos 0)
      shifted i t =
          let e : k + 1 + i ≡ k + suc i = omega arith in
          let f : v + 1 + i ≡ v + suc i = omega arith in
          rw (e, f) t

  module _ (g f : List ℕ) (H : CostsHold p g) (F : FlowHolds p x f) (i j : ℕ) (hi : i < rows_of p) (hj : j < cols_of p) where
    abbrev cell : ℕ
    cell = i * cols_of p + j

    in-flow : get_or f (i * cols_of p + j) 0 ≡ moved p x i j
    in-flow = F (i * cols_of p + j) (digits_lt hi hj)

    forward-left : residual_of p (weight p) x (1 + i) (1 + rows_of p + j) ≡ capacity p i j - moved p x i j
    unfolding residual
    forward-left = rw (node_row p i hi, node-column p j hj) refl

    back-left : residual_of p (weight p) x (1 + rows_of p + j) (1 + i) ≡ moved p x i j
    unfolding residual
    back-left = rw (node_row p i hi, node-column p j hj) refl

    cost-fits : cell_cost (weight p) (cell_at p i j) < 2 ^ 103
    cost-fits = cost-lt p S (i * cols_of p + j)

    forward-price : (l : ℕ) → (l + cell_cost (weight p) (cell_at p i j)) + neg_part (price_of p (weight p) x (1 + i) (1 + rows_of p + j)) ≡ l + pos_part (price_of p (weight p) x (1 + i) (1 + rows_of p + j))
    forward-price l = rw (node_row p i hi, node-column p j hj) (omega (arith, price-fwd p (weight p) i j))

    back-price : (pos_part (price_of p (weight p) x (1 + rows_of p + j) (1 + i)) ≡ 0) × (neg_part (price_of p (weight p) x (1 + rows_of p + j) (1 + i)) ≡ cell_cost (weight p) (cell_at p i j))
    back-price = rw (node_row p i hi, node-column p j hj) (price-back p (weight p) i j)

    pub cell_holds : (l : ℕ) (d : Wide) → Natural d l → (s : Search) (m : List ℕ) → Going (1 + i) l s m
        → Going (1 + i) l (relax p (weight p) x (1 + i) (pos l) (1 + rows_of p + j) s) (along_cell g f m (i * cols_of p + j) (1 + i) (1 + rows_of p + j) d)
    cell_holds l d D s m G = go (dec_lt (get_or f (i * cols_of p + j) 0) (cap_of g (i * cols_of p + j)))
      where
        u : ℕ
        u = 1 + i

        v : ℕ
        v = 1 + rows_of p + j

        go : Dec (get_or f (i * cols_of p + j) 0 < cap_of g (i * cols_of p + j)) → Going (1 + i) l (relax p (weight p) x (1 + i) (pos l) (1 + rows_of p + j) s) (along_cell g f m (i * cols_of p + j) (1 + i) (1 + rows_of p + j) d)
        go (yes h) = rw (← cell-yes g f m (i * cols_of p + j) (1 + i) (1 + rows_of p + j) d h)
            (usable (1 + i) (1 + rows_of p + j) l (omega arith) (omega arith) s m G (l + cell_cost (weight p) (cell_at p i j)) (add_words d (cost_of g (i * cols_of p + j)))
            (omega (arith, in-flow, H.caps i j hi hj, forward-left)) (forward-price l) (add-natural D (H.costs i j hi hj) (omega (arith, label-lt G, cost-fits))))
        go (no h) = rw (← cell-not g f m (i * cols_of p + j) (1 + i) (1 + rows_of p + j) d (omega (arith, h)))
            (shut (1 + i) (1 + rows_of p + j) l (omega arith) (omega arith) s m G (λ q. h (omega (arith, in-flow, H.caps i j hi hj, forward-left))))

    pub against-holds : (l : ℕ) (d : Wide) → Natural d l → (s : Search) (m : List ℕ) → Going (1 + rows_of p + j) l s m
        → Going (1 + rows_of p + j) l (relax p (weight p) x (1 + rows_of p + j) (pos l) (1 + i) s) (against_cell g f m (i * cols_of p + j) (1 + rows_of p + j) (1 + i) d)
    against-holds l d D s m G = go (dec_lt 0 (get_or f (i * cols_of p + j) 0))
      where
        reaches : 0 < residual_of p (weight p) x (1 + rows_of p + j) (1 + i) → cell_cost (weight p) (cell_at p i j) ≤ l
        reaches r =
            let q = offer-range p (weight p) x I.π I.pot (2 ^ 103) dear103 s G.hops G.good (1 + rows_of p + j) (1 + i) l (omega arith) (omega arith) G.at r in
            let e = z-add (pos l) (price_of p (weight p) x (1 + rows_of p + j) (1 + i)) in
            let z : pos_part (pos l +ℤ price_of p (weight p) x (1 + rows_of p + j) (1 + i)) + (0 + neg_part (price_of p (weight p) x (1 + rows_of p + j) (1 + i)))
            ≡ l + pos_part (price_of p (weight p) x (1 + rows_of p + j) (1 + i)) + neg_part (pos l +ℤ price_of p (weight p) x (1 + rows_of p + j) (1 + i)) = e in
            let n : neg_part (pos l +ℤ price_of p (weight p) x (1 + rows_of p + j) (1 + i)) ≡ 0 = ap neg_part q.1 in
            omega (arith, z, n, back-price)

        go : Dec (0 < get_or f (i * cols_of p + j) 0) → Going (1 + rows_of p + j) l (relax p (weight p) x (1 + rows_of p + j) (pos l) (1 + i) s) (against_cell g f m (i * cols_of p + j) (1 + rows_of p + j) (1 + i) d)
        go (yes h) =
            let r : 0 < residual_of p (weight p) x (1 + rows_of p + j) (1 + i) = omega (arith, in-flow, back-left) in
            let le = reaches r in
            rw (← against-yes g f m (i * cols_of p + j) (1 + rows_of p + j) (1 + i) d h)
            (usable (1 + rows_of p + j) (1 + i) l (omega arith) (omega arith) s m G (l - cell_cost (weight p) (cell_at p i j)) (add_words d (neg_words (cost_of g (i * cols_of p + j))))
            r (omega (arith, le, back-price)) (sub-natural D (H.costs i j hi hj) le (omega (arith, label-lt G))))
        go (no h) = rw (← against-not g f m (i * cols_of p + j) (1 + rows_of p + j) (1 + i) d (omega (arith, h)))
            (shut (1 + rows_of p + j) (1 + i) l (omega arith) (omega arith) s m G (λ q. h (omega (arith, in-flow, back-left))))

  module _ (g f : List ℕ) (H : CostsHold p g) (F : FlowHolds p x f) where
    -- a row's cells from column j on
    pub row-holds : (i l : ℕ) → i < rows_of p → (d : Wide) → Natural d l → (n j : ℕ) → j + n ≡ cols_of p → (s : Search) (m : List ℕ) → Going (1 + i) l s m
        → Going (1 + i) l (visit p (weight p) x (1 + i) (pos l) (up_from (1 + rows_of p + j) n) s) (along_row g f (1 + i) d n (i * cols_of p + j) (1 + rows_of p + j) m)
    unfolding visit along_row up_from
    row-holds i l hi d D zero j e s m G = G
    row-holds i l hi d D (suc n) j e s m G =
        let next = cell_holds g f H F i j hi (omega arith) l d D s m G in
        let a : suc (1 + rows_of p + j) ≡ 1 + rows_of p + (j + 1) = omega arith in
        let b : 1 + rows_of p + j + 1 ≡ 1 + rows_of p + (j + 1) = omega arith in
        let c : i * cols_of p + j + 1 ≡ i * cols_of p + (j + 1) = omega arith in
        rw (a, b, c) (row-holds i l hi d D n (j + 1) (omega arith) (relax p (weight p) x (1 + i) (pos l) (1 + rows_of p + j) s) (along_cell g f m (i * cols_of p + j) (1 + i) (1 + rows_of p + j) d) next)

    -- a column's cells from row i on
    pub column-holds : (j l : ℕ) → j < cols_of p → (d : Wide) → Natural d l → (n i : ℕ) → i + n ≡ rows_of p → (s : Search) (m : List ℕ) → Going (1 + rows_of p + j) l s m
        → Going (1 + rows_of p + j) l (visit p (weight p) x (1 + rows_of p + j) (pos l) (up_from (1 + i) n) s) (against_column g f (cols_of p) (1 + rows_of p + j) d n (i * cols_of p + j) (1 + i) m)
    unfolding visit against_column up_from
    column-holds j l hj d D zero i e s m G = G
    column-holds j l hj d D (suc n) i e s m G =
        let next = against-holds g f H F i j (omega arith) hj l d D s m G in
        let a : suc (1 + i) ≡ 1 + (i + 1) = omega arith in
        let b : 1 + i + 1 ≡ 1 + (i + 1) = omega arith in
        let c : i * cols_of p + j + cols_of p ≡ (i + 1) * cols_of p + j = omega arith in
        rw (a, b, c) (column-holds j l hj d D n (i + 1) (omega arith) (relax p (weight p) x (1 + rows_of p + j) (pos l) (1 + i) s) (against_cell g f m (i * cols_of p + j) (1 + rows_of p + j) (1 + i) d) next)

  -- the edge back to the source never improves its label, which is 0
  pub source_keeps : (u l : ℕ) → u < node_count p → (s : Search) (m : List ℕ) → Going u l s m → Going u l (relax p (weight p) x u (pos l) 0 s) m
  source_keeps u l hu s m G = go (outcome p (weight p) x I.π I.pot (2 ^ 103) dear103 s G.hops G.good u 0 l hu (omega arith) G.at)
    where
      go : Outcome p (weight p) x u 0 l s (relax p (weight p) x u (pos l) 0 s) → Going u l (relax p (weight p) x u (pos l) 0 s) m
      go (skipped e f) = rw e G
      go (taken k e r new lower) = absurd (none_below (lower 0 G.good.source_zero))
        where
          none_below : {k : ℕ} → k < 0 → ⊥
          none_below h = omega arith

  module _ (g f y : List ℕ) (H : CostsHold p g) (F : FlowHolds p x f) (M : MarginsHold p x y) where
    abbrev After : ℕ → ℕ → Search → List ℕ → Type 0
    After u l s m = Going u l (visit p (weight p) x u (pos l) (neighbours p (vertex_of p u)) s) (visited g f y (rows_of p) (cols_of p) u m)

    from-source : (l : ℕ) (s : Search) (m : List ℕ) → Going 0 l s m → After 0 l s m
    unfolding neighbours residual price
    from-source l s m G =
        rw (← visited-source g f y (rows_of p) (cols_of p) 0 m refl)
        (spread-holds y 0 l (omega arith) (label_of m 0) (label-natural p s m G.net 0 l (omega arith) G.at) (rows_of p) 0 1 (omega arith)
        (λ i hi. (rw (zero-add i, node_row p i hi) (M.supplies i hi), refl)) s m G)

    from-row : (i l : ℕ) → i < rows_of p → (s : Search) (m : List ℕ) → Going (1 + i) l s m → After (1 + i) l s m
    unfolding neighbours visit
    from-row i l hi s m G =
        let D = label-natural p s m G.net (1 + i) l (omega arith) G.at in
        let a : 1 + i - 1 ≡ i = omega arith in
        let t = row-holds g f H F i l hi (label_of m (1 + i)) D (cols_of p) 0 (omega arith) (relax p (weight p) x (1 + i) (pos l) 0 s) m (source_keeps (1 + i) l (omega arith) s m G) in
        rw (node_row p i hi, ← visited-row g f y (rows_of p) (cols_of p) (1 + i) m (λ z. absurd (omega arith)) (omega arith), a) (rw (add-zero (1 + rows_of p), add-zero (i * cols_of p)) at t)

    from-column : (j l : ℕ) → j < cols_of p → (s : Search) (m : List ℕ) → Going (1 + rows_of p + j) l s m → After (1 + rows_of p + j) l s m
    unfolding neighbours visit residual price
    from-column j l hj s m G =
        let D = label-natural p s m G.net (1 + rows_of p + j) l (omega arith) G.at in
        let a : 1 + rows_of p + j - 1 - rows_of p ≡ j = omega arith in
        let e = visited-column g f y (rows_of p) (cols_of p) (1 + rows_of p + j) m (λ z. absurd (omega arith)) (omega arith) (omega arith) in
        let b : 0 * cols_of p + j ≡ j = omega arith in
        let t = margin-holds (1 + rows_of p + j) (sink p) l (omega arith) (omega arith) s m G (get_or y (WIDEST + j) 0) (label_of m (1 + rows_of p + j)) D
        (rw (node-column p j hj, node-sink p) (M.demands j hj)) (rw (node-column p j hj, node-sink p) refl) in
        let m' = along_margin (get_or y (WIDEST + j) 0) m (1 + rows_of p + j) (1 + rows_of p + cols_of p) (label_of m (1 + rows_of p + j)) in
        let s' = relax p (weight p) x (1 + rows_of p + j) (pos l) (sink p) s in
        let D' = label-natural p s' m' t.net (1 + rows_of p + j) l (omega arith) t.at in
        let q = column-holds g f H F j l hj (label_of m' (1 + rows_of p + j)) D' (rows_of p) 0 (omega arith) s' m' t in
        rw (node-column p j hj, ← e, a) (rw (b, add-zero 1) at q)

    from-sink : (l : ℕ) (s : Search) (m : List ℕ) → Going (sink p) l s m → After (sink p) l s m
    unfolding neighbours residual price
    from-sink l s m G =
        rw (node-sink p, ← visited-sink g f y (rows_of p) (cols_of p) (sink p) m (λ z. absurd (omega arith)) (omega arith) (omega arith))
        (spread-holds y (sink p) l (omega arith) (label_of m (sink p)) (label-natural p s m G.net (sink p) l (omega arith) G.at) (cols_of p) TAKEN (1 + rows_of p) (omega arith)
        (λ j hj. (rw (node-sink p, node-column p j hj) (M.taken j hj), rw (node-sink p) refl)) s m G)

    -- all the edges of a node
    pub visit-holds : (u l : ℕ) → u < node_count p → (s : Search) (m : List ℕ) → Going u l s m → After u l s m
    visit-holds u l hu s m G = go (view p u hu)
      where
        go : NodeIs p u → After u l s m
        go (is_source e n) = rw e (from-source l s m (rw e at G))
        go (is_row i hi e n) = rw e (from-row i l hi s m (rw e at G))
        go (is_column j hj e n) = rw e (from-column j l hj s m (rw e at G))
        go (is_sink e n) = rw e (from-sink l s m (rw e at G))
