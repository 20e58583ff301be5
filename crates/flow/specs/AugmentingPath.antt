-- The walk back: a path of tight edges from the source to the sink, and the least that is left on it.
use mathlib.Core.List.{List, [], ◌∷◌}
use Rattle.std.specs.Prelude.{◌⊎◌, ◌≢◌, ◌≡◌, refl, T, ℤ, pos}
use Rattle.std.proofs.Common.{inl, inr, eq-or-lt_of_le, le_trans}
use Rattle.std.proofs.Math.Option.{Option, none, some}
use Rattle.std.proofs.Math.Path.{ap}
use Prim.Native.Nat.{ℕ, zero, suc, ◌+◌, ◌*◌, ◌≤◌, ◌<◌, min}
use Rattle.std.proofs.Math.Decide.{ℕ_discrete}
use Rattle.std.proofs.Math.Nat.{le_refl}
use native.Mathlib.Omega.{arith}
use Rattle.spec.specs.Bytes.{Two}
use Rattle.spec.specs.Transport.{Problem, sink, node_count, vertex_of, residual, Search, walk_back, bottleneck}
use Rattle.flow.specs.Search.{same-label, none-some, label_at, pred_at, NodeLabel, residual_of, price_of, Potential, status, below, Settled, AtRest, unseen, root, edge}
use Rattle.flow.specs.SearchEnds.{dearest, dear}
use Rattle.flow.specs.Signed.{pos_part, neg_part}
use Rattle.flow.specs.Update.{pigeon}

-- the next potentials: the labels; where a node was not reached, T more
abbrev pub next_pot : ℕ → Option ℤ → ℕ → ℕ
next_pot T none q = q + T
next_pot T (some z) q = pos_part z

module _ (p : Problem) (w : ℕ) (x : List ℕ) where
  -- from node a to the sink, in tight steps
  pub data TightPath (π h : ℕ → ℕ) : ℕ → List Two → Type 0 where
    end : {a : ℕ} → a ≡ sink p → TightPath π h a []
    step : {a : ℕ} {path : List Two} (b : ℕ) → a < node_count p → b < node_count p → b ≢ 0 → a ≢ sink p → h b ≡ suc (h a) → 0 < residual_of p w x a b
        → π a + pos_part (price_of p w x a b) ≡ π b + neg_part (price_of p w x a b) → TightPath π h b path → TightPath π h a ((a, b) ∷ path)

  module _ (π : ℕ → ℕ) (pot : Potential p w x π) (s : Search)
      (rest : AtRest p w x π pot (dearest p w) (dear p w) s) where
    abbrev pub beyond : ℕ
    beyond = node_count p * dearest p w + 1

    abbrev pub next : ℕ → ℕ
    next v = next_pot beyond (label_at s v) (π v)

    next-seen : (v k : ℕ) → label_at s v ≡ some (pos k) → next v ≡ k
    next-seen v k e = ap (λ (o : Option ℤ). next_pot beyond o (π v)) e

    next_le : (v : ℕ) → next v ≤ π v + beyond
    next_le v = go (status p w x π pot (dearest p w) (dear p w) s rest.hops rest.good v)
      where
        go : (label_at s v ≡ none) ⊎ ((k : ℕ) × (label_at s v ≡ some (pos k)) × (π v ≤ k)) → next v ≤ π v + beyond
        go (inl e) = rw e (le_refl _)
        go (inr (k, e, q)) = omega (arith, next-seen v k e, below p w x π pot (dearest p w) (dear p w) s rest.hops rest.good v k e)

    -- the labels are potentials for the same plan
    pub next-potential : Potential p w x next
    unfolding Settled
    next-potential = record { at0 = next-seen 0 0 rest.good.source_zero; slope = λ a b ha hb r. go a b ha hb r (status p w x π pot (dearest p w) (dear p w) s rest.hops rest.good a) }
      where
        go : (a b : ℕ) → a < node_count p → b < node_count p → 0 < residual_of p w x a b → (label_at s a ≡ none) ⊎ ((k : ℕ) × (label_at s a ≡ some (pos k)) × (π a ≤ k)) → next b + neg_part (price_of p w x a b) ≤ next a + pos_part (price_of p w x a b)
        go a b ha hb r (inl e) = let q : next a ≡ π a + beyond = ap (λ (o : Option ℤ). next_pot beyond o (π a)) e in omega (arith, next_le b, pot.slope a b ha hb r)
        go a b ha hb r (inr (k, e, q)) = let (l, y, z) = rest.ok a b ha hb r k e in omega (arith, next-seen a k e, next-seen b l y)

    abbrev h : ℕ → ℕ
    h = rest.hops

    -- the step before a node that was seen
    pub record Before (v : ℕ) : Type 0 where
      pub inn : pred_at s v < node_count p
      pub seen : (l : ℕ) × (label_at s (pred_at s v) ≡ some (pos l))
      pub left : 0 < residual_of p w x (pred_at s v) v
      pub tight : next (pred_at s v) + pos_part (price_of p w x (pred_at s v) v) ≡ next v + neg_part (price_of p w x (pred_at s v) v)
      pub up : h v ≡ suc (h (pred_at s v))

    pub before : (v k : ℕ) → v < node_count p → v ≢ 0 → label_at s v ≡ some (pos k) → Before v
    unfolding Settled
    before v k hv v0 e = go (rest.good.nodes v)
      where
        go : NodeLabel (node_count p) (residual_of p w x) (price_of p w x) π (label_at s) (pred_at s) h v → Before v
        go (unseen q) = absurd (none-some q e)
        go (root q y z) = absurd (v0 q)
        go (edge k₁ l₁ z0 Lk ab hp Lp rr le hh) =
            let (k₂, y, z) = rest.ok (pred_at s v) v hp hv rr l₁ Lp in
            let q : l₁ + pos_part (price_of p w x (pred_at s v) v) ≡ k₁ + neg_part (price_of p w x (pred_at s v) v) = omega (arith, same-label y Lk) in
            record { inn = hp; seen = (l₁, Lp); left = rr; tight = omega (arith, next-seen v k₁ Lk, next-seen (pred_at s v) l₁ Lp); up = hh q }

    -- each number of hops up to v's is some node's
    all-hops : (t v k : ℕ) → v < node_count p → h v ≡ t → label_at s v ≡ some (pos k) → (y : ℕ) → y < suc t → (z : ℕ) × (z < node_count p) × (h z ≡ y)
    all-hops zero v k hv e L y hy = (v, hv, omega arith)
    all-hops (suc t) v k hv e L y hy = elim (eq-or-lt_of_le hy) [
      | inl q ↦ (v, hv, omega arith)
      | inr q ↦ go (ℕ_discrete v 0) (λ v' k' hv' e' L'. all-hops t v' k' hv' e' L' y (omega arith))
    ]
      where
        go : Dec (v ≡ 0) → ((v' k' : ℕ) → v' < node_count p → h v' ≡ t → label_at s v' ≡ some (pos k') → (z : ℕ) × (z < node_count p) × (h z ≡ y)) → (z : ℕ) × (z < node_count p) × (h z ≡ y)
        go (no ne) ih = let D = before v k hv ne L in let (l, q) = D.seen in ih (pred_at s v) l D.inn (omega (arith, D.up)) q
        go (yes z) ih = absurd (at-root (rest.good.nodes 0))
          where
            at-root : NodeLabel (node_count p) (residual_of p w x) (price_of p w x) π (label_at s) (pred_at s) h 0 → ⊥
            at-root (unseen q) = none-some q rest.good.source_zero
            at-root (root q u r) = omega (arith, ap h z)
            at-root (edge k₁ l₁ z0 Lk ab hp Lp rr le hh) = z0 refl

    pub hops-lt : (v k : ℕ) → v < node_count p → label_at s v ≡ some (pos k) → h v < node_count p
    hops-lt v k hv L = pigeon (node_count p) (suc (h v)) h (all-hops (h v) v k hv refl L)

    walked : (f v k : ℕ) (path : List Two) → v < node_count p → label_at s v ≡ some (pos k) → h v < f → h v ≤ h (sink p) → TightPath next h v path → TightPath next h 0 (walk_back f s.pred v path)
    unfolding walk_back
    walked zero v k path hv L hf hs c = absurd (omega arith)
    walked (suc f) zero k path hv L hf hs c = c
    walked (suc f) (suc v) k path hv L hf hs c =
        let D = before (suc v) k hv (λ e. nz e) L in
        let (l, q) = D.seen in
        walked f (pred_at s (suc v)) l ((pred_at s (suc v), suc v) ∷ path) D.inn q (omega (arith, D.up)) (omega (arith, D.up))
        (step (suc v) D.inn hv (λ e. nz e) (λ e. absurd (clash (ap h e) D.up hs)) D.up D.left D.tight c)
      where
        nz : suc v ≡ 0 → ⊥
        nz e = omega arith

        clash : {a b c : ℕ} → a ≡ c → b ≡ suc a → b ≤ c → ⊥
        clash p q r = omega arith

    pub path : (k : ℕ) → label_at s (sink p) ≡ some (pos k) → TightPath next h 0 (walk_back (node_count p) s.pred (sink p) [])
    path k L = walked (node_count p) (sink p) k [] (omega arith) L (hops-lt (sink p) k (omega arith) L) (le_refl _) (end refl)

  -- ---- the least that is left on a chain
  pub data Carries (δ : ℕ) : List Two → Type 0 where
    carries-end : Carries δ []
    carries-step : {a b : ℕ} {path : List Two} → δ ≤ residual_of p w x a b → Carries δ path → Carries δ ((a, b) ∷ path)

  pub fits-less : {δ ε : ℕ} {path : List Two} → δ ≤ ε → Carries ε path → Carries δ path
  fits-less h carries-end = carries-end
  fits-less h (carries-step q f) = carries-step (le_trans h q) (fits-less h f)

  pub bottleneck-le : (b : ℕ) (path : List Two) → bottleneck p x b path ≤ b
  unfolding bottleneck
  bottleneck-le b [] = le_refl _
  bottleneck-le b (s ∷ path) = omega (arith, bottleneck-le (min b (residual p x (vertex_of p s.0) (vertex_of p s.1))) path)

  pub bottleneck-carries : (b : ℕ) (path : List Two) → Carries (bottleneck p x b path) path
  unfolding bottleneck
  bottleneck-carries b [] = carries-end
  bottleneck-carries b ((c, d) ∷ r) = carries-step {a = c} {b = d} (omega (arith, bottleneck-le (min b (residual p x (vertex_of p c) (vertex_of p d))) r)) (bottleneck-carries (min b (residual p x (vertex_of p c) (vertex_of p d))) r)

  pub bottleneck-positive : (π h : ℕ → ℕ) (b a : ℕ) (path : List Two) → 0 < b → TightPath π h a path → 0 < bottleneck p x b path
  unfolding bottleneck
  bottleneck-positive π h b a [] hb c = hb
  bottleneck-positive π h b a (s ∷ path) hb (step d ha hd d0 nt up r t c) = bottleneck-positive π h (min b (residual_of p w x a d)) d path (omega arith) c
