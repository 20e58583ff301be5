-- The search: what a relaxation keeps, that the queue runs empty, and what holds then.
use Rattle.std.specs.Prelude.{Bool, true, false, ◌⊎◌, ◌≢◌, ◌≡◌, T, ltb, ℤ, pos, ◌+ℤ◌, length, get_or, set}
use mathlib.Core.List.{List, [], ◌∷◌}
use Rattle.std.proofs.Common.{inl, inr, sym, ap, ◌∙◌, mul-le-mul_right, arith, ltb→lt, lt→ltb, length-set, get_or-set_same, get_or-set_other}
use Rattle.std.proofs.Math.Option.{Option, none, some}
use Rattle.std.proofs.Math.Path.{refl}
use Prim.Native.Nat.{ℕ, zero, suc, ◌+◌, ◌*◌, ◌≤◌, ◌<◌, ◌-◌}
use Rattle.std.proofs.Math.Decide.{ℕ_discrete, dec_lt}
use Rattle.std.proofs.Math.Nat.{le_refl, le_trans}
use Rattle.spec.specs.Bytes.{pick, both, sum_to}
use Rattle.spec.specs.Meaning.{In, here, there}
use Rattle.spec.specs.Transport.{Problem, Vertex, source, row, column, target, node_count, vertex_of, neighbours, residual, price, Search, improves, label_or0, label, leave, relax, visit, search, found}
use Rattle.laws.specs.Tests.{clash}
use Rattle.flow.specs.Cut.{bit}
use Rattle.flow.specs.Queue.{in-nil, queue-keeps, queue-has, queue-length, queue-from, in_tail}
use Rattle.flow.specs.Signed.{pos_part, neg_part, plus}
use Rattle.flow.specs.Sums.{sum_mono, sum-const, sum-change}
use Rattle.flow.specs.Update.{upd, upd_same, upd_other}

-- ---- options and signs
abbrev pub label_or : ℕ → Option ℤ → ℕ
label_or inf none = inf
label_or inf (some z) = pos_part z

pub same-label : {k l : ℕ} {o : Option ℤ} → o ≡ some (pos k) → o ≡ some (pos l) → k ≡ l
same-label p q = ap (label_or 0) (sym p ∙ q)

pub none-some : {z : ℤ} {o : Option ℤ} → o ≡ none → o ≡ some z → ⊥
none-some p q = clash (ap found (sym q ∙ p))

abbrev pub label_at : Search → ℕ → Option ℤ
label_at s v = get_or s.dist v none

abbrev pub pred_at : Search → ℕ → ℕ
pred_at s v = get_or s.pred v 0

-- ---- a node of the search: residual_of is what is left on an edge, price_of its price, π the potentials
module _ (M : ℕ) (residual_of : ℕ → ℕ → ℕ) (price_of : ℕ → ℕ → ℤ) (π : ℕ → ℕ) where
  pub data NodeLabel (L : ℕ → Option ℤ) (pr h : ℕ → ℕ) (v : ℕ) : Type 0 where
    unseen : L v ≡ none → NodeLabel L pr h v
    root : v ≡ 0 → L v ≡ some (pos 0) → h v ≡ 0 → NodeLabel L pr h v
    edge : (k l : ℕ) → v ≢ 0 → L v ≡ some (pos k) → π v ≤ k → pr v < M → L (pr v) ≡ some (pos l) → 0 < residual_of (pr v) v
        → l + pos_part (price_of (pr v) v) ≤ k + neg_part (price_of (pr v) v) → (l + pos_part (price_of (pr v) v) ≡ k + neg_part (price_of (pr v) v) → h v ≡ suc (h (pr v))) → NodeLabel L pr h v

  -- L' is L with v's label taken over the edge from u
  module _ (L L' : ℕ → Option ℤ) (pr pr' h h' : ℕ → ℕ) (u v l k : ℕ) (hu : u < M) (ne : u ≢ v) (v0 : v ≢ 0) (Lu : L u ≡ some (pos l)) (left : 0 < residual_of u v)
      (new : k + neg_part (price_of u v) ≡ l + pos_part (price_of u v)) (above : π v ≤ k) (lower : (k₀ : ℕ) → L v ≡ some (pos k₀) → k < k₀)
      (Lv : L' v ≡ some (pos k)) (pv : pr' v ≡ u) (hv : h' v ≡ suc (h u))
      (Lz : (z : ℕ) → z ≢ v → L' z ≡ L z) (pz : (z : ℕ) → z ≢ v → pr' z ≡ pr z) (hz : (z : ℕ) → z ≢ v → h' z ≡ h z) where
    pub kind-relax : (z : ℕ) → NodeLabel L pr h z → NodeLabel L' pr' h' z
    kind-relax z K = go (ℕ_discrete z v) K
      where
        go : Dec (z ≡ v) → NodeLabel L pr h z → NodeLabel L' pr' h' z
        go (yes e) n = rw e (edge k l v0 Lv above (rw pv hu) (rw (pv, Lz u ne) Lu) (rw pv left) (rw pv (omega arith)) (λ q. rw (pv, hz u ne) hv))
        go (no e) (unseen q) = unseen (Lz z e ∙ q)
        go (no e) (root s q r) = root s (Lz z e ∙ q) (hz z e ∙ r)
        go (no e) (edge k₁ l₁ z0 Lk ab hp Lp rr le hh) = by (ℕ_discrete (pr z) v)
          where
            by : Dec (pr z ≡ v) → NodeLabel L' pr' h' z
            by (yes f) = let small : k < l₁ = lower l₁ (ap L (sym f) ∙ Lp) in
                edge k₁ k z0 (Lz z e ∙ Lk) ab (rw (pz z e) hp) (rw (pz z e, f) Lv) (rw (pz z e) rr) (rw (pz z e) (omega arith)) (λ q. let q' : k + pos_part (price_of (pr z) z) ≡ k₁ + neg_part (price_of (pr z) z) = rw (pz z e) at q in absurd (omega arith))
            by (no f) = edge k₁ l₁ z0 (Lz z e ∙ Lk) ab (rw (pz z e) hp) (rw (pz z e, Lz (pr z) f) Lp) (rw (pz z e) rr) (rw (pz z e) le) (λ q. rw (pz z e, hz z e, hz (pr z) f) (hh (rw (pz z e) at q)))

-- ---- the state
module _ (p : Problem) (w : ℕ) (x : List ℕ) where
  abbrev pub residual_of : ℕ → ℕ → ℕ
  residual_of a b = residual p x (vertex_of p a) (vertex_of p b)

  abbrev pub price_of : ℕ → ℕ → ℤ
  price_of a b = price p w (vertex_of p a) (vertex_of p b)

  -- potentials: along an edge with something left they rise by no more than its price
  pub record Potential (π : ℕ → ℕ) : Type 0 where
    pub at0 : π 0 ≡ 0
    pub slope : (a b : ℕ) → a < node_count p → b < node_count p → 0 < residual_of a b → π b + neg_part (price_of a b) ≤ π a + pos_part (price_of a b)

  pub residual-self : (n : Vertex) → residual p x n n ≡ 0
  unfolding residual
  residual-self source = refl
  residual-self (row i) = refl
  residual-self (column j) = refl
  residual-self target = refl

  pub apart : (a b : ℕ) → 0 < residual_of a b → a ≢ b
  apart a b h e = let q : residual_of a b ≡ residual_of b b = ap (λ (z : ℕ). residual_of z b) e in omega (arith, residual-self (vertex_of p b))

  pub record Labelled (π : ℕ → ℕ) (K : ℕ) (s : Search) (h : ℕ → ℕ) : Type 0 where
    pub dist_length : length s.dist ≡ node_count p
    pub pred_length : length s.pred ≡ node_count p
    pub flag_length : length s.queued ≡ node_count p
    pub source_zero : label_at s 0 ≡ some (pos 0)
    pub nodes : (v : ℕ) → NodeLabel (node_count p) residual_of price_of π (label_at s) (pred_at s) h v
    pub flags : (v : ℕ) → get_or s.queued v false ≡ true → In v s.queue
    pub inside : (v : ℕ) → In v s.queue → (v < node_count p) × ((l : ℕ) × (label_at s v ≡ some (pos l)))
    -- a label is at most as many dearest edges as there are other nodes found
    pub small : (v l : ℕ) → label_at s v ≡ some (pos l) → l + K ≤ sum_to (node_count p) (λ z. bit (found (label_at s z))) * K

  abbrev pub reached_count : Search → ℕ
  reached_count s = sum_to (node_count p) (λ z. bit (found (label_at s z)))

  pub reached_count-le : (s : Search) → reached_count s ≤ node_count p
  reached_count-le s = omega (arith, sum_mono (node_count p) {f = λ z. bit (found (label_at s z))} {g = λ z. 1} (λ z hz. one (found (label_at s z))), sum-const (node_count p) 1)
    where
      one : (b : Bool) → bit b ≤ 1
      one true = omega arith
      one false = omega arith

  abbrev pub label_sum : ℕ → Search → ℕ
  label_sum inf s = sum_to (node_count p) (λ z. label_or inf (label_at s z))

  module _ (π : ℕ → ℕ) (pot : Potential π) (K : ℕ) (dear : (a b : ℕ) → pos_part (price_of a b) ≤ K + neg_part (price_of a b)) where
    pub status : (s : Search) (h : ℕ → ℕ) → Labelled π K s h → (v : ℕ) → (label_at s v ≡ none) ⊎ ((k : ℕ) × (label_at s v ≡ some (pos k)) × (π v ≤ k))
    status s h G v = go (G.nodes v)
      where
        go : NodeLabel (node_count p) residual_of price_of π (label_at s) (pred_at s) h v → (label_at s v ≡ none) ⊎ ((k : ℕ) × (label_at s v ≡ some (pos k)) × (π v ≤ k))
        go (unseen e) = inl e
        go (root e q r) = inr (0, q, omega (arith, ap π e, pot.at0))
        go (edge k₁ l₁ z0 Lk ab hp Lp rr le hh) = inr (k₁, Lk, ab)

    pub below : (s : Search) (h : ℕ → ℕ) → Labelled π K s h → (v k : ℕ) → label_at s v ≡ some (pos k) → k < node_count p * K + 1
    below s h G v k e = omega (arith, G.small v k e, mul-le-mul_right K (reached_count-le s))

    -- every label lies between 0 and one dearest edge for each other node, at every moment of the search
    pub label-range : (s : Search) (h : ℕ → ℕ) → Labelled π K s h → (v : ℕ) (z : ℤ) → label_at s v ≡ some z → (k : ℕ) × (z ≡ pos k) × (k + K ≤ node_count p * K)
    label-range s h G v z e = go (status s h G v)
      where
        go : (label_at s v ≡ none) ⊎ ((k : ℕ) × (label_at s v ≡ some (pos k)) × (π v ≤ k)) → (k : ℕ) × (z ≡ pos k) × (k + K ≤ node_count p * K)
        go (inl q) = absurd (none-some q e)
        go (inr (k, q, _)) = (k, ap label_or0 (sym e ∙ q), omega (arith, G.small v k q, mul-le-mul_right K (reached_count-le s)))

    -- so does every offer, whether it is taken or not
    pub offer-range : (s : Search) (h : ℕ → ℕ) → Labelled π K s h → (u v l : ℕ) → u < node_count p → v < node_count p → label_at s u ≡ some (pos l) → 0 < residual_of u v
        → (k : ℕ) × (pos l +ℤ price_of u v ≡ pos k) × (k ≤ node_count p * K)
    offer-range s h G u v l hu hv Lu r = go (status s h G u)
      where
        go : (label_at s u ≡ none) ⊎ ((k : ℕ) × (label_at s u ≡ some (pos k)) × (π u ≤ k)) → (k : ℕ) × (pos l +ℤ price_of u v ≡ pos k) × (k ≤ node_count p * K)
        go (inl q) = absurd (none-some q Lu)
        go (inr (k, q, ab)) =
            let e : (l + pos_part (price_of u v) - neg_part (price_of u v)) + neg_part (price_of u v) ≡ l + pos_part (price_of u v) = omega (arith, pot.slope u v hu hv r, same-label q Lu) in
            (l + pos_part (price_of u v) - neg_part (price_of u v), plus l (l + pos_part (price_of u v) - neg_part (price_of u v)) (price_of u v) e, omega (arith, e, dear u v, G.small u l Lu, mul-le-mul_right K (reached_count-le s)))

    module _ (s : Search) (h : ℕ → ℕ) (G : Labelled π K s h) (u v l k : ℕ) (hu : u < node_count p) (hv : v < node_count p) (Lu : label_at s u ≡ some (pos l))
        (left : 0 < residual_of u v) (new : k + neg_part (price_of u v) ≡ l + pos_part (price_of u v)) (lower : (k₀ : ℕ) → label_at s v ≡ some (pos k₀) → k < k₀) where
      abbrev t : Search
      t = label u v (pos k) s

      v≢0 : v ≢ 0
      v≢0 e = let q = lower 0 (ap (label_at s) e ∙ G.source_zero) in omega arith

      Lv : label_at t v ≡ some (pos k)
      Lv = get_or-set_same s.dist v (some (pos k)) none (omega (arith, G.dist_length))

      Lz : (z : ℕ) → z ≢ v → label_at t z ≡ label_at s z
      Lz z ne = get_or-set_other s.dist v z (some (pos k)) none ne

      πu : π u ≤ l
      πu = go (status s h G u)
        where
          go : (label_at s u ≡ none) ⊎ ((k : ℕ) × (label_at s u ≡ some (pos k)) × (π u ≤ k)) → π u ≤ l
          go (inl e) = absurd (none-some e Lu)
          go (inr (k₁, e, q)) = omega (arith, same-label e Lu)

      counts : (label_at s v ≡ none) ⊎ ((k : ℕ) × (label_at s v ≡ some (pos k)) × (π v ≤ k)) → (k + K ≤ reached_count t * K) × (reached_count s ≤ reached_count t)
      counts (inl e) =
          let q = sum-change (node_count p) (λ z. bit (found (label_at t z))) (λ z. bit (found (label_at s z))) v hv (λ z hz ne. ap (λ (o : Option ℤ). bit (found o)) (Lz z ne)) in
          let a : bit (found (label_at t v)) ≡ 1 = ap (λ (o : Option ℤ). bit (found o)) Lv in
          let b : bit (found (label_at s v)) ≡ 0 = ap (λ (o : Option ℤ). bit (found o)) e in
          let c : reached_count t ≡ reached_count s + 1 = omega arith in
          (omega (arith, ap (λ (z : ℕ). z * K) c, dear u v, G.small u l Lu), omega arith)
      counts (inr (k₀, e, r)) =
          let q = sum-change (node_count p) (λ z. bit (found (label_at t z))) (λ z. bit (found (label_at s z))) v hv (λ z hz ne. ap (λ (o : Option ℤ). bit (found o)) (Lz z ne)) in
          let a : bit (found (label_at t v)) ≡ 1 = ap (λ (o : Option ℤ). bit (found o)) Lv in
          let b : bit (found (label_at s v)) ≡ 1 = ap (λ (o : Option ℤ). bit (found o)) e in
          let c : reached_count t ≡ reached_count s = omega arith in
          (omega (arith, ap (λ (z : ℕ). z * K) c, G.small v k₀ e, lower k₀ e), omega arith)

      pub good-label : Labelled π K t (upd h v (suc (h u)))
      good-label = record {
        dist_length = length-set s.dist v (some (pos k)) ∙ G.dist_length;
        pred_length = length-set s.pred v u ∙ G.pred_length;
        flag_length = length-set s.queued v true ∙ G.flag_length;
        source_zero = Lz 0 (λ e. v≢0 (sym e)) ∙ G.source_zero;
        nodes = λ z. kind-relax (node_count p) residual_of price_of π (label_at s) (label_at t) (pred_at s) (pred_at t) h (upd h v (suc (h u))) u v l k hu (apart u v left) v≢0 Lu left new
            (omega (arith, πu, pot.slope u v hu hv left)) lower Lv (get_or-set_same s.pred v u 0 (omega (arith, G.pred_length))) (upd_same h v (suc (h u)))
            Lz (λ y ne. get_or-set_other s.pred v y u 0 ne) (λ y ne. upd_other h v (suc (h u)) y ne) z (G.nodes z);
        flags = λ z e. flag z (ℕ_discrete z v) e;
        inside = λ z i. ins z (ℕ_discrete z v) (queue-from s.queue v (get_or s.queued v false) z i);
        small = λ z l' e. sm z l' (ℕ_discrete z v) e;
      }
        where
          flag : (z : ℕ) → Dec (z ≡ v) → get_or (set s.queued v true) z false ≡ true → In z t.queue
          flag z (yes e) q = rw e (queue-has s.queue v (get_or s.queued v false) (G.flags v))
          flag z (no e) q = queue-keeps s.queue v (get_or s.queued v false) (G.flags z (sym (get_or-set_other s.queued v z true false e) ∙ q))

          ins : (z : ℕ) → Dec (z ≡ v) → In z s.queue ⊎ (z ≡ v) → (z < node_count p) × ((l : ℕ) × (label_at t z ≡ some (pos l)))
          ins z (yes e) i = rw e (hv, (k, Lv))
          ins z (no e) (inr q) = absurd (e q)
          ins z (no e) (inl i) = let (a, (b, c)) = G.inside z i in (a, (b, Lz z e ∙ c))

          sm : (z l' : ℕ) → Dec (z ≡ v) → label_at t z ≡ some (pos l') → l' + K ≤ reached_count t * K
          sm z l' (yes e) q = let c = counts (status s h G v) in omega (arith, c, same-label Lv (ap (label_at t) (sym e) ∙ q))
          sm z l' (no e) q = let c = counts (status s h G v) in omega (arith, G.small z l' (sym (Lz z e) ∙ q), mul-le-mul_right K c.1)

      pub less-label : label_sum (node_count p * K + 1) t + length t.queue ≤ label_sum (node_count p * K + 1) s + length s.queue
      less-label =
          let inf = node_count p * K + 1 in
          let q = sum-change (node_count p) (λ z. label_or inf (label_at t z)) (λ z. label_or inf (label_at s z)) v hv (λ z hz ne. ap (label_or inf) (Lz z ne)) in
          let a : label_or inf (label_at t v) ≡ k = ap (label_or inf) Lv in
          let b : k < label_or inf (label_at s v) = go (status s h G v) in
          omega (arith, queue-length s.queue v (get_or s.queued v false))
        where
          go : (label_at s v ≡ none) ⊎ ((k : ℕ) × (label_at s v ≡ some (pos k)) × (π v ≤ k)) → k < label_or (node_count p * K + 1) (label_at s v)
          go (inl e) = rw e (below t (upd h v (suc (h u))) good-label v k Lv)
          go (inr (k₀, e, r)) = rw e (lower k₀ e)

  -- ---- the edge from a to b offers nothing better
  unfoldable pub Settled : Search → ℕ → ℕ → Type 0
  Settled s a b = (l : ℕ) → label_at s a ≡ some (pos l) → (k : ℕ) × (label_at s b ≡ some (pos k)) × (k + neg_part (price_of a b) ≤ l + pos_part (price_of a b))

  -- what a relaxation does
  pub data Outcome (u v l : ℕ) (s t : Search) : Type 0 where
    skipped : t ≡ s → (0 < residual_of u v → (k : ℕ) × (label_at s v ≡ some (pos k)) × (k + neg_part (price_of u v) ≤ l + pos_part (price_of u v))) → Outcome u v l s t
    taken : (k : ℕ) → t ≡ label u v (pos k) s → 0 < residual_of u v → k + neg_part (price_of u v) ≡ l + pos_part (price_of u v) → ((k₀ : ℕ) → label_at s v ≡ some (pos k₀) → k < k₀) → Outcome u v l s t

  pub relax-is : (u : ℕ) (d : ℤ) (v : ℕ) (s : Search) → relax p w x u d v s ≡ pick (both (ltb 0 (residual_of u v)) (improves (d +ℤ price_of u v) (label_at s v))) (label u v (d +ℤ price_of u v) s) s
  unfolding relax
  relax-is u d v s = refl

  pick-none : (b : Bool) → (T b → ⊥) → (c : Bool) (t s : Search) → pick (both b c) t s ≡ s
  pick-none true f c t s = absurd (f tt)
  pick-none false f c t s = refl

  pick_more : (b c : Bool) → (T c → ⊥) → (t s : Search) → pick (both b c) t s ≡ s
  pick_more true true f t s = absurd (f tt)
  pick_more true false f t s = refl
  pick_more false c f t s = refl

  pick-both : (b c : Bool) → T b → T c → (t s : Search) → pick (both b c) t s ≡ t
  pick-both true true f g t s = refl
  pick-both true false f g t s = absurd g
  pick-both false c f g t s = absurd f

  module _ (π : ℕ → ℕ) (pot : Potential π) (K : ℕ) (dear : (a b : ℕ) → pos_part (price_of a b) ≤ K + neg_part (price_of a b)) where
    pub outcome : (s : Search) (h : ℕ → ℕ) → Labelled π K s h → (u v l : ℕ) → u < node_count p → v < node_count p → label_at s u ≡ some (pos l) → Outcome u v l s (relax p w x u (pos l) v s)
    outcome s h G u v l hu hv Lu = go (dec_lt 0 (residual_of u v))
      where
        none_left : (0 < residual_of u v → ⊥) → Outcome u v l s (relax p w x u (pos l) v s)
        none_left f = skipped (relax-is u (pos l) v s ∙ pick-none (ltb 0 (residual_of u v)) (λ q. f (ltb→lt 0 (residual_of u v) q)) (improves (pos l +ℤ price_of u v) (label_at s v)) (label u v (pos l +ℤ price_of u v) s) s) (λ q. absurd (f q))

        some_left : 0 < residual_of u v → (k : ℕ) → k + neg_part (price_of u v) ≡ l + pos_part (price_of u v) → (label_at s v ≡ none) ⊎ ((k : ℕ) × (label_at s v ≡ some (pos k)) × (π v ≤ k)) → Outcome u v l s (relax p w x u (pos l) v s)
        some_left r k e (inl q) =
            taken k (relax-is u (pos l) v s ∙ rw (plus l k (price_of u v) e) (pick-both (ltb 0 (residual_of u v)) (improves (pos k) (label_at s v)) (lt→ltb 0 (residual_of u v) r) (rw q tt) (label u v (pos k) s) s)) r e
            (λ k₀ z. absurd (none-some q z))
        some_left r k e (inr (k₀, q, ab)) = by (dec_lt k k₀)
          where
            by : Dec (k < k₀) → Outcome u v l s (relax p w x u (pos l) v s)
            by (yes lt) =
                taken k (relax-is u (pos l) v s ∙ rw (plus l k (price_of u v) e) (pick-both (ltb 0 (residual_of u v)) (improves (pos k) (label_at s v)) (lt→ltb 0 (residual_of u v) r) (rw q (lt→ltb k k₀ lt)) (label u v (pos k) s) s)) r e
                (λ k₁ z. omega (arith, same-label q z))
            by (no ge) = skipped (relax-is u (pos l) v s ∙ rw (plus l k (price_of u v) e) (pick_more (ltb 0 (residual_of u v)) (improves (pos k) (label_at s v)) (λ y. ge (ltb→lt k k₀ (rw q at y))) (label u v (pos k) s) s))
                (λ _. (k₀, q, omega arith))

        go : Dec (0 < residual_of u v) → Outcome u v l s (relax p w x u (pos l) v s)
        go (no f) = none_left f
        go (yes r) = elim (status π pot K dear s h G u) [
          | inl e ↦ absurd (none-some e Lu)
          | inr e ↦ some_left r (l + pos_part (price_of u v) - neg_part (price_of u v)) (omega (arith, pot.slope u v hu hv r, e.2, same-label e.1 Lu)) (status π pot K dear s h G v)
        ]

    -- what an edge's state was, it is still, and the edge just looked at offers nothing better
    pub record After (u v l : ℕ) (s t : Search) : Type 0 where
      pub hops : ℕ → ℕ
      pub good : Labelled π K t hops
      pub less : label_sum (node_count p * K + 1) t + length t.queue ≤ label_sum (node_count p * K + 1) s + length s.queue
      pub keep : (a b : ℕ) → Settled s a b ⊎ In a s.queue → Settled t a b ⊎ In a t.queue
      pub made : 0 < residual_of u v → Settled t u v
      pub still : label_at t u ≡ some (pos l)

    pub after : (s : Search) (h : ℕ → ℕ) → Labelled π K s h → (u v l : ℕ) → u < node_count p → v < node_count p → label_at s u ≡ some (pos l) → After u v l s (relax p w x u (pos l) v s)
    unfolding Settled
    after s h G u v l hu hv Lu = go (relax p w x u (pos l) v s) (outcome s h G u v l hu hv Lu)
      where
        go : (t : Search) → Outcome u v l s t → After u v l s t
        go t (skipped e f) = rw e (record { hops = h; good = G; less = le_refl _; keep = λ a b q. q; made = λ r l₁ q. let (k, y, z) = f r in (k, y, omega (arith, same-label q Lu)); still = Lu })
        go t (taken k e r new lower) = rw e (record {
          hops = upd h v (suc (h u));
          good = good-label π pot K dear s h G u v l k hu hv Lu r new lower;
          less = less-label π pot K dear s h G u v l k hu hv Lu r new lower;
          keep = λ a b q. kp a b (ℕ_discrete a v) (ℕ_discrete b v) q;
          made = λ _ l₁ q. (k, same, omega (arith, same-label q still));
          still = still;
        })
          where
            t' : Search
            t' = label u v (pos k) s

            same : label_at (label u v (pos k) s) v ≡ some (pos k)
            same = get_or-set_same s.dist v (some (pos k)) none (omega (arith, G.dist_length))

            other : (z : ℕ) → z ≢ v → label_at (label u v (pos k) s) z ≡ label_at s z
            other z ne = get_or-set_other s.dist v z (some (pos k)) none ne

            still : label_at (label u v (pos k) s) u ≡ some (pos l)
            still = other u (apart u v r) ∙ Lu

            kp : (a b : ℕ) → Dec (a ≡ v) → Dec (b ≡ v) → Settled s a b ⊎ In a s.queue → Settled (label u v (pos k) s) a b ⊎ In a (label u v (pos k) s).queue
            kp a b da db (inr i) = inr (queue-keeps s.queue v (get_or s.queued v false) i)
            kp a b (yes e) db (inl o) = inr (rw e (queue-has s.queue v (get_or s.queued v false) (G.flags v)))
            kp a b (no ne) (no nb) (inl o) = inl (λ l₁ q. let (k₁, y, z) = o l₁ (sym (other a ne) ∙ q) in (k₁, other b nb ∙ y, z))
            kp a b (no ne) (yes e) (inl o) = inl (λ l₁ q. let (k₁, y, z) = o l₁ (sym (other a ne) ∙ q) in let lt = lower k₁ (ap (label_at s) (sym e) ∙ y) in (k, ap (label_at (label u v (pos k) s)) e ∙ same, omega arith))

    -- ---- all the neighbours of a node
    pub record Visited (u l : ℕ) (vs : List ℕ) (s t : Search) : Type 0 where
      pub hops : ℕ → ℕ
      pub good : Labelled π K t hops
      pub less : label_sum (node_count p * K + 1) t + length t.queue ≤ label_sum (node_count p * K + 1) s + length s.queue
      pub keep : (a b : ℕ) → Settled s a b ⊎ In a s.queue → Settled t a b ⊎ In a t.queue
      pub made : (v : ℕ) → In v vs → 0 < residual_of u v → Settled t u v ⊎ In u t.queue

    pub visited : (u l : ℕ) → u < node_count p → (vs : List ℕ) → ((v : ℕ) → In v vs → v < node_count p) → (s : Search) (h : ℕ → ℕ) → Labelled π K s h → label_at s u ≡ some (pos l)
        → Visited u l vs s (visit p w x u (pos l) vs s)
    unfolding visit
    visited u l hu [] inn s h G Lu = record { hops = h; good = G; less = le_refl _; keep = λ a b q. q; made = λ v i r. absurd (in-nil i) }
    visited u l hu (v ∷ vs) inn s h G Lu =
        let A = after s h G u v l hu (inn v here) Lu in
        let B = visited u l hu vs (λ z i. inn z (there i)) (relax p w x u (pos l) v s) A.hops A.good A.still in
        record {
          hops = B.hops;
          good = B.good;
          less = le_trans B.less A.less;
          keep = λ a b q. B.keep a b (A.keep a b q);
          made = λ z i r. mk (relax p w x u (pos l) v s) A B z i r;
        }
      where
        mk : (t : Search) → After u v l s t → Visited u l vs t (visit p w x u (pos l) vs t) → (z : ℕ) → In z (v ∷ vs) → 0 < residual_of u z → Settled (visit p w x u (pos l) vs t) u z ⊎ In u (visit p w x u (pos l) vs t).queue
        mk t A B z here r = B.keep u v (inl (A.made r))
        mk t A B z (there i) r = B.made z i r

    pub good-leave : (s : Search) (h : ℕ → ℕ) → Labelled π K s h → (u : ℕ) (q : List ℕ) → s.queue ≡ u ∷ q → Labelled π K (leave u q s) h
    good-leave s h G u q e = record {
      dist_length = G.dist_length;
      pred_length = G.pred_length;
      flag_length = length-set s.queued u false ∙ G.flag_length;
      source_zero = G.source_zero;
      nodes = G.nodes;
      flags = λ z f. fl z (ℕ_discrete z u) f;
      inside = λ z i. G.inside z (rw e (there i));
      small = G.small;
    }
      where
        fl : (z : ℕ) → Dec (z ≡ u) → get_or (set s.queued u false) z false ≡ true → In z q
        fl z (no ne) f = let i : In z s.queue = G.flags z (sym (get_or-set_other s.queued u z false false ne) ∙ f) in in_tail (rw e at i) ne
        fl z (yes y) f = absurd (clash (sym (rw y at f) ∙ get_or-set_same s.queued u false false (lt y)))
          where
            lt : z ≡ u → u < length s.queued
            lt y = let (a, b) = G.inside u (rw e here) in omega (arith, G.flag_length)

    -- ---- at rest
    pub record AtRest (t : Search) : Type 0 where
      pub hops : ℕ → ℕ
      pub good : Labelled π K t hops
      pub quiet : t.queue ≡ []
      pub ok : (a b : ℕ) → a < node_count p → b < node_count p → 0 < residual_of a b → Settled t a b

    module _ (inner : (a v : ℕ) → a < node_count p → In v (neighbours p (vertex_of p a)) → v < node_count p)
        (reach : (a b : ℕ) → a < node_count p → b < node_count p → 0 < residual_of a b → In b (neighbours p (vertex_of p a))) where
      pub rests : (f : ℕ) (q : List ℕ) (s : Search) (h : ℕ → ℕ) → Labelled π K s h → s.queue ≡ q → label_sum (node_count p * K + 1) s + length q ≤ f
          → ((a b : ℕ) → a < node_count p → b < node_count p → 0 < residual_of a b → Settled s a b ⊎ In a s.queue) → AtRest (search p w x f q s)
      unfolding search Settled
      rests zero [] s h G e m k = record { hops = h; good = G; quiet = e; ok = λ a b ha hb r. drop-nil a b (k a b ha hb r) }
        where
          drop-nil : (a b : ℕ) → Settled s a b ⊎ In a s.queue → Settled s a b
          drop-nil a b (inl o) = o
          drop-nil a b (inr i) = absurd (in-nil (rw e at i))
      rests zero (u ∷ q) s h G e m k = absurd (omega arith)
      rests (suc f) [] s h G e m k = record { hops = h; good = G; quiet = e; ok = λ a b ha hb r. drop-nil a b (k a b ha hb r) }
        where
          drop-nil : (a b : ℕ) → Settled s a b ⊎ In a s.queue → Settled s a b
          drop-nil a b (inl o) = o
          drop-nil a b (inr i) = absurd (in-nil (rw e at i))
      rests (suc f) (u ∷ q) s h G e m k =
          let (hu, (l, Lu)) = G.inside u (rw e here) in
          let B = visited u l hu (neighbours p (vertex_of p u)) (λ v i. inner u v hu i) (leave u q s) h (good-leave s h G u q e) Lu in
          let r = visit p w x u (pos l) (neighbours p (vertex_of p u)) (leave u q s) in
          rw Lu (rests f r.queue r B.hops B.good refl (omega (arith, B.less)) (λ a b ha hb z. mk l r B a b ha hb z (ℕ_discrete a u) (k a b ha hb z)))
        where
          mk : (l : ℕ) (t : Search) → Visited u l (neighbours p (vertex_of p u)) (leave u q s) t → (a b : ℕ) → a < node_count p → b < node_count p → 0 < residual_of a b → Dec (a ≡ u)
              → Settled s a b ⊎ In a s.queue → Settled t a b ⊎ In a t.queue
          mk l t B a b ha hb z d (inl o) = B.keep a b (inl o)
          mk l t B a b ha hb z (no ne) (inr i) = B.keep a b (inr (in_tail (rw e at i) ne))
          mk l t B a b ha hb z (yes y) (inr i) = rw y (B.made b (rw y at (reach a b ha hb z)) (rw y at z))
