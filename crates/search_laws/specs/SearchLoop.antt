-- The search's loop: what holds at its head, that a measure falls, and what holds where the queue is empty.
use Rattle.std.specs.Prelude.{◌≡◌, true, false, not, eqb, pos}
use Rattle.std.proofs.Math.Path.{refl, sym, ap}
use Rattle.std.proofs.Common.{◌∙◌, zero-add}
use mathlib.Core.List.{List, [], ◌∷◌}
use Rattle.std.proofs.Math.Option.{some}
use Prim.Native.Nat.{ℕ, zero, suc, ◌+◌, ◌-◌, ◌*◌, ◌^◌, ◌≤◌, ◌<◌}
use Rattle.std.proofs.Math.Decide.{ℕ_discrete}
use native.Mathlib.Omega.{arith}
use borrow.Author.Tests.{eq-eqb, ne_eqb}
use Rattle.std.proofs.Math.ListN.{length, get_or}
use Rattle.spec.specs.Bytes.{pick}
use Rattle.spec.specs.Meaning.{here}
use Rattle.spec.specs.Transport.{Search, weight, rows_of, cols_of, node_count, sink, vertex_of, neighbours, leave, visit, search, begin, search_fuel, searched, found}
use Rattle.flow.specs.Sums.{sum-cong}
use Rattle.flow.specs.Search.{label_at, label_or, label_sum, Labelled, good-leave, visited as all-visited}
use Rattle.flow.specs.SearchEnds.{good-begin, inner, searched-rests}
use Rattle.search_laws.specs.Holds.{NetHolds, Ready, Found}
use Rattle.search_laws.specs.NetReads.{ring-length}
use Rattle.search_laws.specs.Visits.{sized, dear103, Going, visit-holds}
use Rattle.search_laws.specs.Fits.{few}
use Rattle.search_laws.specs.Turns.{first-is, first-lt, leave-holds, begin-holds}
use Rattle.net.specs.Net.{state_of, head_of, count_of, first_of, left, begun, NODES, HIGH, NET}
use Rattle.search_laws.specs.Edges.{visited, ran_to, beyond, measure, searched_net}

module _ {r c : ℕ} {g f y : List ℕ} (R : Ready r c g f y) where
  -- at the loop's head
  pub record Searching (m : List ℕ) : Type 0 where
    pub s : Search
    pub hops : ℕ → ℕ
    pub good : Labelled R.p (weight R.p) R.x R.partly.π (2 ^ 103) s hops
    pub net : NetHolds R.p s m
    pub fuel : ℕ
    pub rest : search R.p (weight R.p) R.x fuel s.queue s ≡ searched R.p (weight R.p) R.x

  few' : node_count R.p ≤ NODES
  few' = few R.p R.small R.x R.partly

  -- the measure, as the definition's numbers
  measure-is : (s : Search) (m : List ℕ) → NetHolds R.p s m → measure (rows_of R.p) (cols_of R.p) m ≡ label_sum R.p (weight R.p) R.x (beyond (node_count R.p)) s + length s.queue
  unfolding measure
  measure-is s m N = omega (
    arith,
    sum-cong (node_count R.p) {f = λ v. pick (eqb (state_of m v) 0) (beyond (node_count R.p)) (get_or m v 0 + 2 ^ 64 * get_or m (HIGH + v) 0)} {g = λ v. label_or (beyond (node_count R.p)) (label_at s v)} (λ v hv. each v hv (ℕ_discrete (state_of m v) 0)),
    ring-length m (count_of m) (head_of m),
    ap length N.ring,
  )
    where
      each : (v : ℕ) → v < node_count R.p → Dec (state_of m v ≡ 0)
          → pick (eqb (state_of m v) 0) (beyond (node_count R.p)) (get_or m v 0 + 2 ^ 64 * get_or m (HIGH + v) 0) ≡ label_or (beyond (node_count R.p)) (label_at s v)
      each v hv (yes e) = rw (eq-eqb (state_of m v) 0 e, N.unseen v hv e) refl
      each v hv (no e) = let (k, a, b) = N.seen v hv e in rw (ne_eqb (state_of m v) 0 e, a) b.is

  pub begins : (m : List ℕ) → length m ≡ NET → Searching (begun (1 + r + c) m)
  unfolding searched
  begins m len =
      let e : begun (1 + r + c) m ≡ begun (sink R.p) m = λ i. begun (1 + sym R.rows i + sym R.cols i) m in
      rw e (record {
        s = begin R.p;
        hops = λ v. 0;
        good = good-begin R.p (weight R.p) R.x R.partly.π R.partly.pot (2 ^ 103);
        net = begin-holds R.p few' m len;
        fuel = search_fuel R.p (weight R.p);
        rest = refl;
      })

  search-stop : (n : ℕ) (q : List ℕ) (s : Search) → q ≡ [] → search R.p (weight R.p) R.x n q s ≡ s
  unfolding search
  search-stop zero q s e = refl
  search-stop (suc n) q s e = rw e refl

  search-step : (n : ℕ) (b : List ℕ) (s : Search) (u : ℕ) (q : List ℕ) (l : ℕ) → b ≡ u ∷ q → label_at s u ≡ some (pos l)
      → (let t = visit R.p (weight R.p) R.x u (pos l) (neighbours R.p (vertex_of R.p u)) (leave u q s) in
      search R.p (weight R.p) R.x (suc n) b s ≡ search R.p (weight R.p) R.x n t.queue t)
  unfolding search
  search-step n b s u q l e L = rw (e, L) refl

  -- one turn: the facts that taking off the first node asks for, the state after it, and a lower measure
  pub record Turn (m : List ℕ) : Type 0 where
    pub head : head_of m < NODES
    pub node : first_of m < NODES
    pub next : Searching (visited g f y r c (first_of m) (left m))
    pub less : measure r c (visited g f y r c (first_of m) (left m)) < measure r c m

  pub turn : (m : List ℕ) → Searching m → 0 < count_of m → Turn m
  unfolding search
  turn m A h = go A.s.queue refl A.fuel A.rest
    where
      go : (q : List ℕ) → A.s.queue ≡ q → (n : ℕ) → search R.p (weight R.p) R.x n A.s.queue A.s ≡ searched R.p (weight R.p) R.x → Turn m
      go [] e n rest = absurd (nobody (sym (ring-length m (count_of m) (head_of m)) ∙ ap length (A.net.ring ∙ e)))
        where
          nobody : count_of m ≡ 0 → ⊥
          nobody z = omega arith
      go (u ∷ q) e zero rest = absurd (empty (ap length (sym e ∙ ap (λ (t : Search). t.queue) rest ∙ (searched-rests R.p (weight R.p) R.x R.partly.π R.partly.pot).quiet)))
        where
          empty : suc (length q) ≡ 0 → ⊥
          empty z = omega arith
      go (u ∷ q) e (suc n) rest =
          let Z = sized A.good in
          let hu = first-lt R.p few' A.s Z m A.net u q e in
          let fst = first-is R.p few' A.s Z m A.net u q e in
          let (hu', (l, L)) = A.good.inside u (rw e here) in
          let gl = good-leave R.p (weight R.p) R.x R.partly.π R.partly.pot (2 ^ 103) (dear103 R.p R.small R.x R.partly) A.s A.hops A.good u q e in
          let G : Going R.p R.small R.x R.partly u l (leave u q A.s) (left m) = record { hops = A.hops; good = gl; net = leave-holds R.p few' A.s Z m A.net u q e; at = L } in
          let H = visit-holds R.p R.small R.x R.partly g f y R.costs R.flow R.margins u l hu (leave u q A.s) (left m) G in
          let W = all-visited R.p (weight R.p) R.x R.partly.π R.partly.pot (2 ^ 103) (dear103 R.p R.small R.x R.partly) u l hu (neighbours R.p (vertex_of R.p u)) (λ v i. inner R.p (weight R.p) R.x u v hu i) (leave u q A.s) A.hops gl L in
          let t = visit R.p (weight R.p) R.x u (pos l) (neighbours R.p (vertex_of R.p u)) (leave u q A.s) in
          let em : visited g f y r c (first_of m) (left m) ≡ visited g f y (rows_of R.p) (cols_of R.p) u (left m) = λ i. visited g f y (sym R.rows i) (sym R.cols i) (fst i) (left m) in
          let er : search R.p (weight R.p) R.x n t.queue t ≡ searched R.p (weight R.p) R.x = sym (search-step n A.s.queue A.s u q l e L) ∙ rest in
          let m₁ = measure-is A.s m A.net in
          let m₂ = measure-is t (visited g f y (rows_of R.p) (cols_of R.p) u (left m)) H.net in
          record {
            head = A.net.head;
            node = rw fst (omega (arith, hu, few'));
            next = rw em (record { s = t; hops = H.hops; good = H.good; net = H.net; fuel = n; rest = er });
            less = rw (em, ← R.rows, ← R.cols) (omega (arith, m₁, m₂, W.less, ap length e));
          }

  -- the end: the queue is empty
  pub ends : (m : List ℕ) → Searching m → (0 < count_of m → ⊥) → NetHolds R.p (searched R.p (weight R.p) R.x) m
  unfolding search
  ends m A h = go A.s.queue refl A.fuel A.rest
    where
      go : (q : List ℕ) → A.s.queue ≡ q → (n : ℕ) → search R.p (weight R.p) R.x n A.s.queue A.s ≡ searched R.p (weight R.p) R.x → NetHolds R.p (searched R.p (weight R.p) R.x) m
      go (u ∷ q) e n rest = absurd (h (somebody (sym (ring-length m (count_of m) (head_of m)) ∙ ap length (A.net.ring ∙ e))))
        where
          somebody : {k : ℕ} → count_of m ≡ suc k → 0 < count_of m
          somebody z = omega arith
      go [] e n rest = rw (← (sym (search-stop n A.s.queue A.s e) ∙ rest)) A.net

  pub not-reached : (m : List ℕ) → NetHolds R.p (searched R.p (weight R.p) R.x) m → state_of m (1 + r + c) ≡ 0 → Found R m false
  not-reached m N e =
      let e' : state_of m (sink R.p) ≡ 0 = (λ i. state_of m (1 + R.rows i + R.cols i)) ∙ e in
      record { net = N; is = sym (ap found (N.unseen (sink R.p) (omega arith) e')) }

  pub reached : (m : List ℕ) → NetHolds R.p (searched R.p (weight R.p) R.x) m → (state_of m (1 + r + c) ≡ 0 → ⊥) → Found R m true
  reached m N e =
      let (k, a, b) = N.seen (sink R.p) (omega arith) (λ o. e ((λ i. state_of m (1 + sym R.rows i + sym R.cols i)) ∙ o)) in
      record { net = N; is = sym (ap found a) }

-- ---- the turns so far
pub record Ran (g f y : List ℕ) (r c : ℕ) (m₀ m : List ℕ) : Type 0 where
  pub turns : ℕ
  pub fewer : turns + measure r c m ≤ measure r c m₀
  pub same : (n : ℕ) → ran_to g f y r c (turns + n) m₀ ≡ ran_to g f y r c n m

module _ (g f y : List ℕ) (r c : ℕ) (m₀ : List ℕ) where
  pub ran-start : Ran g f y r c m₀ m₀
  ran-start = record { turns = 0; fewer = omega arith; same = λ n. ap (λ (k : ℕ). ran_to g f y r c k m₀) (zero-add n) }

  pub ran-turn : (m : List ℕ) → Ran g f y r c m₀ m → 0 < count_of m → measure r c (visited g f y r c (first_of m) (left m)) < measure r c m → Ran g f y r c m₀ (visited g f y r c (first_of m) (left m))
  unfolding ran_to
  ran-turn m A h l = record { turns = A.turns + 1; fewer = omega (arith, A.fewer, l); same = λ n. same n }
    where
      same : (n : ℕ) → ran_to g f y r c (A.turns + 1 + n) m₀ ≡ ran_to g f y r c n (visited g f y r c (first_of m) (left m))
      same n =
          let e : A.turns + 1 + n ≡ A.turns + suc n = omega arith in
          rw (e, A.same (suc n), ne_eqb (count_of m) 0 (λ z. absurd (omega arith))) refl

  pub ran-end : (m : List ℕ) → Ran g f y r c m₀ m → (0 < count_of m → ⊥) → m ≡ ran_to g f y r c (measure r c m₀) m₀
  unfolding ran_to
  ran-end m A h =
      let e : A.turns + (measure r c m₀ - A.turns) ≡ measure r c m₀ = omega (arith, A.fewer) in
      sym (stop (measure r c m₀ - A.turns)) ∙ sym (A.same (measure r c m₀ - A.turns)) ∙ ap (λ (k : ℕ). ran_to g f y r c k m₀) e
    where
      stop : (n : ℕ) → ran_to g f y r c n m ≡ m
      stop zero = refl
      stop (suc n) = rw (eq-eqb (count_of m) 0 (omega (arith, h))) refl

pub searched-net : (g f y : List ℕ) (r c : ℕ) (m m₀ m₁ : List ℕ) → m₁ ≡ begun (1 + r + c) m₀ → m ≡ ran_to g f y r c (measure r c m₁) m₁ → m ≡ searched_net g f y r c m₀
unfolding searched_net
searched-net g f y r c m m₀ m₁ e q = q ∙ ap (λ (z : List ℕ). ran_to g f y r c (measure r c z) z) e

pub unseen-sink : (m : List ℕ) (t : ℕ) → state_of m t ≡ 0 → false ≡ not (eqb (state_of m t) 0)
unseen-sink m t e = rw (eq-eqb (state_of m t) 0 e) refl

pub seen-sink : (m : List ℕ) (t : ℕ) → (state_of m t ≡ 0 → ⊥) → true ≡ not (eqb (state_of m t) 0)
seen-sink m t e = rw (ne_eqb (state_of m t) 0 e) refl
