-- The search on words, turn by turn: its beginning, a node that leaves the queue, the measure that falls, its end.
use Rattle.std.specs.Prelude.{◌≡◌, ◌≢◌, Bool, true, false, List, [], ◌∷◌, ℕ, zero, suc, ◌+◌, ◌-◌, ◌%◌, ◌≤◌, ◌<◌, eqb, pos, get_or, set, replicate}
use Rattle.std.proofs.Math.Path.{refl, ap}
use Rattle.std.proofs.Common.{sym, ◌∙◌, inl, inr, ne_eqb, length-set, get_or-set_same, get_or-set_other}
use Rattle.std.proofs.Math.Option.{none, some}
use Rattle.std.proofs.Math.Decide.{ℕ_discrete}
use native.Mathlib.Omega.{arith}
use Rattle.std.proofs.Math.ListN.{length}
use Rattle.std.proofs.lemmas.List.{length-replicate}
use Rattle.spec.specs.Meaning.{occurs, In, here}
use Rattle.spec.specs.Transport.{Problem, Search, node_count, sink, label, leave, begin}
use Rattle.laws.specs.Tests.{clash}
use Rattle.flow.specs.Cut.{bit}
use Rattle.flow.specs.Search.{label_at}
use Rattle.flow.specs.SearchEnds.{get_d-same}
use Rattle.search_laws.specs.Holds.{NetHolds, ring_from}
use Rattle.search_laws.specs.NetReads.{ring-other, ring-length, labelled-state}
use Rattle.search_laws.specs.Once.{one, one_same, one-other, occurs-first}
use Rattle.search_laws.specs.Relaxation.{Sized, improved-holds}
use Rattle.net.specs.Net.{label_of, state_of, head_of, count_of, first_of, left, unseen_to, begun, NODES, HIGH, PRED, STATE, HEAD, COUNT, NET}
use Rattle.net.specs.NetLaws.{improved-joins}

-- ---- a place of the ring by its remainder
pub ring-same : (m : List ℕ) (n a b : ℕ) → a % NODES ≡ b % NODES → ring_from m n a ≡ ring_from m n b
unfolding ring_from
ring-same m zero a b e = refl
ring-same m (suc n) a b e = rw (e, ring-same m n (a + 1) (b + 1) (omega arith)) refl

tail_of : {a b : ℕ} {l q : List ℕ} → a ∷ l ≡ b ∷ q → (a ≡ b) × (l ≡ q)
tail_of e = (cc, cc)

-- ---- the first node leaves
module _ (p : Problem) (few' : node_count p ≤ NODES) (s : Search) (Z : Sized p s) (m : List ℕ) (N : NetHolds p s m) (u : ℕ) (q : List ℕ) (eq : s.queue ≡ u ∷ q) where
  pub count-suc : count_of m ≡ suc (length q)
  count-suc = sym (ring-length m (count_of m) (head_of m)) ∙ ap length (N.ring ∙ eq)

  parts : (first_of m ≡ u) × (ring_from m (length q) (head_of m + 1) ≡ q)
  unfolding ring_from
  parts =
      let e : ring_from m (suc (length q)) (head_of m) ≡ u ∷ q = ap (λ (n : ℕ). ring_from m n (head_of m)) (sym count-suc) ∙ N.ring ∙ eq in
      let (a, b) = tail_of e in
      let h : head_of m % NODES ≡ head_of m = omega (arith, N.head) in
      (rw h at a, b)

  pub first-is : first_of m ≡ u
  first-is = parts.0

  pub first-lt : u < node_count p
  first-lt = Z.inside u (rw eq here)

  hu : u < NODES
  hu = omega (arith, first-lt)

  left_is : left m ≡ set (set (set m (STATE + u) 1) HEAD ((head_of m + 1) % NODES)) COUNT (length q)
  unfolding left
  left_is = let c : count_of m - 1 ≡ length q = omega (arith, count-suc) in rw (first-is, c) refl

  far : (k : ℕ) → k ≢ STATE + u → k ≢ HEAD → k ≢ COUNT → get_or (left m) k 0 ≡ get_or m k 0
  far k a b c = rw left_is
      (get_or-set_other (set (set m (STATE + u) 1) HEAD ((head_of m + 1) % NODES)) COUNT k (length q) 0 c
      ∙ get_or-set_other (set m (STATE + u) 1) HEAD k ((head_of m + 1) % NODES) 0 b ∙ get_or-set_other m (STATE + u) k 1 0 a)

  state-u : state_of (left m) u ≡ 1
  state-u = rw left_is
      (get_or-set_other (set (set m (STATE + u) 1) HEAD ((head_of m + 1) % NODES)) COUNT (STATE + u) (length q) 0 (omega (arith, hu))
      ∙ get_or-set_other (set m (STATE + u) 1) HEAD (STATE + u) ((head_of m + 1) % NODES) 0 (omega (arith, hu)) ∙ get_or-set_same m (STATE + u) 1 0 (omega (arith, N.size, hu)))

  state-z : (z : ℕ) → z < NODES → z ≢ u → state_of (left m) z ≡ state_of m z
  state-z z hz ne = far (STATE + z) (omega arith) (omega arith) (omega arith)

  label-z : (z : ℕ) → z < NODES → label_of (left m) z ≡ label_of m z
  label-z z hz = λ i. record { lo = far z (omega arith) (omega arith) (omega arith) i; hi = far (HIGH + z) (omega arith) (omega arith) (omega arith) i }

  head-is : head_of (left m) ≡ (head_of m + 1) % NODES
  head-is = rw left_is
      (get_or-set_other (set (set m (STATE + u) 1) HEAD ((head_of m + 1) % NODES)) COUNT HEAD (length q) 0 (omega arith)
      ∙ get_or-set_same (set m (STATE + u) 1) HEAD ((head_of m + 1) % NODES) 0 (simp length-set (omega (arith, N.size))))

  count-is : count_of (left m) ≡ length q
  count-is = rw left_is (get_or-set_same (set (set m (STATE + u) 1) HEAD ((head_of m + 1) % NODES)) COUNT (length q) 0 (simp length-set (omega (arith, N.size))))

  ring-is : ring_from (left m) (length q) ((head_of m + 1) % NODES) ≡ q
  ring-is = rw left_is
      (ring-other (set (set m (STATE + u) 1) HEAD ((head_of m + 1) % NODES)) COUNT (length q) (inr (omega arith)) (length q) ((head_of m + 1) % NODES)
      ∙ ring-other (set m (STATE + u) 1) HEAD ((head_of m + 1) % NODES) (inr (omega arith)) (length q) ((head_of m + 1) % NODES)
      ∙ ring-other m (STATE + u) 1 (inl (omega (arith, hu))) (length q) ((head_of m + 1) % NODES)
      ∙ ring-same m (length q) ((head_of m + 1) % NODES) (head_of m + 1) (omega arith) ∙ parts.1)

  flag-u : get_or s.queued u false ≡ true
  flag-u = go (get_or s.queued u false) refl
    where
      go : (b : Bool) → get_or s.queued u false ≡ b → b ≡ true
      go true e = refl
      go false e = absurd (clash (one u u) (occurs u q) (sym (occurs-first u u q) ∙ ap (occurs u) (sym eq) ∙ N.once u ∙ ap bit e) (one_same u))
        where
          clash : (a b : ℕ) → a + b ≡ 0 → a ≡ 1 → ⊥
          clash a b x y = omega arith

  pub leave-holds : NetHolds p (leave u q s) (left m)
  leave-holds = record {
    size = rw left_is (simp length-set N.size);
    unseen = λ z hz o. unseen z hz o (ℕ_discrete z u);
    seen = λ z hz o. let (k, a, b) = N.seen z hz (λ e. o (was z hz e (ℕ_discrete z u))) in (k, a, rw (label-z z (omega arith)) b);
    pred = λ z hz o. far (PRED + z) (omega arith) (omega arith) (omega arith) ∙ N.pred z hz (λ e. o (was z hz e (ℕ_discrete z u)));
    flags = λ z hz. flags z hz (ℕ_discrete z u);
    head = rw head-is (omega arith);
    ring = rw (count-is, head-is) ring-is;
    once = λ z. once z (ℕ_discrete z u);
  }
    where
      queued-state : state_of m u ≡ 2
      queued-state = go (ℕ_discrete (state_of m u) 2)
        where
          go : Dec (state_of m u ≡ 2) → state_of m u ≡ 2
          go (yes e) = e
          go (no e) = absurd (clash (sym (N.flags u first-lt ∙ flag-u) ∙ ne_eqb (state_of m u) 2 e))

      unseen : (z : ℕ) → z < node_count p → state_of (left m) z ≡ 0 → Dec (z ≡ u) → label_at s z ≡ none
      unseen z hz o (yes e) = absurd (clash (ap (state_of (left m)) e) state-u)
        where
          clash : state_of (left m) z ≡ state_of (left m) u → state_of (left m) u ≡ 1 → ⊥
          clash a b = omega arith
      unseen z hz o (no e) = N.unseen z hz (sym (state-z z (omega arith) e) ∙ o)

      was : (z : ℕ) → z < node_count p → state_of m z ≡ 0 → Dec (z ≡ u) → state_of (left m) z ≡ 0
      was z hz e (yes y) = absurd (clash (ap (state_of m) y) queued-state)
        where
          clash : state_of m z ≡ state_of m u → state_of m u ≡ 2 → ⊥
          clash a b = omega arith
      was z hz e (no y) = state-z z (omega arith) y ∙ e

      flags : (z : ℕ) → z < node_count p → Dec (z ≡ u) → eqb (state_of (left m) z) 2 ≡ get_or (set s.queued u false) z false
      flags z hz (yes e) = rw (e, state-u, get_or-set_same s.queued u false false (omega (arith, Z.queued, first-lt))) refl
      flags z hz (no e) = rw (state-z z (omega arith) e, get_or-set_other s.queued u z false false e) (N.flags z hz)

      once : (z : ℕ) → Dec (z ≡ u) → occurs z q ≡ bit (get_or (set s.queued u false) z false)
      once z (yes e) = rw (e, get_or-set_same s.queued u false false (omega (arith, Z.queued, first-lt)))
          (omega (arith, one_same u, occurs-first u u q, ap (occurs u) eq, N.once u, ap bit flag-u))
      once z (no e) = rw (get_or-set_other s.queued u z false false e)
          (omega (arith, one-other u z (λ o. e (sym o)), occurs-first z u q, ap (occurs z) eq, N.once z))

-- ---- the beginning
pub unseen-size : (n v : ℕ) (m : List ℕ) → length (unseen_to n v m) ≡ length m
unfolding unseen_to
unseen-size zero v m = refl
unseen-size (suc n) v m = unseen-size n (v + 1) (set m (STATE + v) 0) ∙ length-set m (STATE + v) 0

-- a number that was not written, and one that was
unseen-off : (n v : ℕ) (m : List ℕ) (k : ℕ) → k < STATE + v → get_or (unseen_to n v m) k 0 ≡ get_or m k 0
unfolding unseen_to
unseen-off zero v m k h = refl
unseen-off (suc n) v m k h = unseen-off n (v + 1) (set m (STATE + v) 0) k (omega arith) ∙ get_or-set_other m (STATE + v) k 0 0 (omega arith)

pub unseen-at : (n v : ℕ) (m : List ℕ) → STATE + v + n ≤ length m → (z : ℕ) → v ≤ z → z < v + n → state_of (unseen_to n v m) z ≡ 0
unfolding unseen_to
unseen-at zero v m len z a b = absurd (omega arith)
unseen-at (suc n) v m len z a b = go (ℕ_discrete z v) (λ a'. unseen-at n (v + 1) (set m (STATE + v) 0) (rw (length-set m (STATE + v) 0) (omega arith)) z a' (omega arith))
  where
    go : Dec (z ≡ v) → (v + 1 ≤ z → state_of (unseen_to n (v + 1) (set m (STATE + v) 0)) z ≡ 0) → state_of (unseen_to n (v + 1) (set m (STATE + v) 0)) z ≡ 0
    go (yes e) ih = rw e (unseen-off n (v + 1) (set m (STATE + v) 0) (STATE + v) (omega arith) ∙ get_or-set_same m (STATE + v) 0 0 (omega arith))
    go (no e) ih = ih (omega arith)

-- nothing seen, nothing queued
abbrev nothing : Problem → Search
nothing p = record { dist = none ∷ replicate (sink p) none; pred = replicate (node_count p) 0; queued = false ∷ replicate (sink p) false; queue = [] }

set-zero : (n : ℕ) → set {A = ℕ} (replicate (1 + n) 0) 0 0 ≡ replicate (1 + n) 0
set-zero n = let e : 1 + n ≡ suc n = omega arith in rw e refl

begin-is : (p : Problem) → label 0 0 (pos 0) (nothing p) ≡ begin p
begin-is p = λ i. record { dist = some (pos 0) ∷ replicate (sink p) none; pred = set-zero (sink p) i; queued = true ∷ replicate (sink p) false; queue = 0 ∷ [] }

none-at : {A : Type 0} (n v : ℕ) (d : A) → get_or (d ∷ replicate n d) v d ≡ d
none-at n zero d = refl
none-at n (suc v) d = get_d-same n v d

module _ (p : Problem) (few' : node_count p ≤ NODES) (m : List ℕ) (len : length m ≡ NET) where
  abbrev clean : List ℕ
  clean = set (set (unseen_to (sink p + 1) 0 m) HEAD 0) COUNT 0

  clean-size : length clean ≡ NET
  clean-size = simp (length-set, unseen-size) len

  clean-state : (z : ℕ) → z < node_count p → state_of clean z ≡ 0
  clean-state z hz =
      get_or-set_other (set (unseen_to (sink p + 1) 0 m) HEAD 0) COUNT (STATE + z) 0 0 (omega arith)
      ∙ get_or-set_other (unseen_to (sink p + 1) 0 m) HEAD (STATE + z) 0 0 (omega arith)
      ∙ unseen-at (sink p + 1) 0 m (omega arith) z (omega arith) (omega arith)

  clean-head : head_of clean ≡ 0
  clean-head =
      get_or-set_other (set (unseen_to (sink p + 1) 0 m) HEAD 0) COUNT HEAD 0 0 (omega arith)
      ∙ get_or-set_same (unseen_to (sink p + 1) 0 m) HEAD 0 0 (simp unseen-size (omega arith))

  clean-count : count_of clean ≡ 0
  clean-count = get_or-set_same (set (unseen_to (sink p + 1) 0 m) HEAD 0) COUNT 0 0 (simp (length-set, unseen-size) (omega arith))

  clean-holds : NetHolds p (nothing p) clean
  unfolding ring_from occurs
  clean-holds = record {
    size = clean-size;
    unseen = λ z hz e. none-at (sink p) z none;
    seen = λ z hz e. absurd (e (clean-state z hz));
    pred = λ z hz e. absurd (e (clean-state z hz));
    flags = λ z hz. rw (clean-state z hz, none-at (sink p) z false) refl;
    head = rw clean-head (omega arith);
    ring = rw clean-count refl;
    once = λ z. rw (none-at (sink p) z false) refl;
  }

  pub begin-holds : NetHolds p (begin p) (begun (sink p) m)
  unfolding begun
  begin-holds =
      rw (← begin-is p, improved-joins clean 0 0 (record { lo = 0; hi = 0 }) (λ e. absurd (clash (labelled-state clean clean-size 0 0 (omega arith) (record { lo = 0; hi = 0 }) 0 ∙ clean-state 0 (omega arith)) e)))
      (improved-holds p few' (nothing p) Z clean clean-holds 0 0 (omega arith) (record { lo = 0; hi = 0 }) 0 (record { low = omega arith; high = omega arith; is = refl }))
    where
      clash : {a : ℕ} → a ≡ 0 → a ≡ 2 → ⊥
      clash e q = omega arith

      Z : Sized p (nothing p)
      Z = record { dist = ap suc (length-replicate (sink p) none) ∙ one_more (sink p); pred = length-replicate (node_count p) 0; queued = ap suc (length-replicate (sink p) false) ∙ one_more (sink p); inside = λ v i. absurd (no_one i) }
        where
          one_more : (n : ℕ) → suc n ≡ 1 + n
          one_more n = omega arith

          no_one : {v : ℕ} → In v [] → ⊥
          no_one i = elim i [ ]
