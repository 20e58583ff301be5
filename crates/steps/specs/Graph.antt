-- "Graph. Built in full, it holds the queried pair (left class, right class) and, with each pair, every pair of classes that an action of it joins. Its n pairs are counted once each."
use Rattle.std.specs.Prelude.{◌≡◌, ◌⊎◌, ◌↔◌, Bool, get_or}
use Rattle.std.proofs.Math.Path.{refl}
use Rattle.std.proofs.Common.{sym, ap, ◌∙◌, subst, inl, inr, arith, not-suc-le-zero, eq-or-lt_of_le, add_comm}
use Rattle.std.proofs.Math.Bool.{true, false}
use mathlib.Core.List.{List, [], ◌∷◌}
use Prim.Native.Nat.{ℕ, zero, suc, ◌+◌, ◌-◌, ◌≤◌, ◌<◌, zero-le}
use Rattle.std.proofs.Math.Decide.{dec_lt}
use Rattle.std.proofs.Math.Nat.{suc_inj}
use Rattle.std.proofs.Math.Dec.{ltb}
use Rattle.std.proofs.Math.ListN.{length}
use borrow.Author.Tests.{ltb-true, ltb-false}
use Rattle.spec.specs.Bytes.{pick, In, here, Res, ok, refused, ◌>>=◌, Checked, passed, cut_short}
use Rattle.spec.specs.System.{System, enter, enter_all, build_from, build, Reachable, queried, joined}
use Rattle.laws.specs.Lists.{in-nil, in-cons, get_in, in-get, get-append, Distinct, none, more, pigeon}
use Rattle.laws.specs.Results.{Later, refused-ok, refused-inj, ok-inj, passed-inj, cut-passed}
use Rattle.steps.specs.Enter.{grow, Starts, starts-refl, starts-trans, starts-in, starts-length, Grown, Entered, grown, overfull, enter_all-says}

-- the nodes hold every node that one of them joins
abbrev pub Closed : {N : Type 0} → System N → List N → Type 0
Closed {N} S ps = (p c : N) → In p ps → In c (S.joins p) → In c ps

-- what a node hands on to those that it joins holds of all that are reachable
pub reach-all : {N : Type 0} (S : System N) (P : N → Type 0) → ((p c : N) → P p → In c (S.joins p) → P c) → (root : N) → P root → (q : N) → Reachable S root q → P q
reach-all S P on root h q (queried e) = rw e h
reach-all S P on root h q (joined {p = r} k i) = on r q (reach-all S P on root h r k) i

-- ---- building
-- some of the reachable nodes, once each
pub record Some {N : Type 0} (S : System N) (root : N) (ps : List N) : Type 0 where
  pub once : Distinct ps
  pub reached : (x : N) → In x ps → Reachable S root x

-- the list in building, when the first i nodes have had their turn
record Good {N : Type 0} (S : System N) (root : N) (ps : List N) (i : ℕ) : Type 0 where
  starts : Starts (root ∷ []) ps
  some : Some S root ps
  done : (k : ℕ) → k < i → (c : N) → In c (S.joins (get_or ps k S.other)) → In c ps
  up_to : i ≤ length ps

-- what building with m checks in all comes to
data Built {N : Type 0} (S : System N) (lim : ℕ) (root : N) (m : ℕ) : Res (Checked (List N)) → Type 0 where
  full : {ps : List N} {c : ℕ} → Good S root ps (length ps) → m ≡ length ps + c → length ps ≤ lim → Built S lim root m (ok (passed ps c))
  short : (ps : List N) → Some S root ps → m < length ps → length ps ≤ lim → Built S lim root m (ok cut_short)
  over : {n : ℕ} → n ≡ 12 → (ps : List N) → Some S root ps → lim < length ps → Built S lim root m (refused n)

module _ {N : Type 0} (S : System N) (root : N) where
  good-next : (ps qs : List N) (i : ℕ) → i < length ps → Good S root ps i → Grown ps (S.joins (get_or ps i S.other)) qs → Good S root qs (suc i)
  good-next ps qs i h d g = record {
    starts = starts-trans (root ∷ []) ps qs d.starts g.starts;
    some = record { once = g.apart d.some.once; reached = λ x j. from x (g.only x j) };
    done = λ k l c j. turn k l c j;
    up_to = omega (arith, starts-length ps qs g.starts);
  }
    where
      from : (x : N) → In x ps ⊎ In x (S.joins (get_or ps i S.other)) → Reachable S root x
      from x (inl j) = d.some.reached x j
      from x (inr j) = joined (d.some.reached (get_or ps i S.other) (get_in S.other ps i h)) j

      turn : (k : ℕ) → k < suc i → (c : N) → In c (S.joins (get_or qs k S.other)) → In c qs
      turn k l c j = go (eq-or-lt_of_le l)
        where
          same : get_or qs k S.other ≡ get_or ps k S.other
          same = ap (λ (m : List N). get_or m k S.other) g.starts.1 ∙ get-append S.other ps g.starts.0 k (omega arith)

          j' : In c (S.joins (get_or ps k S.other))
          j' = subst (λ z. In c (S.joins z)) same j

          go : (suc k ≡ suc i) ⊎ (suc k < suc i) → In c qs
          go (inl e) = g.all c (subst (λ z. In c (S.joins (get_or ps z S.other))) (suc_inj e) j')
          go (inr b) = starts-in ps qs c g.starts (d.done k (omega arith) c j')

  good_start : Good S root (root ∷ []) 0
  good_start = record {
    starts = starts-refl (root ∷ []);
    some = record { once = more in-nil none; reached = λ x i. elim (in-cons i) [ inl e ↦ queried e | inr j ↦ absurd (in-nil j) ] };
    done = λ k l. absurd (not-suc-le-zero l);
    up_to = zero-le;
  }

  -- ---- built in full
  good-closed : (ps : List N) → Good S root ps (length ps) → Closed S ps
  good-closed ps g p c i j = let k = in-get S.other p ps i in g.done k.0 k.1 c (subst (λ z. In c (S.joins z)) (sym k.2) j)

  good-reach : (ps : List N) → Good S root ps (length ps) → (x : N) → Reachable S root x → In x ps
  good-reach ps g x (queried e) = rw e (starts-in (root ∷ []) ps root g.starts here)
  good-reach ps g x (joined {p = y} r j) = good-closed ps g y x (good-reach ps g y r) j

module _ {N : Type 0} (S : System N) (lim : ℕ) (root : N) where
  good-done : (ps : List N) (i m c : ℕ) → Good S root ps i → length ps ≤ lim → length ps ≤ i → m ≡ i + c → Built S lim root m (ok (passed ps c))
  good-done ps i m c g f h e = let z : i ≡ length ps = omega (arith, g.up_to) in full {ps = ps} {c = c} (rw z at g) (omega arith) f

  build-says : (b : ℕ) (ps : List N) (i m : ℕ) → Good S root ps i → length ps ≤ lim → m ≡ i + b → Built S lim root m (build_from S lim b ps i)
  unfolding build_from
  build-says zero ps i m g f e = go (ltb i (length ps)) refl
    where
      go : (x : Bool) → ltb i (length ps) ≡ x → Built S lim root m (elim x [ true ↦ ok cut_short | false ↦ ok (passed ps 0) ])
      go true p = short ps g.some (omega (arith, ltb-true i (length ps) p)) f
      go false p = good-done ps i m 0 g f (ltb-false i (length ps) p) e
  build-says (suc b) ps i m g f e = go (ltb i (length ps)) refl (λ qs h k. build-says b qs (suc i) m h k (omega arith))
    where
      next : i < length ps → (r : Res (List N)) → Entered lim ps (S.joins (get_or ps i S.other)) r → ((qs : List N) → Good S root qs (suc i) → length qs ≤ lim → Built S lim root m (build_from S lim b qs (suc i))) → Built S lim root m (r >>= λ qs. build_from S lim b qs (suc i))
      next h (ok qs) (grown d k) ih = ih qs (good-next S root ps qs i h g d) (k f)
      next h (refused n) (overfull z o) ih = over z o.nodes (record { once = o.once g.some.once; reached = λ x j. from x (o.some x j) }) o.many
        where
          from : (x : N) → In x ps ⊎ In x (S.joins (get_or ps i S.other)) → Reachable S root x
          from x (inl j) = g.some.reached x j
          from x (inr j) = joined (g.some.reached (get_or ps i S.other) (get_in S.other ps i h)) j

      go : (x : Bool) → ltb i (length ps) ≡ x → ((qs : List N) → Good S root qs (suc i) → length qs ≤ lim → Built S lim root m (build_from S lim b qs (suc i))) → Built S lim root m (elim x [ false ↦ ok (passed ps (suc b)) | true ↦ (enter_all S.same lim ps (S.joins (get_or ps i S.other)) >>= λ qs. build_from S lim b qs (suc i)) ])
      go true p ih = next (ltb-true i (length ps) p) (enter_all S.same lim ps (S.joins (get_or ps i S.other))) (enter_all-says S lim (S.joins (get_or ps i S.other)) ps) ih
      go false p ih = good-done ps i m (suc b) g f (ltb-false i (length ps) p) e

  built : (b : ℕ) → Built S lim root b (build S lim root b)
  unfolding build enter
  built b = go (ltb 0 lim) refl
    where
      go : (x : Bool) → ltb 0 lim ≡ x → Built S lim root b (pick x (ok (root ∷ [])) (refused 12) >>= λ ps. build_from S lim b ps 0)
      go true e = build-says b (root ∷ []) 0 b (good_start S root) (omega (arith, ltb-true 0 lim e)) (omega arith)
      go false e = over refl (root ∷ []) (good_start S root).some (omega (arith, ltb-false 0 lim e))

  -- more checks: the same list, or the same refusal
  from-later : (b c e : ℕ) (ps : List N) (i : ℕ) → c ≡ b + e → Later e (build_from S lim b ps i) (build_from S lim c ps i)
  unfolding build_from
  from-later zero c e ps i k = go c k (ltb i (length ps)) refl
    where
      go : (c : ℕ) → c ≡ 0 + e → (x : Bool) → ltb i (length ps) ≡ x → Later e (elim x [ true ↦ ok cut_short | false ↦ ok (passed ps 0) ]) (build_from S lim c ps i)
      go c k true p = tt
      go zero k false p = rw (p, build_from) (ap (λ (z : ℕ). ok (passed ps z)) k)
      go (suc c) k false p = rw (p, build_from) (ap (λ (z : ℕ). ok (passed ps z)) k)
  from-later (suc b) zero e ps i k = absurd (omega arith)
  from-later (suc b) (suc c) e ps i k = go (ltb i (length ps)) (λ qs. from-later b c e qs (suc i) (omega arith))
    where
      next : (r : Res (List N)) → ((qs : List N) → Later e (build_from S lim b qs (suc i)) (build_from S lim c qs (suc i))) → Later e (r >>= λ qs. build_from S lim b qs (suc i)) (r >>= λ qs. build_from S lim c qs (suc i))
      next (ok qs) ih = ih qs
      next (refused n) ih = refl

      go : (x : Bool) → ((qs : List N) → Later e (build_from S lim b qs (suc i)) (build_from S lim c qs (suc i))) → Later {A = List N} e
          (elim x [ false ↦ ok (passed ps (suc b)) | true ↦ (enter_all S.same lim ps (S.joins (get_or ps i S.other)) >>= λ qs. build_from S lim b qs (suc i)) ])
          (elim x [ false ↦ ok (passed ps (suc c)) | true ↦ (enter_all S.same lim ps (S.joins (get_or ps i S.other)) >>= λ qs. build_from S lim c qs (suc i)) ])
      go true ih = next (enter_all S.same lim ps (S.joins (get_or ps i S.other))) ih
      go false ih = ap (λ (z : ℕ). ok (passed ps z)) k

  pub build-later : (b c e : ℕ) → c ≡ b + e → Later e (build S lim root b) (build S lim root c)
  unfolding build
  build-later b c e k = go (enter S.same lim [] root)
    where
      go : (r : Res (List N)) → Later e (r >>= λ ps. build_from S lim b ps 0) (r >>= λ ps. build_from S lim c ps 0)
      go (ok ps) = from-later b c e ps 0 k
      go (refused n) = refl

  passed-says : (b c : ℕ) (ps : List N) (r : Res (Checked (List N))) → Built S lim root b r → r ≡ ok (passed ps c) → Good S root ps (length ps) × (b ≡ length ps + c) × (length ps ≤ lim)
  passed-says b c ps r (full {ps = qs} {c = d} g e f) z = let (x, y) = passed-inj (ok-inj z) in let l = ap (λ (l : List N). length l) x in (rw x at g, omega (arith, y), omega arith)
  passed-says b c ps r (short qs o l m) z = absurd (cut-passed (ok-inj z))
  passed-says b c ps r (over e qs o l) z = absurd (refused-ok z)

  pub build-closed : (b c : ℕ) (ps : List N) → build S lim root b ≡ ok (passed ps c) → Closed S ps
  build-closed b c ps e = good-closed S root ps (passed-says b c ps (build S lim root b) (built b) e).0

-- ---- what document 01 counts
-- the nodes of the full graph: every reachable node, once
pub record Whole {N : Type 0} (S : System N) (root : N) (ps : List N) : Type 0 where
  pub once : Distinct ps
  pub exactly : (q : N) → In q ps ↔ Reachable S root q

-- the full graph has n nodes; no budget and no limit in sight
abbrev pub NodeCount : {N : Type 0} → System N → N → ℕ → Type 0
NodeCount {N} S root n = (ps : List N) × Whole S root ps × (length ps ≡ n)

module _ {N : Type 0} (S : System N) (lim : ℕ) (root : N) where
  pub build-whole : (b c : ℕ) (ps : List N) → build S lim root b ≡ ok (passed ps c) → Whole S root ps
  build-whole b c ps e = let g = (passed-says S lim root b c ps (build S lim root b) (built S lim root b) e).0 in record { once = g.some.once; exactly = λ q. (g.some.reached q, good-reach S root ps g q) }

  pub build-first : (b c : ℕ) (ps : List N) → build S lim root b ≡ ok (passed ps c) → Starts (root ∷ []) ps
  build-first b c ps e = (passed-says S lim root b c ps (build S lim root b) (built S lim root b) e).0.starts

module _ {N : Type 0} (S : System N) (root : N) where
  pub some-count : (n : ℕ) → NodeCount S root n → (ps : List N) → Some S root ps → length ps ≤ n
  some-count n (qs, w, e) ps s = omega (arith, pigeon ps qs s.once (λ x i. (w.exactly x).1 (s.reached x i)))

  pub whole-some : (ps : List N) → Whole S root ps → Some S root ps
  whole-some ps w = record { once = w.once; reached = λ x i. (w.exactly x).0 i }

  -- there is one such number
  pub count-unique : (m n : ℕ) → NodeCount S root m → NodeCount S root n → m ≡ n
  count-unique m n a b = omega (arith, a.2, b.2, some-count n b a.0 (whole-some a.0 a.1), some-count m a b.0 (whole-some b.0 b.1))

module _ {N : Type 0} (S : System N) (lim : ℕ) (root : N) where
  module _ (n : ℕ) (count : NodeCount S root n) where
    -- "one [check] a pair in building"
    pub build-passed : (b c : ℕ) (ps : List N) → build S lim root b ≡ ok (passed ps c) → (length ps ≡ n) × (b ≡ n + c)
    build-passed b c ps e =
        let l = count-unique S root (length ps) n (ps, build-whole S lim root b c ps e, refl) count in
        (l, omega (arith, (passed-says S lim root b c ps (build S lim root b) (built S lim root b) e).1))

    pub build-cut : (b : ℕ) → build S lim root b ≡ ok cut_short → b < n
    build-cut b e = go (build S lim root b) (built S lim root b) e
      where
        go : (r : Res (Checked (List N))) → Built S lim root b r → r ≡ ok cut_short → b < n
        go r (full {ps = ps} {c = c} g z f) y = absurd (cut-passed (sym (ok-inj y)))
        go r (short ps s l m) y = omega (arith, some-count S root n count ps s)
        go r (over z ps s l) y = absurd (refused-ok y)

  -- "a pair beyond 4,096 would be entered": 12, and in no other case
  pub build-refused : (b k : ℕ) → build S lim root b ≡ refused k → (k ≡ 12) × ((ps : List N) × Some S root ps × (lim < length ps))
  build-refused b k e = go (build S lim root b) (built S lim root b) e
    where
      go : (r : Res (Checked (List N))) → Built S lim root b r → r ≡ refused k → (k ≡ 12) × ((ps : List N) × Some S root ps × (lim < length ps))
      go r (full {ps = ps} {c = c} g z f) y = absurd (refused-ok (sym y))
      go r (short ps s l m) y = absurd (refused-ok (sym y))
      go r (over z ps s l) y = (sym (refused-inj y) ∙ z, (ps, s, l))

  -- no list that is built is longer
  pub build-few : (b c : ℕ) (ps : List N) → build S lim root b ≡ ok (passed ps c) → length ps ≤ lim
  build-few b c ps e = (passed-says S lim root b c ps (build S lim root b) (built S lim root b) e).2

  -- with more nodes than the limit, a budget of the limit meets it
  pub build-over : (n b : ℕ) → NodeCount S root n → lim < n → lim ≤ b → build S lim root b ≡ refused 12
  build-over n b count large h = go (build S lim root b) refl (built S lim root b)
    where
      go : (r : Res (Checked (List N))) → build S lim root b ≡ r → Built S lim root b r → r ≡ refused 12
      go r e (full {ps = ps} {c = c} g z f) = absurd (omega (arith, (build-passed n count b c ps e).0))
      go r e (short ps s l m) = absurd (omega arith)
      go r e (over z ps s l) = ap refused z

  -- ---- more checks
  abbrev Passes : ℕ → List N → ℕ → Type 0
  Passes b ps c = build S lim root b ≡ ok (passed ps c)

  build-longer : (b e c : ℕ) (ps : List N) → Passes b ps c → Passes (b + e) ps (c + e)
  build-longer b e c ps h = go (build S lim root b) h (build-later S lim root b (b + e) e refl)
    where
      go : (r : Res (Checked (List N))) → r ≡ ok (passed ps c) → Later e r (build S lim root (b + e)) → build S lim root (b + e) ≡ ok (passed ps (c + e))
      go (ok (passed qs d)) z l = let (x, y) = passed-inj (ok-inj z) in rw (← x, ← y) l
      go (ok cut_short) z l = absurd (cut-passed (ok-inj z))
      go (refused n) z l = absurd (refused-ok z)

  -- two budgets that build in full give the same list
  pub build-same : (b c b' c' : ℕ) (ps ps' : List N) → build S lim root b ≡ ok (passed ps c) → build S lim root b' ≡ ok (passed ps' c') → ps ≡ ps'
  build-same b c b' c' ps ps' h h' =
      let x : build S lim root (b + b') ≡ ok (passed ps (c + b')) = build-longer b b' c ps h in
      let y : build S lim root (b + b') ≡ ok (passed ps' (c' + b)) = rw (add_comm b b') (build-longer b' b c' ps' h') in
      (passed-inj (ok-inj (sym x ∙ y))).0

  -- where the graph is built in full by some budget, building is cut short exactly below its number of nodes
  pub build-short : (B C : ℕ) (ps : List N) → build S lim root B ≡ ok (passed ps C) → (b : ℕ) → b < length ps → build S lim root b ≡ ok cut_short
  build-short B C ps h b l = go (build S lim root b) refl (build-later S lim root b B (B - b) (omega (arith, (passed-says S lim root B C ps (build S lim root B) (built S lim root B) h).1)))
    where
      go : (r : Res (Checked (List N))) → build S lim root b ≡ r → Later (B - b) r (build S lim root B) → r ≡ ok cut_short
      go (ok (passed qs d)) e k = absurd (omega (arith, (passed-says S lim root b d qs (build S lim root b) (built S lim root b) e).1, ap (λ (z : List N). length z) (build-same b d B C qs ps e h)))
      go (ok cut_short) e k = refl
      go (refused n) e k = absurd (refused-ok (sym k ∙ h))

  pub build-enough : (B C : ℕ) (ps : List N) → build S lim root B ≡ ok (passed ps C) → (b c : ℕ) → b ≡ length ps + c → build S lim root b ≡ ok (passed ps c)
  build-enough B C ps h b c e = go (build S lim root b) refl
    where
      count : NodeCount S root (length ps)
      count = (ps, build-whole S lim root B C ps h, refl)

      go : (r : Res (Checked (List N))) → build S lim root b ≡ r → r ≡ ok (passed ps c)
      go (ok (passed qs d)) k =
          let same = build-same b d B C qs ps k h in
          let left : d ≡ c = omega (arith, (build-passed (length ps) count b d qs k).1) in
          rw (same, left) refl
      go (ok cut_short) k = absurd (omega (arith, build-cut (length ps) count b k))
      go (refused n) k = let (z, (qs, s, l)) = build-refused b n k in absurd (omega (arith, build-few B C ps h, some-count S root (length ps) count qs s))

  -- n checks build a graph of n nodes
  pub build-at : (n : ℕ) → NodeCount S root n → n ≤ lim → (ps : List N) × (length ps ≡ n) × (build S lim root n ≡ ok (passed ps 0))
  build-at n count h = go (build S lim root n) refl
    where
      go : (r : Res (Checked (List N))) → build S lim root n ≡ r → (ps : List N) × (length ps ≡ n) × (build S lim root n ≡ ok (passed ps 0))
      go (ok (passed ps c)) e = let (l, k) = build-passed n count n c ps e in let z : c ≡ 0 = omega arith in (ps, l, e ∙ ap (λ (m : ℕ). ok (passed ps m)) z)
      go (ok cut_short) e = absurd (omega (arith, build-cut n count n e))
      go (refused k) e = let (z, (ps, s, l)) = build-refused n k e in absurd (omega (arith, some-count S root n count ps s))

-- ---- Every node has its n, where the reachable nodes are among a finite list.
module _ {N : Type 0} (S : System N) (root : N) (grid : List N) (among : (x : N) → Reachable S root x → In x grid) where
  few : (ps : List N) → Some S root ps → length ps ≤ length grid
  few ps s = pigeon ps grid s.once (λ x i. among x (s.reached x i))

  -- the work-list without a limit
  explore : (f i : ℕ) (ps : List N) → Good S root ps i → length grid < i + f → (qs : List N) × Good S root qs (length qs)
  explore zero i ps g h = absurd (omega (arith, few ps g.some, g.up_to))
  explore (suc f) i ps g h = go (dec_lt i (length ps)) (λ qs k. explore f (suc i) qs k (omega arith))
    where
      go : Dec (i < length ps) → ((qs : List N) → Good S root qs (suc i) → (rs : List N) × Good S root rs (length rs)) → (rs : List N) × Good S root rs (length rs)
      go (yes l) ih = let (qs, d) = grow S (S.joins (get_or ps i S.other)) ps in ih qs (good-next S root ps qs i l g d)
      go (no l) ih = let e : i ≡ length ps = omega (arith, g.up_to) in (ps, rw e at g)

  pub node-count : (n : ℕ) × NodeCount S root n × ((m : ℕ) → NodeCount S root m → m ≡ n)
  node-count =
      let (ps, g) = explore (suc (length grid)) 0 (root ∷ []) (good_start S root) (omega arith) in
      let c : NodeCount S root (length ps) = (ps, record { once = g.some.once; exactly = λ q. (g.some.reached q, good-reach S root ps g q) }, refl) in
      (length ps, c, λ m d. count-unique S root m (length ps) d c)
