-- A node over the terms of places: its quality, and what it belongs to when it is read.
use Rattle.std.specs.Prelude.{◌≡◌, ◌≢◌, Bool, true, false, ℕ, zero, suc, ◌+◌, ◌*◌, ◌-◌, ◌≤◌, ◌<◌, ltb, length, get_or, replicate}
use Rattle.std.proofs.Math.Path.{refl, sym, ap, ap₂}
use Rattle.std.proofs.Common.{◌∙◌, not-suc-le-zero, arith, ltb-true, ltb-false, length-append}
use mathlib.Core.List.{List, [], ◌∷◌, ◌++◌, map}
use Rattle.std.proofs.lemmas.List.{length-replicate}
use Rattle.spec.specs.Bytes.{sum, Two}
use Rattle.spec.specs.Image.{Tables, Member, Lit, kind_of, is_commutative, members_of, children_of}
use Rattle.spec.specs.Monomial.{classes}
use Rattle.spec.specs.Transport.{plan_size, plan_mass}
use Rattle.spec.specs.Pool.{join_runs, variants_node}
use Rattle.spec.specs.Round.{cells_over, quality_over}
use Rattle.spec.specs.Meaning.{In, Term, lit, node, variants, Runs, done, run, term_quality, runs_quality, expand, reading, reading_runs, branch, read_first, read_second, runs_of, tree_of, Branched, at_node, AllBranched, no_branch, and_branch, occurs, count_in, Side, Belongs, ordered, unordered, AllBelong, no_more, and_then}
use Rattle.laws.specs.Bag.{Perm, nil, skip, swap, both, perm-map, map-append, map-replicate, sum-append, sum-perm, sum-replicate}
use Rattle.laws.specs.BagCount.{written, spread}
use Rattle.pools.specs.Pool.{numbered, tree-marked}
use Rattle.pools.specs.PoolTrees.{expand-joined}

-- ---- qualities
abbrev pub size : Term → ℕ
size a = (term_quality a).0

abbrev pub mass : Term → ℕ
mass a = (term_quality a).1

-- a weight over a list with counts written out
pub sum-spread : {A : Type 0} (w : A → ℕ) (a : A) (n : ℕ) (l : List A) → sum (map w (replicate n a ++ l)) ≡ n * w a + sum (map w l)
sum-spread w a n l = rw (map-append w (replicate n a) l, map-replicate w n a) (omega (arith, sum-append (replicate n (w a)) (map w l), sum-replicate n (w a)))

pub runs-size : (r : Runs) → (runs_quality r).0 ≡ sum (map size (expand r))
unfolding runs_quality expand sum
runs-size done = refl
runs-size (run a n r) = omega (arith, sum-spread size a n (expand r), runs-size r)

pub runs-mass : (r : Runs) → (runs_quality r).1 ≡ sum (map mass (expand r))
unfolding runs_quality expand sum
runs-mass done = refl
runs-mass (run a n r) = omega (arith, sum-spread mass a n (expand r), runs-mass r)

-- ---- readings
pub expand-reading : (k : ℕ) (r : Runs) → expand (reading_runs k r) ≡ map (reading k) (expand r)
unfolding expand reading_runs
expand-reading k done = refl
expand-reading k (run a n r) = rw (map-append (reading k) (replicate n a) (expand r), map-replicate (reading k) n a, expand-reading k r)

-- a branch is what stands at its place where the runs are written out
pub branch-is : (k i : ℕ) (r : Runs) → i < length (expand r) → branch k i r ≡ reading k (get_or (expand r) i (lit 0 0))
unfolding branch expand
branch-is k i done h = absurd (not-suc-le-zero h)
branch-is k i (run a n r) h = go (ltb i n) refl (branch-is k (i - n) r)
  where
    front : (n i : ℕ) → i < n → get_or (replicate n a ++ expand r) i (lit 0 0) ≡ a
    front zero i h = absurd (not-suc-le-zero h)
    front (suc n) zero h = refl
    front (suc n) (suc i) h = front n i (omega arith)

    back : (n i : ℕ) → n ≤ i → get_or (replicate n a ++ expand r) i (lit 0 0) ≡ get_or (expand r) (i - n) (lit 0 0)
    back zero i h = let z : i - 0 ≡ i = omega arith in rw z refl
    back (suc n) zero h = absurd (not-suc-le-zero h)
    back (suc n) (suc i) h = let z : suc i - suc n ≡ i - n = omega arith in rw z (back n i (omega arith))

    go : (x : Bool) → ltb i n ≡ x → (i - n < length (expand r) → branch k (i - n) r ≡ reading k (get_or (expand r) (i - n) (lit 0 0)))
        → elim x [ true ↦ reading k a | false ↦ branch k (i - n) r ] ≡ reading k (get_or (replicate n a ++ expand r) i (lit 0 0))
    go true e ih = ap (reading k) (sym (front n i (ltb-true i n e)))
    go false e ih = let l = ltb-false i n e in ih (omega (arith, length-append (replicate n a) (expand r), length-replicate n a)) ∙ ap (reading k) (sym (back n i l))

-- "read by the first branch": a marked place is read by the branch at place k
pub read-marked : (k : ℕ) (r : Runs) → k < length (expand r) → reading k (variants r) ≡ reading k (get_or (expand r) k (lit 0 0))
unfolding reading
read-marked k r h = branch-is k k r h

-- the branches of a marked place of a pool
pub two-branches : (ts : List Term) (a b : ℕ) → expand (runs_of ts (join_runs ((a, 1) ∷ (b, 1) ∷ []))) ≡ numbered ts a ∷ numbered ts b ∷ []
unfolding written
two-branches ts a b = expand-joined ts ((a, 1) ∷ (b, 1) ∷ [])

-- it is read by its branch at place k
pub read-place : (ts : List Term) (a b k : ℕ) → k < 2 → reading k (tree_of ts (variants_node a b)) ≡ reading k (get_or (numbered ts a ∷ numbered ts b ∷ []) k (lit 0 0))
read-place ts a b k h =
    let r = runs_of ts (join_runs ((a, 1) ∷ (b, 1) ∷ [])) in
    let e = two-branches ts a b in
    let m = tree-marked ts (variants_node a b) refl in
    ap (reading k) m ∙ read-marked k r (rw e h) ∙ ap (λ (l : List Term). reading k (get_or l k (lit 0 0))) e

-- its first branch is read by the first, its second by the second
pub read-variants : (ts : List Term) (a b : ℕ) → (read_first (tree_of ts (variants_node a b)) ≡ read_first (numbered ts a)) × (read_second (tree_of ts (variants_node a b)) ≡ read_second (numbered ts b))
read-variants ts a b = (read-place ts a b 0 (omega arith), read-place ts a b 1 (omega arith))

module _ (t : Tables) where
  -- the terms may be reordered, if the classes go along
  belong-perm : {ts us : List Term} → Perm ts us → {cs : List ℕ} → AllBelong t ts cs → (ds : List ℕ) × AllBelong t us ds × ((k : ℕ) → occurs k ds ≡ occurs k cs)
  unfolding occurs
  belong-perm nil no_more = ([], no_more, λ k. refl)
  belong-perm (skip x p) (and_then {c = c} b bs) = let (ds, d, e) = belong-perm p bs in (c ∷ ds, and_then b d, λ k. omega (arith, e k))
  belong-perm (swap x y l) (and_then {c = c} b (and_then {c = d} {cs = cs} a bs)) = (d ∷ c ∷ cs, and_then a (and_then b bs), λ k. omega arith)
  belong-perm (both p q) bs =
      let (cs, c, e) = belong-perm p bs in
      let (ds, d, f) = belong-perm q c in
      (ds, d, λ k. f k ∙ e k)

  pub belong-replicate : (n : ℕ) {a : Term} {c : ℕ} {ts : List Term} {cs : List ℕ} → Belongs t a c → AllBelong t ts cs → AllBelong t (replicate n a ++ ts) (replicate n c ++ cs)
  belong-replicate zero b bs = bs
  belong-replicate (suc n) b bs = and_then b (belong-replicate n b bs)

  -- The classes cs, in the order of the places, are what class c is under operation o: a member's child classes in their order, or in any order where that is free.
  pub data Covers (o c : ℕ) (cs : List ℕ) : Type 0 where
    in_order : (m : Member) → In m (members_of t c) → o ≡ m.op → is_commutative (kind_of t o) ≡ false → kind_of t o ≢ Lit → cs ≡ classes (children_of t m) → Covers o c cs
    any_order : (l : List Two) → Side t c o l → is_commutative (kind_of t o) ≡ true → ((k : ℕ) → occurs k cs ≡ count_in k l) → Covers o c cs

  pub covers-belongs : (o c : ℕ) (cs : List ℕ) (ts : List Term) (r : Runs) → Covers o c cs → Perm ts (expand r) → (is_commutative (kind_of t o) ≡ false → ts ≡ expand r)
      → AllBelong t ts cs → Belongs t (node o r) c
  covers-belongs o c cs ts r (in_order m i e n z h) p q b = ordered {r = r} m i e n z (rw (← q n, ← h) b)
  covers-belongs o c cs ts r (any_order l s n h) p q b = let (ds, d, e) = belong-perm p b in unordered {r = r} l ds s n d (λ k. e k ∙ h k)

-- ---- branches
branched-append : (n : ℕ) {s u : List Term} → AllBranched n s → AllBranched n u → AllBranched n (s ++ u)
branched-append n no_branch c = c
branched-append n (and_branch a b) c = and_branch a (branched-append n b c)

branched-replicate : (n k : ℕ) {a : Term} → Branched n a → AllBranched n (replicate k a)
branched-replicate n zero b = no_branch
branched-replicate n (suc k) b = and_branch b (branched-replicate n k b)

branched-perm : (n : ℕ) {s u : List Term} → Perm s u → AllBranched n s → AllBranched n u
branched-perm n nil b = b
branched-perm n (skip x p) (and_branch a b) = and_branch a (branched-perm n p b)
branched-perm n (swap x y l) (and_branch a (and_branch c b)) = and_branch c (and_branch a b)
branched-perm n (both p q) b = branched-perm n q (branched-perm n p b)

-- ---- A term for a node with quality q, read in so many ways: it has the quality, each of its marked places has so many branches, and read by branch k it belongs to the node's class k.
module _ (t : Tables) {N : Type 0} (ways : ℕ) (class : N → ℕ → ℕ) where
  pub record TermFor (p : N) (q : Two) (a : Term) : Type 0 where
    pub quality : term_quality a ≡ q
    pub branched : Branched ways a
    pub reads : (k : ℕ) → k < ways → Belongs t (reading k a) (class p k)

  pub data TermsFor : List N → List Two → List Term → Type 0 where
    no_term : TermsFor [] [] []
    and_term : {p : N} {q : Two} {a : Term} {ps : List N} {qs : List Two} {ts : List Term} → TermFor p q a → TermsFor ps qs ts → TermsFor (p ∷ ps) (q ∷ qs) (a ∷ ts)

  all_read : (k : ℕ) → k < ways → {ps : List N} {qs : List Two} {ts : List Term} (x : List ℕ) → TermsFor ps qs ts → AllBelong t (map (reading k) (spread ts x)) (spread (map (λ p. class p k) ps) x)
  unfolding spread
  all_read k h x no_term = no_more
  all_read k h [] (and_term g gs) = no_more
  all_read k h (n ∷ x) (and_term {a = a} {ts = ts} g gs) = rw (map-append (reading k) (replicate n a) (spread ts x), map-replicate (reading k) n a) (belong-replicate t n (g.reads k h) (all_read k h x gs))

  all-branched : {ps : List N} {qs : List Two} {ts : List Term} (x : List ℕ) → TermsFor ps qs ts → AllBranched ways (spread ts x)
  unfolding spread
  all-branched x no_term = no_branch
  all-branched [] (and_term g gs) = no_branch
  all-branched (n ∷ x) (and_term g gs) = branched-append ways (branched-replicate ways n g.branched) (all-branched x gs)

  sizes : {ps : List N} {qs : List Two} {ts : List Term} (x : List ℕ) → TermsFor ps qs ts → sum (map size (spread ts x)) ≡ plan_size x (cells_over qs)
  unfolding spread sum plan_size
  sizes [] no_term = refl
  sizes (n ∷ x) no_term = refl
  sizes [] (and_term g gs) = refl
  sizes (n ∷ x) (and_term {p = p} {q = q} {a = a} {ps = ps} {qs = qs} {ts = ts} g gs) = omega (arith, sum-spread size a n (spread ts x), sizes {ps = ps} {qs = qs} {ts = ts} x gs, ap (λ (z : Two). n * z.0) g.quality)

  masses : {ps : List N} {qs : List Two} {ts : List Term} (x : List ℕ) → TermsFor ps qs ts → sum (map mass (spread ts x)) ≡ plan_mass x (cells_over qs)
  unfolding spread sum plan_mass
  masses [] no_term = refl
  masses (n ∷ x) no_term = refl
  masses [] (and_term g gs) = refl
  masses (n ∷ x) (and_term {p = p} {q = q} {a = a} {ps = ps} {qs = qs} {ts = ts} g gs) = omega (arith, sum-spread mass a n (spread ts x), masses {ps = ps} {qs = qs} {ts = ts} x gs, ap (λ (z : Two). n * z.1) g.quality)

  -- An operation over places with counts x: "1 plus the sum of count × size, and the sum of count × mass", and it belongs, read in every way.
  pub good-node : (p : N) (o : ℕ) (ps : List N) (qs : List Two) (ts : List Term) (x : List ℕ) (r : Runs) → TermsFor ps qs ts
      → Perm (spread ts x) (expand r) → (is_commutative (kind_of t o) ≡ false → spread ts x ≡ expand r)
      → ((k : ℕ) → k < ways → Covers t o (class p k) (spread (map (λ c. class c k) ps) x)) → TermFor p (quality_over x qs) (node o r)
  unfolding term_quality reading
  good-node p o ps qs ts x r g perm same covers = record {
    quality = ap₂ (λ (a b : ℕ). (1 + a, b)) (runs-size r ∙ sym (sum-perm (perm-map size perm)) ∙ sizes x g) (runs-mass r ∙ sym (sum-perm (perm-map mass perm)) ∙ masses x g);
    branched = at_node (branched-perm ways perm (all-branched x g));
    reads = λ k h. covers-belongs t o (class p k) _ _ (reading_runs k r) (covers k h) (rw (expand-reading k r) (perm-map (reading k) perm)) (λ n. ap (map (reading k)) (same n) ∙ sym (expand-reading k r)) (all_read k h x g);
  }
