-- What a label and a place in the queue change of the net, read place by place; the ring as a list.
use Rattle.std.specs.Prelude.{◌≡◌, ◌≢◌, ◌⊎◌, List, [], ◌∷◌, ◌++◌, length, get_or, set}
use Rattle.std.proofs.Math.Path.{refl}
use Rattle.std.proofs.Common.{ap, ◌∙◌, inl, inr, add-zero, length-set, get_or-set_same, get_or-set_other}
use Prim.Native.Nat.{ℕ, zero, suc, ◌+◌, ◌%◌, ◌^◌, ◌≤◌, ◌<◌}
use native.Mathlib.Omega.{arith}
use Rattle.wide.specs.declared.Wide.{Wide}
use Rattle.search_laws.specs.Holds.{ring_from}
use Rattle.net.specs.Net.{label_of, pred_of, state_of, head_of, count_of, labelled, joined, NODES, HIGH, PRED, STATE, RING, HEAD, COUNT, NET}

-- ---- the ring
module _ (m : List ℕ) (k v : ℕ) where
  -- a number outside the ring
  pub ring-other : (k < RING) ⊎ (HEAD ≤ k) → (n h : ℕ) → ring_from (set m k v) n h ≡ ring_from m n h
  unfolding ring_from
  ring-other o zero h = refl
  ring-other o (suc n) h = rw (get_or-set_other m k (RING + h % NODES) v 0 (apart o), ring-other o n (h + 1)) refl
    where
      apart : (k < RING) ⊎ (HEAD ≤ k) → RING + h % NODES ≢ k
      apart (inl a) = omega arith
      apart (inr a) = omega arith

pub ring-length : (m : List ℕ) (n h : ℕ) → length (ring_from m n h) ≡ n
unfolding ring_from
ring-length m zero h = refl
ring-length m (suc n) h = ap suc (ring-length m n (h + 1))

-- one place more
pub ring-more : (m : List ℕ) (v : ℕ) → length m ≡ NET → (n h : ℕ) → n < NODES → ring_from (set m (RING + (h + n) % NODES) v) (suc n) h ≡ ring_from m n h ++ (v ∷ [])
unfolding ring_from
ring-more m v len zero h b = rw (add-zero h, get_or-set_same m (RING + h % NODES) v 0 (omega arith)) refl
ring-more m v len (suc n) h b =
    let e : h + suc n ≡ h + 1 + n = omega arith in
    let far : RING + h % NODES ≢ RING + (h + suc n) % NODES = apart in
    let ih = ring-more m v len n (h + 1) (omega arith) in
    let ih' : ring_from (set m (RING + (h + suc n) % NODES) v) (suc n) (h + 1) ≡ ring_from m n (h + 1) ++ (v ∷ []) = ap (λ (k : ℕ). ring_from (set m (RING + k % NODES) v) (suc n) (h + 1)) e ∙ ih in
    rw (get_or-set_other m (RING + (h + suc n) % NODES) (RING + h % NODES) v 0 far) (ap (λ (l : List ℕ). get_or m (RING + h % NODES) 0 ∷ l) ih')
  where
    apart : RING + h % NODES ≢ RING + (h + suc n) % NODES
    apart = omega arith

-- ---- a label
module _ (m : List ℕ) (len : length m ≡ NET) (u v : ℕ) (hv : v < NODES) (d : Wide) where
  pub labelled-size : length (labelled m u v d) ≡ NET
  labelled-size = simp length-set len

  m1 : List ℕ
  m1 = set m v d.lo

  m2 : List ℕ
  m2 = set (set m v d.lo) (HIGH + v) d.hi

  far : (k : ℕ) → k ≢ v → k ≢ HIGH + v → k ≢ PRED + v → get_or (labelled m u v d) k 0 ≡ get_or m k 0
  far k a b e =
      get_or-set_other (set (set m v d.lo) (HIGH + v) d.hi) (PRED + v) k u 0 e
      ∙ get_or-set_other (set m v d.lo) (HIGH + v) k d.hi 0 b ∙ get_or-set_other m v k d.lo 0 a

  pub labelled-at : label_of (labelled m u v d) v ≡ d
  labelled-at = λ i. record { lo = low i; hi = high i }
    where
      low : get_or (labelled m u v d) v 0 ≡ d.lo
      low =
          get_or-set_other (set (set m v d.lo) (HIGH + v) d.hi) (PRED + v) v u 0 (omega arith)
          ∙ get_or-set_other (set m v d.lo) (HIGH + v) v d.hi 0 (omega arith) ∙ get_or-set_same m v d.lo 0 (omega arith)

      high : get_or (labelled m u v d) (HIGH + v) 0 ≡ d.hi
      high =
          get_or-set_other (set (set m v d.lo) (HIGH + v) d.hi) (PRED + v) (HIGH + v) u 0 (omega arith)
          ∙ get_or-set_same (set m v d.lo) (HIGH + v) d.hi 0 (rw (length-set m v d.lo) (omega arith))

  pub labelled-off : (z : ℕ) → z < NODES → z ≢ v → label_of (labelled m u v d) z ≡ label_of m z
  labelled-off z hz ne = λ i. record { lo = far z ne (omega arith) (omega arith) i; hi = far (HIGH + z) (omega arith) (omega arith) (omega arith) i }

  pub labelled-pred : pred_of (labelled m u v d) v ≡ u
  labelled-pred = get_or-set_same (set (set m v d.lo) (HIGH + v) d.hi) (PRED + v) u 0 (simp length-set (omega arith))

  pub labelled-pred-off : (z : ℕ) → z < NODES → z ≢ v → pred_of (labelled m u v d) z ≡ pred_of m z
  labelled-pred-off z hz ne = far (PRED + z) (omega arith) (omega arith) (omega arith)

  pub labelled-state : (z : ℕ) → state_of (labelled m u v d) z ≡ state_of m z
  labelled-state z = far (STATE + z) (omega arith) (omega arith) (omega arith)

  pub labelled-head : head_of (labelled m u v d) ≡ head_of m
  labelled-head = far HEAD (omega arith) (omega arith) (omega arith)

  pub labelled-count : count_of (labelled m u v d) ≡ count_of m
  labelled-count = far COUNT (omega arith) (omega arith) (omega arith)

  pub labelled-ring : (n h : ℕ) → ring_from (labelled m u v d) n h ≡ ring_from m n h
  labelled-ring n h =
      ring-other (set (set m v d.lo) (HIGH + v) d.hi) (PRED + v) u (inl (omega arith)) n h
      ∙ ring-other (set m v d.lo) (HIGH + v) d.hi (inl (omega arith)) n h ∙ ring-other m v d.lo (inl (omega arith)) n h

-- ---- a place in the queue
module _ (m : List ℕ) (len : length m ≡ NET) (v : ℕ) (hv : v < NODES) (hh : head_of m < NODES) (hc : count_of m < NODES) where
  pub joined_is : joined m v ≡ set (set (set m (RING + (head_of m + count_of m) % NODES) v) (STATE + v) 2) COUNT (suc (count_of m))
  unfolding joined
  joined_is =
      let a : (head_of m + count_of m) % 2 ^ 64 ≡ head_of m + count_of m = omega arith in
      let b : (count_of m + 1) % 2 ^ 64 ≡ suc (count_of m) = omega arith in
      rw (a, b) refl

  place : ℕ
  place = RING + (head_of m + count_of m) % NODES

  pub joined-size : length (joined m v) ≡ NET
  joined-size = rw joined_is (simp length-set len)

  far2 : (k : ℕ) → (k < RING) ⊎ (HEAD ≤ k) → k ≢ STATE + v → k ≢ COUNT → get_or (joined m v) k 0 ≡ get_or m k 0
  far2 k o a b = rw joined_is
      (get_or-set_other (set (set m (RING + (head_of m + count_of m) % NODES) v) (STATE + v) 2) COUNT k (suc (count_of m)) 0 b
      ∙ get_or-set_other (set m (RING + (head_of m + count_of m) % NODES) v) (STATE + v) k 2 0 a
      ∙ get_or-set_other m (RING + (head_of m + count_of m) % NODES) k v 0 (apart o))
    where
      apart : (k < RING) ⊎ (HEAD ≤ k) → k ≢ RING + (head_of m + count_of m) % NODES
      apart (inl x) = omega arith
      apart (inr x) = omega arith

  pub joined-label : (z : ℕ) → z < NODES → label_of (joined m v) z ≡ label_of m z
  joined-label z hz = λ i. record { lo = far2 z (inl (omega arith)) (omega arith) (omega arith) i; hi = far2 (HIGH + z) (inl (omega arith)) (omega arith) (omega arith) i }

  pub joined-pred : (z : ℕ) → z < NODES → pred_of (joined m v) z ≡ pred_of m z
  joined-pred z hz = far2 (PRED + z) (inl (omega arith)) (omega arith) (omega arith)

  pub joined-state : state_of (joined m v) v ≡ 2
  joined-state = rw joined_is
      (get_or-set_other (set (set m (RING + (head_of m + count_of m) % NODES) v) (STATE + v) 2) COUNT (STATE + v) (suc (count_of m)) 0 (omega arith)
      ∙ get_or-set_same (set m (RING + (head_of m + count_of m) % NODES) v) (STATE + v) 2 0 (simp length-set (omega arith)))

  pub joined-state-off : (z : ℕ) → z < NODES → z ≢ v → state_of (joined m v) z ≡ state_of m z
  joined-state-off z hz ne = far2 (STATE + z) (inl (omega arith)) (omega arith) (omega arith)

  pub joined-head : head_of (joined m v) ≡ head_of m
  joined-head = far2 HEAD (inr (omega arith)) (omega arith) (omega arith)

  pub joined-count : count_of (joined m v) ≡ suc (count_of m)
  joined-count = rw joined_is (get_or-set_same (set (set m (RING + (head_of m + count_of m) % NODES) v) (STATE + v) 2) COUNT (suc (count_of m)) 0 (simp length-set (omega arith)))

  pub joined-ring : ring_from (joined m v) (count_of (joined m v)) (head_of (joined m v)) ≡ ring_from m (count_of m) (head_of m) ++ (v ∷ [])
  joined-ring = rw (joined-count, joined-head, joined_is)
      (ring-other (set (set m (RING + (head_of m + count_of m) % NODES) v) (STATE + v) 2) COUNT (suc (count_of m)) (inr (omega arith)) (suc (count_of m)) (head_of m)
      ∙ ring-other (set m (RING + (head_of m + count_of m) % NODES) v) (STATE + v) 2 (inl (omega arith)) (suc (count_of m)) (head_of m)
      ∙ ring-more m v len (count_of m) (head_of m) hc)
