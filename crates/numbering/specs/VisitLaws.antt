-- The walk over the buffers: a term's children from the left, then the term.
use Rattle.std.specs.Prelude.{◌≡◌, refl, false, ℕ, zero, suc, ◌+◌, ◌*◌, ◌-◌, ◌%◌, ◌≤◌, ◌<◌, eqb, length, get_or}
use Rattle.std.proofs.Math.Path.{sym, ap}
use Rattle.std.proofs.Common.{◌∙◌, not-suc-le-zero, length-append}
use mathlib.Core.List.{List, [], ◌∷◌, ◌++◌, map}
use native.Mathlib.Omega.{arith}
use Rattle.spec.specs.Bytes.{any}
use Rattle.spec.specs.Pool.{Node, node_at}
use Rattle.spec.specs.Listing.{visit_runs, visit_term, subterms}
use Rattle.spec.specs.Meaning.{In, here, there}
use Rattle.laws.specs.Lists.{in_map}
use Rattle.terms.specs.Buffers.{part, unpack, first_in, length_in, part_in, pool_of, count_in}
use Rattle.terms.specs.Chains.{Holds}
use Rattle.terms.specs.PartLaws.{part-cons}
use Rattle.terms.specs.PoolLaws.{pool-length, pool-at, first-inside}
use Rattle.numbering.specs.Numbering.{order_from, order_in, settle, settle_all, cleared, numbers_of, Numbered, Walk, Listed}
use Rattle.numbering.specs.WalkLaws.{not_seen, visit-seen, visit-fresh, visit-fuel, children-new}
use Rattle.numbering.specs.NumberLaws.{order-length, order_is, seen, fresh, walk-length, one_more, walk_none, walk-then, walk_more, numbered-none}

part-in : (n : ℕ) (l : List ℕ) (a i : ℕ) → i < n → In (get_or l (a + i) 0) (part l a n)
unfolding part
part-in zero l a i h = absurd (not-suc-le-zero h)
part-in (suc n) l a zero h = let e : a + 0 ≡ a = omega arith in rw e here
part-in (suc n) l a (suc i) h = let e : a + suc i ≡ suc a + i = omega arith in rw e (there (part-in n l (suc a) i (omega arith)))

module _ (terms runs : List ℕ) (H : Holds terms runs) (t : ℕ) (b : t < count_in terms) where
  -- a run of t, by its place
  pub run-in : (i : ℕ) → first_in terms t ≤ i → i < first_in terms (t + 1) → In (unpack (get_or runs i 0)) (node_at (pool_of terms runs) t).runs
  run-in i h k =
      let e : first_in terms t + (i - first_in terms t) ≡ i = omega arith in
      let j : In (get_or runs i 0) (part_in terms runs t) = rw e at (part-in (length_in terms t) runs (first_in terms t) (i - first_in terms t) (omega arith)) in
      rw (pool-at terms runs t b) (in_map unpack j)

  pub child-below : (i : ℕ) → first_in terms t ≤ i → i < first_in terms (t + 1) → get_or runs i 0 % 16384 < t
  child-below i h k = (H.valid.nodes t (rw (pool-length terms runs) b)).below.earlier (unpack (get_or runs i 0)) (run-in i h k)

  pub within : first_in terms (t + 1) ≤ length runs
  within = first-inside terms runs H (t + 1) (omega (arith, b))

-- the loop over t's runs, before place i
pub record Visiting (terms runs v : List ℕ) (n0 t end : ℕ) (w : List ℕ) (i n : ℕ) : Type 0 where
  pub begun : first_in terms t ≤ i
  pub until : i ≤ end
  pub same : length w ≡ length v
  pub walk : Walk (count_in terms) v (order_in v n0) w (order_in w n)
  pub rest : visit_runs (visit_term t (pool_of terms runs)) (map unpack (part runs i (end - i))) (order_in w n) ≡ visit_runs (visit_term t (pool_of terms runs)) (node_at (pool_of terms runs) t).runs (order_in v n0)

module _ (terms runs v : List ℕ) (n0 t end : ℕ) (H : Holds terms runs) (b : t < count_in terms) where
  pub visiting-start : (i : ℕ) → i ≡ first_in terms t → end ≡ first_in terms (t + 1) → Numbered (count_in terms) v (order_in v n0) → Visiting terms runs v n0 t end v i n0
  visiting-start i e f N = record {
    begun = omega arith;
    until = omega (arith, H.rises t b);
    same = refl;
    walk = walk_none N;
    rest = rw (e, f) (sym (ap (λ (x : Node). visit_runs (visit_term t (pool_of terms runs)) x.runs (order_in v n0)) (pool-at terms runs t b)));
  }

  pub visiting-turn : (w : List ℕ) (i n : ℕ) (w' : List ℕ) (a r : ℕ) → end ≡ first_in terms (t + 1) → Visiting terms runs v n0 t end w i n → i < end → a ≡ get_or runs i 0 % 16384
      → r ≡ length (visit_term (suc a) (pool_of terms runs) a (order_in w n))
      → Walk (count_in terms) w (order_in w n) w' (visit_term (suc a) (pool_of terms runs) a (order_in w n)) → Visiting terms runs v n0 t end w' (i + 1) r
  unfolding visit_runs
  visiting-turn w i n w' a r f I h e q A =
      let p = pool_of terms runs in
      let L = visit_term (suc a) p a (order_in w n) in
      let below : a < t = rw e (child-below terms runs H t b i I.begun (omega arith)) in
      let same : order_in w' r ≡ L = ap (λ (z : ℕ). order_in w' z) q ∙ order_is (count_in terms) w' L A.numbered in
      let fuel : visit_term t p (get_or runs i 0 % 16384) (order_in w n) ≡ L = rw e (visit-fuel p H.valid t (suc (get_or runs i 0 % 16384)) (get_or runs i 0 % 16384) (order_in w n) (omega arith) (omega arith) (omega (arith, pool-length terms runs))) in
      record {
        begun = omega (arith, I.begun);
        until = omega arith;
        same = omega (arith, I.same, walk-length A);
        walk = rw same (walk-then I.walk A);
        rest =
            ap (λ (z : List ℕ). visit_runs (visit_term t p) (map unpack (part runs (i + 1) (end - (i + 1)))) z) (same ∙ sym fuel)
            ∙ sym (ap (λ (z : List ℕ). visit_runs (visit_term t p) (map unpack z) (order_in w n)) (part-cons runs i end h)) ∙ I.rest;
      }

  module _ (w : List ℕ) (i n : ℕ) (I : Visiting terms runs v n0 t end w i n) (h : end ≤ i) (z : get_or v (2 * t) 0 ≡ 0) (N : Numbered (count_in terms) v (order_in v n0)) where
    all-visited : order_in w n ≡ visit_runs (visit_term t (pool_of terms runs)) (node_at (pool_of terms runs) t).runs (order_in v n0)
    unfolding part visit_runs
    all-visited = let e : end - i ≡ 0 = omega arith in rw e at I.rest

    unseen : any (eqb t) (order_in v n0) ≡ false
    unseen = fresh (count_in terms) v (order_in v n0) N t z

    not_yet : In t (order_in w n) → ⊥
    not_yet j = children-new (pool_of terms runs) H.valid t (order_in v n0) (rw (pool-length terms runs) b) (not_seen t (order_in v n0) unseen) (rw all-visited at j)

    pub visit-room : n < count_in terms
    visit-room = omega (arith, one_more (count_in terms) w (order_in w n) I.walk.numbered t b not_yet, order-length w n)

    finished : order_in w n ++ (t ∷ []) ≡ visit_term (suc t) (pool_of terms runs) t (order_in v n0)
    finished = rw all-visited (sym (visit-fresh (pool_of terms runs) t t (order_in v n0) unseen))

    pub visit-length : n + 1 ≡ length (visit_term (suc t) (pool_of terms runs) t (order_in v n0))
    visit-length = rw (← finished) (omega (arith, length-append (order_in w n) (t ∷ []), order-length w n))

    pub visit-walk : (w' : List ℕ) → w' ≡ settle w n t → Walk (count_in terms) v (order_in v n0) w' (visit_term (suc t) (pool_of terms runs) t (order_in v n0))
    visit-walk w' e =
        let A = walk_more t I.walk b not_yet in
        let f : settle w (length (order_in w n)) t ≡ w' = ap (λ (x : ℕ). settle w x t) (order-length w n) ∙ sym e in
        rw (← finished, ← f) A

  -- a term that has its number
  pub seen-already : (get_or v (2 * t) 0 ≡ 0 → ⊥) → Numbered (count_in terms) v (order_in v n0)
      → (n0 ≡ length (visit_term (suc t) (pool_of terms runs) t (order_in v n0))) × Walk (count_in terms) v (order_in v n0) v (visit_term (suc t) (pool_of terms runs) t (order_in v n0))
  seen-already z N =
      let e : visit_term (suc t) (pool_of terms runs) t (order_in v n0) ≡ order_in v n0 = visit-seen (pool_of terms runs) t t (order_in v n0) (seen (count_in terms) v (order_in v n0) N t b z) in
      (rw e (sym (order-length v n0)), rw e (walk_none N))

-- from the root, in a cleared buffer
module _ (terms runs w : List ℕ) (m : ℕ) (w₁ : List ℕ) (H : Holds terms runs) (e : m ≡ count_in terms) (f : w₁ ≡ cleared (2 * m) w) where
  pub root-start : 2 * count_in terms ≤ length w → Numbered (count_in terms) w₁ (order_in w₁ 0)
  unfolding order_from
  root-start h = rw (f, e) (numbered-none (count_in terms) w H.few h)

  pub root-finish : (root : ℕ) (w' : List ℕ) (r : ℕ) → r ≡ length (visit_term (suc root) (pool_of terms runs) root (order_in w₁ 0))
      → Walk (count_in terms) w₁ (order_in w₁ 0) w' (visit_term (suc root) (pool_of terms runs) root (order_in w₁ 0)) → (w' ≡ numbers_of terms runs root w) × Listed terms runs w' root r
  unfolding order_from numbers_of
  root-finish root w' r q A = (A.wrote ∙ ap (λ (z : List ℕ). settle_all 0 z w₁) (sym A.grown) ∙ ap (λ (z : List ℕ). settle_all 0 (subterms (pool_of terms runs) root) z) (f ∙ ap (λ (z : ℕ). cleared (2 * z) w) e), record { count = q; numbered = A.numbered })
