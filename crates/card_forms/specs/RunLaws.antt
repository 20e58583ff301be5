-- A term's runs, by their places in the pool's buffers.
use Rattle.std.specs.Prelude.{◌≡◌, ◌≢◌, Bool, true, false, List, [], ◌∷◌, map, eqb, length, get_or, replicate}
use Rattle.std.proofs.Math.Path.{refl}
use Rattle.std.proofs.Common.{sym, ap, ap₂, ◌∙◌, ne_eqb, eqb-true}
use Prim.Native.Nat.{ℕ, zero, suc, ◌+◌, ◌-◌, ◌/◌, ◌%◌, ◌≤◌, ◌<◌, zero-le}
use native.Mathlib.Omega.{arith}
use Rattle.spec.specs.Bytes.{sum, In, here, there, Two}
use Rattle.spec.specs.Pool.{RUNS, expanded_length}
use Rattle.laws.specs.Lists.{in_map, in_right}
use Rattle.laws.specs.AcceptedLists.{in-at, at_in}
use Rattle.laws.specs.BagCount.{written}
use Rattle.pools.specs.Pool.{Formed, operation, literal, marked, NodeValid}
use Rattle.terms.specs.Buffers.{part, unpack, first_in, head_in, node_in, count_in}
use Rattle.terms.specs.Chains.{Holds}
use Rattle.terms.specs.PartLaws.{part_length, part_at}
use Rattle.terms.specs.PoolLaws.{pool-length, pool-at, first-inside, first_fits}
use Rattle.card_forms.specs.Forms.{runs_at, Counted}

-- ---- runs at places
module _ (runs : List ℕ) (from to : ℕ) (h : from ≤ to) where
  -- a run by its place
  place_of : (r : ℕ) → In r (part runs from (to - from)) → (i : ℕ) × (from ≤ i) × (i < to) × (get_or runs i 0 ≡ r)
  place_of r j = let (i, k, e) = at_in 0 j in let l : i < to - from = omega (arith, part_length runs from (to - from)) in (from + i, omega arith, omega arith, sym (part_at runs from (to - from) i l) ∙ e)

  at_place : (i : ℕ) → from ≤ i → i < to → In (get_or runs i 0) (part runs from (to - from))
  at_place i k l =
      let e : from + (i - from) ≡ i = omega arith in
      let g = part_at runs from (to - from) (i - from) (omega arith) in
      rw (g, e) at (in-at (part runs from (to - from)) (i - from) 0 (omega (arith, part_length runs from (to - from))))

  pub counts : Counted runs from to → (r : ℕ) → In r (part runs from (to - from)) → 1 ≤ r / 16384
  counts c r j = let (i, k, l, e) = place_of r j in rw e at (c i k l)

-- ---- "exactly two children"
expanded-long : (l : List ℕ) → ((r : ℕ) → In r l → 1 ≤ r / 16384) → length l ≤ expanded_length (map unpack l)
unfolding sum
expanded-long [] h = zero-le
expanded-long (r ∷ l) h = omega (arith, h r here, expanded-long l (λ s i. h s (there i)))

pair_of : (l : List ℕ) → ((r : ℕ) → In r l → 1 ≤ r / 16384) → expanded_length (map unpack l) ≡ 2 → (1 ≤ length l) × (written (map unpack l) ≡ get_or l 0 0 % 16384 ∷ get_or l (length l - 1) 0 % 16384 ∷ [])
unfolding sum written
pair_of [] h e = absurd (omega arith)
pair_of (r ∷ []) h e = let n : r / 16384 ≡ 2 = omega arith in (omega arith, rw n refl)
pair_of (r ∷ s ∷ []) h e =
    let n : r / 16384 ≡ 1 = omega (arith, h r here, h s (there here)) in
    let k : s / 16384 ≡ 1 = omega (arith, h r here, h s (there here)) in
    (omega arith, rw (n, k) refl)
pair_of (r ∷ s ∷ u ∷ l) h e = absurd (omega (arith, expanded-long (r ∷ s ∷ u ∷ l) h))

module _ (runs : List ℕ) (from to : ℕ) where
  one-run : to - from ≡ 1 → expanded_length (runs_at runs from to) ≡ get_or runs from 0 / 16384
  unfolding sum part
  one-run e = rw e (omega arith)

  two_runs : to - from ≡ 2 → expanded_length (runs_at runs from to) ≡ get_or runs from 0 / 16384 + get_or runs (from + 1) 0 / 16384
  unfolding sum part
  two_runs e = let z : suc from ≡ from + 1 = omega arith in rw (e, ← z) (omega arith)

  module _ (h : from ≤ to) (c : Counted runs from to) where
    pub no-pair : to - from ≢ 1 → to - from ≢ 2 → expanded_length (runs_at runs from to) ≢ 2
    unfolding sum part
    no-pair x y e = let l = part runs from (to - from) in absurd (go (to - from) refl)
      where
        go : (k : ℕ) → k ≡ to - from → ⊥
        go zero q = let z : expanded_length (runs_at runs from to) ≡ 0 = rw (← q) refl in omega arith
        go (suc k) q = omega (arith, expanded-long (part runs from (to - from)) (counts runs from to h c), part_length runs from (to - from))

    pub pair-at : expanded_length (runs_at runs from to) ≡ 2 → (from < to) × (written (runs_at runs from to) ≡ get_or runs from 0 % 16384 ∷ get_or runs (to - 1) 0 % 16384 ∷ [])
    pair-at e =
        let l = part runs from (to - from) in
        let (k, f) = pair_of l (counts runs from to h c) e in
        let n : from < to = omega (arith, part_length runs from (to - from)) in
        let x : from + 0 ≡ from = omega arith in
        let y : from + (length l - 1) ≡ to - 1 = omega (arith, part_length runs from (to - from)) in
        (n, f ∙ ap₂ (λ (u v : ℕ). u % 16384 ∷ v % 16384 ∷ []) (rw x at (part_at runs from (to - from) 0 (omega arith))) (rw y at (part_at runs from (to - from) (length l - 1) (omega (arith, part_length runs from (to - from))))))

-- a run's child is written
pub written_in : (r : Two) (l : List Two) → In r l → 1 ≤ r.1 → In r.0 (written l)
unfolding written
written_in r [] x'' h = elim x'' [ ]
written_in r (s ∷ l) here h = let e : r.1 ≡ suc (r.1 - 1) = omega arith in rw e here
written_in r (s ∷ l) (there i) h = in_right (replicate s.1 s.0) (written_in r l i h)

module _ (terms runs : List ℕ) (H : Holds terms runs) (a : ℕ) (b : a < count_in terms) where
  pub valid : NodeValid a (node_in terms runs a)
  valid = rw (pool-at terms runs a b) at (H.valid.nodes a (rw (pool-length terms runs) b))

  -- every other head is an operation's
  pub is-operation : head_in terms a / 64 ≢ 1 → head_in terms a / 64 ≢ 2 → head_in terms a / 64 ≡ 0
  is-operation x y = go valid.formed
    where
      go : Formed (node_in terms runs a) → head_in terms a / 64 ≡ 0
      go (operation e z) = e
      go (literal e z) = absurd (x e)
      go (marked e z u) = absurd (y e)

  module _ {from to : ℕ} (f : from ≡ first_in terms a) (g : to ≡ first_in terms (a + 1)) where
    pub runs-rise : from ≤ to
    runs-rise = omega (arith, H.rises a b)

    pub runs-within : to ≤ length runs
    runs-within = rw g (first-inside terms runs H (a + 1) (omega (arith, b)))

    pub runs-few : to ≤ RUNS
    runs-few = rw g (first_fits terms runs H (a + 1) (omega (arith, b)))

    pub runs-are : runs_at runs from to ≡ (node_in terms runs a).runs
    runs-are = rw (f, g) refl

    pub run_at : (i : ℕ) → from ≤ i → i < to → In (unpack (get_or runs i 0)) (node_in terms runs a).runs
    run_at i h k = rw runs-are at (in_map unpack (at_place runs from to runs-rise i h k))

    pub runs-counted : Counted runs from to
    runs-counted i h k = valid.below.counted (unpack (get_or runs i 0)) (run_at i h k)

    pub pair-some : {b : Bool} → b ≡ eqb (expanded_length (runs_at runs from to)) 2 → b ≡ true → from < to
    pair-some e h = (pair-at runs from to runs-rise runs-counted (eqb-true (expanded_length (runs_at runs from to)) 2 (sym e ∙ h))).0

    pub child-lower : (i : ℕ) → from ≤ i → i < to → get_or runs i 0 % 16384 < a
    child-lower i h k = valid.below.earlier (unpack (get_or runs i 0)) (run_at i h k)

-- ---- the test for two
module _ (runs : List ℕ) (from to : ℕ) where
  pub single-test : {n : ℕ} → to - from ≡ 1 → n ≡ get_or runs from 0 / 16384 → eqb n 2 ≡ eqb (expanded_length (runs_at runs from to)) 2
  single-test e q = ap (λ (z : ℕ). eqb z 2) (q ∙ sym (one-run runs from to e))

  pub double-test : {n k : ℕ} → to - from ≡ 2 → n ≡ get_or runs from 0 / 16384 → k ≡ get_or runs (from + 1) 0 / 16384 → eqb (n + k) 2 ≡ eqb (expanded_length (runs_at runs from to)) 2
  double-test e q u = ap (λ (z : ℕ). eqb z 2) (ap₂ (λ (x y : ℕ). x + y) q u ∙ sym (two_runs runs from to e))

  pub other_test : from ≤ to → Counted runs from to → to - from ≢ 1 → to - from ≢ 2 → false ≡ eqb (expanded_length (runs_at runs from to)) 2
  other_test h c x y = sym (ne_eqb (expanded_length (runs_at runs from to)) 2 (no-pair runs from to h c x y))
