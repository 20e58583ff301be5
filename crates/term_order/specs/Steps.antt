-- One step of `structural_cmp`: the heads decide, or the first children that differ do.
use Rattle.std.specs.Prelude.{◌≡◌, refl, ◌≢◌, List, ℕ, suc, ◌+◌, ◌-◌, ◌/◌, ◌%◌, ◌<◌, length}
use Rattle.std.proofs.Common.{sym, ap, ap₂, ◌∙◌, arith, eq-eqb, ne_eqb, lt-ltb, le-ltb}
use Rattle.std.proofs.Math.Decide.{dec_lt}
use Rattle.std.proofs.lemmas.List.{length-map}
use Rattle.spec.specs.Pool.{Pool, Node, node_at, Order, less, equal, greater, then, compareℕ, runs_cmp, structural_cmp, expanded_length}
use Rattle.pools.specs.Pool.{NodeValid}
use Rattle.terms.specs.Buffers.{unpack, pool_of, node_in, part_in, head_in, value_in, count_in}
use Rattle.terms.specs.Chains.{Holds}
use Rattle.term_order.specs.Comparing.{times_of, diff_numbers, order_of}
use Rattle.std.specs.declared.cmp.Ordering.TheVariants as O
use Rattle.terms.specs.PoolLaws.{pool-at, pool-length}
use Rattle.term_order.specs.CompareLaws.{times-expanded, Decides, decides}
use Rattle.term_order.specs.declared.Step.{Step}
use Rattle.term_order.specs.declared.Step.TheVariants as S

-- what a step says of two different terms
abbrev pub Steps : List ℕ → List ℕ → ℕ → ℕ → Step → Type 0
Steps terms runs a b S.Before = (f : ℕ) → structural_cmp (suc f) (pool_of terms runs) a b ≡ less
Steps terms runs a b S.After = (f : ℕ) → structural_cmp (suc f) (pool_of terms runs) a b ≡ greater
Steps terms runs a b (S.RunsBelow c d) = (c < a) × (d < b) × (c ≢ d) × ((f : ℕ) → structural_cmp (suc f) (pool_of terms runs) a b ≡ structural_cmp f (pool_of terms runs) c d)

-- ---- the definition's step
abbrev decide : Order → Order → Order
decide less z = less
decide equal z = z
decide greater z = greater

abbrev heads_of : Node → Node → Order
heads_of x y = then (compareℕ x.head y.head) (then (compareℕ x.op y.op) (then (compareℕ x.value y.value) (compareℕ (expanded_length x.runs) (expanded_length y.runs))))

decided : (o z : Order) → (elim o [ less ↦ less | greater ↦ greater | equal ↦ z ]) ≡ decide o z
decided less z = refl
decided equal z = refl
decided greater z = refl

structural-step : (f : ℕ) (p : Pool) (a b : ℕ) → (a ≡ b → ⊥)
    → structural_cmp (suc f) p a b ≡ decide (heads_of (node_at p a) (node_at p b)) (runs_cmp (length (node_at p a).runs + length (node_at p b).runs) (structural_cmp f p) (node_at p a).runs (node_at p b).runs)
unfolding structural_cmp
structural-step f p a b d = rw (structural_cmp, ne_eqb a b d) (decided (heads_of (node_at p a) (node_at p b)) _)

-- ---- numbers compared
compare-less : (a b : ℕ) → a < b → compareℕ a b ≡ less
compare-less a b h = rw (lt-ltb a b h) refl

compare-equal : (a b : ℕ) → a ≡ b → compareℕ a b ≡ equal
compare-equal a b e = rw (le-ltb a b (omega arith), eq-eqb a b e) refl

compare-greater : (a b : ℕ) → b < a → compareℕ a b ≡ greater
compare-greater a b h = let n : a ≡ b → ⊥ = λ e. omega arith in rw (le-ltb a b (omega arith), ne_eqb a b n) refl

-- a head's rank and its operation in one number
code-less : (x y : ℕ) (z : Order) → x < y → then (compareℕ (x / 64) (y / 64)) (then (compareℕ (x % 64) (y % 64)) z) ≡ less
code-less x y z h = go (dec_lt (x / 64) (y / 64))
  where
    go : Dec (x / 64 < y / 64) → then (compareℕ (x / 64) (y / 64)) (then (compareℕ (x % 64) (y % 64)) z) ≡ less
    go (yes l) = rw (compare-less (x / 64) (y / 64) l) refl
    go (no l) = let e : x / 64 ≡ y / 64 = omega arith in rw (compare-equal (x / 64) (y / 64) e, compare-less (x % 64) (y % 64) (omega arith)) refl

code-greater : (x y : ℕ) (z : Order) → y < x → then (compareℕ (x / 64) (y / 64)) (then (compareℕ (x % 64) (y % 64)) z) ≡ greater
code-greater x y z h = go (dec_lt (y / 64) (x / 64))
  where
    go : Dec (y / 64 < x / 64) → then (compareℕ (x / 64) (y / 64)) (then (compareℕ (x % 64) (y % 64)) z) ≡ greater
    go (yes l) = rw (compare-greater (x / 64) (y / 64) l) refl
    go (no l) = let e : x / 64 ≡ y / 64 = omega arith in rw (compare-equal (x / 64) (y / 64) e, compare-greater (x % 64) (y % 64) (omega arith)) refl

code-equal : (x y : ℕ) (z : Order) → x ≡ y → then (compareℕ (x / 64) (y / 64)) (then (compareℕ (x % 64) (y % 64)) z) ≡ z
code-equal x y z e = rw (compare-equal (x / 64) (y / 64) (ap (λ (k : ℕ). k / 64) e), compare-equal (x % 64) (y % 64) (ap (λ (k : ℕ). k % 64) e)) refl

-- ---- the ways out of a step
module _ (terms runs : List ℕ) (H : Holds terms runs) (a b : ℕ) (ha : a < count_in terms) (hb : b < count_in terms) (ne : a ≡ b → ⊥) where
  abbrev p : Pool
  p = pool_of terms runs

  abbrev x : Node
  x = node_in terms runs a

  abbrev y : Node
  y = node_in terms runs b

  step : (f : ℕ) → structural_cmp (suc f) p a b ≡ decide (heads_of x y) (runs_cmp (length x.runs + length y.runs) (structural_cmp f p) x.runs y.runs)
  step f = structural-step f p a b ne ∙ ap₂ (λ (u w : Node). decide (heads_of u w) (runs_cmp (length u.runs + length w.runs) (structural_cmp f p) u.runs w.runs)) (pool-at terms runs a ha) (pool-at terms runs b hb)

  pub step-head-less : head_in terms a < head_in terms b → Steps terms runs a b S.Before
  step-head-less h f = step f ∙ rw (code-less (head_in terms a) (head_in terms b) _ h) refl

  pub step-head-greater : head_in terms b < head_in terms a → Steps terms runs a b S.After
  step-head-greater h f = step f ∙ rw (code-greater (head_in terms a) (head_in terms b) _ h) refl

  pub step-value-less : head_in terms a ≡ head_in terms b → value_in terms a < value_in terms b → Steps terms runs a b S.Before
  step-value-less e h f = step f ∙ rw (code-equal (head_in terms a) (head_in terms b) _ e, compare-less (value_in terms a) (value_in terms b) h) refl

  pub step-value-greater : head_in terms a ≡ head_in terms b → value_in terms b < value_in terms a → Steps terms runs a b S.After
  step-value-greater e h f = step f ∙ rw (code-equal (head_in terms a) (head_in terms b) _ e, compare-greater (value_in terms a) (value_in terms b) h) refl

  heads-level : head_in terms a ≡ head_in terms b → value_in terms a ≡ value_in terms b → heads_of x y ≡ compareℕ (times_of (part_in terms runs a)) (times_of (part_in terms runs b))
  heads-level e v = code-equal (head_in terms a) (head_in terms b) _ e ∙ rw (compare-equal (value_in terms a) (value_in terms b) v, times-expanded (part_in terms runs a), times-expanded (part_in terms runs b)) refl

  pub step-length-less : head_in terms a ≡ head_in terms b → value_in terms a ≡ value_in terms b → times_of (part_in terms runs a) < times_of (part_in terms runs b) → Steps terms runs a b S.Before
  step-length-less e v h f = step f ∙ rw (heads-level e v, compare-less (times_of (part_in terms runs a)) (times_of (part_in terms runs b)) h) refl

  pub step-length-greater : head_in terms a ≡ head_in terms b → value_in terms a ≡ value_in terms b → times_of (part_in terms runs b) < times_of (part_in terms runs a) → Steps terms runs a b S.After
  step-length-greater e v h f = step f ∙ rw (heads-level e v, compare-greater (times_of (part_in terms runs a)) (times_of (part_in terms runs b)) h) refl

  valid-at : (i : ℕ) → i < count_in terms → NodeValid i (node_in terms runs i)
  valid-at i h = rw (pool-at terms runs i h) at (H.valid.nodes i (omega (arith, pool-length terms runs)))

  pub step-below : head_in terms a ≡ head_in terms b → value_in terms a ≡ value_in terms b → times_of (part_in terms runs a) ≡ times_of (part_in terms runs b) → (c d : ℕ)
      → c ≡ (diff_numbers (part_in terms runs a) (part_in terms runs b)).0 → d ≡ (diff_numbers (part_in terms runs a) (part_in terms runs b)).1 → Steps terms runs a b (S.RunsBelow c d)
  step-below e v h c d ec ed =
      rw (ec, ed) ((D 0).left, (D 0).right, (D 0).apart, λ f. step f ∙ rw (heads-level e v, compare-equal (times_of (part_in terms runs a)) (times_of (part_in terms runs b)) h) (D f).order)
    where
      apart : part_in terms runs a ≡ part_in terms runs b → ⊥
      apart q =
          let same : node_in terms runs a ≡ node_in terms runs b = rw (e, v, q) refl in
          ne (H.valid.apart a b (omega (arith, pool-length terms runs)) (omega (arith, pool-length terms runs)) (pool-at terms runs a ha ∙ same ∙ sym (pool-at terms runs b hb)))

      D : (f : ℕ) → Decides (length x.runs + length y.runs) (structural_cmp f p) (part_in terms runs a) (part_in terms runs b) a b (diff_numbers (part_in terms runs a) (part_in terms runs b))
      D f =
          let A = valid-at a ha in
          let B = valid-at b hb in
          decides (structural_cmp f p) a b (length x.runs + length y.runs) (part_in terms runs a) (part_in terms runs b) A.joined B.joined A.below B.below h apart (omega (arith, length-map (part_in terms runs a) unpack, length-map (part_in terms runs b) unpack))

-- ---- the walk: down to the children, with fuel above the left one
pub record Going (terms runs : List ℕ) (x y a b : ℕ) : Type 0 where
  pub left : a < count_in terms
  pub right : b < count_in terms
  pub apart : a ≢ b
  pub fuel : ℕ
  pub above : a < fuel
  pub same : structural_cmp (count_in terms) (pool_of terms runs) x y ≡ structural_cmp fuel (pool_of terms runs) a b

pub going_start : (terms runs : List ℕ) (x y : ℕ) → x < count_in terms → y < count_in terms → (x ≡ y → ⊥) → Going terms runs x y x y
going_start terms runs x y h k d = record { left = h; right = k; apart = d; fuel = count_in terms; above = h; same = refl }

module _ (terms runs : List ℕ) (x y a b : ℕ) (G : Going terms runs x y a b) where
  fuel-is : G.fuel ≡ suc (G.fuel - 1)
  fuel-is = let h = G.above in omega arith

  pub going-down : (c d : ℕ) → Steps terms runs a b (S.RunsBelow c d) → Going terms runs x y c d
  going-down c d (h, k, n, e) = record {
    left = let z = G.left in omega arith;
    right = let z = G.right in omega arith;
    apart = n;
    fuel = G.fuel - 1;
    above = let z = G.above in omega arith;
    same = G.same ∙ ap (λ (f : ℕ). structural_cmp f (pool_of terms runs) a b) fuel-is ∙ e (G.fuel - 1);
  }

  pub going_less : Steps terms runs a b S.Before → O.Less ≡ order_of (structural_cmp (count_in terms) (pool_of terms runs) x y)
  going_less e = sym (ap order_of (G.same ∙ ap (λ (f : ℕ). structural_cmp f (pool_of terms runs) a b) fuel-is ∙ e (G.fuel - 1)))

  pub going-greater : Steps terms runs a b S.After → O.Greater ≡ order_of (structural_cmp (count_in terms) (pool_of terms runs) x y)
  going-greater e = sym (ap order_of (G.same ∙ ap (λ (f : ℕ). structural_cmp f (pool_of terms runs) a b) fuel-is ∙ e (G.fuel - 1)))

cmp-self : (f : ℕ) (p : Pool) (x y : ℕ) → x ≡ y → structural_cmp (suc f) p x y ≡ equal
unfolding structural_cmp
cmp-self f p x y e = rw (structural_cmp, eq-eqb x y e) refl

pub going-same : (terms runs : List ℕ) (x y : ℕ) → x < count_in terms → x ≡ y → O.Equal ≡ order_of (structural_cmp (count_in terms) (pool_of terms runs) x y)
going-same terms runs x y h e =
    let z : count_in terms ≡ suc (count_in terms - 1) = omega arith in
    sym (ap order_of (ap (λ (f : ℕ). structural_cmp f (pool_of terms runs) x y) z ∙ cmp-self (count_in terms - 1) (pool_of terms runs) x y e))
