-- Sorted runs: `sort_runs` gives a sorted permutation, and any sorted permutation gives the same runs after joining.
use Rattle.std.specs.Prelude.{◌≡◌, ◌⊎◌, Bool, ℕ, zero, suc, ◌+◌, ◌≤◌, ◌<◌, length, replicate}
use Rattle.std.proofs.Math.Path.{refl, sym, ap, ap₂}
use Rattle.std.proofs.Common.{◌∙◌, inl, inr, arith, eqb-true, eq-eqb}
use Rattle.std.proofs.Math.Bool.{true, false}
use mathlib.Core.List.{List, [], ◌∷◌, ◌++◌}
use Rattle.std.proofs.Math.Dec.{eqb}
use Rattle.spec.specs.Bytes.{Two, pick}
use Rattle.spec.specs.Pool.{Pool, join_runs, Order, less, equal, greater, structural_cmp, is_greater, insert_run, sort_runs}
use Rattle.spec.specs.Meaning.{In, here, there, occurs, count_in}
use Rattle.laws.specs.Tests.{clash}
use Rattle.laws.specs.Bag.{Perm, both, perm-sym, replicate-in}
use Rattle.laws.specs.BagCount.{written, in-written, join_written, written-perm, occurs-perm, occurs-written}
use Rattle.pools.specs.Pool.{RunsBelow, runs-below-tail, PoolValid, join-below, join-joined}
use Rattle.pools.specs.PoolSort.{sort-perm, perm-below}
use Rattle.pools.specs.OrderTerms.{flip}
use Rattle.pools.specs.OrderRuns.{written-inj}
use Rattle.pools.specs.Order.{NotAfter}
use Rattle.pools.proofs.Order.{reversible, transitive, antisymmetric, total}
use Rattle.laws.specs.Lists.{in-append, in-cons, in-nil}
use Rattle.pools.specs.OrderSort.{Sorted, none, one, more}

module _ (p : Pool) (v : PoolValid p) where
  -- ---- insertion
  not-greater : (a b : ℕ) → a < length p → b < length p → is_greater (structural_cmp (length p) p a b) ≡ true → NotAfter p b a
  not-greater a b h k e = rw (reversible p v a b h k) (go (structural_cmp (length p) p a b) e)
    where
      go : (o : Order) → is_greater o ≡ true → is_greater (flip o) ≡ false
      go less e = absurd (clash (sym e))
      go equal e = absurd (clash (sym e))
      go greater e = refl

  -- the head of an insertion is the new run or the old head
  insert-after : (r s : Two) (l : List Two) → NotAfter p s.0 r.0 → Sorted p (s ∷ l) → Sorted p (insert_run p r l) → Sorted p (s ∷ insert_run p r l)
  unfolding insert_run
  insert-after r s [] h k i = more h one
  insert-after r s (u ∷ l) h (more g k) i = go (is_greater (structural_cmp (length p) p r.0 u.0)) i
    where
      go : (b : Bool) → Sorted p (elim b [ true ↦ u ∷ insert_run p r l | false ↦ r ∷ u ∷ l ]) → Sorted p (s ∷ elim b [ true ↦ u ∷ insert_run p r l | false ↦ r ∷ u ∷ l ])
      go true i = more g i
      go false i = more h i

  sorted_tail : {r : Two} {l : List Two} → Sorted p (r ∷ l) → Sorted p l
  sorted_tail one = none
  sorted_tail (more h s) = s

  insert-sorted : (r : Two) (l : List Two) → r.0 < length p → RunsBelow (length p) l → Sorted p l → Sorted p (insert_run p r l)
  unfolding insert_run
  insert-sorted r [] h b k = one
  insert-sorted r (s ∷ l) h b k = go (is_greater (structural_cmp (length p) p r.0 s.0)) refl (insert-sorted r l h (runs-below-tail b) (sorted_tail k))
    where
      go : (x : Bool) → is_greater (structural_cmp (length p) p r.0 s.0) ≡ x → Sorted p (insert_run p r l) → Sorted p (elim x [ true ↦ s ∷ insert_run p r l | false ↦ r ∷ s ∷ l ])
      go true e ih = insert-after r s l (not-greater r.0 s.0 h (b.earlier s here) e) k ih
      go false e ih = more e k

  pub sort_sorted : (l : List Two) → RunsBelow (length p) l → Sorted p (sort_runs p l)
  unfolding sort_runs
  sort_sorted [] b = none
  sort_sorted (r ∷ l) b = insert-sorted r (sort_runs p l) (b.earlier r here) (perm-below (sort-perm p l) (runs-below-tail b)) (sort_sorted l (runs-below-tail b))

  -- ---- the written list rises: each entry at most all later ones
  data Ascending : List ℕ → Type 0 where
    nothing : Ascending []
    then : {a : ℕ} {l : List ℕ} → ((b : ℕ) → In b l → NotAfter p a b) → Ascending l → Ascending (a ∷ l)

  pub not-after-self : (a : ℕ) → a < length p → NotAfter p a a
  not-after-self a h = elim (total p v a a h h) [ inl e ↦ e | inr e ↦ e ]

  pub all-later : (r : Two) (l : List Two) → RunsBelow (length p) (r ∷ l) → Sorted p (r ∷ l) → (s : Two) → In s l → NotAfter p r.0 s.0
  all-later r [] b k s i = absurd (in-nil i)
  all-later r (u ∷ l) b (more h k) s i = go (in-cons i) (λ j. all-later u l (runs-below-tail b) k s j)
    where
      go : (s ≡ u) ⊎ In s l → (In s l → NotAfter p u.0 s.0) → NotAfter p r.0 s.0
      go (inl e) ih = rw e h
      go (inr j) ih = transitive p v r.0 u.0 s.0 (b.earlier r here) (b.earlier u (there here)) (b.earlier s (there (there j))) h (ih j)

  copies-ascend : (n a : ℕ) (l : List ℕ) → a < length p → ((b : ℕ) → In b l → NotAfter p a b) → Ascending l → Ascending (replicate n a ++ l)
  copies-ascend zero a l h k i = i
  copies-ascend (suc n) a l h k i = then {a = a} {l = replicate n a ++ l} (λ b j. elim (in-append (replicate n a) j) [ inl x ↦ rw (replicate-in n x).0 (not-after-self a h) | inr y ↦ k b y ]) (copies-ascend n a l h k i)

  runs-ascend : (l : List Two) → RunsBelow (length p) l → Sorted p l → Ascending (written l)
  unfolding written
  runs-ascend [] b k = nothing
  runs-ascend (r ∷ l) b k =
      copies-ascend r.1 r.0 (written l) (b.earlier r here)
      (λ c i. let (s, j, e, n) = in-written c l i in rw e (all-later r l b k s j))
      (runs-ascend l (runs-below-tail b) (sorted_tail k))

  -- ---- a rising list is determined by how often each number stands in it
  occurs-in : (k : ℕ) (l : List ℕ) → 1 ≤ occurs k l → In k l
  unfolding occurs
  occurs-in k [] h = absurd (omega arith)
  occurs-in k (x ∷ l) h = go (eqb x k) refl h (λ g. occurs-in k l g)
    where
      go : (b : Bool) → eqb x k ≡ b → 1 ≤ pick b 1 0 + occurs k l → (1 ≤ occurs k l → In k l) → In k (x ∷ l)
      go true e h ih = rw (eqb-true x k e) here
      go false e h ih = there (ih (omega arith))

  head-occurs : (x : ℕ) (l : List ℕ) → 1 ≤ occurs x (x ∷ l)
  unfolding occurs
  head-occurs x l = rw (eq-eqb x x refl) (omega arith)

  ascending-unique : (l m : List ℕ) → ((a : ℕ) → In a l → a < length p) → ((a : ℕ) → In a m → a < length p) → Ascending l → Ascending m → ((k : ℕ) → occurs k l ≡ occurs k m) → l ≡ m
  unfolding occurs
  ascending-unique [] [] h k i j e = refl
  ascending-unique [] (y ∷ m) h k i j e = absurd (omega (arith, e y, head-occurs y m))
  ascending-unique (x ∷ l) [] h k i j e = absurd (omega (arith, e x, head-occurs x l))
  ascending-unique (x ∷ l) (y ∷ m) h k (then f i) (then g j) e =
      ap₂ (λ (a : ℕ) (b : List ℕ). a ∷ b) same (ascending-unique l m (λ a u. h a (there u)) (λ a u. k a (there u)) i j (λ c. omega (arith, e c, ap {B = ℕ} (λ (z : ℕ). pick (eqb z c) 1 0) same)))
    where
      first : (x ≡ y) ⊎ In x m → (y ≡ x) ⊎ In y l → x ≡ y
      first (inl q) z = q
      first (inr q) (inl z) = sym z
      first (inr q) (inr z) = antisymmetric p v x y (h x here) (k y here) (f y z) (g x q)

      same : x ≡ y
      same = first (in-cons (occurs-in x (y ∷ m) (omega (arith, e x, head-occurs x l)))) (in-cons (occurs-in y (x ∷ l) (omega (arith, e y, head-occurs y m))))

  -- ---- the theorems
  -- Sorted runs that count each child as often are the same after joining.
  pub sorted-count-unique : (l m : List Two) → RunsBelow (length p) l → RunsBelow (length p) m → Sorted p l → Sorted p m → ((k : ℕ) → count_in k l ≡ count_in k m) → join_runs l ≡ join_runs m
  sorted-count-unique l m b c i j e =
      written-inj (join_runs l) (join_runs m) (join-joined l) (join-joined m) (join-below (length p) l b).counted (join-below (length p) m c).counted
      (join_written l
      ∙ ascending-unique (written l) (written m) (range l b) (range m c) (runs-ascend l b i) (runs-ascend m c j) (λ k. occurs-written k l ∙ e k ∙ sym (occurs-written k m))
      ∙ sym (join_written m))
    where
      range : (l : List Two) → RunsBelow (length p) l → (a : ℕ) → In a (written l) → a < length p
      range l b a i = let (r, u, z, n) = in-written a l i in rw z (b.earlier r u)

  -- A sorted permutation is unique after joining.
  pub sorted-unique : (l m : List Two) → RunsBelow (length p) l → Perm l m → Sorted p l → Sorted p m → join_runs l ≡ join_runs m
  sorted-unique l m b q i j =
      sorted-count-unique l m b (perm-below q b) i j (λ k. sym (occurs-written k l) ∙ occurs-perm k (written-perm q) ∙ occurs-written k m)

  -- Any sorting of the runs gives what `sort_runs` gives.
  pub any-sort : (l m : List Two) → RunsBelow (length p) l → Perm l m → Sorted p m → join_runs m ≡ join_runs (sort_runs p l)
  any-sort l m b q j = sorted-unique m (sort_runs p l) (perm-below q b) (both (perm-sym q) (sort-perm p l)) j (sort_sorted l b)
