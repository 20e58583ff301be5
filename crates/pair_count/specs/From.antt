-- Table and graph agree where no pair stands twice: what is entered, and what is counted. Assumes nothing.
use Rattle.std.specs.Prelude.{◌≡◌, refl, Bool, true, false, List, [], ◌∷◌, ◌++◌, map, ℕ, zero, suc, ◌+◌, ◌≤◌, ◌<◌, min, length, get_or, take, set}
use Rattle.std.proofs.Common.{sym, ap, ◌∙◌, not-suc-le-zero, arith, length-set, lt-ltb}
use Rattle.std.proofs.Math.Nat.{le-min}
use Rattle.spec.specs.Bytes.{pick, any, place, Two, same_two}
use Rattle.spec.specs.Pairs.{same_refl}
use Rattle.spec.specs.Graph.{PAIRS}
use Rattle.laws.specs.Tests.{clash}
use Rattle.arrays.specs.Arrays.{unkeyed}
use Rattle.arrays.specs.ArrayLaws.{unkeyed-at}
use Rattle.pair_search.specs.declared.Pair.{Pair}
use Rattle.pair_search.specs.Records.{two_of, record_of, held, find_of}
use Rattle.pair_table.specs.declared.Entered.{Entered}
use Rattle.pair_table.specs.declared.Entered.TheVariants.{At, New, Full}
use Rattle.pair_table.specs.Table.{has_room, enter_of, table_after}
use Rattle.pair_count.specs.Counted.{not_new, pair_at, entered_of, counted_of}
use Rattle.pair_count.specs.Lists.{take-set, take_all, take_next}

-- a pair that is not new leaves the table as it was
not-new-says : (s : List Pair) (count : ℕ) (p : Two) → not_new (enter_of s count p) ≡ true → table_after s count p ≡ s
not-new-says s count p = go (any (same_two p) (held s count)) (has_room count (length s))
  where
    go : (t u : Bool) → not_new (pick t (At (find_of s count p)) (pick u (New count) Full)) ≡ true → pick t s (pick u (set s count (record_of p)) s) ≡ s
    go true u q = refl
    go false true q = absurd (clash (sym q))
    go false false q = refl

-- one record more is held
map_last : (f : Pair → Two) (l : List Pair) (y : Pair) → map f (l ++ (y ∷ [])) ≡ map f l ++ (f y ∷ [])
map_last f [] y = refl
map_last f (x ∷ l) y = ap (λ (r : List Two). f x ∷ r) (map_last f l y)

held-set : (s : List Pair) (count : ℕ) (p : Two) → count < length s → held (set s count (record_of p)) (suc count) ≡ held s count ++ (p ∷ [])
held-set s count p h = ap (map two_of) (take-set s count (record_of p) h) ∙ map_last two_of (take count s) (record_of p)

-- the same count
at_count : (s : List Pair) (a b : ℕ) → a ≡ b → held s a ≡ held s b
at_count s a b e = ap (held s) e

-- the first pair of a list stands at 0
place-first : (ps : List Two) → 1 ≤ length ps → place (same_two (get_or ps 0 (0, 0))) ps ≡ 0
unfolding place
place-first [] h = absurd (not-suc-le-zero h)
place-first (p ∷ ps) h = rw (same_refl p, place) refl

-- no pair, none counted
pub counts-none : (graph : List ℕ) (from : ℕ) (s : List Pair) (p : Two) → (counted_of (entered_of graph from 0 0 s) p).pairs ≡ 0
counts-none graph from s p = omega arith

-- a turn of `enter_all`: a pair that is not new ends it, and the table is as it was; after a new one it goes on
module _ (graph : List ℕ) (from n k : ℕ) (s : List Pair) where
  pub entered-ends : not_new (enter_of s k (pair_at graph from k)) ≡ true → (k, table_after s k (pair_at graph from k)) ≡ entered_of graph from (suc n) k s
  entered-ends e =
      ap (λ (l : List Pair). (k, l)) (not-new-says s k (pair_at graph from k) e) ∙ sym (ap (λ (t : Bool). pick t (k, s) (entered_of graph from n (k + 1) (table_after s k (pair_at graph from k)))) e)

  pub entered-goes-on : not_new (enter_of s k (pair_at graph from k)) ≡ false → entered_of graph from n (k + 1) (table_after s k (pair_at graph from k)) ≡ entered_of graph from (suc n) k s
  entered-goes-on e = sym (ap (λ (t : Bool). pick t (k, s) (entered_of graph from n (k + 1) (table_after s k (pair_at graph from k)))) e)

module _ (graph : List ℕ) (from : ℕ) (ps : List Two) (few : length ps ≤ PAIRS) (are : unkeyed graph from (length ps) ≡ ps) where
  same : (j : ℕ) → j < length ps → pair_at graph from j ≡ get_or ps j (0, 0)
  same j h = sym (unkeyed-at graph from (length ps) j h) ∙ ap (λ (l : List Two). get_or l j (0, 0)) are

  -- a pair that is not held is entered where there is room
  enters : (k : ℕ) (s : List Pair) (p : Two) → k < PAIRS → k < length s → any (same_two p) (held s k) ≡ false → (enter_of s k p ≡ New k) × (table_after s k p ≡ set s k (record_of p))
  enters k s p a b e = (rw (e, room) refl, rw (e, room) refl)
    where
      room : has_room k (length s) ≡ true
      room = lt-ltb k (min PAIRS (length s)) (le-min a b)

  -- "Its n pairs are counted once each": where no pair of the graph stands twice, each is entered at its own number
  pub in_step : (n k : ℕ) (s : List Pair) → k + n ≡ length ps → length ps ≤ length s → held s k ≡ take k ps → ((j : ℕ) → k ≤ j → j < length ps → any (same_two (get_or ps j (0, 0))) (take j ps) ≡ false)
      → ((entered_of graph from n k s).0 ≡ length ps) × (held (entered_of graph from n k s).1 (length ps) ≡ ps)
  in_step zero k s e wide h once = (omega (arith, e), at_count s (length ps) k (omega (arith, e)) ∙ h ∙ take_all ps k (omega (arith, e)))
  in_step (suc n) k s e wide h once =
      let rest = in_step n (k + 1) (set s k (record_of (pair_at graph from k))) (omega (arith, e)) (omega (arith, wide, length-set s k (record_of (pair_at graph from k)))) next (λ j l. once j (omega (arith, l))) in
      (ap (λ (z : ℕ × List Pair). z.0) step ∙ rest.0, ap (λ (z : ℕ × List Pair). held z.1 (length ps)) step ∙ rest.1)
    where
      inside : k < length ps
      inside = omega (arith, e)

      done : (enter_of s k (pair_at graph from k) ≡ New k) × (table_after s k (pair_at graph from k) ≡ set s k (record_of (pair_at graph from k)))
      done = enters k s (pair_at graph from k) (omega (arith, inside, few)) (omega (arith, inside, wide)) (rw (same k inside, h) (once k (omega arith) inside))

      next : held (set s k (record_of (pair_at graph from k))) (k + 1) ≡ take (k + 1) ps
      next =
          at_count (set s k (record_of (pair_at graph from k))) (k + 1) (suc k) (omega arith) ∙ held-set s k (pair_at graph from k) (omega (arith, inside, wide)) ∙ ap (λ (l : List Two). l ++ (pair_at graph from k ∷ [])) h
          ∙ ap (λ (p : Two). take k ps ++ (p ∷ [])) (same k inside) ∙ sym (take_next ps k (0, 0) inside) ∙ ap (λ (m : ℕ). take m ps) {x = suc k} {y = k + 1} (omega arith)

      step : entered_of graph from (suc n) k s ≡ entered_of graph from n (k + 1) (set s k (record_of (pair_at graph from k)))
      step = ap (λ (g : Entered). pick (not_new g) (k, s) (entered_of graph from n (k + 1) (table_after s k (pair_at graph from k)))) done.0 ∙ ap (entered_of graph from n (k + 1)) done.1

  -- and where the queried pair is the first, all are counted
  pub counts_all : (s : List Pair) → length ps ≤ length s → ((j : ℕ) → j < length ps → any (same_two (get_or ps j (0, 0))) (take j ps) ≡ false) → 1 ≤ length ps → (counted_of (entered_of graph from (length ps) 0 s) (get_or ps 0 (0, 0))).pairs ≡ length ps
  counts_all s wide once some =
      let (all, holds) = in_step (length ps) 0 s (omega arith) wide refl (λ j z h. once j h) in
      rw (all, holds) (omega (arith, place-first ps some))
