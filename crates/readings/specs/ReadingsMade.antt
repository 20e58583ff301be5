-- Actions: a term over good terms is good for the node, read in every way.
use Rattle.std.specs.Prelude.{◌≡◌, List, [], ◌∷◌, map, ℕ, ◌<◌, length}
use Rattle.std.proofs.Common.{sym, ap, ◌∙◌}
use Rattle.spec.specs.Bytes.{In, here, there, Limits, Two, ok}
use Rattle.spec.specs.Image.{Tables}
use Rattle.spec.specs.Pool.{Pool, op_node, Interned}
use Rattle.spec.specs.System.{plan_runs}
use Rattle.spec.specs.Pairs.{quality_over, action_term}
use Rattle.spec.specs.Meaning.{tree_at}
use Rattle.laws.specs.Bag.{both, perm-of-eq, perm-map}
use Rattle.laws.specs.BagCount.{written, spread, map-spread, written-perm}
use Rattle.pools.specs.Pool.{PoolValid}
use Rattle.pools.specs.PoolIntern.{Interns, OpMeans, op-means}
use Rattle.pools.specs.PoolSort.{plan-written, plan-below, action_runs, action-kept}
use Rattle.pools.proofs.PoolSort.{action-perm, action-enters}
use Rattle.steps.specs.Readings.{Makes, TermAt}
use Rattle.readings.specs.ReadingsNode.{Covers, TermFor, TermsFor, no_term, and_term, good-node}

module _ (lim : Limits) (t : Tables) {N : Type 0} (ways : ℕ) (class : N → ℕ → ℕ) where
  places-good : (pool : Pool) (q : N → Two) (of : N → ℕ) (ps : List N) → ((c : N) → In c ps → TermAt (TermFor t ways class) pool q of c) → TermsFor t ways class ps (map q ps) (map (tree_at pool) (map of ps))
  places-good pool q of [] h = no_term
  places-good pool q of (c ∷ ps) h = and_term (h c here).1 (places-good pool q of ps (λ d i. h d (there i)))

  pub action-made : (pool : Pool) (p : N) (q : N → Two) (of : N → ℕ) (o : ℕ) (ps : List N) (x : List ℕ) (r : Interned) → PoolValid pool → ((k : ℕ) → k < ways → Covers t o (class p k) (spread (map (λ c. class c k) ps) x))
      → ((c : N) → In c ps → TermAt (TermFor t ways class) pool q of c) → action_term lim t pool o (plan_runs of ps x) ≡ ok r → Makes (TermFor t ways class) pool p (quality_over x (map q ps)) r
  action-made pool p q of o ps x r u covers h e = record {
    valid = E.valid;
    grown = E.grown;
    within = E.within;
    good = rw M.0 (good-node t ways class p o ps (map q ps) (map (tree_at pool) (map of ps)) x _ (places-good pool q of ps h)
        (both (perm-of-eq (sym written_is)) (both (perm-map (tree_at pool) (written-perm (action-perm t pool o l))) (perm-of-eq (sym M.1))))
        (λ n. sym (M.1 ∙ ap (λ (z : List Two). map (tree_at pool) (written z)) (action-kept t pool o l n) ∙ written_is))
        covers);
  }
    where
      l : List Two
      l = plan_runs of ps x

      E : Interns pool (op_node o (action_runs t pool o l)) r
      E = action-enters lim t pool u o l r (plan-below of (length pool) ps x (λ c i. (h c i).0)) e

      M : OpMeans pool o (action_runs t pool o l) r
      M = op-means pool o (action_runs t pool o l) r E

      written_is : map (tree_at pool) (written l) ≡ spread (map (tree_at pool) (map of ps)) x
      written_is = ap (map (tree_at pool)) (plan-written of ps x) ∙ map-spread (tree_at pool) (map of ps) x
