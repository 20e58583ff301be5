-- Demand 2, of a run: the term that the steps build has the reported quality, belongs to the left class read by the first branch at every marked place, and to the right class read by the second.
use Rattle.std.specs.Prelude.{◌≡◌, map, ℕ, zero, suc, ◌<◌, length}
use Rattle.std.proofs.Common.{arith}
use Rattle.spec.specs.Bytes.{In, Limits, Two, ok}
use Rattle.spec.specs.Image.{Tables}
use Rattle.spec.specs.Action.{cell_pairs}
use Rattle.spec.specs.System.{Act}
use Rattle.spec.specs.Pairs.{offers_of, pairs, making}
use Rattle.spec.specs.Run.{Outcome, run_of}
use Rattle.spec.specs.Meaning.{term_quality, read_first, read_second, Branched, tree_at, Belongs}
use Rattle.laws.specs.Valid.{Valid}
use Rattle.laws.specs.BagCount.{spread}
use Rattle.laws.specs.BestMembers.{IsPair}
use Rattle.flow.specs.Theorems.{margins}
use Rattle.pools.specs.Pool.{PoolValid}
use Rattle.lgg.specs.Moves.{each-offer, pair_reads}
use Rattle.steps.specs.Readings.{Builds, RunGood}
use Rattle.steps.specs.Readings as steps
use Rattle.readings.specs.ReadingsNode.{Covers}
use Rattle.readings.specs.ReadingsActions.{Legal, structural-legal, transport-legal}
use Rattle.lgg.specs.Within.{joins-within}
use Rattle.readings.specs.ReadingsMade.{action-made}
use Rattle.readings.specs.Starting.{sides, Good, starting-made}

module _ (t : Tables) (v : Valid t) where
  abbrev Lawful : Two → Act Two → Type 0
  Lawful p a = Legal t p a.op a.places a.counts

  offers-legal : (q : Two → Two) (p : Two) (a : Act Two) → In a (offers_of t q p) → Lawful p a
  offers-legal q p = each-offer (Lawful p) t q p (structural-legal t v p) (λ b j x e. transport-legal t v p b j (map q (cell_pairs b.sides)) x (margins _ x e))

  covers_of : (p : Two) (a : Act Two) → Lawful p a → (k : ℕ) → k < 2 → Covers t a.op (sides p k) (spread (map (λ c. sides c k) a.places) a.counts)
  covers_of p a G zero h = G.left
  covers_of p a G (suc k) h = G.right

module _ (lim : Limits) (t : Tables) (v : Valid t) where
  pub pair-builds : Builds (pairs t) (making lim t) (IsPair t) (Good t)
  pair-builds = record {
    start = λ pool c r h w e. starting-made lim t v pool c r h.0 h.1 w e;
    action = λ pool p q of a r u i h e. action-made lim t 2 sides pool p q of a.op a.places a.counts r u (covers_of t v p a (offers-legal t v q p a i)) h e;
    inside = (pair_reads t).inside;
    onward = λ p c h i. joins-within t v p h c i;
  }

  module _ (p : Two) (h : IsPair t p) where
    good : (b : ℕ) (o : Outcome) → run_of lim t p b ≡ ok o → RunGood (Good t) p o
    good b o e = steps.run-good (pairs t) (making lim t) (IsPair t) (Good t) pair-builds p h b o e

    -- The pool that a run leaves is valid, and the root is one of its terms.
    pub run-pool : (b : ℕ) (o : Outcome) → run_of lim t p b ≡ ok o → PoolValid o.pool × (o.root < length o.pool)
    run-pool b o e = let G = good b o e in (G.valid, G.within)

    -- The term that the steps build has the pair's quality.
    pub run-quality : (b : ℕ) (o : Outcome) → run_of lim t p b ≡ ok o → term_quality (tree_at o.pool o.root) ≡ o.quality
    run-quality b o e = (good b o e).good.quality

    -- "the marked place Variants of two best terms": every marked place has two branches.
    pub two-branches : (b : ℕ) (o : Outcome) → run_of lim t p b ≡ ok o → Branched 2 (tree_at o.pool o.root)
    two-branches b o e = (good b o e).good.branched

    -- "Read by the first branch at every marked place the term belongs to the left class, by the second to the right."
    pub readings : (b : ℕ) (o : Outcome) → run_of lim t p b ≡ ok o
        → Belongs t (read_first (tree_at o.pool o.root)) p.0 × Belongs t (read_second (tree_at o.pool o.root)) p.1
    readings b o e = let G = (good b o e).good.reads in (G 0 (omega arith), G 1 (omega arith))
