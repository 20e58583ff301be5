-- Starting terms, pair by pair: "one [check] a pair in starting terms".
use Rattle.std.specs.Prelude.{◌≡◌, refl, List, [], ◌∷◌, ◌++◌, map, ℕ, ◌+◌, ◌*◌, ◌≤◌, ◌<◌, length, get_or, take, Option, Some, None}
use Rattle.std.proofs.Common.{sym, ap, ◌∙◌, arith, add-one, take-suc, take_all}
use Rattle.spec.specs.Bytes.{Two, Limits, Res, ok, refused, Checked, passed, cut_short}
use Rattle.spec.specs.Image.{Tables}
use Rattle.spec.specs.Pool.{Pool, Interned, starting_term}
use Rattle.spec.specs.Pairs as P
use Rattle.spec.specs.Round.{starting_quality, Terms}
use Rattle.spec.specs.Run.{starting_terms}
use Rattle.laws.specs.Lists.{map_snoc}
use Rattle.laws.specs.Valid.{Valid}
use Rattle.pools.specs.Refused.{start-only}
use Rattle.laws.specs.BestMembers.{IsPair}
use Rattle.pools.specs.PoolIntern.{Extends}
use Rattle.pools.specs.PoolLimits.{starting-within}
use Rattle.steps.specs.TurnsFrom.{StartingAt, starting-begin, starting-cut, starting-turn, starting-refused, starting-end}
use Rattle.steps.specs.Standing.{Midway, midway-begin, starting-midway}
use Rattle.lgg.specs.Stands.{Fits}
use Rattle.readings.specs.Starting.{pair-begins}
use Rattle.arrays.specs.Arrays.{qualities_from, terms_from, qualities_in, terms_in, given}
use Rattle.arrays.specs.ArrayLaws.{qualities-more, terms-more}
use Rattle.terms.specs.Buffers.{pool_of, count_in}
use Rattle.terms.specs.Chains.{Holds}
use Rattle.terms.specs.PoolLaws.{pool-length}
use Rattle.best_terms.specs.Bests.{Kept}
use Rattle.best_terms.specs.Building.{full-told, term_told}
use Rattle.best_terms.specs.Starting.{Starts}
use Rattle.rounds.specs.Graphs.{InRange}
use Rattle.exact_fixed.specs.declared.Started.{Started}
use Rattle.exact_fixed.specs.declared.Started.TheVariants as S

-- ---- one pair
-- pair p, which is pair k, has its starting term and quality
pub record HasStarted (lim : Limits) (t : Tables) (p : Two) (k : ℕ) (pool₀ : Pool) (pairs pairs' terms' runs' best' : List ℕ) : Type 0 where
  pub made : Interned
  pub is : starting_term lim t pool₀ p ≡ ok made
  pub numbers : pairs' ≡ given pairs (6 * k) (starting_quality t p).0 (starting_quality t p).1 made.term
  pub pool : pool_of terms' runs' ≡ made.pool
  pub holds : Holds terms' runs'
  pub kept : Kept lim t (pool_of terms' runs') best'

abbrev pub BeginsOne : Limits → Tables → Two → ℕ → Pool → List ℕ → List ℕ → List ℕ → List ℕ → List ℕ → Option (Unit {0}) → Type 0
BeginsOne lim t p k pool pairs pairs' terms' runs' best' (Some _) = HasStarted lim t p k pool pairs pairs' terms' runs' best'
BeginsOne lim t p k pool pairs pairs' terms' runs' best' None = (n : ℕ) × (starting_term lim t pool p ≡ refused n)

-- ---- all pairs
-- the first k pairs have theirs, and b checks are left; `whole` is what all of it comes to, `from` the pool before it
pub record Starting (lim : Limits) (t : Tables) (ps : List Two) (whole : Res (Checked Terms)) (from : Pool) (pairs terms runs : List ℕ) (k b : ℕ) : Type 0 where
  pub sofar : StartingAt (P.making lim t) ps (0, 0) whole k (terms_in pairs 0 k) b (pool_of terms runs)
  pub midway : Midway from k (terms_in pairs 0 k) (pool_of terms runs)
  pub qualities : qualities_in pairs 0 k ≡ map (starting_quality t) (take k ps)
  pub holds : Holds terms runs
  pub within : count_in terms ≤ lim.terms

-- cut short: the pool has grown, within its limit
pub record CutStarting (lim : Limits) (whole : Res (Checked Terms)) (from : Pool) (terms runs : List ℕ) : Type 0 where
  pub is : whole ≡ ok cut_short
  pub holds : Holds terms runs
  pub grown : Extends from (pool_of terms runs)
  pub within : count_in terms ≤ lim.terms

abbrev pub StartsAll : Limits → Tables → List Two → Res (Checked Terms) → Pool → List ℕ → List ℕ → List ℕ → Option Started → Type 0
StartsAll lim t ps whole from pairs terms runs (Some (S.All b)) = Starting lim t ps whole from pairs terms runs (length ps) b.left
StartsAll lim t ps whole from pairs terms runs (Some S.Cut) = CutStarting lim whole from terms runs
StartsAll lim t ps whole from pairs terms runs None = whole ≡ refused 13

pub starting-none : (lim : Limits) (t : Tables) (ps : List Two) (b : ℕ) (pairs terms runs : List ℕ) → Holds terms runs → count_in terms ≤ lim.terms → Starting lim t ps (starting_terms lim t ps b (pool_of terms runs)) (pool_of terms runs) pairs terms runs 0 b
unfolding qualities_from terms_from
starting-none lim t ps b pairs terms runs h w = record { sofar = starting-begin (P.making lim t) ps (0, 0) b (pool_of terms runs); midway = midway-begin (pool_of terms runs) h.valid; qualities = refl; holds = h; within = w }

module _ (lim : Limits) (t : Tables) (ps : List Two) (whole : Res (Checked Terms)) (from : Pool) (pairs terms runs : List ℕ) (k b : ℕ) (h : k < length ps) (X : Starting lim t ps whole from pairs terms runs k b) where
  pub start-cut : b ≡ 0 → CutStarting lim whole from terms runs
  start-cut e = record { is = starting-cut (P.making lim t) ps (0, 0) whole k (terms_in pairs 0 k) b (pool_of terms runs) h e X.sofar; holds = X.holds; grown = X.midway.grown; within = X.within }

  pub start-full : (c n : ℕ) → b ≡ c + 1 → starting_term lim t (pool_of terms runs) (get_or ps k (0, 0)) ≡ refused n → whole ≡ refused 13
  start-full c n e q =
      starting-refused (P.making lim t) ps (0, 0) whole k (terms_in pairs 0 k) b c (pool_of terms runs) n h e X.sofar q
      ∙ ap (λ (z : ℕ). refused z) (start-only lim t (pool_of terms runs) (get_or ps k (0, 0)) n q)

  pub start-more : Valid t → InRange t ps → 6 * length ps ≤ length pairs → (c : ℕ) (pairs' terms' runs' best' : List ℕ) → b ≡ c + 1
      → HasStarted lim t (get_or ps k (0, 0)) k (pool_of terms runs) pairs pairs' terms' runs' best' → Starting lim t ps whole from pairs' terms' runs' (k + 1) c
  start-more v ranged room c pairs' terms' runs' best' e B =
      let p = get_or ps k (0, 0) in
      let q = starting_quality t p in
      let a = B.made in
      let named : terms_in pairs' 0 (k + 1) ≡ terms_in pairs 0 k ++ (a.term ∷ []) = rw (add-one k, B.numbers) (terms-more pairs 0 k (6 * k) q.0 q.1 a.term (omega arith) (omega arith)) in
      record {
        sofar = rw (named, B.pool) (starting-turn (P.making lim t) ps (0, 0) whole k (terms_in pairs 0 k) b c (pool_of terms runs) a h e X.sofar B.is);
        midway = rw (named, B.pool) (starting-midway (P.pairs t) (P.making lim t) (IsPair t) Fits (pair-begins lim t v) ps ranged from k (terms_in pairs 0 k) (pool_of terms runs) a h X.midway B.is);
        qualities = rw (add-one k, B.numbers) (qualities-more pairs 0 k (6 * k) q.0 q.1 a.term (omega arith) (omega arith)
            ∙ ap (λ (l : List Two). l ++ (q ∷ [])) X.qualities
            ∙ sym (map_snoc (starting_quality t) (take k ps) p)
            ∙ ap (map (starting_quality t)) (sym (take-suc ps k (0, 0) h)));
        holds = B.holds;
        within = omega (arith, starting-within lim t (pool_of terms runs) p a (omega (arith, X.within, pool-length terms runs)) B.is, ap length B.pool, pool-length terms' runs');
      }

-- all pairs have theirs
module _ (lim : Limits) (t : Tables) (ps : List Two) (whole : Res (Checked Terms)) (from : Pool) (pairs terms runs : List ℕ) (b : ℕ) (X : Starting lim t ps whole from pairs terms runs (length ps) b) where
  pub start-done : whole ≡ ok (passed (record { pool = pool_of terms runs; terms = terms_in pairs 0 (length ps) }) b)
  start-done = starting-end (P.making lim t) ps (0, 0) whole (length ps) (terms_in pairs 0 (length ps)) b (pool_of terms runs) (omega arith) X.sofar

  pub start-qualities : qualities_in pairs 0 (length ps) ≡ map (starting_quality t) ps
  start-qualities = X.qualities ∙ ap (map (starting_quality t)) (take_all (length ps) ps (omega arith))

-- ---- one pair, from what `evaluate_generalize_action` says
pub one-refused : (lim : Limits) (t : Tables) (c : Two) (terms runs best terms' runs' best' : List ℕ) → Starts lim t c terms runs best terms' runs' best' None → (n : ℕ) × (starting_term lim t (pool_of terms runs) c ≡ refused n)
one-refused lim t c terms runs best terms' runs' best' X = full-told (starting_term lim t (pool_of terms runs) c) X.answer

module _ (lim : Limits) (t : Tables) (v : Valid t) (c : Two) (ranged : IsPair t c) (terms runs best terms' runs' best' : List ℕ) (h : Holds terms runs) (a : ℕ) (X : Starts lim t c terms runs best terms' runs' best' (Some a)) where
  made : (x : Interned) × (starting_term lim t (pool_of terms runs) c ≡ ok x) × (x.term ≡ a)
  made = term_told (starting_term lim t (pool_of terms runs) c) a X.answer

  -- a term's number is small
  pub one-small : a < 4294967296
  one-small =
      let (x, e, f) = made in
      let g = X.grows x e in
      let w = ((pair-begins lim t v).start (pool_of terms runs) c x ranged h.valid e).within in
      omega (arith, f, ap length g.pool, pool-length terms' runs', g.holds.few)

  pub one_has : (k size mass term : ℕ) (pairs pairs' : List ℕ) → size ≡ (starting_quality t c).0 → mass ≡ (starting_quality t c).1 → term ≡ a → pairs' ≡ given pairs (6 * k) size mass term → HasStarted lim t c k (pool_of terms runs) pairs pairs' terms' runs' best'
  one_has k size mass term pairs pairs' es em et ep =
      let (x, e, f) = made in
      let g = X.grows x e in
      let n : given pairs (6 * k) size mass term ≡ given pairs (6 * k) (starting_quality t c).0 (starting_quality t c).1 x.term = rw (es, em, et, f) refl in
      record { made = x; is = e; numbers = ep ∙ n; pool = g.pool; holds = g.holds; kept = rw g.pool (X.kept x e) }
