-- What holds of the state between two rounds, and of the pool in the middle of one.
use Rattle.std.specs.Prelude.{◌≡◌, refl, ◌⊎◌, Bool, List, [], ◌∷◌, ◌++◌, ℕ, zero, suc, ◌+◌, ◌≤◌, ◌<◌, length, get_or}
use Rattle.std.proofs.Common.{sym, ◌∙◌, inl, inr, not-suc-le-zero, eq-or-lt_of_le, arith, length-append}
use Rattle.std.proofs.Math.ListN.{get_or-append}
use Rattle.spec.specs.Bytes.{In, place, Two, Res, ok, refused, Checked, passed, cut_short}
use Rattle.spec.specs.Pool.{Pool, Interned}
use Rattle.spec.specs.System.{System, Making, Act, look_up, stay, act, Choice, turn_of, plan_runs, choice_term, Terms, State, outcome, state_after, started, start_state}
use Rattle.spec.specs.Listing.{listing_of}
use Rattle.laws.specs.Lists.{length-map, get-map, get_in, place_in}
use Rattle.laws.specs.Results.{ok-inj, refused-ok, passed-inj, cut-passed}
use Rattle.pools.specs.Pool.{RunsBelow, PoolValid, get_d-last}
use Rattle.pools.specs.PoolIntern.{Extends, extends-refl, extends-trans, extends-within}
use Rattle.pools.specs.PoolSort.{plan-below}
use Rattle.pools.specs.OrderListing.{over_pool}
use Rattle.pools.proofs.OrderListing.{listing-larger}
use Rattle.steps.specs.Graph.{Closed}
use Rattle.steps.specs.Turn.{Inside, choice-joins}
use Rattle.steps.specs.TurnsFrom.{turn-quality, turns-length, RoundAt, turn_term, round-begin, round-cut, round-turn, round-refused, round-end}
use Rattle.steps.specs.RoundsFrom.{turns_at, round_at}

-- the state between two rounds over the nodes ps: a quality that fits and a term for each node
pub record Standing {N : Type 0} (Fits : Two → Type 0) (ps : List N) (s : State) : Type 0 where
  pub many : length s.qualities ≡ length ps
  pub named : length s.terms ≡ length ps
  pub valid : PoolValid s.pool
  pub within : (k : ℕ) → k < length ps → get_or s.terms k 0 < length s.pool
  pub fits : (k : ℕ) → k < length ps → Fits (get_or s.qualities k (0, 0))

-- ---- what stands for a node of the list
module _ {N : Type 0} (S : System N) {Fits : Two → Type 0} {ps : List N} {s : State} (K : Standing Fits ps s) where
  pub look-within : (c : N) → In c ps → look_up S.same 0 ps s.terms c < length s.pool
  look-within c i = K.within (place (S.same c) ps) (place_in S.decides c ps i)

  pub look-fits : (c : N) → In c ps → Fits (look_up S.same (0, 0) ps s.qualities c)
  look-fits c i = K.fits (place (S.same c) ps) (place_in S.decides c ps i)

-- ---- one term more
-- what a step that enters a term in the pool leaves
pub record Grew (pool : Pool) (a : Interned) : Type 0 where
  pub valid : PoolValid a.pool
  pub grown : Extends pool a.pool
  pub within : a.term < length a.pool

-- The laws of a round: an action enters a term in the pool, over places that the node joins, and its quality fits.
pub record Keeps {N : Type 0} (S : System N) (M : Making N) (Fits : Two → Type 0) : Type 0 where
  pub action : (pool : Pool) (o : ℕ) (l : List Two) (a : Interned) → PoolValid pool → RunsBelow (length pool) l → M.action_term pool o l ≡ ok a → Grew pool a
  pub inside : Inside S
  pub fits : (q : N → Two) (p : N) → Fits (q p) → ((c : N) → In c (S.joins p) → Fits (q c)) → Fits (turn_of S q p).quality

-- The laws of the starting terms, of nodes of some kind.
pub record Begins {N : Type 0} (S : System N) (M : Making N) (Okay : N → Type 0) (Fits : Two → Type 0) : Type 0 where
  pub start : (pool : Pool) (c : N) (a : Interned) → Okay c → PoolValid pool → M.starting_term pool c ≡ ok a → Grew pool a
  pub fits : (c : N) → Okay c → Fits (S.starting_quality c)

-- ---- in the middle: k nodes have had their turn since the pool was `from`, and gave the terms `done`
pub record Midway (from : Pool) (k : ℕ) (done : List ℕ) (pool : Pool) : Type 0 where
  pub valid : PoolValid pool
  pub grown : Extends from pool
  pub many : length done ≡ k
  pub within : (j : ℕ) → j < k → get_or done j 0 < length pool

pub midway-begin : (pool : Pool) → PoolValid pool → Midway pool 0 [] pool
midway-begin pool v = record { valid = v; grown = extends-refl pool; many = refl; within = λ j h. absurd (not-suc-le-zero h) }

pub midway-turn : {from : Pool} {k : ℕ} {done : List ℕ} {pool : Pool} (a : Interned) → Midway from k done pool → Grew pool a → Midway from (k + 1) (done ++ (a.term ∷ [])) a.pool
midway-turn {from} {k} {done} {pool} a M G = record {
  valid = G.valid;
  grown = extends-trans M.grown G.grown;
  many = omega (arith, length-append done (a.term ∷ []), M.many);
  within = λ j h. each j (eq-or-lt_of_le {n = j} {m = k} (omega arith));
}
  where
    each : (j : ℕ) → (j ≡ k) ⊎ (j < k) → get_or (done ++ (a.term ∷ [])) j 0 < length a.pool
    each j (inl e) = let z : j ≡ length done = e ∙ sym M.many in rw (z, get_d-last done a.term 0) G.within
    each j (inr l) = rw (get_or-append done (a.term ∷ []) 0 j (omega (arith, M.many))) (extends-within G.grown (get_or done j 0) (M.within j l))

-- ---- a loop that makes n terms and is not cut short leaves n terms
module _ (n : ℕ) (from : Pool) (whole : Res (Checked Terms)) (make : ℕ → Pool → Res Interned) (At : ℕ → List ℕ → ℕ → Pool → Type 0)
    (cut : (k : ℕ) (done : List ℕ) (b : ℕ) (pool : Pool) → k < n → b ≡ 0 → At k done b pool → whole ≡ ok cut_short)
    (turn : (k : ℕ) (done : List ℕ) (b c : ℕ) (pool : Pool) (a : Interned) → k < n → b ≡ c + 1 → At k done b pool → make k pool ≡ ok a → At (k + 1) (done ++ (a.term ∷ [])) c a.pool)
    (stop : (k : ℕ) (done : List ℕ) (b c : ℕ) (pool : Pool) (m : ℕ) → k < n → b ≡ c + 1 → At k done b pool → make k pool ≡ refused m → whole ≡ refused m)
    (end : (k : ℕ) (done : List ℕ) (b : ℕ) (pool : Pool) → n ≤ k → At k done b pool → whole ≡ ok (passed (record { pool = pool; terms = done }) b))
    (grows : (k : ℕ) (done : List ℕ) (pool : Pool) (a : Interned) → k < n → Midway from k done pool → make k pool ≡ ok a → Grew pool a) where
  loop-done : (f k : ℕ) (done : List ℕ) (b : ℕ) (pool : Pool) (r : Terms) (c : ℕ) → f + k ≡ n → At k done b pool → Midway from k done pool → whole ≡ ok (passed r c) → Midway from n r.terms r.pool
  loop-done zero k done b pool r c h w M e =
      let same = (passed-inj (ok-inj (sym (end k done b pool (omega arith) w) ∙ e))).0 in
      let z : k ≡ n = omega arith in
      rw (← same, ← z) M
  loop-done (suc f) k done zero pool r c h w M e = absurd (cut-passed (ok-inj (sym (cut k done zero pool (omega arith) refl w) ∙ e)))
  loop-done (suc f) k done (suc b) pool r c h w M e = go (make k pool) refl (λ a w' M'. loop-done f (k + 1) (done ++ (a.term ∷ [])) b a.pool r c (omega arith) w' M' e)
    where
      go : (x : Res Interned) → make k pool ≡ x → ((a : Interned) → At (k + 1) (done ++ (a.term ∷ [])) b a.pool → Midway from (k + 1) (done ++ (a.term ∷ [])) a.pool → Midway from n r.terms r.pool) → Midway from n r.terms r.pool
      go (ok a) z ih = ih a (turn k done (suc b) b pool a (omega arith) (omega arith) w z) (midway-turn a M (grows k done pool a (omega arith) M z))
      go (refused m) z ih = absurd (refused-ok (sym (stop k done (suc b) b pool m (omega arith) (omega arith) w z) ∙ e))

-- ---- a round
module _ {N : Type 0} (S : System N) (M : Making N) (Fits : Two → Type 0) (L : Keeps S M Fits) where
  pub choice-grows : (of : N → ℕ) (pool : Pool) (old : ℕ) (c : Choice N) (a : Interned) → PoolValid pool → old < length pool
      → ((b : Act N) → c ≡ act b → (y : N) → In y b.places → of y < length pool) → choice_term M of pool old c ≡ ok a → Grew pool a
  unfolding choice_term
  choice-grows of pool old stay a v h f e = rw (← ok-inj e) (record { valid = v; grown = extends-refl pool; within = h })
  choice-grows of pool old (act b) a v h f e = L.action pool b.op (plan_runs of b.places b.counts) a v (plan-below of (length pool) b.places b.counts (f b refl)) e

  module _ (ps : List N) (s : State) (K : Standing Fits ps s) (closed : Closed S ps) where
    -- the terms of the round before
    abbrev of : N → ℕ
    of = look_up S.same 0 ps s.terms

    -- the qualities of the round before
    abbrev q : N → Two
    q = look_up S.same (0, 0) ps s.qualities

    turn-grows : (k : ℕ) (done : List ℕ) (pool : Pool) (a : Interned) → k < length ps → Midway s.pool k done pool → turn_term S M of ps s.qualities k pool ≡ ok a → Grew pool a
    turn-grows k done pool a h W e =
        let p = get_or ps k S.other in
        let i : In p ps = get_in S.other ps k h in
        choice-grows of pool (of p) (turn_of S q p).choice a W.valid (extends-within W.grown (of p) (look-within S K p i))
        (λ b z y j. extends-within W.grown (of y) (look-within S K y (closed p y i (choice-joins S L.inside q p b z y j)))) e

    -- the pool after one turn more
    pub turn-midway : (k : ℕ) (done : List ℕ) (pool : Pool) (a : Interned) → k < length ps → Midway s.pool k done pool → turn_term S M of ps s.qualities k pool ≡ ok a → Midway s.pool (k + 1) (done ++ (a.term ∷ [])) a.pool
    turn-midway k done pool a h W e = midway-turn a W (turn-grows k done pool a h W e)

    -- the quality of node k's turn
    turn-fits : (k : ℕ) → k < length ps → Fits (turn_of S q (get_or ps k S.other)).quality
    turn-fits k h =
        let p = get_or ps k S.other in
        let i : In p ps = get_in S.other ps k h in
        L.fits q p (look-fits S K p i) (λ c j. look-fits S K c (closed p c i j))

    -- every turn has passed
    standing-after : (done : List ℕ) (pool : Pool) (b : ℕ) → Midway s.pool (length ps) done pool → Standing Fits ps (state_after s (turns_at S ps s) (record { pool = pool; terms = done }) b)
    standing-after done pool b W = record {
      many = length-map (λ w. w.quality) (turns_at S ps s) ∙ turns-length S ps s.qualities;
      named = W.many;
      valid = W.valid;
      within = W.within;
      fits = λ k h. rw (turn-quality S ps s.qualities k h) (turn-fits k h);
    }

    -- a finished round
    round-midway : (b c : ℕ) (r : Terms) → round_at S M ps s b ≡ ok (passed r c) → Midway s.pool (length ps) r.terms r.pool
    round-midway b c r e =
        loop-done (length ps) s.pool (round_at S M ps s b) (turn_term S M of ps s.qualities) (RoundAt S M of ps s.qualities (round_at S M ps s b))
        (λ k done b pool. round-cut S M of ps s.qualities _ k done b pool)
        (λ k done b c pool a. round-turn S M of ps s.qualities _ k done b c pool a)
        (λ k done b c pool m. round-refused S M of ps s.qualities _ k done b c pool m)
        (λ k done b pool. round-end S M of ps s.qualities _ k done b pool)
        turn-grows (length ps) 0 [] b s.pool r c (omega arith) (round-begin S M of ps s.qualities b s.pool) (midway-begin s.pool K.valid) e

    pub standing-next : (b c : ℕ) (r : Terms) → round_at S M ps s b ≡ ok (passed r c) → Standing Fits ps (state_after s (turns_at S ps s) r c)
    standing-next b c r e = standing-after r.terms r.pool c (round-midway b c r e)

-- ---- starting terms
module _ {N : Type 0} (S : System N) (M : Making N) (Okay : N → Type 0) (Fits : Two → Type 0) (L : Begins S M Okay Fits) (ps : List N) (okay : (c : N) → In c ps → Okay c) where
  starts : (from : Pool) (k : ℕ) (done : List ℕ) (pool : Pool) (a : Interned) → k < length ps → Midway from k done pool → M.starting_term pool (get_or ps k S.other) ≡ ok a → Grew pool a
  starts from k done pool a h W e = L.start pool (get_or ps k S.other) a (okay (get_or ps k S.other) (get_in S.other ps k h)) W.valid e

  pub starting-midway : (from : Pool) (k : ℕ) (done : List ℕ) (pool : Pool) (a : Interned) → k < length ps → Midway from k done pool → M.starting_term pool (get_or ps k S.other) ≡ ok a → Midway from (k + 1) (done ++ (a.term ∷ [])) a.pool
  starting-midway from k done pool a h W e = midway-turn a W (starts from k done pool a h W e)

  -- every node has its starting term
  pub standing-started : (from : Pool) (done : List ℕ) (pool : Pool) (budget b : ℕ) → Midway from (length ps) done pool → Standing Fits ps (start_state S budget ps (record { pool = pool; terms = done }) b)
  standing-started from done pool budget b W = record {
    many = length-map S.starting_quality ps;
    named = W.many;
    valid = W.valid;
    within = W.within;
    fits = λ k h. rw (get-map S.starting_quality ps k S.other (0, 0) h) (L.fits (get_or ps k S.other) (okay (get_or ps k S.other) (get_in S.other ps k h)));
  }

-- ---- listings over a larger pool
-- a round cut short leaves a larger pool, and the listing stays
pub listing-cut : {N : Type 0} {Fits : Two → Type 0} (k : ℕ) (ps : List N) (s : State) (complete : Bool) (left : ℕ) (pool : Pool) → Standing Fits ps s → 0 < length ps → PoolValid pool → Extends s.pool pool
    → listing_of k (outcome complete ps s left) ≡ listing_of k (over_pool (outcome complete ps s left) pool)
listing-cut k ps s complete left pool K h w g = listing-larger k (outcome complete ps s left) pool K.valid w g (K.within 0 h)

-- so does one that is cut short in building or in starting terms
pub listing-started : {N : Type 0} (S : System N) (k budget : ℕ) (p : N) (root : Interned) (n : ℕ) (pool : Pool) → PoolValid root.pool → root.term < length root.pool → PoolValid pool → Extends root.pool pool
    → listing_of k (started S budget p root n) ≡ listing_of k (over_pool (started S budget p root n) pool)
unfolding started
listing-started S k budget p root n pool v h w g = listing-larger k (started S budget p root n) pool v w g h
