-- A round, turn by turn: "All pairs read the previous round", "one [check] a pair in it".
use Rattle.std.specs.Prelude.{◌≡◌, refl, Bool, false, Option, Some, None, List, [], ◌∷◌, ◌++◌, map, ℕ, ◌+◌, ◌*◌, ◌≤◌, ◌<◌, length, get_or, take}
use Rattle.std.proofs.Common.{sym, ap, ap₂, ◌∙◌, arith, add-one, take-suc, take_all}
use Rattle.spec.specs.Bytes.{Limits, any, either, Two, Res, ok, refused, Checked, passed, cut_short}
use Rattle.spec.specs.Image.{Tables}
use Rattle.spec.specs.Pairs as P
use Rattle.spec.specs.Round.{look_up, Turn, changes, turn_of, Terms}
use Rattle.spec.specs.Run.{State}
use Rattle.laws.specs.Lists.{map_snoc}
use Rattle.steps.specs.Refusals.{choice-only}
use Rattle.pools.specs.PoolIntern.{Extends}
use Rattle.pools.specs.PoolLimits.{choice-within}
use Rattle.steps.specs.TurnsFrom.{turns-length, turn-at, changed_by, changed-begin, changed-turn, changed-end, RoundAt, round-begin, round-cut, round-turn, round-refused, round-end}
use Rattle.lgg.specs.Pairs.{turns_at, round_at, turn_term}
use Rattle.lgg.specs.Limits.{refuses13}
use Rattle.lgg.specs.Stands.{Fits, pair_keeps}
use Rattle.steps.specs.Standing.{Midway, midway-begin, turn-midway, Standing}
use Rattle.arrays.specs.Arrays.{NEW, qualities_from, terms_from, qualities_in, terms_in, quality_in, term_in}
use Rattle.arrays.specs.ArrayLaws.{given-length, qualities-more, terms-more, old-kept}
use Rattle.terms.specs.Buffers.{pool_of, count_in}
use Rattle.terms.specs.PoolLaws.{pool-length}
use Rattle.terms.specs.Chains.{Holds}
use Rattle.live_pairs.specs.Live.{live_in}
use Rattle.settling.specs.Quiet.{unturned, Quiet}
use Rattle.visits.specs.Visiting.{turn_in, term_made}
use Rattle.visits.specs.VisitLaws.{Moved}
use Rattle.rounds.specs.Graphs.{Graphs, Reads, turn-here, choice-here, agree-quality, among}
use Rattle.budget.specs.declared.Budget.{Budget}
use Rattle.round_outcome.specs.declared.Round.{Round}
use Rattle.round_outcome.specs.declared.Round.TheVariants as R

-- ---- a round
-- the first k pairs of a round from state s have had their turn, and b checks are left; `whole` is what the round comes to
pub record Turning (lim : Limits) (t : Tables) (ps : List Two) (s : State) (whole : Res (Checked Terms)) (pairs terms runs : List ℕ) (k b : ℕ) (changed : Bool) : Type 0 where
  pub sofar : RoundAt (P.pairs t) (P.making lim t) (look_up 0 ps s.terms) ps s.qualities whole k (terms_in pairs NEW k) b (pool_of terms runs)
  pub midway : Midway s.pool k (terms_in pairs NEW k) (pool_of terms runs)
  pub qualities : qualities_in pairs NEW k ≡ map (λ w. w.quality) (take k (turns_at t ps s))
  pub changes : changed ≡ changed_by (P.pairs t) ps s.qualities k
  pub reads : Reads s pairs (length ps)
  pub holds : Holds terms runs
  pub within : count_in terms ≤ lim.terms

-- a round that was cut short: what the pairs have stays
pub record Stays (lim : Limits) (ps : List Two) (s : State) (whole : Res (Checked Terms)) (pairs terms runs : List ℕ) : Type 0 where
  pub is : whole ≡ ok cut_short
  pub reads : Reads s pairs (length ps)
  pub holds : Holds terms runs
  pub grown : Extends s.pool (pool_of terms runs)
  pub within : count_in terms ≤ lim.terms

abbrev pub Relaxes : Limits → Tables → List Two → State → Res (Checked Terms) → List ℕ → List ℕ → List ℕ → Option Round → Type 0
Relaxes lim t ps s whole pairs terms runs (Some (R.Finished c b)) = Turning lim t ps s whole pairs terms runs (length ps) b.left c
Relaxes lim t ps s whole pairs terms runs (Some R.Cut) = Stays lim ps s whole pairs terms runs
Relaxes lim t ps s whole pairs terms runs None = whole ≡ refused 13

-- by what the round answered
module _ (lim : Limits) (t : Tables) (ps : List Two) (s : State) (whole : Res (Checked Terms)) (pairs terms runs : List ℕ) (r : Option Round) (X : Relaxes lim t ps s whole pairs terms runs r) where
  pub relaxes-finished : (c : Bool) (b : Budget) → r ≡ Some (R.Finished c b) → Turning lim t ps s whole pairs terms runs (length ps) b.left c
  relaxes-finished c b e = rw e at X

pub turning-none : (lim : Limits) (t : Tables) (ps : List Two) (s : State) (b : ℕ) (pairs terms runs : List ℕ) → Reads s pairs (length ps) → s.pool ≡ pool_of terms runs → Holds terms runs → count_in terms ≤ lim.terms
    → Turning lim t ps s (round_at lim t ps s b) pairs terms runs 0 b false
unfolding qualities_from terms_from
turning-none lim t ps s b pairs terms runs r e h l = record {
  sofar = rw (← e) (round-begin (P.pairs t) (P.making lim t) (look_up 0 ps s.terms) ps s.qualities b s.pool);
  midway = rw e (midway-begin (pool_of terms runs) h.valid);
  qualities = refl;
  changes = sym (changed-begin (P.pairs t) ps s.qualities);
  reads = r;
  holds = h;
  within = l;
}

module _ (lim : Limits) (t : Tables) (ps : List Two) (s : State) (whole : Res (Checked Terms)) (pairs terms runs : List ℕ) (k b : ℕ) (changed : Bool) (h : k < length ps) (X : Turning lim t ps s whole pairs terms runs k b changed) where
  pub turn-cut : b ≡ 0 → Stays lim ps s whole pairs terms runs
  turn-cut e = record {
    is = round-cut (P.pairs t) (P.making lim t) (look_up 0 ps s.terms) ps s.qualities whole k (terms_in pairs NEW k) b (pool_of terms runs) h e X.sofar;
    reads = X.reads;
    holds = X.holds;
    grown = X.midway.grown;
    within = X.within;
  }

  module _ (w : ℕ) (graph : List ℕ) (G : Graphs lim t w ps (length ps) graph) where
    turn-full : (c n : ℕ) → b ≡ c + 1 → term_made lim t w graph pairs (pool_of terms runs) (get_or ps k (0, 0)) ≡ refused n → whole ≡ refused 13
    turn-full c n e q =
        let z : turn_term lim t (look_up 0 ps s.terms) ps s.qualities k (pool_of terms runs) ≡ refused n = sym (choice-here lim t w ps (length ps) graph G s pairs X.reads k (pool_of terms runs) h) ∙ q in
        round-refused (P.pairs t) (P.making lim t) (look_up 0 ps s.terms) ps s.qualities whole k (terms_in pairs NEW k) b c (pool_of terms runs) n h e X.sofar z
        ∙ ap (λ (z : ℕ). refused z) (choice-only (P.making lim t) (refuses13 lim t) (term_in w graph pairs) (pool_of terms runs) (term_in w graph pairs (get_or ps k (0, 0))) (turn_in t w graph pairs (get_or ps k (0, 0))).choice n q)

    turn_more : Standing Fits ps s → (c : ℕ) (pairs' terms' runs' : List ℕ) (d changed' : Bool) → b ≡ c + 1
        → Moved (turn_in t w graph pairs (get_or ps k (0, 0))) (term_made lim t w graph pairs (pool_of terms runs) (get_or ps k (0, 0))) k pairs pairs' terms' runs' d → changed' ≡ either changed d
        → Turning lim t ps s whole pairs' terms' runs' (k + 1) c changed'
    turn_more S c pairs' terms' runs' d changed' e M f =
        let p = get_or ps k (0, 0) in
        let u = turn_in t w graph pairs p in
        let a = M.made in
        let here : u ≡ turn_of t (look_up (0, 0) ps s.qualities) p = turn-here lim t w ps (length ps) graph G s pairs X.reads k h in
        let made : turn_term lim t (look_up 0 ps s.terms) ps s.qualities k (pool_of terms runs) ≡ ok a = sym (choice-here lim t w ps (length ps) graph G s pairs X.reads k (pool_of terms runs) h) ∙ M.is in
        let room = X.reads.long in
        let named : terms_in pairs' NEW (k + 1) ≡ terms_in pairs NEW k ++ (a.term ∷ []) = rw (add-one k, M.numbers) (terms-more pairs NEW k (6 * k + 3) u.quality.0 u.quality.1 a.term refl (omega arith)) in
        let kept = old-kept pairs k u.quality.0 u.quality.1 a.term (length ps) in
        record {
          sofar = rw (named, M.pool) (round-turn (P.pairs t) (P.making lim t) (look_up 0 ps s.terms) ps s.qualities whole k (terms_in pairs NEW k) b c (pool_of terms runs) a h e X.sofar made);
          midway = rw (named, M.pool) (turn-midway (P.pairs t) (P.making lim t) Fits (pair_keeps lim t) ps s S G.closed k (terms_in pairs NEW k) (pool_of terms runs) a h X.midway made);
          qualities = rw (add-one k, M.numbers) (qualities-more pairs NEW k (6 * k + 3) u.quality.0 u.quality.1 a.term refl (omega arith)
              ∙ ap₂ (λ (l : List Two) (q : Two). l ++ (q ∷ [])) X.qualities (ap (λ (z : Turn). z.quality) (here ∙ sym (turn-at (P.pairs t) ps s.qualities k u h)))
              ∙ sym (map_snoc (λ w. w.quality) (take k (turns_at t ps s)) (get_or (turns_at t ps s) k u))
              ∙ ap (map (λ w. w.quality)) (sym (take-suc (turns_at t ps s) k u (omega (arith, turns-length (P.pairs t) ps s.qualities)))));
          changes = f ∙ ap₂ (λ (x y : Bool). either x y) X.changes (M.changed ∙ ap changes here) ∙ sym (changed-turn (P.pairs t) ps s.qualities k h);
          reads = record {
            long = rw (M.numbers, given-length pairs (6 * k + 3) u.quality.0 u.quality.1 a.term) room;
            qualities = rw M.numbers (kept.0 ∙ X.reads.qualities);
            terms = rw M.numbers (kept.1 ∙ X.reads.terms);
          };
          holds = M.holds;
          within =
              let z = choice-within lim t (term_in w graph pairs) (pool_of terms runs) (term_in w graph pairs p) u.choice a (omega (arith, pool-length terms runs, X.within)) M.is in
              omega (arith, ap length M.pool, pool-length terms' runs');
        }

    -- the same for a pair p that is pair k
    pub turn-refused : (p : Two) → p ≡ get_or ps k (0, 0) → (c n : ℕ) → b ≡ c + 1 → term_made lim t w graph pairs (pool_of terms runs) p ≡ refused n → whole ≡ refused 13
    turn-refused p q c n e z = turn-full c n e (ap (λ (x : Two). term_made lim t w graph pairs (pool_of terms runs) x) (sym q) ∙ z)

    pub turn_moved : (p : Two) → p ≡ get_or ps k (0, 0) → Standing Fits ps s → (c : ℕ) (pairs' terms' runs' : List ℕ) (d changed' : Bool) → b ≡ c + 1
        → Moved (turn_in t w graph pairs p) (term_made lim t w graph pairs (pool_of terms runs) p) k pairs pairs' terms' runs' d → changed' ≡ either changed d
        → Turning lim t ps s whole pairs' terms' runs' (k + 1) c changed'
    turn_moved p q S c pairs' terms' runs' d changed' e M f = turn_more S c pairs' terms' runs' d changed' e (rw q at M) f

-- every pair has had its turn
module _ (lim : Limits) (t : Tables) (ps : List Two) (s : State) (whole : Res (Checked Terms)) (pairs terms runs : List ℕ) (b : ℕ) (changed : Bool) (X : Turning lim t ps s whole pairs terms runs (length ps) b changed) where
  pub turns-done : whole ≡ ok (passed (record { pool = pool_of terms runs; terms = terms_in pairs NEW (length ps) }) b)
  turns-done = round-end (P.pairs t) (P.making lim t) (look_up 0 ps s.terms) ps s.qualities whole (length ps) (terms_in pairs NEW (length ps)) b (pool_of terms runs) (omega arith) X.sofar

  pub turns-changed : changed ≡ any changes (turns_at t ps s)
  turns-changed = X.changes ∙ changed-end (P.pairs t) ps s.qualities (length ps) (omega arith)

  pub turns-qualities : qualities_in pairs NEW (length ps) ≡ map (λ w. w.quality) (turns_at t ps s)
  turns-qualities = X.qualities ∙ ap (map (λ w. w.quality)) (take_all (length ps) (turns_at t ps s) (omega (arith, turns-length (P.pairs t) ps s.qualities)))

-- ---- a turn that is skipped
pub quiet-here : (lim : Limits) (t : Tables) (w : ℕ) (ps : List Two) (n : ℕ) (graph : List ℕ) (G : Graphs lim t w ps n graph) (k : ℕ) (h : k < n) (p : Two) (is : p ≡ get_or ps k (0, 0)) (s : State) (pairs : List ℕ) → Reads s pairs n
    → (llive rlive : List ℕ) → Quiet t ps s.qualities llive rlive → live_in llive rlive p ≡ false → turn_in t w graph pairs p ≡ unturned (quality_in w graph pairs p)
quiet-here lim t w ps n graph G k h p is s pairs R llive rlive Q e =
    let i = among lim t w ps n graph G k h p is in
    ap (turn_in t w graph pairs) is
    ∙ turn-here lim t w ps n graph G s pairs R k h
    ∙ ap (turn_of t (look_up (0, 0) ps s.qualities)) (sym is)
    ∙ Q p i e
    ∙ ap unturned (sym (agree-quality lim t w ps n graph G s pairs R p i))
