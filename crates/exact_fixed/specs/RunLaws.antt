-- The run before its rounds: cut short in building or in starting terms, or over a graph that is built in full.
use Rattle.std.specs.Prelude.{◌≡◌, List, ℕ, ◌+◌, ◌*◌, ◌-◌, ◌≤◌, ◌<◌, length, Option, Some, None}
use Rattle.std.proofs.Common.{sym, ap, ◌∙◌, arith}
use Rattle.spec.specs.Bytes.{Two, Limits, Res, ok, Checked, passed}
use Rattle.spec.specs.Image.{Tables}
use Rattle.spec.specs.Pool.{Pool, Interned, interned}
use Rattle.spec.specs.System as system
use Rattle.spec.specs.Pairs as P
use Rattle.spec.specs.Round.{Terms}
use Rattle.spec.specs.Run as run
use Rattle.spec.specs.Run.{starting_terms, start_state, after_building}
use Rattle.laws.specs.Valid.{Valid}
use Rattle.pools.specs.PoolIntern.{Extends, extends-within}
use Rattle.pools.specs.Pool.{PoolValid}
use Rattle.lgg.specs.Pairs.{rounds_of}
use Rattle.laws.specs.BestMembers.{IsPair}
use Rattle.lgg.specs.Stands.{Fits}
use Rattle.readings.specs.Starting.{pair-begins}
use Rattle.steps.specs.Checks.{spent-left, starting-spends}
use Rattle.steps.specs.RunFrom.{built-refused, built-cut, built-rounds}
use Rattle.steps.specs.Standing.{Standing, standing-started, listing-started}
use Rattle.arrays.specs.Arrays.{terms_in}
use Rattle.terms.specs.Buffers.{pool_of, count_in}
use Rattle.terms.specs.PoolLaws.{pool-length}
use Rattle.terms.specs.Chains.{Holds}
use Rattle.outcome.specs.Outcomes.{RanTo}
use Rattle.outcome.specs.declared.Outcome.{Outcome}
use Rattle.outcome.specs.declared.Ran.TheVariants as R
use Rattle.starting.specs.Report.{started_in}
use Rattle.rounds.specs.Graphs.{InRange, state_in}
use Rattle.budget.specs.declared.Budget.{Budget}
use Rattle.exact_fixed.specs.Starting.{Starting, CutStarting, StartsAll, start-done, start-qualities}
use Rattle.exact_fixed.specs.declared.Started.{Started}
use Rattle.exact_fixed.specs.declared.Started.TheVariants as S

-- a pool that holds the root's starting term gives the listing
pub ran-started : (t : Tables) (budget : ℕ) (p : Two) (m : Res run.Outcome) (root : Interned) (n : ℕ) (marks terms runs : List ℕ) → m ≡ ok (run.started t budget p root n) → PoolValid root.pool → root.term < length root.pool → Holds terms runs → Extends root.pool (pool_of terms runs)
    → 2 * count_in terms ≤ length marks → RanTo m marks terms runs (R.Done (started_in t p n root.term budget))
unfolding system.started
ran-started t budget p m root n marks terms runs e v w h g k = (
  run.started t budget p root n,
  e,
  λ k. listing-started (P.pairs t) k budget p root n (pool_of terms runs) v w h.valid g,
  h,
  omega (arith, extends-within g root.term w, pool-length terms runs),
  k,
)

-- over the pairs ps, with b checks left of the run's budget; root is the root's starting term, in the pool `from`
module _ (lim : Limits) (t : Tables) (budget : ℕ) (p : Two) (ps : List Two) (n : ℕ) (many : length ps ≡ n) (b : ℕ) (from : Pool) (root : ℕ) where
  abbrev whole : Res (Checked Terms)
  whole = starting_terms lim t ps b from

  abbrev built : Res run.Outcome
  built = after_building lim t budget p (interned from root) (passed ps b)

  module _ (pairs terms runs : List ℕ) (c : ℕ) (X : Starting lim t ps whole from pairs terms runs (length ps) c) where
    same : start_state t budget ps (record { pool = pool_of terms runs; terms = terms_in pairs 0 (length ps) }) c ≡ state_in pairs terms runs n 0 c budget
    same = rw (← many) (λ i. record { pool = pool_of terms runs; qualities = sym (start-qualities lim t ps whole from pairs terms runs c X) i; terms = terms_in pairs 0 (length ps); rounds = 0; budget = c; spent = budget - c })

    built-stands : Valid t → InRange t ps → Standing Fits ps (state_in pairs terms runs n 0 c budget)
    built-stands v i = rw (← same) (standing-started (P.pairs t) (P.making lim t) (IsPair t) Fits (pair-begins lim t v) ps i from (terms_in pairs 0 (length ps)) (pool_of terms runs) budget c X.midway)

    to-rounds : built ≡ rounds_of lim t ps (state_in pairs terms runs n 0 c budget)
    to-rounds =
        built-rounds (P.pairs t) (P.making lim t) budget p (interned from root) ps b (record { pool = pool_of terms runs; terms = terms_in pairs 0 (length ps) }) c (start-done lim t ps whole from pairs terms runs c X)
        ∙ ap (rounds_of lim t ps) same

  -- ---- by what the code answers: the starting terms x, the outcome o
  module _ (pairs terms runs : List ℕ) (x : Option Started) (Y : StartsAll lim t ps whole from pairs terms runs x) where
    pub starts-full : (marks : List ℕ) → x ≡ None → RanTo built marks terms runs (R.Stopped 13)
    starts-full marks e = built-refused (P.pairs t) (P.making lim t) budget p (interned from root) ps b 13 (rw e at Y)

    pub starts-cut : (marks : List ℕ) → 2 * lim.terms ≤ length marks → PoolValid from → root < length from → x ≡ Some S.Cut → (o : Outcome) → o ≡ started_in t p n root budget → RanTo built marks terms runs (R.Done o)
    starts-cut marks room v w e o q = go (rw e at Y)
      where
        go : CutStarting lim whole from terms runs → RanTo built marks terms runs (R.Done o)
        go C = rw (q, ← many) (ran-started t budget p built (interned from root) (length ps) marks terms runs (built-cut (P.pairs t) (P.making lim t) budget p (interned from root) ps b C.is) v w C.holds C.grown (omega (arith, C.within)))

    module _ (c : Budget) (e : x ≡ Some (S.All c)) where
      begun : Starting lim t ps whole from pairs terms runs (length ps) c.left
      begun = rw e at Y

      pub starts-holds : Holds terms runs
      starts-holds = begun.holds

      pub starts-within : count_in terms ≤ lim.terms
      starts-within = begun.within

      pub starts-stands : Valid t → InRange t ps → Standing Fits ps (state_in pairs terms runs n 0 c.left budget)
      starts-stands = built-stands pairs terms runs c.left begun

      pub starts-rounds : built ≡ rounds_of lim t ps (state_in pairs terms runs n 0 c.left budget)
      starts-rounds = to-rounds pairs terms runs c.left begun

      -- the checks of the starting terms
      pub starts-left : b ≡ length ps + c.left
      starts-left = spent-left (length ps) b whole (starting-spends (P.making lim t) ps b from) _ c.left (start-done lim t ps whole from pairs terms runs c.left begun)
